-- What a person is told of a refusal.
use Rattle.std.specs.Prelude.{◌≡◌, ℕ, List, Option, Some, None, option_map, string_bytes, slice_get}
use Rattle.guest_syntax.specs.{Place.start, Tree.Tree, declared.error.SyntaxError.SyntaxError}
use Rattle.guest_syntax.specs.declared.place.Pos.{Pos}
use Rattle.guest_syntax.specs.declared.error.SyntaxError.TheVariants as syntax
use Rattle.guest_code.specs.declared.error.CheckError.{CheckError}
use Rattle.guest_code.specs.declared.error.CheckError.TheVariants as checks
use Rattle.check_hints.specs.declared.diagnostic.Diagnostic.{Diagnostic}

-- where a refusal of a text is
abbrev pub syntax_place : SyntaxError → Pos
syntax_place (syntax.NotAscii at) = at
syntax_place (syntax.BadChar at) = at
syntax_place (syntax.Expected at) = at
syntax_place (syntax.NumberTooBig at) = at
syntax_place (syntax.TooLong at) = at
syntax_place (syntax.TooDeep at) = at
syntax_place syntax.OutOfMemory = start

-- where a refusal of a tree is; that of too long a code is the name of its thread
abbrev pub check_place : Tree → CheckError → Option Pos
check_place t (checks.Duplicate at) = Some at
check_place t (checks.Unknown at) = Some at
check_place t (checks.WrongKind at) = Some at
check_place t (checks.TooMany at) = Some at
check_place t (checks.LeaveOutside at) = Some at
check_place t (checks.CodeTooLong k) = option_map (λ th. th.name.at) (slice_get t.threads k)
check_place t checks.NoThreads = None
check_place t checks.OutOfMemory = None

-- a diagnostic has this short form, and marks this place
pub record IsDiagnosticOf (a : Diagnostic) (text : List ℕ) (at : Option Pos) : Type 0 where
  pub headline : string_bytes a.headline ≡ text
  pub place : option_map (λ s. s.at) a.span ≡ at
