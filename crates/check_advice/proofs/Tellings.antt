-- What is told of a text that spells a tree, and of one that spells none.
use Rattle.std.proofs.Common.{◌≡◌, ◌≢◌, ℕ, List, Vec, Global, Option, Some, None, refl}
use Rattle.guest_syntax.specs.{Answers.RefusalIn, ErrorTexts.syntax_error_text, Grammar.Spells}
use Rattle.guest_syntax.specs.{Place.start, Tree.Tree, declared.error.SyntaxError.SyntaxError}
use Rattle.guest_code.specs.{ErrorTexts.check_error_text, Fault.{fault, Refuses}}
use Rattle.guest_code.specs.declared.error.CheckError.{CheckError}
use Rattle.guest_code.specs.declared.error.CheckError.TheVariants.{Duplicate, Unknown, WrongKind, NoThreads, TooMany, CodeTooLong, LeaveOutside, OutOfMemory}
use Rattle.check_hints.specs.declared.diagnostic.Diagnostic.{Diagnostic}
use Rattle.check_advice.specs.Told.{Tells, is_sound, spells_none, has_fault}
use Rattle.check_advice.specs.declared.Checked.TheVariants.{Sound, Refused}
use Rattle.check_hints.specs.Refusals.{syntax_place, check_place, IsDiagnosticOf}

-- a refusal that isn't out of memory is the fault
refused_by : (e : CheckError) (f : Option CheckError) → e ≢ OutOfMemory → Refuses e f → f ≡ Some e
refused_by (Duplicate at) f other r = r
refused_by (Unknown at) f other r = r
refused_by (WrongKind at) f other r = r
refused_by NoThreads f other r = r
refused_by (TooMany at) f other r = r
refused_by (CodeTooLong k) f other r = r
refused_by (LeaveOutside at) f other r = r
refused_by OutOfMemory f other r = absurd (other refl)

pub told_sound : (text : List ℕ) (t : Tree) (as_ : Vec Diagnostic Global) → Spells text t
    → fault t ≡ None → Tells text (Sound as_)
told_sound text t as_ spells sound = is_sound t spells sound

pub told_fault : (text : List ℕ) (t : Tree) (e : CheckError) (a : Diagnostic) → Spells text t
    → e ≢ OutOfMemory → Refuses e (fault t)
    → IsDiagnosticOf a (check_error_text e) (check_place t e) → Tells text (Refused a)
told_fault text t e a spells other r diagnostic =
    has_fault t spells e (refused_by e (fault t) other r) diagnostic

pub told_none : (text : List ℕ) (e : SyntaxError) (a : Diagnostic)
    → ((t : Tree) → Spells text t → ⊥)
    → RefusalIn start text e → IsDiagnosticOf a (syntax_error_text e) (Some (syntax_place e))
    → Tells text (Refused a)
told_none text e a spells r diagnostic = spells_none spells e r diagnostic
