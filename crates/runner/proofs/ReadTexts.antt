-- What a search of a text answers, from what it reads.
use Rattle.std.proofs.Common.{◌≡◌, ◌≢◌, ℕ, List, Bool, Result, Ok, Err, IfOk, IfErr, subst, sym}
use Rattle.guest_syntax.specs.{Grammar.Spells, Tree.Tree, declared.error.SyntaxError.SyntaxError}
use Rattle.guest_syntax.specs.declared.error.SyntaxError.TheVariants.{NotAscii, BadChar, Expected}
use Rattle.guest_syntax.specs.declared.error.SyntaxError.TheVariants.{NumberTooBig, TooLong}
use Rattle.guest_syntax.specs.declared.error.SyntaxError.TheVariants.{TooDeep, OutOfMemory}
use Rattle.guest_code.specs.Program.{Program}
use Rattle.runner_report.specs.Promises.{IsReport}
use Rattle.runner_report.specs.Texts.{IsProgramOf, ExploreErrorMeans, ExploreMeans, of_syntax}
use Rattle.runner_report.specs.declared.{error.ExploreError.ExploreError, options.Options.Options}
use Rattle.runner_report.specs.declared.report.Report.{Report}
use Rattle.runner_report.specs.declared.error.ExploreError.TheVariants as explore

pub syntax_means : (text : List ℕ) (e : SyntaxError)
    → (e ≢ OutOfMemory → (t : Tree) → Spells text t → ⊥) → ExploreErrorMeans text (of_syntax e)
syntax_means text (NotAscii at) none = none (λ same. absurd cc)
syntax_means text (BadChar at) none = none (λ same. absurd cc)
syntax_means text (Expected at) none = none (λ same. absurd cc)
syntax_means text (NumberTooBig at) none = none (λ same. absurd cc)
syntax_means text (TooLong at) none = none (λ same. absurd cc)
syntax_means text (TooDeep at) none = none (λ same. absurd cc)
syntax_means text OutOfMemory none = tt

pub report_means : (may : Bool) (text : List ℕ) (p : Program) (o : Options)
    (result : Result Report ExploreError) → IsProgramOf text p → IfOk result (IsReport may p o)
    → IfErr result (λ e. e ≡ explore.OutOfMemory) → ExploreMeans may text o result
report_means may text p o (Ok r) is report error =
    record { program = p; is_program = is; report = report }
report_means may text p o (Err e) is report error =
    subst (ExploreErrorMeans text) (sym error) tt
