-- What a search of a text answers.
use Rattle.std.specs.Prelude.{◌≡◌, ℕ, List, Bool, Some, None, Result, MatchResult}
use Rattle.guest_syntax.specs.{Grammar.Spells, Tree.Tree, declared.error.SyntaxError.SyntaxError}
use Rattle.guest_syntax.specs.declared.error.SyntaxError.TheVariants as syntax
use Rattle.guest_code.specs.{Code.code, Fault.fault, Program.Program}
use Rattle.guest_code.specs.declared.error.CheckError.{CheckError}
use Rattle.guest_code.specs.declared.error.CheckError.TheVariants as check
use Rattle.runner_report.specs.{Promises.IsReport, declared.error.ExploreError.ExploreError}
use Rattle.runner_report.specs.declared.error.ExploreError.TheVariants.{Syntax, Check, OutOfMemory}
use Rattle.runner_report.specs.declared.{options.Options.Options, report.Report.Report}

-- the text spells a tree without a fault, and this is its program
pub record IsProgramOf (text : List ℕ) (p : Program) : Type 0 where
  pub tree : Tree
  pub spelt : Spells text tree
  pub sound : fault tree ≡ None
  pub same : p ≡ code tree

-- the text spells a tree, and this is its first fault
pub record IsFaultOf (text : List ℕ) (e : CheckError) : Type 0 where
  pub tree : Tree
  pub spelt : Spells text tree
  pub first : fault tree ≡ Some e

-- the text spells a program, and this is the report of a search of it
pub record IsReportOfText (may : Bool) (text : List ℕ) (o : Options) (r : Report) : Type 0 where
  pub program : Program
  pub is_program : IsProgramOf text program
  pub report : IsReport may program o r

-- what an error says of the text. Out of memory is told as such, and never as a refusal; since a
-- text spells one tree at most, each refusal comes exactly where it is due, memory aside.
abbrev pub ExploreErrorMeans : List ℕ → ExploreError → Type 0
ExploreErrorMeans text (Syntax syntax.OutOfMemory) = ⊥
ExploreErrorMeans text (Syntax e) = (t : Tree) → Spells text t → ⊥
ExploreErrorMeans text (Check check.OutOfMemory) = ⊥
ExploreErrorMeans text (Check e) = IsFaultOf text e
ExploreErrorMeans text OutOfMemory = Unit {0}

-- what a search of a text answers
abbrev pub ExploreMeans : Bool → List ℕ → Options → Result Report ExploreError → Type 0
ExploreMeans may text o result =
    MatchResult result (IsReportOfText may text o) (ExploreErrorMeans text)

-- the error of a refusal: out of memory is one, wherever it was met
abbrev pub of_syntax : SyntaxError → ExploreError
of_syntax syntax.OutOfMemory = OutOfMemory
of_syntax e = Syntax e

abbrev pub of_check : CheckError → ExploreError
of_check check.OutOfMemory = OutOfMemory
of_check e = Check e
