-- How the fates of the instructions of a thread are put down.
use Rattle.std.specs.Prelude.{◌≡◌, ℕ, ◌<◌, ℤ, Bool, false, ◌||◌, if◌then◌else◌, List, length, slice_set, slice_index_or}
use Rattle.guest_code.specs.declared.program.Instruction.{Instruction}
use Rattle.check_lint.specs.{Paths.Marks, declared.paths.Mark.Mark}
use Rattle.check_lint.specs.declared.paths.Watch.TheVariants.{Nothing}
use Rattle.explain_run.specs.declared.step.Step.{Step}
use Rattle.explain_waits.specs.{Fates.IsFate, declared.fate.Fate.Fate}
use Rattle.explain_waits.specs.declared.fate.Fate.TheVariants.{Taken, Ahead, Perhaps, OutOfReach}
use Rattle.explain_waits.specs.inner.Settling.{IsSettled, ReachesTo}

-- what an instruction is by its mark, and by whether a way passes it by, before any step
abbrev pub fate_by : Mark → Bool → Fate
fate_by mark past =
    if mark.may_hold || mark.may_not_hold then (if past then Perhaps else Ahead) else OutOfReach

-- what came of an instruction that is carried out in the step at place k
abbrev pub taken_by : Fate → ℕ → Fate
taken_by (Taken j) k = Taken j
taken_by Ahead k = Taken k
taken_by Perhaps k = Taken k
taken_by OutOfReach k = Taken k

-- instruction i is carried out in the step at place k
abbrev pub with_taken : List Fate → ℕ → ℕ → List Fate
with_taken fates i k = slice_set fates i (taken_by (slice_index_or fates i OutOfReach) k)

-- this came of the instructions of thread t in the first n steps, where its code is this and it
-- stands at that place with these locals
pub record AreFates (code : List Instruction) (from : ℕ) (locals : List ℤ) (steps : List Step)
    (t n : ℕ) (fates : List Fate) : Type 0 where
  pub all : length fates ≡ length code
  pub each : (i : ℕ) → i < length code →
      IsFate code from locals steps t i n (slice_index_or fates i OutOfReach)

-- this came of the first n instructions of each code of which the settled one is this and these are
-- the marks, before any step
pub record AreByMarks (settled : List Instruction) (marks : List Mark) (n : ℕ)
    (fates : List Fate) : Type 0 where
  pub all : length fates ≡ n
  pub each : (code : List Instruction) (from : ℕ) (locals : List ℤ) →
      IsSettled code from locals settled → Marks marks settled Nothing from false →
      (steps : List Step) (t i : ℕ) → i < n →
      IsFate code from locals steps t i 0 (slice_index_or fates i OutOfReach)

-- and so far ways lead from them
pub record ArePassed (settled : List Instruction) (marks : List Mark) (n reach : ℕ)
    (fates : List Fate) : Type 0 where
  pub found : AreByMarks settled marks n fates
  pub reaches : (code : List Instruction) (from : ℕ) (locals : List ℤ) →
      IsSettled code from locals settled → Marks marks settled Nothing from false →
      ReachesTo code from locals n reach
