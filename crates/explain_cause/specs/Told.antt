-- What is told of the cause of how a run ended.
use Rattle.std.specs.Prelude.{◌≡◌, length, MatchOption}
use Rattle.guest_code.specs.Program.{Program}
use Rattle.explain_run.specs.declared.explanation.Explanation.{Explanation}
use Rattle.explain_cause.specs.{Causes.{AreStepMarks, NoneOf}, Course.course, Needs.AreMarks}
use Rattle.explain_cause.specs.{Origins.{IsFailure, stops}, declared.causes.Causes.Causes}

-- of a run that is explained so: what happened, what of it is in the cause, in which steps, and
-- where the run failed. Where another program is explained so, `course` takes its steps for those at
-- the instructions of the same numbers, without those that are not there
pub record Tells (p : Program) (run : Explanation) (told : Causes) : Type 0 where
  pub events : told.events.items ≡ course p run
  pub marks : AreMarks p told.events.items told.marks.items
  pub steps : AreStepMarks told.events.items told.marks.items (length told.events.items)
      (length run.steps.items) told.steps.items
  pub failure : MatchOption told.failure
      (NoneOf told.events.items stops 0 (length told.events.items))
      (IsFailure run.steps.items told.events.items)
