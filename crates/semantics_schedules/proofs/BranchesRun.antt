-- The local runs of two threads that branch, by computing them.
use Rattle.std.proofs.Common.{◌≡◌, pos, [], ◌∷◌, refl}
use Rattle.semantics.specs.{Ends.enabled, Machine.{start, thread_at}, Work.work}
use Rattle.semantics.specs.declared.state.Status.TheVariants.{Ended, Stopped}
use Rattle.semantics.specs.declared.state.Stop.TheVariants.{Assert as FailedAssert}
use Rattle.semantics.specs.declared.view.Kind.TheVariants.{Failed}
use Rattle.semantics_schedules.specs.{Branches.{branches, IsAt}, Order.end_of}
use Rattle.semantics_schedules.specs.Schedules.{complete_schedules}

pub taken_branch : IsAt (thread_at (start branches) 0) 6 Ended (pos 7)
taken_branch = record { pc = refl; status = refl; q = refl }

pub other_branch : IsAt (thread_at (start branches) 1) 5 (Stopped FailedAssert) (pos 9)
other_branch = record { pc = refl; status = refl; q = refl }

pub no_step : complete_schedules branches (start branches) ≡ [] ∷ []
unfolding complete_schedules work enabled
no_step = refl

pub their_end : end_of branches [] ≡ record { kind = Failed; vars = [] }
their_end = refl
