use Rattle.std.proofs.Common.{◌≡◌}
use Rattle.walk_items.specs.Items.{AreOf}
use Rattle.runner_workers.specs.{declared.lender.Task.TheVariants.Walk, inner.Loans.IsLent}
use Rattle.runner_workers.proofs.own_rounds.Lending.work.Given as goal

abbrev pub invariant-loop : goal.invariant-loop
invariant-loop g l =
    (goal.iterator-loop g).can_next l.iterator' × (goal.iterator-loop g).is_finite l.iterator'
    × (l.worker.walker ≡ g.N.SearchBrand.of.program)
    × AreOf g.N.SearchBrand.of.program l.items.items
    × (l.next ≡ Walk → IsLent g.N.SearchBrand.of.program l.loan)
