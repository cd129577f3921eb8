use Rattle.runner_workers.specs.inner.Rounds.{IsOn}
use Rattle.runner_workers.proofs.seated_worker.SeatedWorker.work.Given as goal

abbrev pub invariant-loop : goal.invariant-loop
invariant-loop g l =
    (goal.iterator-loop g).can_next l.iterator' × (goal.iterator-loop g).is_finite l.iterator'
    × IsOn l.shared.board.id g.N.SearchBrand.of.program l.self
