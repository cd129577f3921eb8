use Rattle.std.proofs.Common.{◌<◌, vec_len}
use Rattle.runner_rounds.specs.{Rounds.AreKept, declared.limits.TheConstants.KEPT_WALKS}
use Rattle.runner_workers.specs.inner.Rounds.{IsOn}
use Rattle.runner_workers.proofs.seated_worker.SeatedWorker.draw_and_walk.Given as goal

abbrev pub invariant-loop : goal.invariant-loop
invariant-loop g l =
    (goal.iterator-loop g).can_next l.iterator' × (goal.iterator-loop g).is_finite l.iterator'
    × IsOn l.shared.board.id g.N.SearchBrand.of.program l.self × AreKept l.round l.self.worker
    × (vec_len l.self.worker.places < KEPT_WALKS)
