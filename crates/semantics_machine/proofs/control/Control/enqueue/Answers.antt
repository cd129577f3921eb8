use Rattle.std.proofs.Common.{◌∷◌, [], ◌++◌, ◌+◌, arith, get_or}
use Rattle.std.proofs.lemmas.List.{length-append}
use Rattle.semantics.specs.Machine.{queue_of}
use Rattle.semantics_machine.proofs.Queues.{requeued}
use Rattle.semantics_machine.proofs.control.Control.enqueue.Goals as goal

pub returns-clause-rest : goal.returns-clause-rest
returns-clause-rest c = λ p s t shows inside.
    let n = c.args.c in
    requeued p s t n c.args.self.now (get_or c.args.self.now.lengths n 0 + 1)
    (queue_of s n ++ c.args.thread ∷ []) shows inside (omega (arith, c.requires))
    (omega (arith, shows.objects.lengths_are n, length-append (queue_of s n) (c.args.thread ∷ [])))
