use Rattle.std.proofs.Common.{◌≡◌, map, take}
use Rattle.semantics.specs.Machine.{local_run, initial_thread}
use Rattle.semantics.proofs.initial.initial_threads.Given as goal

abbrev pub invariant-loop-t : goal.invariant-loop-t
invariant-loop-t l = l.threads.items ≡ map (λ th. local_run th.code 0 initial_thread)
    (take l.t l.program.threads)
