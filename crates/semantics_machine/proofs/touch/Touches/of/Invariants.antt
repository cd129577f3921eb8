use Rattle.std.proofs.Common.{◌≡◌, map, take}
use Rattle.semantics_machine.specs.Touches.{touches_at}
use Rattle.semantics_machine.proofs.touch.Touches.of.Given as goal

abbrev pub invariant-loop-t : goal.invariant-loop-t
invariant-loop-t l = map (λ v. v.items) l.threads.items
    ≡ map (λ th. map touches_at th.code) (take l.t l.program.threads)
