use Rattle.std.proofs.Common.{◌≡◌}
use Rattle.std.specs.List.{filter}
use Rattle.semantics.specs.{Machine.{owner_of, owns}, Work.up_from}
use Rattle.explain_run.proofs.step.held_by.Given as goal

abbrev pub invariant-loop-m : goal.invariant-loop-m
invariant-loop-m l =
    l.held.items ≡ filter (λ m. owns l.thread (owner_of l.state m)) (up_from 0 l.m)
