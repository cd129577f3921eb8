use Rattle.std.proofs.Common.{◌≡◌, ◌≤◌, ◌++◌, drop, All}
use Rattle.guest_code.specs.{Code.semaphore_of, Program.semaphores_view}
use Rattle.guest_code.specs.{declared.limits.TheConstants.COUNT, inner.Emission.objects_in}
use Rattle.guest_code.proofs.lowering.lower_semaphores.Given as goal

abbrev pub invariant-loop-declaration : goal.invariant-loop-declaration
invariant-loop-declaration l = record {
  same : semaphores_view l.all ++ objects_in semaphore_of
      (drop l.declaration-index l.declarations) ≡ objects_in semaphore_of l.declarations;
  counts : All (λ s. s.count ≤ COUNT) (semaphores_view l.all);
}
