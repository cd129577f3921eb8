use Rattle.std.proofs.Common.{◌∙◌, ap}
use Rattle.guest_code.specs.{Code.semaphore_of, Program.semaphore_view}
use Rattle.guest_code.proofs.LoweredObjects.{objects_more, objects_same, is_semaphore, not_semaphore, counts_more}
use Rattle.guest_code.proofs.lowering.lower_semaphores.Goals.{in-Semaphore+in_ok-lower_semaphore+in_ok-push, in_default}
use Rattle.guest_code.proofs.lowering.lower_semaphores.Goals as goal

pub loop-declaration-preserved : goal.loop-declaration-preserved
loop-declaration-preserved c = elim c.match-declaration.branch [
  | in-Semaphore+in_ok-lower_semaphore+in_ok-push w ↦
      let pushed = ap (λ v. v.items) w.all-is ∙ w.in_ok-push.ensures.items in
      record {
        same = objects_more semaphore_of semaphore_view c.args.declarations.now
            c.loop-declaration.declaration-index c.declaration-item.result
            c.loop-declaration.all.items c.match-declaration.all.items _ _
            c.loop-declaration-test.true c.declaration-item.is pushed
            (is_semaphore c.declaration-item.result.name.text.items c.declaration-item.result.object
            _ _ w.in-Semaphore.is w.in_ok-lower_semaphore.ensures.same) c.loop-declaration.invariant.same;
        counts = counts_more c.loop-declaration.all.items c.match-declaration.all.items _ _ _
            pushed w.in_ok-lower_semaphore.ensures.same w.in_ok-lower_semaphore.ensures.few
            c.loop-declaration.invariant.counts;
      }
  | in_default w ↦
      let kept = ap (λ v. v.items) w.all-is in
      record {
        same = objects_same semaphore_of semaphore_view c.args.declarations.now
            c.loop-declaration.declaration-index c.declaration-item.result
            c.loop-declaration.all.items c.match-declaration.all.items _
            c.loop-declaration-test.true c.declaration-item.is kept
            (not_semaphore _ _ w.in_default.not-Semaphore) c.loop-declaration.invariant.same;
        counts = rw kept c.loop-declaration.invariant.counts;
      }
]
