use Rattle.std.proofs.Common.{◌≡◌, ◌≤◌, [], drop, take, map}
use Rattle.guest_syntax.specs.Tree.{declaration_view, thread_view}
use Rattle.guest_code.specs.{Fault.first, Program.locals_view}
use Rattle.guest_code.specs.Uses.{uses, threads_uses, thread_locals}
use Rattle.guest_code.specs.{declared.limits.TheConstants.THREADS, inner.Walk.all_uses}
use Rattle.guest_code.proofs.check.check_and_collect_locals.Given as goal

abbrev pub invariant-loop-i : goal.invariant-loop-i
invariant-loop-i l = record {
  same : first (all_uses l.tree)
      (uses (map declaration_view l.declarations) (map thread_view (take l.i l.threads)))
      (threads_uses (map thread_view (drop l.i l.threads))) ≡ first (all_uses l.tree) []
      (all_uses l.tree);
  locals : map locals_view l.all.items ≡ map thread_locals (map thread_view (take l.i l.threads));
  few : l.i ≤ THREADS;
}
