use Rattle.std.proofs.Common.{◌≡◌, drop, map}
use Rattle.guest_syntax.specs.Tree.{thread_view}
use Rattle.guest_code.specs.Uses.{threads_uses, kind_in}
use Rattle.guest_code.proofs.check.kind_in_threads.Given as goal

abbrev pub invariant-loop-thread : goal.invariant-loop-thread
invariant-loop-thread l = kind_in (threads_uses (map thread_view (drop l.thread-index l.threads)))
    l.name ≡ kind_in (threads_uses (map thread_view l.threads)) l.name
