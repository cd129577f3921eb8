use Rattle.std.proofs.Common.{◌≡◌, ◌++◌, ◌+◌, ℕ, length}
use Rattle.explain_cause.specs.Course.{blocked_from}
use Rattle.explain_cause.proofs.events.put_blocked_events.Given as goal

abbrev pub invariant-loop-thread : goal.invariant-loop-thread
invariant-loop-thread l = (left : ℕ) → l.thread + left ≡ length l.program.threads →
    l.events.items ++ blocked_from l.program l.holders l.thread_states l.thread left
    ≡ l.fn.events.items
    ++ blocked_from l.program l.holders l.thread_states 0 (length l.program.threads)
