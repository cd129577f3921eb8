use Rattle.std.proofs.Common.{◌≡◌, drop, map}
use Rattle.guest_syntax.specs.Tree.{thread_view}
use Rattle.guest_code.specs.Fault.{too_long}
use Rattle.guest_code.proofs.lengths.check_lengths.Given as goal

abbrev pub invariant-loop-i : goal.invariant-loop-i
invariant-loop-i l = too_long l.i (map thread_view (drop l.i l.threads)) ≡ too_long 0
    (map thread_view l.threads)
