use Rattle.std.proofs.Common.{◌≡◌, ◌≤◌, ◌-◌, take}
use Rattle.walk_prefixes.proofs.bytes.shared_len_by_eights.Given as goal

abbrev pub invariant-loop-n : goal.invariant-loop-n
invariant-loop-n l = record { within : l.n ≤ l.most; alike : take l.n l.a ≡ take l.n l.b }

abbrev pub decreases-loop-n : goal.decreases-loop-n
decreases-loop-n l = l.most - l.n
