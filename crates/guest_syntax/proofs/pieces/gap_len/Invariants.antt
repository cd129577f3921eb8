use Rattle.std.proofs.Common.{◌≡◌, Some, false, take}
use Rattle.guest_syntax.specs.Tokens.{blank}
use Rattle.guest_syntax.proofs.pieces.gap_len.Given as goal

abbrev pub invariant-loop-i : goal.invariant-loop-i
invariant-loop-i l = blank false (take l.i l.text) ≡ Some l.comment
