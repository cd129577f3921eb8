use Rattle.std.proofs.Common.{◌≡◌, ◌≤◌, Some, take}
use Rattle.guest_syntax.specs.Pieces.{all_open_after}
use Rattle.guest_syntax.proofs.pieces.closing_brace.Given as goal

abbrev pub invariant-loop-i : goal.invariant-loop-i
invariant-loop-i l = record {
  opened : all_open_after (take l.i l.pieces) 0 ≡ Some l.depth;
  few : l.depth ≤ l.i;
}
