use Rattle.std.proofs.Common.{◌≡◌, ◌+◌, ◌≤◌, drop}
use Rattle.guest_syntax.specs.Place.{after}
use Rattle.guest_syntax.proofs.place.Pos.after.Given as goal

abbrev pub invariant-loop-byte : goal.invariant-loop-byte
invariant-loop-byte l = record {
  same : after l.at (drop l.byte-index l.bytes) ≡ after l.fn.self l.bytes;
  line : l.at.line ≤ l.fn.self.line + l.byte-index;
  col : l.at.col ≤ l.fn.self.col + l.byte-index;
}
