use Rattle.std.proofs.Common.{◌≡◌, ◌+◌, ◌≤◌, false, drop}
use Rattle.guest_syntax.specs.{Place.Follows, reader.Scanner.skipped}
use Rattle.guest_syntax.proofs.lexer.skip_blank_bytes.Given as goal

abbrev pub invariant-loop-i : goal.invariant-loop-i
invariant-loop-i l = record {
  same : skipped l.comment l.at (drop l.i l.text) ≡ skipped false l.fn.start l.text;
  follows : Follows l.fn.start l.text l.at (drop l.i l.text);
  line : l.at.line ≤ l.fn.start.line + l.i;
  col : l.at.col ≤ l.fn.start.col + l.i;
}
