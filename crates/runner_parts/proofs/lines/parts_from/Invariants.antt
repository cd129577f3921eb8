use Rattle.std.proofs.Common.{◌≡◌, List, All, map, length}
use Rattle.walk_summary.specs.Summaries.{cut}
use Rattle.runner_parts.specs.{Lines.{lines_of, AreLinesOf}, PartText.{PartView, IsPart, part_view}}
use Rattle.runner_parts.proofs.PartLines.{AreLeft}
use Rattle.runner_parts.proofs.lines.parts_from.Given as goal

-- the lines so far are of the parts so far, and are so in any reading of the text
abbrev pub invariant-loop-line : goal.invariant-loop-line
invariant-loop-line l = record {
  next : (goal.iterator-loop-line).can_next l.line-iterator;
  finite : (goal.iterator-loop-line).is_finite l.line-iterator;
  number : l.number ≡ cut (length l.yielded);
  are : AreLinesOf (map (λ x. x.now) l.yielded) (map part_view l.parts.items);
  left : (xs : List PartView) → All IsPart xs → AreLinesOf (lines_of l.fn.text) xs
      → AreLeft (lines_of l.fn.text) (length l.yielded) (map part_view l.parts.items) xs;
}
