use Rattle.std.proofs.Common.{◌≡◌, ℕ, ◌<◌, ◌≤◌, true, false, ◌||◌, ◌&&◌, length, get_or}
use Rattle.guest_code.specs.declared.program.Instruction.TheVariants.{Skip}
use Rattle.check_lint.specs.Paths.{mark_of, no_mark}
use Rattle.explain_waits.specs.Ways.{tests}
use Rattle.explain_waits.proofs.ways.mark_open.Given as goal

abbrev pub invariant-loop-at : goal.invariant-loop-at
invariant-loop-at l = record {
  all : length l.are_open ≡ length l.fn.are_open;
  done : (k : ℕ) → k < l.at → get_or l.are_open k false
      ≡ (get_or l.fn.are_open k false || (mark_of (get_or l.marks k no_mark) true
      && tests l.local (get_or l.code k (Skip 0))));
  rest : (k : ℕ) → l.at ≤ k → get_or l.are_open k false ≡ get_or l.fn.are_open k false;
}
