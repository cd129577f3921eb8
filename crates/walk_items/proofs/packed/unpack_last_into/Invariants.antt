use Rattle.std.proofs.Common.{◌≡◌, ◌≤◌, ◌+◌, ◌++◌, length, reverse, take}
use Rattle.std.specs.Arc.{arc_value}
use Rattle.walk_items.specs.{Items.AreOf, Walks.items_at}
use Rattle.walk_items.proofs.packed.unpack_last_into.Given as goal

abbrev pub invariant-loop-place : goal.invariant-loop-place
invariant-loop-place l = record {
  left : length l.reading + l.place ≡ length l.prefixes;
  few : length l.items.items ≤ l.count;
  there : l.place ≤ length l.items.items;
  read : items_at (arc_value l.program) l.reading ++ reverse (take l.place l.items.items)
      ≡ items_at (arc_value l.program) l.prefixes;
  program : AreOf (arc_value l.program) l.items.items;
}
