use Rattle.std.proofs.Common.{◌≡◌, ◌≤◌, ◌-◌, ◌++◌, take, drop}
use Rattle.guest_code.specs.Program.{Program}
use Rattle.walk_items.specs.Items.{AreOf}
use Rattle.book.proofs.item_list.push_copies.Given as goal

abbrev pub invariant-loop-place : goal.invariant-loop-place
invariant-loop-place l = record {
  from : l.first ≤ l.place;
  items : l.items.items
      ≡ l.fn.items.items ++ take (l.place - l.first) (drop l.first l.more.items);
  program : (p : Program) → AreOf p l.more.items → AreOf p l.fn.items.items → AreOf p l.items.items;
}
