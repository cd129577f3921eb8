use Rattle.std.proofs.Common.{◌≡◌, ◌≤◌, ◌+◌, take, length}
use Rattle.walk_items.specs.Children.{cost_of}
use Rattle.walk.specs.{declared.found.Found.Found, inner.WalkerInvariant.{item_of, IsAlong}}
use Rattle.walk.proofs.path.Path.take_run.Given as goal

abbrev pub invariant-loop-place : goal.invariant-loop-place
invariant-loop-place l = record {
  same : l.self ≡ record l.initial.self { steps = l.self.steps };
  steps : l.self.steps.items ≡ l.initial.self.steps.items;
  within : l.place ≤ length l.initial.self.steps.items;
  along : (before : Found)
      → IsAlong before l.fn.mode l.item l.initial.self l.initial.found (l.from + 1)
      → IsAlong before l.fn.mode l.item l.initial.self l.found l.place;
  falls : cost_of (item_of l.item.program (take l.place l.initial.self.steps.items)
      l.initial.self.node)
      ≤ cost_of (item_of l.item.program (take (l.from + 1) l.initial.self.steps.items)
      l.initial.self.node);
  tried : l.found.part.tried ≡ l.initial.found.part.tried;
}
