use Rattle.std.proofs.Common.{◌≡◌, true, drop}
use Rattle.semantics.specs.Reachable.{IsOf}
use Rattle.semantics_schedules.specs.Schedules.{runs, state_after}
use Rattle.walk_items.specs.Items.{state_of}
use Rattle.walk_cover.proofs.children.state_at.Given as goal

-- what is left of the prefix runs, and leads to the item's state
abbrev pub invariant-loop-thread : goal.invariant-loop-thread
invariant-loop-thread l = record {
  of : IsOf l.item.program l.state;
  runs : runs l.item.program l.state (drop l.thread-index l.item.prefix) ≡ true;
  after : state_after l.item.program l.state (drop l.thread-index l.item.prefix)
      ≡ state_of l.item;
}
