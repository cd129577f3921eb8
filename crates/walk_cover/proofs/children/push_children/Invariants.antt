use Rattle.std.proofs.Common.{◌≡◌, ◌++◌}
use Rattle.std.specs.List.{filter}
use Rattle.semantics.specs.Work.{up_from}
use Rattle.walk_items.specs.Children.{children_of}
use Rattle.walk_cover.proofs.Steps.{is_next}
use Rattle.walk_cover.proofs.children.push_children.Given as goal

abbrev pub invariant-loop-thread : goal.invariant-loop-thread
invariant-loop-thread l =
    l.items.items ≡ l.fn.items.items ++ children_of l.mode l.item
    (filter (is_next l.mode l.item) (up_from 0 l.thread))
