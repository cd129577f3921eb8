use Rattle.std.proofs.Common.{◌≡◌, true, take, All}
use Rattle.std.specs.List.{flat_map}
use Rattle.walk_cover.specs.Prefixes.{further, IsComplete}
use Rattle.walk_cover.proofs.children.next_layer.Given as goal

abbrev pub invariant-loop-item : goal.invariant-loop-item
invariant-loop-item l = record {
  items : l.longer.items ≡ flat_map (further l.mode) (take l.item-index l.items);
  last : l.is_last ≡ true → All IsComplete (take l.item-index l.items);
}
