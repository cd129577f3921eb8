use Rattle.std.proofs.Common.{◌≡◌, take}
use Rattle.std.specs.List.{flat_map}
use Rattle.walk_cover.specs.Prefixes.{prefix_line}
use Rattle.walk_cover.proofs.listing.prefix_lines.Given as goal

abbrev pub invariant-loop-item : goal.invariant-loop-item
invariant-loop-item l = l.text.items ≡ flat_map prefix_line (take l.item-index l.items)
