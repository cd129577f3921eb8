use Rattle.std.proofs.Common.{◌≡◌}
use Rattle.std.specs.List.{flat_map}
use Rattle.ctxbound.specs.Under.{level_line}
use Rattle.ctxbound.proofs.under.level_lines.Given as goal

abbrev pub invariant-loop-level : goal.invariant-loop-level
invariant-loop-level l =
    l.text.items ≡ flat_map (level_line l.guest l.prefix) l.yielded
