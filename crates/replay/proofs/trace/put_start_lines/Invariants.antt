use Rattle.std.proofs.Common.{◌≡◌, ◌++◌, take}
use Rattle.std.specs.List.{flat_map}
use Rattle.replay.specs.Trace.{start_line}
use Rattle.replay.proofs.trace.put_start_lines.Given as goal

abbrev pub invariant-loop-t : goal.invariant-loop-t
invariant-loop-t l =
    l.text.items ≡ l.fn.text.items ++ flat_map (start_line l.program) (take l.t-index l.stopped)
