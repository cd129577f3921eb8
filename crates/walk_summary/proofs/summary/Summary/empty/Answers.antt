use Rattle.std.proofs.Common.{refl, false}
use Rattle.walk_summary.proofs.SumsJoin.{nothing_kept}
use Rattle.walk_summary.proofs.summary.Summary.empty.Goals as goal

pub invariant_of-result : goal.invariant_of-result
invariant_of-result c =
    nothing_kept 0 0 0 false c.new.result.items refl refl refl c.new.ensures.items
