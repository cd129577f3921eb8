use Rattle.walk_summary.proofs.SumsJoin.{nothing_kept}
use Rattle.walk_summary.proofs.summary.Summary.clear.Goals as goal

pub invariant_of-self : goal.invariant_of-self
invariant_of-self c =
    nothing_kept _ _ _ c.self.inside.beyond c.recycle.new.views.items c.reset_count.ensures
    c.reset_count-2.ensures c.reset_count-3.ensures c.recycle.ensures
