use Rattle.std.proofs.Common.{◌∙◌}
use Rattle.walk_summary.{specs.Summaries.{counted_if, end_with}, proofs.SumsJoin.parts_kept}
use Rattle.walk_summary.proofs.summary.Summary.add_cold.Goals as goal

pub invariant_of-self-2 : goal.invariant_of-self-2
invariant_of-self-2 c =
    parts_kept _ c.args.schedule.now (end_with c.args.kind c.args.values.now) _ _ _ _ _
    c.self.invariant c.raise_count.ensures
    (c.count_if.ensures
    ∙ (λ i. counted_if (c.is_failed.ensures i) c.self.inside.failed))
    (c.count_if-2.ensures
    ∙ (λ i. counted_if (c.is_stuck.ensures i) c.self.inside.stuck))
    (c.replace_if_some.ensures ∙ c.in_ok-better.ensures)
    c.in_ok-add_view.ensures
