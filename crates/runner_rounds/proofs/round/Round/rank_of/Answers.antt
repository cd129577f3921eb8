use Rattle.std.proofs.Common.{rules, arith, ◌≡◌, ◌∙◌, ◌<◌, ◌+◌, sym, ap, Bool, length, get_or}
use Rattle.std.proofs.lemmas.List.Sums.{count_by_more_yes, count_by_more_no}
use Rattle.walk_items.specs.Items.{ItemView}
use Rattle.semantics_schedules.{specs.Order.precedes, proofs.LeastSchedule.slices_order}
use Rattle.runner_rounds.proofs.round.Round.rank_of.Goals.{then-is_lt, else-is_lt}
use Rattle.runner_rounds.proofs.round.Round.rank_of.Goals as goal

pub loop-other-preserved : goal.loop-other-preserved
loop-other-preserved c =
    let items = c.args.self.now.items.items in
    let item = c.args.item.now in
    let comes : ItemView → Bool = λ j. precedes j.prefix item.prefix in
    let x = c.other-item.result in
    let k = c.loop-other.other-index in
    let is : c.is_lt.result ≡ comes x = grind (arith, slices_order) in
    let lt : k < length items = search rules in
    let at : get_or items k x ≡ x = search rules in
    let far = c.loop-other.invariant in
    elim c.if-is_lt.branch [
      | then-is_lt w ↦ record {
        rank = w.before-is ∙ (ap (λ n. n + 1) far.rank
            ∙ sym (count_by_more_yes comes items k x lt (ap comes at ∙ (sym is ∙ w.if-is_lt.true))));
        few = let m = w.before-is in let n = far.few in omega (arith, m, n);
      }
      | else-is_lt w ↦ record {
        rank = w.before-is ∙ (far.rank
            ∙ sym (count_by_more_no comes items k x lt (ap comes at ∙ (sym is ∙ w.if-is_lt.false))));
        few = let m = w.before-is in let n = far.few in omega (arith, m, n);
      }
    ]
