use Rattle.std.proofs.Common.{◌≡◌, ◌++◌, ◌∙◌, [], Err, IsOk, Ok, Result, ap, arith, cond, is_ok, subst, sym}
use Rattle.std.{specs.List.Sorted.IsStrictlySortedBy, proofs.lemmas.List.nil_from_length}
use Rattle.semantics.specs.View.{view_cmp}
use Rattle.walk_summary.specs.Summaries.{with_view, sorted_views}
use Rattle.walk_summary.proofs.SortedViews.{with_view-sorted, sorted_views-alone, sorted_views-moved}
use Rattle.walk_summary.proofs.summary.merge_views.Goals as goal

-- what a push that went well leaves
if_ok : {T E X : Type 0} (r : Result T E) (x y z : X) → IsOk r → x ≡ cond (is_ok r) y z → x ≡ y
if_ok (Ok v) x y z ok e = e
if_ok (Err v) x y z ok e = absurd (cc)

pub loop-view-preserved : goal.loop-view-preserved
loop-view-preserved c =
    let v = c.in-Some.view in
    let ends = c.loop-view.ends.items in
    let left = c.pop.new.self.items in
    let put : c.insert_view.new.ends.items ≡ with_view v ends
    = if_ok c.insert_view.result _ _ _
    (c.insert_view.ensures.room (omega (
      arith,
      c.loop-view.invariant.room,
      c.in-Some.ensures.cases,
    )))
    c.insert_view.ensures.items in
    record {
      sorted = subst (IsStrictlySortedBy view_cmp) (sym put)
          (with_view-sorted v ends c.loop-view.invariant.sorted);
      same = ap (λ vs. sorted_views (vs ++ left)) put
          ∙ (sorted_views-moved v ends left
          ∙ (ap (λ vs. sorted_views (ends ++ vs)) (sym c.in-Some.ensures.items)
          ∙ c.loop-view.invariant.same));
      room = omega (
        arith,
        c.loop-view.invariant.room,
        c.insert_view.ensures.length,
        c.insert_view.ensures.capacity,
        c.in-Some.ensures.cases,
      );
    }

pub returns-clause-joined : goal.returns-clause-joined
returns-clause-joined c =
    let ends = c.loop-view.ends.items in
    let none : c.loop-view.views.items ≡ []
    = nil_from_length c.loop-view.views.items
    (omega (arith, c.loop-view.views.ok.0, c.in_default.ensures.cases.0)) in
    sym (sorted_views-alone ends c.loop-view.invariant.sorted)
    ∙ (ap (λ vs. sorted_views (ends ++ vs)) (sym none)
    ∙ (c.loop-view.invariant.same
    ∙ ap (λ vs. sorted_views (vs ++ c.args.views.now.items)) c.reserve.ensures.items))
