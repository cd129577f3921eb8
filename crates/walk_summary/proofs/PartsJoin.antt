-- How a sum is joined with that of a single item: one schedule more, or none.
use Rattle.std.proofs.Common.{◌≡◌, ℕ, ◌+◌, ◌≤◌, Bool, true, false, cond, ◌||◌, List, [], ◌∷◌, Some, refl, ap, ◌∙◌, arith}
use Rattle.std.proofs.Math.Bool.{or-false}
use Rattle.guest_code.specs.Program.{Program}
use Rattle.semantics.specs.View.{is_bad}
use Rattle.semantics_schedules.specs.Order.{end_of, lesser, least}
use Rattle.walk_summary.specs.Summaries.{SummaryView, IsSummary, nothing, cut, greatest_count, is_failed, is_stuck, end_kind, with_view, sum_of, join, with_beyond, added, counted_if}
use Rattle.walk_summary.proofs.LesserSchedules.{lesser_none}
use Rattle.walk_summary.proofs.SortedViews.{sorted_views-push, sorted_already}
use Rattle.walk_summary.proofs.SumsJoin.{join_nothing}

-- no schedule, and whether some go past the bound
pub join_past : (a : SummaryView) (past : Bool) → IsSummary a →
    join a (with_beyond nothing past) ≡ with_beyond a (a.beyond || past)
unfolding join
join_past a past h = ap (λ s. with_beyond s (a.beyond || past)) (join_nothing a h)

counted_one : (n : ℕ) (b : Bool) → n ≤ greatest_count →
    cut (n + cut (0 + cond b 1 0)) ≡ counted_if b n
counted_one n true h = omega arith
counted_one n false h = omega arith

-- a complete schedule
pub join_leaf : (p : Program) (a : SummaryView) (w : List ℕ) → IsSummary a →
    join a (sum_of p (w ∷ [])) ≡ added a w (end_of p w)
unfolding join sum_of added
join_leaf p a w h = λ i. record {
  tried = cut (a.tried + 1);
  failed = counted_one a.failed (is_failed (end_kind p w)) h.failed i;
  stuck = counted_one a.stuck (is_stuck (end_kind p w)) h.stuck i;
  beyond = or-false a.beyond i;
  first_bad = first (is_bad (end_kind p w)) i;
  ends = (sorted_views-push a.ends (end_of p w)
      ∙ ap (with_view (end_of p w)) (sorted_already a.ends h.ends)) i;
}
  where
    first : (b : Bool) → lesser a.first_bad (least (cond b (w ∷ []) []))
        ≡ cond b (lesser a.first_bad (Some w)) a.first_bad
    first true = refl
    first false = lesser_none a.first_bad
