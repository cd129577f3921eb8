-- From the sum of what sleep sets leave to what is known of all complete schedules.
use Rattle.std.proofs.Common.{◌≡◌, ℕ, Bool, true, false, List, [], map, Some, None, refl, ap, ◌∙◌}
use Rattle.std.proofs.Common.{sym, subst}
use Rattle.std.specs.List.{filter}
use Rattle.guest_code.specs.Program.{Program}
use Rattle.semantics.specs.{Machine.start, Waiters.In, declared.view.Kind.Kind}
use Rattle.semantics.proofs.ListMembers.{in_contains, contains_in, in_filter, from_filter}
use Rattle.semantics_schedules.specs.Order.{least, ends_badly, end_of}
use Rattle.semantics_schedules.specs.Schedules.{complete_schedules, preemptions}
use Rattle.semantics_schedules.specs.Sleep.{reduced_schedules, none_asleep}
use Rattle.semantics_schedules.proofs.LeastSchedule.{least_none, least_some}
use Rattle.semantics_schedules.proofs.ReducedSchedules.{least_bad, ends_pass}
use Rattle.walk_items.specs.Items.{whole, root_of, kept_schedules}
use Rattle.walk_items.specs.{Once.{pruned, SaysTheSame}, declared.mode.Mode.TheVariants.Reduced}
use Rattle.walk_items.proofs.{Once.says_the_same, WalkedItems.root_pruned}
use Rattle.walk_summary.specs.Summaries.{SummaryView, sum_of, end_kind, sorted_views}
use Rattle.walk_summary.proofs.SortedViews.{sorted_views-alike}
use Rattle.runner.specs.inner.Judging.{IsSummaryOf}
use Rattle.runner_report.specs.Unbounded.{IsReducedSummary, IsReducedSummaryOf, IsFirstBad, HasNoBad}
use Rattle.runner.proofs.Promises.{same_bad}

bad_of : (p : Program) (L : List (List ℕ))
    → (sum_of p L).first_bad ≡ least (filter (ends_badly p (start p)) L)
unfolding sum_of
bad_of p L = refl

ends_of : (p : Program) (L : List (List ℕ)) → (sum_of p L).ends ≡ sorted_views (map (end_of p) L)
unfolding sum_of
ends_of p L = refl

-- with equal threads once or not, the whole says the same
same_pruned : (once : Bool) (p : Program) → SaysTheSame (whole p (pruned once)) (whole p Reduced)
same_pruned false p = record { first_bad = refl; ends = refl; beyond = refl }
same_pruned true p = says_the_same p Reduced

-- the bad schedules of all
abbrev all_bad : Program → List (List ℕ)
all_bad p = filter (ends_badly p (start p)) (complete_schedules p (start p))

first_bad : (once : Bool) (p : Program)
    → (whole p (pruned once)).first_bad ≡ least (all_bad p)
first_bad once p =
    (same_pruned once p).first_bad
    ∙ bad_of p (kept_schedules (root_of p))
    ∙ ap (λ L. least (filter (ends_badly p (start p)) L)) (root_pruned p)
    ∙ sym (least_bad p (start p))

all_ends : (once : Bool) (p : Program)
    → (whole p (pruned once)).ends ≡ sorted_views (map (end_of p) (complete_schedules p (start p)))
all_ends once p =
    (same_pruned once p).ends
    ∙ ends_of p (kept_schedules (root_of p))
    ∙ ap (λ L. sorted_views (map (end_of p) L)) (root_pruned p)
    ∙ sorted_views-alike (map (end_of p) (reduced_schedules p (start p) none_asleep))
    (map (end_of p) (complete_schedules p (start p))) (λ test. sym (ends_pass p (start p) test))

reduced_summary : (once : Bool) (p : Program) (sum : SummaryView) → sum ≡ whole p (pruned once)
    → IsReducedSummary once p sum
reduced_summary once p sum is =
    record { ends = ap (λ (t : SummaryView). t.ends) is ∙ all_ends once p; summary = is }

reduced_summary_of : (quick once : Bool) (p : Program) (sum : SummaryView)
    → IsSummaryOf quick sum (whole p (pruned once)) → IsReducedSummaryOf quick once p sum
reduced_summary_of true once p sum h = h
reduced_summary_of false once p sum h = reduced_summary once p sum h

pub found_first : (quick once : Bool) (p : Program) (sum : SummaryView) (w : List ℕ) (kind : Kind)
    → IsSummaryOf quick sum (whole p (pruned once)) → sum.first_bad ≡ Some w
    → kind ≡ end_kind p w → IsFirstBad quick once p sum (preemptions p w) w kind
found_first quick once p sum w kind is some ends =
    let l = least_some (all_bad p) w (sym (first_bad once p)
    ∙ (sym (same_bad quick sum (whole p (pruned once)) is) ∙ some)) in
    let m : In (complete_schedules p (start p)) w × (ends_badly p (start p) w ≡ true) =
    from_filter (ends_badly p (start p)) (complete_schedules p (start p)) w
    (contains_in _ w l.0) in
    record {
      bad = (in_contains (complete_schedules p (start p)) w m.0, m.1);
      first = λ v b. l.1 v (in_contains _ v
          (in_filter (ends_badly p (start p)) (complete_schedules p (start p)) v
          (contains_in (complete_schedules p (start p)) v b.0) b.1));
      count = refl;
      ends = ends;
      summary = reduced_summary_of quick once p sum is;
    }

pub found_no_bad : (once : Bool) (p : Program) (sum : SummaryView) → sum ≡ whole p (pruned once)
    → sum.first_bad ≡ None → HasNoBad once p sum
found_no_bad once p sum is none = record {
  none = λ w b.
      let empty : all_bad p ≡ [] =
      least_none _ (sym (first_bad once p)
      ∙ (ap (λ (t : SummaryView). t.first_bad) (sym is) ∙ none)) in
      subst (λ L. In L w) empty
      (in_filter (ends_badly p (start p)) (complete_schedules p (start p)) w
      (contains_in (complete_schedules p (start p)) w b.0) b.1);
  summary = reduced_summary once p sum is;
}
