-- What the report of a search shows: that the schedule that it names is bad, below how many
-- preemptions none is bad, and that none is bad at all.
use Rattle.std.proofs.Common.{◌≡◌, ℕ, ◌+◌, ◌≤◌, Bool, true, false, List, Option, Some, None, refl, ap}
use Rattle.std.proofs.Common.{◌∙◌, sym, arith, subst}
use Rattle.std.specs.List.{filter, Contains}
use Rattle.guest_code.specs.Program.{Program}
use Rattle.semantics.specs.{Machine.start, Waiters.In}
use Rattle.semantics.proofs.ListMembers.{in_contains, contains_in, from_filter}
use Rattle.semantics_schedules.specs.Order.{least, ends_badly}
use Rattle.semantics_schedules.specs.Schedules.{complete_schedules, preemptions}
use Rattle.semantics_schedules.proofs.{LeastSchedule.least_some, ReducedSchedules.in_red}
use Rattle.semantics_schedules.proofs.SchedulesUnderPrefix.{in_under, in_within}
use Rattle.semantics_schedules.proofs.StatedLaws.{complete}
use Rattle.walk_items.specs.{Items.{root_of, schedules_of}, Once.{up_to, pruned}}
use Rattle.walk_items.specs.Walks.{clear_of as left_by}
use Rattle.walk_items.specs.declared.mode.Mode.{Mode, TheVariants.{Bounded, Reduced}}
use Rattle.walk_items.proofs.{Once.represents_root, Splits.{root_within, split_part}}
use Rattle.walk_items.proofs.WalkedItems.{root_pruned}
use Rattle.walk_summary.specs.Summaries.{SummaryView, sum_of}
use Rattle.runner_report.specs.Promises.{IsReport, IsReportFor, IsBoundedVerdict, IsUnboundedVerdict}
use Rattle.runner_report.specs.ReportText.{named_schedule, verdict_schedule}
use Rattle.runner_report.specs.Reports.{IsBadSchedule, NoBadBelow, HasItems}
use Rattle.runner_report.specs.declared.options.{Options.Options, Search.Search}
use Rattle.runner_report.specs.declared.options.Search.TheVariants.{UpTo, Unbounded}
use Rattle.runner_report.specs.declared.report.{Report.Report, Verdict.Verdict}
use Rattle.runner_report.specs.declared.report.Verdict.TheVariants.{Clean, Bad, Incomplete}
use Rattle.ctxbound_suite.specs.Shown.{clear_of, is_clean, is_right, IsRight, IsRightUpTo}
use Rattle.ctxbound_suite.specs.Shown.{IsNamedBad, IsFound}
use Rattle.ctxbound_suite.specs.declared.found.BadSchedule.{BadSchedule}

-- a schedule of the root in a mode is a complete one, within the bound if there is one
within : (p : Program) (bound : ℕ) (w : List ℕ)
    → Contains (schedules_of (Bounded bound) (root_of p)) w
    → Contains (complete_schedules p (start p)) w × (preemptions p w ≤ bound)
within p bound w c =
    let r = (in_within p (root_of p).prefix bound w).1 c in
    ((complete p (start p) w).0 ((in_under p (root_of p).prefix w).1 r.0).0, r.1)

left_by_sleep_sets : (p : Program) (w : List ℕ) → Contains (schedules_of Reduced (root_of p)) w
    → Contains (complete_schedules p (start p)) w
left_by_sleep_sets p w c =
    in_contains (complete_schedules p (start p)) w
    (in_red p (start p) w (subst (λ L. In L w) (root_pruned p) (contains_in _ w c)))

-- with equal threads once or not
up_to_within : (once : Bool) (p : Program) (bound : ℕ) (w : List ℕ)
    → In (schedules_of (up_to once bound) (root_of p)) w
    → Contains (complete_schedules p (start p)) w × (preemptions p w ≤ bound)
up_to_within false p bound w h = within p bound w (in_contains _ w h)
up_to_within true p bound w h =
    within p bound w ((represents_root p (Bounded bound)).own w (in_contains _ w h))

of_pruned : (once : Bool) (p : Program) (w : List ℕ)
    → In (schedules_of (pruned once) (root_of p)) w → Contains (complete_schedules p (start p)) w
of_pruned false p w h = left_by_sleep_sets p w (in_contains _ w h)
of_pruned true p w h =
    left_by_sleep_sets p w ((represents_root p Reduced).own w (in_contains _ w h))

bad_of : (p : Program) (L : List (List ℕ))
    → (sum_of p L).first_bad ≡ least (filter (ends_badly p (start p)) L)
unfolding sum_of
bad_of p L = refl

-- the least bad one of the schedules that were tried
tried_bad : (p : Program) (mode : Mode) (sum : SummaryView) (w : List ℕ)
    → HasItems p mode sum → sum.first_bad ≡ Some w
    → In (schedules_of mode (root_of p)) w × (ends_badly p (start p) w ≡ true)
tried_bad p mode sum w h e =
    let L : List (List ℕ) = left_by h.0 (schedules_of mode (root_of p)) in
    let same : sum.first_bad ≡ least (filter (ends_badly p (start p)) L) =
    ap (λ (t : SummaryView). t.first_bad) (split_part mode (root_of p) sum h.0 h.1
    (root_within mode p) h.2) ∙ bad_of p L in
    let l = least_some (filter (ends_badly p (start p)) L) w (sym same ∙ e) in
    let m : In L w × (ends_badly p (start p) w ≡ true) =
    from_filter (ends_badly p (start p)) L w (contains_in _ w l.0) in
    ((from_filter _ (schedules_of mode (root_of p)) w m.0).0, m.1)

same_schedule : (v w : List ℕ) → Some v ≡ Some w → v ≡ w
same_schedule v w e = cc

-- what the verdict of a search up to a bound shows: the schedule that is named is bad and has no more
-- preemptions, and none is bad as far as the search went
shown_up_to : (p : Program) (o : Options) (last bound : ℕ) (sum : SummaryView) (v : Verdict)
    → IsBoundedVerdict false p o last bound sum v
    → ((w : List ℕ) → verdict_schedule sum.first_bad v ≡ Some w
    → IsBadSchedule p w × (preemptions p w ≤ last))
    × (is_clean v ≡ true → NoBadBelow p (last + 1)) × (is_right v ≡ true → IsRight p)
shown_up_to p o last bound sum (Clean all) h = (
  λ w e. absurd cc,
  λ e. h.none,
  λ e w bad. let none : last + 1 ≤ preemptions p w = h.none w bad in
      h.within.0 e (w, bad.0, omega (arith, none, h.low)),
)
shown_up_to p o last bound sum (Bad k steps kind) h = (
  λ w e. let count : preemptions p steps.items ≡ k = h.first.count in
      subst (λ v. IsBadSchedule p v × (preemptions p v ≤ last)) (same_schedule steps.items w e)
      (h.first.bad, omega (arith, count, h.low)),
  λ e. absurd cc,
  λ e. absurd cc,
)
shown_up_to p o last bound sum (Incomplete cause finished) h = (
  λ w e. let t = tried_bad p (up_to o.symmetry bound) sum w h.1.items e in
      let r = up_to_within o.symmetry p bound w t.0 in
      let few : preemptions p w ≤ bound = r.1 in
      ((r.0, t.1), omega (arith, few, h.0)),
  λ e. absurd cc,
  λ e. absurd cc,
)

-- what the verdict of a search without a bound shows
shown_without : (p : Program) (o : Options) (sum : SummaryView) (v : Verdict)
    → IsUnboundedVerdict false p o sum v
    → ((w : List ℕ) → verdict_schedule sum.first_bad v ≡ Some w → IsBadSchedule p w)
    × (is_clean v ≡ true → IsRight p) × (is_right v ≡ true → IsRight p)
shown_without p o sum (Clean all) h = (λ w e. absurd cc, λ e. h.1.none, λ e. h.1.none)
shown_without p o sum (Bad k steps kind) h = (
  λ w e. subst (IsBadSchedule p) (same_schedule steps.items w e) h.bad,
  λ e. absurd cc,
  λ e. absurd cc,
)
shown_without p o sum (Incomplete cause finished) h = (
  λ w e. let t = tried_bad p (pruned o.symmetry) sum w h.1.items e in
      (of_pruned o.symmetry p w t.0, t.1),
  λ e. absurd cc,
  λ e. absurd cc,
)

-- the schedule that a report names is bad
pub named_is_bad : (p : Program) (o : Options) (r : Report) → IsReport false p o r
    → (w : List ℕ) → named_schedule r ≡ Some w → IsBadSchedule p w
named_is_bad p o r is w e = go o.search is.2
  where
    go : (s : Search) → IsReportFor false p o s r → IsBadSchedule p w
    go (UpTo last) h = ((shown_up_to p o last h.0 r.summary r.verdict h.2).0 w e).0
    go Unbounded h = (shown_without p o r.summary r.verdict h.1).0 w e

-- the schedule that the report of a search up to a bound names has no more preemptions
pub named_has_few : (p : Program) (o : Options) (last : ℕ) (r : Report)
    → IsReportFor false p o (UpTo last) r → (w : List ℕ) → named_schedule r ≡ Some w
    → preemptions p w ≤ last
named_has_few p o last r h w e =
    ((shown_up_to p o last h.0 r.summary r.verdict h.2).0 w e).1

clear_up_to : (p : Program) (o : Options) (last bound : ℕ) (sum : SummaryView) (v : Verdict)
    → IsBoundedVerdict false p o last bound sum v → NoBadBelow p (clear_of (Some bound) v)
clear_up_to p o last bound sum (Clean all) h w bad =
    let none : last + 1 ≤ preemptions p w = h.none w bad in omega (arith, none, h.low)
clear_up_to p o last bound sum (Bad k steps kind) h w bad = h.first.fewest w bad
clear_up_to p o last bound sum (Incomplete cause None) h w bad = omega arith
clear_up_to p o last bound sum (Incomplete cause (Some f)) h w bad = h.2.1 w bad

-- a report and the bad schedule that it names are what was found
pub found_is : (p : Program) (o : Options) (once : Bool) (r : Report) (bad : Option BadSchedule)
    → IsReport false p (record o { symmetry = once }) r → IsNamedBad p (named_schedule r) bad
    → IsFound p o (record { report = r; bad = bad })
found_is p o once r bad is named = go o.search refl is.2
  where
    own : Options
    own = record o { symmetry = once }

    go : (s : Search) → o.search ≡ s → IsReportFor false p own s r
        → IsFound p o (record { report = r; bad = bad })
    go (UpTo last) same h =
        let shown = shown_up_to p own last h.0 r.summary r.verdict h.2 in
        record {
          report = record { once = once; is = is };
          bad = named;
          clear = subst (λ b. NoBadBelow p (clear_of b r.verdict)) (sym h.1)
              (clear_up_to p own last h.0 r.summary r.verdict h.2);
          clean = λ e. subst (IsRightUpTo p) (sym same) (shown.1 e);
          right = shown.2;
        }
    go Unbounded same h =
        let shown = shown_without p own r.summary r.verdict h.1 in
        record {
          report = record { once = once; is = is };
          bad = named;
          clear = subst (λ b. NoBadBelow p (clear_of b r.verdict)) (sym h.0) (λ w bad. omega arith);
          clean = λ e. subst (IsRightUpTo p) (sym same) (shown.1 e);
          right = shown.2;
        }
