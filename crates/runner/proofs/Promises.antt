-- From the sums of whole bounds to what is known of all complete schedules.
use Rattle.std.proofs.Common.{◌≡◌, ◌⊎◌, inl, inr, ℕ, ◌+◌, ◌≤◌, Bool, true, false, not, cond, List}
use Rattle.std.proofs.Common.{[], Some, None, refl, ap, ◌∙◌, sym, arith, subst}
use Rattle.std.{specs.List.{filter, Contains}, proofs.lemmas.Bool.cases_lt}
use Rattle.guest_code.specs.Program.{Program}
use Rattle.semantics.specs.{Ends.{kind_of, final_kind}, Machine.start, Waiters.In}
use Rattle.semantics.specs.declared.view.Kind.{Kind}
use Rattle.semantics.proofs.ListMembers.{in_contains, contains_in, in_filter, from_filter}
use Rattle.semantics_schedules.specs.Order.{precedes, least, ends_badly}
use Rattle.semantics_schedules.specs.Schedules.{complete_schedules, state_after, runs, preemptions, schedules_within}
use Rattle.semantics_schedules.proofs.LeastSchedule.{least_none, least_some}
use Rattle.semantics_schedules.proofs.SchedulesUnderPrefix.{in_under, in_within, beyond_is, complete_is}
use Rattle.semantics_schedules.proofs.StatedLaws.{complete}
use Rattle.walk_items.specs.{Items.whole, Once.{up_to, SaysTheSame}}
use Rattle.walk_items.{specs.declared.mode.Mode.TheVariants.Bounded, proofs.Once.says_the_same}
use Rattle.walk_summary.specs.Summaries.{SummaryView, sum_of, end_kind}
use Rattle.runner_report.specs.Reports.{IsBadSchedule, NoBadBelow, SomeExceeds, IsBad, IsClean}
use Rattle.runner_report.specs.Reports.{IsFinished, IsSummaryAt, IsBadSummary}
use Rattle.runner.specs.inner.Judging.{HasPassedBounds, IsSummaryOf}

-- with equal threads once or not, the whole says the same
same_at : (once : Bool) (p : Program) (bound : ℕ)
    → SaysTheSame (whole p (up_to once bound)) (whole p (Bounded bound))
same_at false p bound = record { first_bad = refl; ends = refl; beyond = refl }
same_at true p bound = says_the_same p (Bounded bound)

-- the root's schedules within a bound are all complete ones with at most that many preemptions
in_root : (p : Program) (bound : ℕ) (w : List ℕ) → Contains (complete_schedules p (start p)) w
    → preemptions p w ≤ bound → Contains (schedules_within p [] bound) w
in_root p bound w c le =
    (in_within p [] bound w).0 ((in_under p [] w).0 ((complete p (start p) w).1 c, refl), le)

of_root : (p : Program) (bound : ℕ) (w : List ℕ) → Contains (schedules_within p [] bound) w
    → Contains (complete_schedules p (start p)) w × (preemptions p w ≤ bound)
of_root p bound w c =
    let r = (in_within p [] bound w).1 c in
    ((complete p (start p) w).0 ((in_under p [] w).1 r.0).0, r.1)

-- the bad schedules within a bound
abbrev bad_within : Program → ℕ → List (List ℕ)
bad_within p bound = filter (ends_badly p (start p)) (schedules_within p [] bound)

plain_first_bad : (p : Program) (bound : ℕ)
    → (whole p (Bounded bound)).first_bad ≡ least (bad_within p bound)
unfolding sum_of
plain_first_bad p bound = refl

first_bad_of : (once : Bool) (p : Program) (bound : ℕ)
    → (whole p (up_to once bound)).first_bad ≡ least (bad_within p bound)
first_bad_of once p bound = (same_at once p bound).first_bad ∙ plain_first_bad p bound

-- a bad schedule within the bound is one of those
is_bad_within : (p : Program) (bound : ℕ) (w : List ℕ) → IsBadSchedule p w
    → preemptions p w ≤ bound → In (bad_within p bound) w
is_bad_within p bound w bad le =
    in_filter (ends_badly p (start p)) (schedules_within p [] bound) w
    (contains_in (schedules_within p [] bound) w (in_root p bound w bad.0 le)) bad.1

-- a whole without a bad schedule: none is within the bound
pub none_within : (once : Bool) (p : Program) (bound : ℕ)
    → (whole p (up_to once bound)).first_bad ≡ None → NoBadBelow p (bound + 1)
none_within once p bound none w bad = elim (cases_lt bound (preemptions p w)) [
  | inl l ↦ omega (arith, l)
  | inr le ↦
      let empty : bad_within p bound ≡ [] = least_none _ (sym (first_bad_of once p bound) ∙ none) in
      absurd (subst (λ L. In L w) empty (is_bad_within p bound w bad le))
]

-- its first bad schedule: one within the bound, and the least of those
pub record IsLeastWithin (p : Program) (bound : ℕ) (w : List ℕ) : Type 0 where
  pub bad : IsBadSchedule p w
  pub within : preemptions p w ≤ bound
  pub least : (v : List ℕ) → IsBadSchedule p v → preemptions p v ≤ bound → precedes v w ≡ false

pub least_within : (once : Bool) (p : Program) (bound : ℕ) (w : List ℕ)
    → (whole p (up_to once bound)).first_bad ≡ Some w → IsLeastWithin p bound w
least_within once p bound w some =
    let l = least_some (bad_within p bound) w (sym (first_bad_of once p bound) ∙ some) in
    let m : In (schedules_within p [] bound) w × (ends_badly p (start p) w ≡ true) =
    from_filter (ends_badly p (start p)) (schedules_within p [] bound) w (contains_in _ w l.0) in
    let r = of_root p bound w (in_contains (schedules_within p [] bound) w m.0) in
    record {
      bad = (r.0, m.1);
      within = r.1;
      least = λ v bad le. l.1 v (in_contains _ v (is_bad_within p bound v bad le));
    }

-- whether some schedule exceeds the bound
pub some_exceeds : (once : Bool) (p : Program) (bound : ℕ)
    → (whole p (up_to once bound)).beyond ≡ true → SomeExceeds p bound
some_exceeds once p bound h =
    let r = (beyond_is p [] bound).0 (sym (same_at once p bound).beyond ∙ h) in
    (r.0, (complete p (start p) r.0).0 ((in_under p [] r.0).1 r.1).0, r.2)

pub exceeding_is_beyond : (once : Bool) (p : Program) (bound : ℕ) → SomeExceeds p bound
    → (whole p (up_to once bound)).beyond ≡ true
exceeding_is_beyond once p bound r =
    (same_at once p bound).beyond
    ∙ (beyond_is p [] bound).1
    (r.0, (in_under p [] r.0).0 ((complete p (start p) r.0).1 r.1, refl), r.2)

-- before the first bound

pub passed_none : (p : Program) → HasPassedBounds p 0
passed_none p = record { none = λ w bad. omega arith; past = λ b l. absurd (omega arith) }

-- the summary has the first bad schedule of the whole
pub same_bad : (quick : Bool) (sum all : SummaryView) → IsSummaryOf quick sum all
    → sum.first_bad ≡ all.first_bad
same_bad true sum all h = h.first_bad
same_bad false sum all h = ap (λ (t : SummaryView). t.first_bad) h

-- and the end views of all
summary_at : (once : Bool) (p : Program) (bound : ℕ) (sum : SummaryView)
    → sum ≡ whole p (up_to once bound) → IsSummaryAt once p bound sum
summary_at once p bound sum is = record {
  ends = ap (λ (t : SummaryView). t.ends) is ∙ (same_at once p bound).ends;
  summary = is;
}

bad_summary : (quick once : Bool) (p : Program) (bound : ℕ) (sum : SummaryView)
    → IsSummaryOf quick sum (whole p (up_to once bound)) → IsBadSummary quick once p bound sum
bad_summary false once p bound sum is = summary_at once p bound sum is
bad_summary true once p bound sum is = is

-- a bad schedule: since none has fewer preemptions than the bound, it has as many
pub found_bad : (quick once : Bool) (p : Program) (last bound : ℕ) (sum : SummaryView)
    (w : List ℕ) (kind : Kind) → bound ≤ last → HasPassedBounds p bound
    → IsSummaryOf quick sum (whole p (up_to once bound)) → sum.first_bad ≡ Some w
    → kind ≡ end_kind p w → IsBad quick once p last bound sum (preemptions p w) w kind
found_bad quick once p last bound sum w kind low h is some ends =
    let l = least_within once p bound w
    (sym (same_bad quick sum (whole p (up_to once bound)) is) ∙ some) in
    let le : preemptions p w ≤ bound = l.within in
    let ge : bound ≤ preemptions p w = h.none w l.bad in
    let same : bound ≡ preemptions p w = omega (arith, le, ge) in
    record {
      at = same;
      low = omega (arith, same, low);
      first = record {
        bad = l.bad;
        count = refl;
        fewest = subst (NoBadBelow p) same h.none;
        first = λ v bad e. l.least v bad (omega (arith, e, le));
      };
      ends = ends;
      summary = subst (λ k. IsBadSummary quick once p k sum) same
          (bad_summary quick once p bound sum is);
    }

-- no bad schedule, at the last bound or where none exceeds it
pub found_none : (once : Bool) (p : Program) (last bound : ℕ) (sum : SummaryView) (all : Bool)
    → bound ≤ last → HasPassedBounds p bound → sum ≡ whole p (up_to once bound)
    → sum.first_bad ≡ None → all ≡ not sum.beyond → (bound ≡ last) ⊎ (all ≡ true)
    → IsClean once p last bound sum all
found_none once p last bound sum all low h is none e end = record {
  none = λ w bad. far w bad end;
  summary = summary_at once p bound sum is;
  within = (λ t r. no_more t r, λ k. none_exceeds (sum.beyond) refl k);
  low = low;
  ended = end;
  least = h.past;
}
  where
    same_beyond : sum.beyond ≡ (whole p (up_to once bound)).beyond
    same_beyond = ap (λ (t : SummaryView). t.beyond) is

    not_both : (b : Bool) → true ≡ not b → b ≡ true → ⊥
    not_both true t r = cc
    not_both false t r = cc

    no_more : all ≡ true → SomeExceeds p bound → ⊥
    no_more t r =
        not_both sum.beyond (sym t ∙ e) (same_beyond ∙ exceeding_is_beyond once p bound r)

    none_exceeds : (b : Bool) → sum.beyond ≡ b → (SomeExceeds p bound → ⊥) → all ≡ true
    none_exceeds true t k = absurd (k (some_exceeds once p bound (sym same_beyond ∙ t)))
    none_exceeds false t k = e ∙ ap not t

    here : NoBadBelow p (bound + 1)
    here = none_within once p bound (ap (λ (t : SummaryView). t.first_bad) (sym is) ∙ none)

    far : (w : List ℕ) → IsBadSchedule p w → (bound ≡ last) ⊎ (all ≡ true)
        → last + 1 ≤ preemptions p w
    far w bad (inl same) =
        let k : bound + 1 ≤ preemptions p w = here w bad in omega (arith, k, same)
    far w bad (inr t) =
        let k : bound + 1 ≤ preemptions p w = here w bad in
        absurd (no_more t (w, bad.0, omega (arith, k)))

-- what is finished

pub finished_here : (once : Bool) (p : Program) (bound : ℕ) (sum : SummaryView)
    → sum ≡ whole p (up_to once bound) → sum.first_bad ≡ None → IsFinished p bound (Some bound)
finished_here once p bound sum is none =
    (inl refl, none_within once p bound (ap (λ (t : SummaryView). t.first_bad) (sym is) ∙ none))

pub finished_below : (p : Program) (bound f : ℕ) → HasPassedBounds p bound → bound ≡ f + 1
    → IsFinished p bound (Some f)
finished_below p bound f h e = (inr e, subst (NoBadBelow p) e h.none)

-- how a complete schedule ends

pub runs_through : (p : Program) (w : List ℕ) → Contains (complete_schedules p (start p)) w
    → runs p (start p) w ≡ true
runs_through p w c = ((complete_is p (start p) w).0 ((complete p (start p) w).1 c)).0

pub ends_somehow : (p : Program) (w : List ℕ) → Contains (complete_schedules p (start p)) w
    → kind_of p (state_after p (start p) w) ≡ Some (end_kind p w)
ends_somehow p w c =
    ap (λ b. cond b (Some (final_kind (state_after p (start p) w).threads)) None)
    ((complete_is p (start p) w).0 ((complete p (start p) w).1 c)).1
