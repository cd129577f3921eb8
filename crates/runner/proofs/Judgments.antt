-- What a report says, from what is known where the search has ended.
use Rattle.std.proofs.Common.{◌≡◌, ◌⊎◌, inl, inr, ℕ, zero, suc, ◌+◌, ◌<◌, ◌≤◌, ◌∙◌, Bool, true, false}
use Rattle.std.proofs.Common.{not, List, [], ◌∷◌, ◌++◌, Option, Some, None, refl, ap, sym, subst, arith}
use mathlib.Core.Logic.{dite}
use native.Mathlib.Decide.{ℕ_discrete}
use Rattle.guest_code.specs.Program.{Program}
use Rattle.semantics_schedules.specs.Schedules.{preemptions}
use Rattle.walk_items.specs.{Items.{ItemView, IsItem, root_of, whole}, Once.{up_to, pruned}}
use Rattle.walk_items.specs.declared.mode.Mode.{Mode, TheVariants.{Bounded, Reduced}}
use Rattle.walk_items.specs.declared.mode.Mode.TheVariants.{BoundedOnce, ReducedOnce}
use Rattle.walk_items.proofs.Splits.{root_within, split_closed}
use Rattle.walk_summary.specs.Summaries.{SummaryView, IsBoundedBy, nothing, with_beyond, end_kind}
use Rattle.book.specs.{Books.{BookView, Keeps, KeepsWhere, with_deferred}, Progress.mode_bound}
use Rattle.book.proofs.BoundedSums.{bounded_itself, closed_sum, never_dropped}
use Rattle.runner_report.specs.Promises.{IsBoundedVerdict, IsUnboundedVerdict, IsReportFor, IsReport}
use Rattle.runner_report.specs.Reports.{IsBad, IsClean, IsCause, IsFollowed, IsCutShort}
use Rattle.runner_report.specs.{Unbounded.{IsFirstBad, HasNoBad}, declared.level.Level.Level}
use Rattle.runner_report.specs.declared.options.{Options.Options, Search.Search}
use Rattle.runner_report.specs.declared.options.Search.TheVariants.{UpTo, Unbounded}
use Rattle.runner_report.specs.declared.report.{Cause.Cause, Verdict.Verdict}
use Rattle.runner_report.specs.declared.report.Verdict.TheVariants.{Clean, Bad, Incomplete}
use Rattle.runner.specs.Levels.{IsModeOf, IsLast, GoesOn, HasPassed, HasItemsOf, IsOfProgram}
use Rattle.runner.specs.Levels.{AreBelow, IsLastSum, AreLevels, IsPassed, IsPassedLevel}
use Rattle.runner.specs.declared.judge.Ending.{Ending, TheVariants.{Whole, Cut}}
use Rattle.runner.specs.inner.Judging.{HasPassedBounds, IsFound, IsFinishedIn, IsBoundBelow}
use Rattle.runner.specs.inner.Judging.{IsVerdictOn, IsAt, Ends, ending_cause, level_at, report_in}
use Rattle.runner.proofs.AfterRounds.{has_next, past_level}
use Rattle.runner.proofs.Promises.{passed_none, none_within, some_exceeds, found_bad, found_none}
use Rattle.runner.proofs.Promises.{finished_here, finished_below, same_bad, least_within}
use Rattle.runner.proofs.Unbounded.{found_first, found_no_bad}

-- what is known of a program where the bounds below this one are passed
pub program_passed : (once : Bool) (p : Program) (bound : ℕ)
    → ((b : ℕ) → b < bound → IsPassed once (root_of p) b) → HasPassedBounds p bound
program_passed once p zero h = passed_none p
program_passed once p (suc b) h = record {
  none = let far = none_within once p b (h b (omega arith)).none in
      λ w bad. let k : b + 1 ≤ preemptions p w = far w bad in omega (arith, k);
  past = λ c l. some_exceeds once p c (h c l).beyond;
}

-- a search that doesn't go on where nothing is bad is at its last mode, or nothing is beyond
pub ends_why : (search : Search) (mode : Mode) (sum : SummaryView)
    → (GoesOn search mode sum → ⊥) → sum.first_bad ≡ None
    → IsLast search mode ⊎ (not sum.beyond ≡ true)
ends_why sought mode sum ends none = go sum.beyond refl
  where
    last : (search : Search) (mode : Mode) → IsLast search mode ⊎ (IsLast search mode → ⊥)
    last (UpTo l) (Bounded bound) = dite (ℕ_discrete bound l) (λ e. inl e) (λ e. inr e)
    last (UpTo l) (BoundedOnce bound) = dite (ℕ_discrete bound l) (λ e. inl e) (λ e. inr e)
    last (UpTo l) Reduced = inr (λ e. e)
    last (UpTo l) ReducedOnce = inr (λ e. e)
    last Unbounded (Bounded bound) = inr (λ e. e)
    last Unbounded (BoundedOnce bound) = inr (λ e. e)
    last Unbounded Reduced = inl tt
    last Unbounded ReducedOnce = inl tt

    go : (b : Bool) → sum.beyond ≡ b → IsLast sought mode ⊎ (not sum.beyond ≡ true)
    go false e = inr (ap not e)
    go true e = elim (last sought mode) [
      | inl l ↦ inl l
      | inr more ↦ absurd (ends (record { none = none; beyond = e; more = more }))
    ]

-- the verdict on a sum of all is reported
pub whole_is_reported : (may : Bool) (p : Program) (o : Options) (mode : Mode) (sum : SummaryView)
    (v : Verdict) → IsModeOf o.symmetry o.search mode → HasPassed (root_of p) mode
    → (GoesOn o.search mode sum → ⊥) → IsFound o.quick p mode sum → IsVerdictOn p sum v
    → IsReport may p o (report_in o mode sum v)
whole_is_reported may p o mode sum v of passed ends found on =
    (refl, refl, go o.search mode of passed ends found)
  where
    bounded : (once : Bool) (last bound : ℕ) (v : Verdict) → o.symmetry ≡ once → bound ≤ last
        → HasPassedBounds p bound → (sum.first_bad ≡ None → (bound ≡ last) ⊎ (not sum.beyond ≡ true))
        → IsFound o.quick p (up_to once bound) sum → IsVerdictOn p sum v
        → IsBoundedVerdict may p o last bound sum v
    bounded once last bound (Bad k schedule kind) is low passed ends found on =
        subst (λ x. IsBad o.quick x p last bound sum k schedule.items kind) (sym is)
        (subst (λ n. IsBad o.quick once p last bound sum n schedule.items kind) (sym on.1)
        (found_bad o.quick once p last bound sum schedule.items kind low passed found.sum on.0
        on.2))
    bounded once last bound (Clean all) is low passed ends found on =
        subst (λ x. IsClean x p last bound sum all) (sym is)
        (found_none once p last bound sum all low passed (found.clean on.0) on.0 on.1
        (elim (ends on.0) [
          | inl l ↦ inl l
          | inr e ↦ inr (on.1 ∙ e)
        ]))
    bounded once last bound (Incomplete cause finished) is low passed ends found on = absurd on

    unbounded : (once : Bool) (v : Verdict) → o.symmetry ≡ once
        → (sum.first_bad ≡ None → not sum.beyond ≡ true)
        → IsFound o.quick p (pruned once) sum → IsVerdictOn p sum v
        → IsUnboundedVerdict may p o sum v
    unbounded once (Bad k schedule kind) is whole found on =
        subst (λ x. IsFirstBad o.quick x p sum k schedule.items kind) (sym is)
        (subst (λ n. IsFirstBad o.quick once p sum n schedule.items kind) (sym on.1)
        (found_first o.quick once p sum schedule.items kind found.sum on.0 on.2))
    unbounded once (Clean all) is whole found on = (
      on.1 ∙ whole on.0,
      subst (λ x. HasNoBad x p sum) (sym is) (found_no_bad once p sum (found.clean on.0) on.0),
    )
    unbounded once (Incomplete cause finished) is whole found on = absurd on

    go : (search : Search) (m : Mode) → IsModeOf o.symmetry search m → HasPassed (root_of p) m
        → (GoesOn search m sum → ⊥) → IsFound o.quick p m sum
        → IsReportFor may p o search (report_in o m sum v)
    go (UpTo last) (Bounded bound) of passed ends found = (
      bound,
      refl,
      bounded false last bound v of.0 of.1 (program_passed false p bound passed)
          (ends_why (UpTo last) (Bounded bound) sum ends) found on,
    )
    go (UpTo last) (BoundedOnce bound) of passed ends found = (
      bound,
      refl,
      bounded true last bound v of.0 of.1 (program_passed true p bound passed)
          (ends_why (UpTo last) (BoundedOnce bound) sum ends) found on,
    )
    go Unbounded Reduced of passed ends found = (
      refl,
      unbounded false v of (λ none. ap (λ (t : SummaryView). not t.beyond) (found.clean none)) found on,
    )
    go Unbounded ReducedOnce of passed ends found = (
      refl,
      unbounded true v of (λ none. ap (λ (t : SummaryView). not t.beyond) (found.clean none)) found on,
    )
    go (UpTo last) Reduced of passed ends found = absurd of
    go (UpTo last) ReducedOnce of passed ends found = absurd of
    go Unbounded (Bounded bound) of passed ends found = absurd of
    go Unbounded (BoundedOnce bound) of passed ends found = absurd of

-- where all is tried at a bound from which the search goes on, another one follows
followed : (once : Bool) (p : Program) (search : Search) (mode : Mode) (sum : SummaryView)
    → IsModeOf once search mode → sum ≡ whole p mode → GoesOn search mode sum
    → IsFollowed p search mode
followed once p (UpTo last) (Bounded bound) sum of is on = (
  has_next once (UpTo last) (Bounded bound) sum of on,
  none_within false p bound (ap (λ (t : SummaryView). t.first_bad) (sym is) ∙ on.none),
  some_exceeds false p bound (ap (λ (t : SummaryView). t.beyond) (sym is) ∙ on.beyond),
)
followed once p (UpTo last) (BoundedOnce bound) sum of is on = (
  has_next once (UpTo last) (BoundedOnce bound) sum of on,
  none_within true p bound (ap (λ (t : SummaryView). t.first_bad) (sym is) ∙ on.none),
  some_exceeds true p bound (ap (λ (t : SummaryView). t.beyond) (sym is) ∙ on.beyond),
)
followed once p (UpTo last) Reduced sum of is on = absurd of
followed once p (UpTo last) ReducedOnce sum of is on = absurd of
followed once p Unbounded (Bounded bound) sum of is on = absurd of
followed once p Unbounded (BoundedOnce bound) sum of is on = absurd of
followed once p Unbounded Reduced sum of is on = absurd (on.more tt)
followed once p Unbounded ReducedOnce sum of is on = absurd (on.more tt)

pub cut_is_reported : (may : Bool) (p : Program) (o : Options) (mode : Mode) (sum : SummaryView)
    (cause : Cause) (finished : Option ℕ) → IsModeOf o.symmetry o.search mode
    → HasItemsOf o.search mode (root_of p) sum
    → IsCause may o.limit sum cause → IsFinishedIn p mode finished
    → IsReport may p o (report_in o mode sum (Incomplete cause finished))
cut_is_reported may p o mode sum cause finished of items why done =
    (refl, refl, go o.search mode of items done)
  where
    cut : (search : Search) (m : Mode) → IsModeOf o.symmetry search m
        → HasItemsOf search m (root_of p) sum → IsCutShort may p search m o.limit sum cause
    cut search m of items = record {
      items = (items.0, items.1, items.2);
      left = λ none. followed o.symmetry p search m sum of
          (split_closed m (root_of p) sum items.0 items.1 (root_within m p) items.2 none)
          (items.3 none);
      why = why;
    }

    -- the mode of a report has equal threads once just where this is asked for
    at : (once : Bool) (search : Search) (mode : Bool → Mode) → o.symmetry ≡ once
        → IsCutShort may p search (mode once) o.limit sum cause
        → IsCutShort may p search (mode o.symmetry) o.limit sum cause
    at once search mode is c =
        subst (λ x. IsCutShort may p search (mode x) o.limit sum cause) (sym is) c

    go : (search : Search) (m : Mode) → IsModeOf o.symmetry search m
        → HasItemsOf search m (root_of p) sum → IsFinishedIn p m finished
        → IsReportFor may p o search (report_in o m sum (Incomplete cause finished))
    go (UpTo last) (Bounded bound) of items done = (
      bound,
      refl,
      (of.1, at false (UpTo last) (λ x. up_to x bound) of.0 (cut (UpTo last) (Bounded bound) of items), done),
    )
    go (UpTo last) (BoundedOnce bound) of items done = (
      bound,
      refl,
      (of.1, at true (UpTo last) (λ x. up_to x bound) of.0 (cut (UpTo last) (BoundedOnce bound) of items), done),
    )
    go Unbounded Reduced of items done =
        (refl, (done, at false Unbounded pruned of (cut Unbounded Reduced of items)))
    go Unbounded ReducedOnce of items done =
        (refl, (done, at true Unbounded pruned of (cut Unbounded ReducedOnce of items)))
    go (UpTo last) Reduced of items done = absurd of
    go (UpTo last) ReducedOnce of items done = absurd of
    go Unbounded (Bounded bound) of items done = absurd of
    go Unbounded (BoundedOnce bound) of items done = absurd of

-- a sum of all is what a search finds, a quick one or not
pub found_of_whole : (quick : Bool) (p : Program) (mode : Mode) (sum : SummaryView)
    → sum ≡ whole p mode → IsFound quick p mode sum
found_of_whole true p mode sum is =
    record { sum = subst (IsBoundedBy sum) is (bounded_itself sum); clean = λ none. is }
found_of_whole false p mode sum is = record { sum = is; clean = λ none. is }

-- the last bound that was finished

pub whole_is_finished : (quick : Bool) (p : Program) (mode : Mode) (sum : SummaryView)
    → IsFound quick p mode sum → sum.first_bad ≡ None → IsFinishedIn p mode (mode_bound mode)
whole_is_finished quick p (Bounded bound) sum found none =
    finished_here false p bound sum (found.clean none) none
whole_is_finished quick p (BoundedOnce bound) sum found none =
    finished_here true p bound sum (found.clean none) none
whole_is_finished quick p Reduced sum found none = refl
whole_is_finished quick p ReducedOnce sum found none = refl

pub below_is_finished : (p : Program) (mode : Mode) (below : Option ℕ) → HasPassed (root_of p) mode
    → IsBoundBelow mode below → IsFinishedIn p mode below
below_is_finished p (Bounded bound) (Some below) passed h =
    finished_below p bound below (program_passed false p bound passed) h
below_is_finished p (Bounded bound) None passed h = h
below_is_finished p (BoundedOnce bound) (Some below) passed h =
    finished_below p bound below (program_passed true p bound passed) h
below_is_finished p (BoundedOnce bound) None passed h = h
below_is_finished p Reduced None passed h = refl
below_is_finished p Reduced (Some below) passed h = absurd h
below_is_finished p ReducedOnce None passed h = refl
below_is_finished p ReducedOnce (Some below) passed h = absurd h

-- a bad schedule of a summary is a complete one
pub found_of_program : (quick : Bool) (p : Program) (mode : Mode) (sum : SummaryView)
    → IsFound quick p mode sum → IsOfProgram p sum.first_bad
found_of_program quick p (Bounded bound) sum found w some =
    (least_within false p bound w
    (sym (same_bad quick sum (whole p (Bounded bound)) found.sum) ∙ some)).bad.0
found_of_program quick p (BoundedOnce bound) sum found w some =
    (least_within true p bound w
    (sym (same_bad quick sum (whole p (BoundedOnce bound)) found.sum) ∙ some)).bad.0
found_of_program quick p Reduced sum found w some =
    (found_first quick false p sum w (end_kind p w) found.sum some refl).bad.0
found_of_program quick p ReducedOnce sum found w some =
    (found_first quick true p sum w (end_kind p w) found.sum some refl).bad.0

-- a book has its items, whether it was thinned or not
pub book_has_items : (b : BookView) (search : Search) → Keeps b
    → (b.open_items ≡ [] → GoesOn search b.mode b.finished)
    → HasItemsOf search b.mode b.of b.finished
book_has_items b search keeps left = go b.dropped keeps.split
  where
    none_after : (xs ys : List ItemView) → xs ++ ys ≡ [] → ys ≡ []
    none_after [] ys e = e
    none_after (x ∷ xs) ys e = absurd cc

    go : (dropped : Bool) → KeepsWhere dropped (with_deferred b keeps.put)
        → HasItemsOf search b.mode b.of b.finished
    go false book = (b.open_items, keeps.put, book.split, left)
    go true thin = (
      thin.gone ++ b.open_items,
      keeps.put,
      thin.split.split,
      λ none. left (none_after thin.gone b.open_items none),
    )

pub cut_at_end : (may : Bool) (p : Program) (o : Options) (b : BookView) (mode : Mode)
    (sum : SummaryView) (cause : Cause) (finished : Option ℕ) → mode ≡ b.mode → sum ≡ b.finished
    → IsAt (root_of p) o b → Keeps b → Ends may o b (Cut cause) → IsFinishedIn p b.mode finished
    → IsReport may p o (report_in o mode sum (Incomplete cause finished))
cut_at_end may p o b mode sum cause finished m s at keeps ends done =
    subst (λ (x : Mode). IsReport may p o (report_in o x sum (Incomplete cause finished))) (sym m)
    (subst (λ (x : SummaryView).
    IsReport may p o (report_in o b.mode x (Incomplete cause finished))) (sym s)
    (cut_is_reported may p o b.mode b.finished cause finished at.of
    (subst (λ (i : ItemView). HasItemsOf o.search b.mode i b.finished) at.is.of
    (book_has_items b o.search keeps ends.1)) ends.0 done))

-- the levels of a search that has ended

last_sum : (may : Bool) (o : Options) (b : BookView) (ending : Ending) → Keeps b
    → b.quick ≡ false → Ends may o b ending
    → IsLastSum may o.search o.limit b.mode b.of (ending_cause ending) b.finished
last_sum may o b Whole keeps quick ends =
    (closed_sum b keeps (never_dropped b keeps quick) ends.0, ends.1)
last_sum may o b (Cut cause) keeps quick ends =
    (ends.0, book_has_items b o.search keeps ends.1)

pub levels_end : (may : Bool) (o : Options) (b : BookView) (ending : Ending)
    (below all : List Level) (last : Level) → Keeps b → IsAt b.of o b → o.quick ≡ false
    → AreBelow b.of b.mode below
    → last ≡ level_at b.mode b.finished (ending_cause ending) → all ≡ below ++ last ∷ []
    → Ends may o b ending → AreLevels may o.search o.limit b.of all
levels_end may o b ending below all last keeps at quick levels is together ends = record {
  passed = below;
  last = last;
  all = together;
  mode = b.mode;
  of = plain o.search b.mode at.of levels;
  below = levels;
  bound = ap (λ (l : Level). l.bound) is;
  sum = subst (λ (l : Level). IsLastSum may o.search o.limit b.mode b.of l.cause l.summary) (sym is)
      (last_sum may o b ending keeps (at.is.quick ∙ quick) ends);
}
  where
    -- where levels are told, all threads are tried
    plain : (search : Search) (mode : Mode) → IsModeOf o.symmetry search mode
        → AreBelow b.of mode below → IsModeOf false search mode
    plain (UpTo last) (Bounded bound) of told = (refl, of.1)
    plain (UpTo last) (BoundedOnce bound) of told = absurd told
    plain (UpTo last) Reduced of told = absurd of
    plain (UpTo last) ReducedOnce of told = absurd of
    plain Unbounded (Bounded bound) of told = absurd of
    plain Unbounded (BoundedOnce bound) of told = absurd of
    plain Unbounded Reduced of told = refl
    plain Unbounded ReducedOnce of told = absurd told

-- those where an item's own prefix exceeds the last bound
pub past_levels_end : (may : Bool) (search : Search) (limit : Option ℕ) (i : ItemView) (end : ℕ)
    (below all : List Level) (last : Level) → IsItem i → search ≡ UpTo end
    → end < preemptions i.program i.prefix → AreBelow i (Bounded end) below
    → last ≡ level_at (Bounded end) (with_beyond nothing true) None → all ≡ below ++ last ∷ []
    → AreLevels may search limit i all
past_levels_end may search limit i end below all last runs to past levels is together = record {
  passed = below;
  last = last;
  all = together;
  mode = Bounded end;
  of = subst (λ (s : Search). IsModeOf false s (Bounded end)) (sym to) (refl, omega arith);
  below = levels;
  bound = here.at;
  sum = subst (λ (c : Option Cause). IsLastSum may search limit (Bounded end) i c last.summary)
      (sym here.cause) (
        here.summary,
        λ on. on.more (subst (λ (s : Search). IsLast s (Bounded end)) (sym to) refl),
      );
}
  where
    here : IsPassedLevel i end last
    here = past_level i end last runs past is
