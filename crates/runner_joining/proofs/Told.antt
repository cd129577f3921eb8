-- A run that is bad and within a bound is a bad schedule within it.
use Rattle.std.proofs.Common.{◌≡◌, ℕ, ◌≤◌, Bool, true, false, cond, List, refl, ap, ◌∙◌, sym, subst}
use Rattle.std.proofs.Common.{arith, Option, Some, None}
use Rattle.std.proofs.lemmas.Bool.{and_parts, and_from, Decides.nat_tests}
use Rattle.guest_code.specs.Program.{Program}
use Rattle.semantics.specs.{Ends.{is_terminal, kind_of, view_at}, Machine.{Snapshot, start}}
use Rattle.semantics.specs.View.{is_bad}
use Rattle.semantics_schedules.specs.Schedules.{state_after, preemptions}
use Rattle.semantics_schedules.proofs.{SchedulesUnderPrefix.complete_is, StatedLaws.complete}
use Rattle.replay.specs.Run.{Run, IsRunOf, IsFirstBad, run_of}
use Rattle.replay.proofs.FirstBadPlace.{first_bad_fails}
use Rattle.runner_parts.specs.declared.part.Part.{Part}
use Rattle.runner_report.specs.Reports.{IsBadSchedule}
use Rattle.runner_joining.specs.Parts.{IsTrue, IsWithinBound}
use Rattle.runner_joining.specs.inner.Runs.{is_bad_end, is_within_bound, is_bad_run}

few : (p : Program) (bound : Option ℕ) (w : List ℕ) →
    is_within_bound bound (preemptions p w) ≡ true → IsWithinBound p bound w
few p None w h = tt
few p (Some bound) w h = grind (arith, nat_tests, h)

is_within_bound_of : (p : Program) (bound : Option ℕ) (w : List ℕ) → IsWithinBound p bound w →
    is_within_bound bound (preemptions p w) ≡ true
is_within_bound_of p None w h = refl
is_within_bound_of p (Some bound) w h =
    let le : preemptions p w ≤ bound = h in grind (arith, nat_tests, le)

bad_end : (p : Program) (s : Snapshot) → is_bad_end (kind_of p s) ≡ true →
    (is_terminal p s ≡ true) × (is_bad (view_at s).kind ≡ true)
bad_end p s h = go (is_terminal p s) refl h
  where
    go : (b : Bool) → is_terminal p s ≡ b →
        is_bad_end (cond b (Some (view_at s).kind) None) ≡ true →
        (is_terminal p s ≡ true) × (is_bad (view_at s).kind ≡ true)
    go true e k = (e, k)
    go false e k = cc

pub run_bad : (p : Program) (w : List ℕ) (r : Run) (bound : Option ℕ) → IsRunOf p w r →
    is_bad_run r bound ≡ true → IsBadSchedule p w × IsWithinBound p bound w
run_bad p w r bound h e =
    let both = and_parts (is_bad_end (run_of p w).kind) (is_within_bound bound (preemptions p w))
    (subst (λ (x : Run). is_bad_run x bound ≡ true) h.same e) in
    let over = bad_end p (state_after p (start p) w) both.0 in (
      ((complete p (start p) w).0 ((complete_is p (start p) w).1 (h.legal, over.0)), over.1),
      few p bound w both.1,
    )

pub bad_run : (p : Program) (w : List ℕ) (r : Run) (bound : Option ℕ) → IsRunOf p w r →
    IsBadSchedule p w → IsWithinBound p bound w → is_bad_run r bound ≡ true
bad_run p w r bound h bad within =
    let over = ((complete_is p (start p) w).0 ((complete p (start p) w).1 bad.0)).1 in
    subst (λ (x : Run). is_bad_run x bound ≡ true) (sym h.same)
    (and_from (is_bad_end (run_of p w).kind) (is_within_bound bound (preemptions p w))
    (ap (λ b. is_bad_end (cond b (Some (view_at (state_after p (start p) w)).kind) None)) over
    ∙ bad.1) (is_within_bound_of p bound w within))

-- a schedule that doesn't run is none that a part may tell
pub not_run : (p : Program) (x : Part) (w : List ℕ) (k : ℕ) → IsFirstBad p w k →
    x.level.summary.first_bad ≡ Some w → IsTrue p x → false ≡ true
not_run p x w k h e t =
    let over = (complete_is p (start p) w).0 ((complete p (start p) w).1 (t w e).bad.0) in
    sym (first_bad_fails p w k h) ∙ over.0
