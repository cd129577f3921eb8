-- Each prefix goes on to a complete schedule without another preemption.
use Rattle.std.proofs.Common.{◌≡◌, ◌≢◌, ℕ, zero, suc, ◌+◌, ◌<◌, ◌≤◌, Bool, true, false, not, ◌&&◌, nat_eq, nat_le, List, [], ◌∷◌, ◌++◌, Option, Some, None, refl, ap, ◌∙◌, arith}
use Rattle.std.{specs.List.Contains, proofs.lemmas.Bool.{and_parts, and_from}}
use Rattle.std.proofs.lemmas.Bool.Decides.{nat_tests}
use Rattle.guest_code.specs.Program.{Program}
use Rattle.semantics.specs.Ends.{is_terminal}
use Rattle.semantics.specs.{Machine.{Snapshot, step, is_enabled, start}, Mask.one_if, Work.work}
use Rattle.semantics.proofs.{ListMembers.{in_contains, contains_in, in_filter}, WorkFalls.work-step}
use Rattle.semantics_schedules.specs.Order.{is_complete}
use Rattle.semantics_schedules.specs.Schedules.{state_after, runs, complete_schedules, schedules_under, schedules_within, begins_with, preempts, preemptions_from, preemptions, last_after, last_of}
use Rattle.semantics_schedules.proofs.ReducedSchedules.{schedules_cut_at}
use Rattle.semantics_schedules.proofs.SchedulesUnderPrefix.{begins_longer}
use Rattle.semantics_schedules.proofs.UnfoldingUnderPrefix.{first_enabled, preemptions_from-append, preemptions-push}

-- a complete schedule from a state, after a step of the one thread or of none, without a preemption
record GoesOn (p : Program) (s : Snapshot) (last : Option ℕ) : Type 0 where
  by : List ℕ
  complete : is_complete p s by ≡ true
  free : preemptions_from p s last by ≡ 0

never_itself : (b : Bool) (t : ℕ) → (b && not (nat_eq t t)) ≡ false
never_itself true t = grind (arith, nat_tests)
never_itself false t = refl

-- where a state isn't over, some thread can step that preempts nobody
record Next (p : Program) (s : Snapshot) (last : Option ℕ) : Type 0 where
  thread : ℕ
  can : is_enabled p s thread ≡ true
  free : preempts p s last thread ≡ false

next_step : (p : Program) (s : Snapshot) (last : Option ℕ) → is_terminal p s ≡ false → Next p s last
next_step p s None more = let first : (t : ℕ) × (is_enabled p s t ≡ true) =
    first_enabled p s more in record { thread = first.0; can = first.1; free = refl }
next_step p s (Some t) more = go (is_enabled p s t) refl
  where
    go : (b : Bool) → is_enabled p s t ≡ b → Next p s (Some t)
    go true e = record { thread = t; can = e; free = never_itself (is_enabled p s t) t }
    go false e = let first : (u : ℕ) × (is_enabled p s u ≡ true) =
        first_enabled p s more in record {
          thread = first.0;
          can = first.1;
          free = ap (λ b. b && not (nat_eq t first.0)) e;
        }

goes_on_up_to : (n : ℕ) (p : Program) (s : Snapshot) (last : Option ℕ) → work p s < n
    → GoesOn p s last
goes_on_up_to zero p s last less = absurd (omega arith)
goes_on_up_to (suc n) p s last less = go (is_terminal p s) refl
    (λ t l. goes_on_up_to n p (step p s t) (Some t) l)
  where
    go : (b : Bool) → is_terminal p s ≡ b →
        ((t : ℕ) → work p (step p s t) < n → GoesOn p (step p s t) (Some t)) → GoesOn p s last
    go true over f = record { by = []; complete = over; free = refl }
    go false more f =
        let next : Next p s last = next_step p s last more in
        let falls : work p (step p s next.thread) < work p s = work-step p s next.thread next.can in
        let rest : GoesOn p (step p s next.thread) (Some next.thread) =
        f next.thread (omega arith) in
        record {
          by = next.thread ∷ rest.by;
          complete = and_from (is_enabled p s next.thread) _ next.can rest.complete;
          free = (λ i. one_if (next.free i) + rest.free i);
        }

goes_on_from : (p : Program) (s : Snapshot) (last : Option ℕ) → GoesOn p s last
goes_on_from p s last = goes_on_up_to (suc (work p s)) p s last (omega arith)

joined : (p : Program) (s : Snapshot) (v w : List ℕ) → runs p s v ≡ true
    → is_complete p (state_after p s v) w ≡ true → is_complete p s (v ++ w) ≡ true
joined p s [] w h k = k
joined p s (t ∷ v) w h k =
    let on = and_parts (is_enabled p s t) (runs p (step p s t) v) h in
    and_from (is_enabled p s t) _ on.0 (joined p (step p s t) v w on.1 k)

pub extends : (p : Program) (prefix : List ℕ) → runs p (start p) prefix ≡ true → (w : List ℕ)
    × Contains (complete_schedules p (start p)) w × (begins_with prefix w ≡ true)
    × (preemptions p w ≡ preemptions p prefix)
extends p prefix h =
    let on : GoesOn p (state_after p (start p) prefix) (last_of prefix) =
    goes_on_from p (state_after p (start p) prefix) (last_of prefix) in
    let a : preemptions p (prefix ++ on.by)
    ≡ preemptions p prefix + preemptions_from p (state_after p (start p) prefix)
    (last_of prefix) on.by = preemptions_from-append p (start p) None prefix on.by in
    let free : preemptions_from p (state_after p (start p) prefix) (last_of prefix) on.by ≡ 0 =
    on.free in (
      prefix ++ on.by,
      in_contains (complete_schedules p (start p)) (prefix ++ on.by)
          (schedules_cut_at p (start p) (prefix ++ on.by)
          (joined p (start p) prefix on.by h on.complete)),
      begins_longer prefix on.by,
      omega (arith, a, free),
    )

pub extends_within : (p : Program) (prefix : List ℕ) (bound : ℕ) → runs p (start p) prefix ≡ true
    → preemptions p prefix ≤ bound → (w : List ℕ) × Contains (schedules_within p prefix bound) w
unfolding schedules_within schedules_under
extends_within p prefix bound h le =
    let e = extends p prefix h in
    let k : preemptions p e.0 ≡ preemptions p prefix = e.3 in (
      e.0,
      in_contains _ e.0 (in_filter (λ w. nat_le (preemptions p w) bound) _ e.0
          (in_filter (begins_with prefix) (complete_schedules p (start p)) e.0
          (contains_in (complete_schedules p (start p)) e.0 e.1) e.2)
          (grind (arith, nat_tests, k, le))),
    )

-- preemptions at the end of a schedule

last_after-push : (last : Option ℕ) (w : List ℕ) (t : ℕ) → last_after last (w ++ t ∷ []) ≡ Some t
last_after-push last [] t = refl
last_after-push last (u ∷ w) t = last_after-push (Some u) w t

pub last_of-push : (w : List ℕ) (t : ℕ) → last_of (w ++ t ∷ []) ≡ Some t
last_of-push w t = last_after-push None w t

-- one more step, where it is known whether it preempts
push_as : (p : Program) (w : List ℕ) (last : Option ℕ) (u : ℕ) (b : Bool) → last_of w ≡ last
    → preempts p (state_after p (start p) w) last u ≡ b
    → preemptions p (w ++ u ∷ []) ≡ preemptions p w + one_if b
push_as p w last u b e h = preemptions-push p w u ∙
    (ap (λ o. preemptions p w + one_if (preempts p (state_after p (start p) w) o u)) e ∙
    ap (λ c. preemptions p w + one_if c) h)

pub push_switch : (p : Program) (w : List ℕ) (t u : ℕ) → last_of w ≡ Some t
    → is_enabled p (state_after p (start p) w) t ≡ true → t ≢ u
    → preemptions p (w ++ u ∷ []) ≡ preemptions p w + 1
push_switch p w t u e h ne = push_as p w (Some t) u true e
    (and_from (is_enabled p (state_after p (start p) w) t) _ h (grind (arith, nat_tests, ne)))

pub push_blocked : (p : Program) (w : List ℕ) (t u : ℕ) → last_of w ≡ Some t
    → is_enabled p (state_after p (start p) w) t ≡ false
    → preemptions p (w ++ u ∷ []) ≡ preemptions p w
push_blocked p w t u e h = let r = push_as p w (Some t) u false e
    (ap (λ b. b && not (nat_eq t u)) h) in omega (arith, r)

pub push_same : (p : Program) (w : List ℕ) (t : ℕ) → last_of w ≡ Some t
    → preemptions p (w ++ t ∷ []) ≡ preemptions p w
push_same p w t e = let r = push_as p w (Some t) t false e
    (never_itself (is_enabled p (state_after p (start p) w) t) t) in omega (arith, r)
