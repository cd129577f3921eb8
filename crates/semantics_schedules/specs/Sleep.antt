-- Independent steps, and what sleep sets leave of all complete schedules. A sleep set holds threads
-- that need not step next: whatever they lead to is met in an earlier schedule too.
use Rattle.std.specs.Prelude.{◌≡◌, ℕ, true, Bool, false, not, ◌&&◌, ◌||◌, nat_eq, nat_lt, List, [], ◌∷◌, filter, Option, Some}
use Rattle.semantics.specs.Accesses.{Access, accesses}
use Rattle.semantics.specs.Accesses.Access.{reads_var, writes_var, writes_mutex, writes_condition, writes_semaphore}
use Rattle.semantics.specs.{Ends.is_terminal, Machine.{Snapshot, step, is_enabled, next_of}}
use Rattle.semantics.specs.declared.state.Action.{Action}
use Rattle.guest_code.specs.Program.{Program}
use Rattle.semantics_schedules.specs.Order.{is_complete, precedes}
use Rattle.semantics_schedules.specs.Schedules.{complete_schedules, state_after}

-- both touch one object, and at least one of the two writes it
abbrev pub conflict : Access → Access → Bool
conflict (reads_var x) (writes_var y) = nat_eq x y
conflict (writes_var x) (reads_var y) = nat_eq x y
conflict (writes_var x) (writes_var y) = nat_eq x y
conflict (writes_mutex m) (writes_mutex n) = nat_eq m n
conflict (writes_condition c) (writes_condition d) = nat_eq c d
conflict (writes_semaphore k) (writes_semaphore l) = nat_eq k l
conflict a b = false

-- it clashes with one of these
abbrev pub conflicts_with_any : Access → List Access → Bool
conflicts_with_any a [] = false
conflicts_with_any a (b ∷ bs) = conflict a b || conflicts_with_any a bs

-- one of the first clashes with one of the second
abbrev pub some_conflict : List Access → List Access → Bool
some_conflict [] bs = false
some_conflict (a ∷ as_) bs = conflicts_with_any a bs || some_conflict as_ bs

-- both are there, and no object is touched by both with one of them writing it
abbrev pub apart : Option Action → Option Action → Bool
apart (Some i) (Some j) = not (some_conflict (accesses i) (accesses j))
apart i j = false

-- the next steps of two different threads are independent: no object is touched by both with one of
-- them writing it
unfoldable pub independent : Program → Snapshot → ℕ → ℕ → Bool
independent p s t v = not (nat_eq t v) && apart (next_of p s t) (next_of p s v)

-- where the threads of Z sleep at a state, v sleeps after a step of t: v is enabled at the state,
-- slept there or was tried before t, and its step is independent of t's
abbrev pub next_sleep_set : Program → Snapshot → (ℕ → Bool) → ℕ → ℕ → Bool
next_sleep_set p s Z t v = is_enabled p s v && ((Z v || nat_lt v t) && independent p s t v)

-- the schedule is complete from a state where the threads of Z sleep, and no step of it is one of a
-- thread that sleeps then
abbrev pub is_kept : Program → Snapshot → (ℕ → Bool) → List ℕ → Bool
is_kept p s Z [] = is_terminal p s
is_kept p s Z (t ∷ w) = is_enabled p s t &&
    (not (Z t) && is_kept p (step p s t) (next_sleep_set p s Z t) w)

-- what sleep sets leave of all complete schedules from a state where the threads of Z sleep, in
-- order
unfoldable pub reduced_schedules : Program → Snapshot → (ℕ → Bool) → List (List ℕ)
reduced_schedules p s Z = filter (is_kept p s Z) (complete_schedules p s)

-- no thread sleeps
abbrev pub none_asleep : ℕ → Bool
none_asleep t = false

-- a complete schedule that comes earlier leads to the same state
abbrev pub IsMetEarlier : Program → Snapshot → List ℕ → Type 0
IsMetEarlier p s w = (v : List ℕ) × (is_complete p s v ≡ true) × (precedes v w ≡ true)
    × (state_after p s v ≡ state_after p s w)

-- a complete schedule that begins with a step of a sleeping thread leads to the same state
abbrev pub IsMetAsleep : Program → Snapshot → (ℕ → Bool) → List ℕ → Type 0
IsMetAsleep p s Z w = (t : ℕ) × (v : List ℕ) × (is_complete p s (t ∷ v) ≡ true) × (Z t ≡ true)
    × (state_after p s (t ∷ v) ≡ state_after p s w)

-- each of two threads is enabled after a step of the other, and both orders lead to one state
pub record BothOrders (p : Program) (s : Snapshot) (t v : ℕ) : Type 0 where
  pub second : is_enabled p (step p s t) v ≡ true
  pub first : is_enabled p (step p s v) t ≡ true
  pub same : step p (step p s t) v ≡ step p (step p s v) t

-- where both threads are enabled, their steps can be taken in either order
abbrev pub CommutesWith : Program → Snapshot → ℕ → ℕ → Type 0
CommutesWith p s t v = is_enabled p s t ≡ true → is_enabled p s v ≡ true → BothOrders p s t v
