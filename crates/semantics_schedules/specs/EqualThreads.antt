-- Equal threads, of which only the lowest has to be tried: which threads are hidden then, and what
-- is left of all complete schedules.
use Rattle.std.specs.Prelude.{◌≡◌, ◌≢◌, ◌<◌, ℕ, zero, suc, Bool, true, false, not, ◌&&◌, ◌||◌, nat_eq, List, [], ◌∷◌, map, filter, Option, Some, None, option_map}
use Rattle.std.specs.{Cmp.Lexicographic.pointwise, Option.option_eq, Ordering.int_eq}
use Rattle.guest_code.specs.{Program.{Program, code_of}, Same.same_instruction}
use Rattle.semantics.specs.Machine.{Snapshot, step, is_enabled, thread_at}
use Rattle.semantics.specs.contracts.state.StatusPartialEq.TheImpl.{eq-value as same-status}
use Rattle.semantics.specs.declared.state.Thread.{Thread}
use Rattle.semantics_schedules.specs.Order.{is_complete, precedes, end_from}
use Rattle.semantics_schedules.specs.Renaming.{swapped, Renamed}
use Rattle.semantics_schedules.specs.Schedules.{complete_schedules, preemptions_from}
use Rattle.semantics_schedules.specs.Sleep.{reduced_schedules}

-- two threads are equal in a state: they have the same code, whatever their names, and swapping
-- them changes nothing there
pub record AreEqual (p : Program) (s : Snapshot) (t u : ℕ) : Type 0 where
  pub code : code_of p t ≡ code_of p u
  pub same : Renamed (swapped t u) s s

-- thread u is lower than t and equal to it, and neither is the thread `last`, if there is one
pub record StandsFor (p : Program) (s : Snapshot) (last : Option ℕ) (u t : ℕ) : Type 0 where
  pub lower : u < t
  pub equal : AreEqual p s u t
  pub neither : (last ≢ Some u) × (last ≢ Some t)

-- The same as tests.

-- both have one code, instruction by instruction
abbrev pub have_same_code : Program → ℕ → ℕ → Bool
have_same_code p t u = pointwise same_instruction (code_of p t) (code_of p u)

-- both are at one place, with the same locals and one status
abbrev pub stand_alike : Thread → Thread → Bool
stand_alike a b = nat_eq a.pc b.pc
    && (pointwise int_eq a.locals b.locals && same-status.it a.status b.status)

-- swapping them changes no owner of a mutex, no queue of a condition and no thread
abbrev pub is_unchanged : Snapshot → ℕ → ℕ → Bool
is_unchanged s t u =
    pointwise (option_eq nat_eq) (map (option_map (swapped t u)) s.owners) s.owners
    && (pointwise (pointwise nat_eq) (map (map (swapped t u)) s.queues) s.queues
    && stand_alike (thread_at s t) (thread_at s u))

-- they are equal
unfoldable pub are_equal : Program → Snapshot → ℕ → ℕ → Bool
are_equal p s t u = have_same_code p t u && is_unchanged s t u

-- t is the thread `last`
abbrev pub is_last : Option ℕ → ℕ → Bool
is_last None t = false
is_last (Some last) t = nat_eq last t

-- some number below n passes the test
abbrev pub any_below : (ℕ → Bool) → ℕ → Bool
any_below test zero = false
any_below test (suc n) = test n || any_below test n

-- thread u is enabled and equal to t, and neither is the thread `last`
abbrev pub is_stand_in : Program → Snapshot → Option ℕ → ℕ → ℕ → Bool
is_stand_in p s last t u =
    is_enabled p s u && (are_equal p s u t && not (is_last last u || is_last last t))

-- thread t is hidden: a lower one that is enabled stands for it
unfoldable pub is_hidden : Program → Snapshot → Option ℕ → ℕ → Bool
is_hidden p s last t = any_below (is_stand_in p s last t) t

-- Which threads are hidden at a state, after a step of the thread `last` or of none.

abbrev pub Hiding : Type 0
Hiding = Snapshot → Option ℕ → ℕ → Bool

-- each thread for which another one stands, the last one too: `is_hidden` spares that one, since
-- within a bound to go on with it costs no preemption
abbrev pub hides_equal : Program → Hiding
hides_equal p = λ s last t. is_hidden p s None t

-- no step of a schedule that goes on from a state is one of a thread that is hidden then
abbrev pub is_unhidden : Hiding → Program → Snapshot → Option ℕ → List ℕ → Bool
is_unhidden H p s last [] = true
is_unhidden H p s last (t ∷ w) = not (H s last t) && is_unhidden H p (step p s t) (Some t) w

-- What is left.

-- with a bound: the complete schedules from a state, after a step of the thread `last` or of none,
-- none of whose steps is one of a hidden thread
unfoldable pub complete_once : Program → Snapshot → Option ℕ → List (List ℕ)
complete_once p s last = filter (is_unhidden (is_hidden p) p s last) (complete_schedules p s)

-- without a bound: of those that sleep sets leave where the threads of Z sleep
unfoldable pub reduced_once : Program → Snapshot → (ℕ → Bool) → List (List ℕ)
reduced_once p s Z = filter (is_unhidden (hides_equal p) p s None) (reduced_schedules p s Z)

-- Any hiding that hides only what another thread stands for.

-- the last thread too
abbrev pub HidesEqual : Program → Hiding → Type 0
HidesEqual p H = (s : Snapshot) (last : Option ℕ) (t : ℕ) → H s last t ≡ true
    → (u : ℕ) × StandsFor p s None u t

-- but for the last thread
abbrev pub HidesOthers : Program → Hiding → Type 0
HidesOthers p H = (s : Snapshot) (last : Option ℕ) (t : ℕ) → H s last t ≡ true
    → (u : ℕ) × StandsFor p s last u t

-- a complete schedule that comes earlier has the end view of this one
abbrev pub EndsEarlier : Program → Snapshot → List ℕ → Type 0
EndsEarlier p s w = (v : List ℕ) × (is_complete p s v ≡ true) × (precedes v w ≡ true)
    × (end_from p s v ≡ end_from p s w)

-- and as many preemptions
abbrev pub EndsEarlierWithin : Program → Snapshot → Option ℕ → List ℕ → Type 0
EndsEarlierWithin p s last w = (v : List ℕ) × (is_complete p s v ≡ true)
    × (precedes v w ≡ true) × (end_from p s v ≡ end_from p s w)
    × (preemptions_from p s last v ≡ preemptions_from p s last w)

-- a complete schedule that begins with a step of a sleeping thread has the end view of this one
abbrev pub EndsAsleep : Program → Snapshot → (ℕ → Bool) → List ℕ → Type 0
EndsAsleep p s Z w = (t : ℕ) × (v : List ℕ) × (is_complete p s (t ∷ v) ≡ true)
    × (Z t ≡ true) × (end_from p s (t ∷ v) ≡ end_from p s w)
