-- What steps do with mutexes, and what the threads that are over keep.
use Rattle.std.proofs.Common.{◌≡◌, ◌≢◌, ◌↔◌, ◌<◌, inl, inr, ℕ, Bool, true, false, cond, nat_eq, List, [], ◌∷◌, ◌++◌, length, Option, Some, None, slice_get, get_or, refl, ap, ◌∙◌, sym, arith, get_or-set_same, get_or-set_other}
use Rattle.std.proofs.lemmas.{Bool.cases_lt, Bool.Decides.nat_tests, List.get_or_past}
use Rattle.guest_code.specs.{Program.{Program, code_of}, declared.program.Instruction.Instruction}
use Rattle.semantics.specs.Effects.{IsAboutTo, RunsOn, StopsNotHeld, IsOver}
use Rattle.semantics.specs.Machine.{Snapshot, acts, step, is_enabled, can_do, next_of, action_at, thread_at, missing_thread, owner_of, queue_of, with_status, resumed, is_free, owns, mutex_allows, given_back, owner_after, taker_after, waiter_after, woken, woken_status, wake}
use Rattle.semantics.specs.declared.state.Action.{Action}
use Rattle.semantics.specs.declared.state.Action.TheVariants.{OnVariable, OnMutex, Wait as Waits, OnCondition, OnSemaphore}
use Rattle.semantics.specs.declared.state.MutexAction.{MutexAction}
use Rattle.semantics.specs.declared.state.MutexAction.TheVariants.{Lock as Locks, Unlock as Unlocks, Retake as Retakes}
use Rattle.semantics.specs.declared.state.Status.TheVariants.{Waiting, Stopped}
use Rattle.semantics.specs.declared.state.{Stop.TheVariants.NotHeld, Thread.Thread}
use Rattle.semantics.proofs.{StepFrame.{set_unchanged, step_is, set_thread}, Waking.wake-get}
use Rattle.semantics.proofs.WorkFalls.{Moves, moves}

-- owners

not_owned : (t : ℕ) (owner : Option ℕ) → owner ≢ Some t → owns t owner ≡ false
not_owned t None ne = refl
not_owned t (Some u) ne = differ (λ e. ne (ap (λ v. Some v) (sym e)))
  where
    differ : t ≢ u → nat_eq t u ≡ false
    differ h = grind (arith, nat_tests, h)

is_owned : (t : ℕ) (owner : Option ℕ) → owner ≡ Some t → owns t owner ≡ true
is_owned t owner e = ap (owns t) e ∙ itself
  where
    itself : nat_eq t t ≡ true
    itself = grind (arith, nat_tests)

kept_by_others : (t : ℕ) (owner : Option ℕ) → owner ≢ Some t → given_back t owner ≡ owner
kept_by_others t owner ne = ap (λ b. cond b None owner) (not_owned t owner ne)

given_by_owner : (t : ℕ) (owner : Option ℕ) → owner ≡ Some t → given_back t owner ≡ None
given_by_owner t owner e = ap (λ b. cond b None owner) (is_owned t owner e)

-- a mutex that somebody owns is one of the state's
owned_below : (s : Snapshot) (m u : ℕ) → owner_of s m ≡ Some u → m < length s.owners
owned_below s m u e = elim (cases_lt m (length s.owners)) [
  | inl l ↦ l
  | inr g ↦ (let f : owner_of s m ≡ None = get_or_past s.owners m None g in cc)
]

free_is : (owner : Option ℕ) → (is_free owner ≡ true) ↔ (owner ≡ None)
free_is None = (λ h. refl, λ h. refl)
free_is (Some u) = (λ h. cc, λ h. cc)

module _ (p : Program) (s : Snapshot) (t m : ℕ) where
  abbrev IsMine : Type 0
  IsMine = owner_of s m ≡ Some t

  abbrev IsNotMine : Type 0
  IsNotMine = owner_of s m ≢ Some t

  -- every step on a mutex alone

  owner_then : (d : MutexAction) → IsAboutTo p s t (OnMutex m d) → m < length s.owners
      → owner_of (step p s t) m ≡ owner_after d t (owner_of s m)
  owner_then d e l = ap (λ (z : Snapshot). owner_of z m) (step_is p s t _ e)
      ∙ get_or-set_same s.owners m _ None l

  thread_then : (d : MutexAction) → IsAboutTo p s t (OnMutex m d)
      → thread_at (step p s t) t ≡ taker_after d (code_of p t) t (owner_of s m) (thread_at s t)
  thread_then d e = ap (λ (z : Snapshot). thread_at z t) (step_is p s t _ e)
      ∙ set_thread p s t _ _ e

  -- unlocking

  -- the thread after an unlock, where it owns the mutex or not
  unlocker : Bool → Thread
  unlocker mine = cond mine (resumed (code_of p t) (thread_at s t))
      (with_status (thread_at s t) (Stopped NotHeld))

  pub unlock_frees : IsAboutTo p s t (OnMutex m Unlocks) → IsMine → owner_of (step p s t) m ≡ None
  unlock_frees e own = owner_then Unlocks e (owned_below s m t own)
      ∙ given_by_owner t (owner_of s m) own

  pub unlock_runs_on : IsAboutTo p s t (OnMutex m Unlocks) → IsMine → RunsOn p s t
  unfolding unlocker
  unlock_runs_on e own = thread_then Unlocks e ∙ ap unlocker (is_owned t (owner_of s m) own)

  pub unlock_leaves : IsAboutTo p s t (OnMutex m Unlocks) → IsNotMine
      → owner_of (step p s t) m ≡ owner_of s m
  unlock_leaves e ne = ap (λ (z : Snapshot). owner_of z m) (step_is p s t _ e)
      ∙ set_unchanged s.owners m m _ None (λ f. kept_by_others t (owner_of s m) ne)

  pub unlock_stops : IsAboutTo p s t (OnMutex m Unlocks) → IsNotMine → StopsNotHeld p s t
  unfolding unlocker
  unlock_stops e ne = ap (λ (th : Thread). th.status)
      (thread_then Unlocks e ∙ ap unlocker (not_owned t (owner_of s m) ne))

  -- waiting

  module _ (c : ℕ) (e : IsAboutTo p s t (Waits c m)) where
    waits_thread : thread_at (step p s t) t ≡ waiter_after c t (owner_of s m) (thread_at s t)
    waits_thread = ap (λ (z : Snapshot). thread_at z t) (step_is p s t _ e) ∙ set_thread p s t _ _ e

    -- the thread's status and the queue after a wait, where it owns the mutex or not
    waiter : Bool → Thread
    waiter mine = cond mine (with_status (thread_at s t) (Waiting c))
        (with_status (thread_at s t) (Stopped NotHeld))

    joined : Bool → List ℕ
    joined mine = cond mine (queue_of s c ++ t ∷ []) (queue_of s c)

    pub wait_frees : IsMine → owner_of (step p s t) m ≡ None
    wait_frees own = ap (λ (z : Snapshot). owner_of z m) (step_is p s t _ e)
        ∙ (get_or-set_same s.owners m _ None (owned_below s m t own)
        ∙ given_by_owner t (owner_of s m) own)

    pub wait_waits : IsMine → (thread_at (step p s t) t).status ≡ Waiting c
    unfolding waiter
    wait_waits own = ap (λ (th : Thread). th.status)
        (waits_thread ∙ ap waiter (is_owned t (owner_of s m) own))

    pub wait_joins : IsMine → c < length s.queues → queue_of (step p s t) c ≡ queue_of s c ++ t ∷ []
    unfolding joined
    wait_joins own l = ap (λ (z : Snapshot). queue_of z c) (step_is p s t _ e)
        ∙ (get_or-set_same s.queues c _ [] l ∙ ap joined (is_owned t (owner_of s m) own))

    pub wait_leaves : IsNotMine → owner_of (step p s t) m ≡ owner_of s m
    wait_leaves ne = ap (λ (z : Snapshot). owner_of z m) (step_is p s t _ e)
        ∙ set_unchanged s.owners m m _ None (λ f. kept_by_others t (owner_of s m) ne)

    pub wait_leaves_queue : IsNotMine → queue_of (step p s t) c ≡ queue_of s c
    unfolding joined
    wait_leaves_queue ne = ap (λ (z : Snapshot). queue_of z c) (step_is p s t _ e)
        ∙ set_unchanged s.queues c c _ [] (λ f. ap joined (not_owned t (owner_of s m) ne))

    pub wait_stops : IsNotMine → StopsNotHeld p s t
    unfolding waiter
    wait_stops ne = ap (λ (th : Thread). th.status)
        (waits_thread ∙ ap waiter (not_owned t (owner_of s m) ne))

  -- locking, and taking again

  pub lock_enabled : (d : MutexAction) → d ≢ Unlocks → IsAboutTo p s t (OnMutex m d)
      → (is_enabled p s t ≡ true) ↔ (owner_of s m ≡ None)
  lock_enabled d ne e = (λ h. (free d ne).0 (sym same ∙ h), λ h. same ∙ (free d ne).1 h)
    where
      same : is_enabled p s t ≡ mutex_allows d (owner_of s m)
      same = ap (can_do s) e

      free : (d : MutexAction) → d ≢ Unlocks
          → (mutex_allows d (owner_of s m) ≡ true) ↔ (owner_of s m ≡ None)
      free Locks ne = free_is (owner_of s m)
      free Unlocks ne = absurd (ne refl)
      free Retakes ne = free_is (owner_of s m)

  pub lock_owns : (d : MutexAction) → d ≢ Unlocks → IsAboutTo p s t (OnMutex m d)
      → m < length s.owners → owner_of (step p s t) m ≡ Some t
  lock_owns d ne e l = owner_then d e l ∙ to d ne
    where
      to : (d : MutexAction) → d ≢ Unlocks → owner_after d t (owner_of s m) ≡ Some t
      to Locks ne = refl
      to Unlocks ne = absurd (ne refl)
      to Retakes ne = refl

-- a mutex that is owned keeps its owner under a step of another thread

not_also : (t u : ℕ) (owner : Option ℕ) → owner ≡ Some u → t ≢ u → owner ≢ Some t
not_also t u owner e ne f = ne (let g : t ≡ u = cc in g)

not_taken : (d : MutexAction) (t u : ℕ) (owner : Option ℕ)
    → owner ≡ Some u → t ≢ u → mutex_allows d owner ≡ true → owner_after d t owner ≡ owner
not_taken Locks t u owner e ne h = let f : is_free owner ≡ false = ap is_free e in cc
not_taken Unlocks t u owner e ne h = kept_by_others t owner (not_also t u owner e ne)
not_taken Retakes t u owner e ne h = let f : is_free owner ≡ false = ap is_free e in cc

pub owner_stays : (p : Program) (s : Snapshot) (t u m : ℕ)
    → is_enabled p s t ≡ true → owner_of s m ≡ Some u → t ≢ u → owner_of (step p s t) m ≡ Some u
owner_stays p s t u m h own ne = at (next_of p s t) h ∙ own
  where
    same : (n : ℕ) → n ≡ m → owner_of s n ≡ Some u
    same n e = ap (owner_of s) e ∙ own

    at : (o : Option Action) → can_do s o ≡ true
        → owner_of (acts p s t (thread_at s t) o) m ≡ owner_of s m
    at (Some (OnVariable x d)) k = refl
    at (Some (OnMutex n d)) k = set_unchanged s.owners n m _ None (λ e.
        not_taken d t u (owner_of s n) (same n e) ne k ∙ ap (owner_of s) e)
    at (Some (Waits c n)) k = set_unchanged s.owners n m _ None (λ e.
        kept_by_others t (owner_of s n) (not_also t u (owner_of s n) (same n e) ne)
        ∙ ap (owner_of s) e)
    at (Some (OnCondition c d)) k = refl
    at (Some (OnSemaphore l d)) k = refl
    at None k = refl

-- a thread that is over takes no step and stays as it is

over_idle : (p : Program) (s : Snapshot) (u : ℕ) → IsOver (thread_at s u) → is_enabled p s u ≡ false
over_idle p s u over = go (slice_get (code_of p u) (thread_at s u).pc) over
  where
    go : (at : Option Instruction)
        → IsOver (thread_at s u) → can_do s (action_at (thread_at s u).status at) ≡ false
    go at (inl a) = ap (λ status. can_do s (action_at status at)) a.1
    go at (inr e) = ap (λ status. can_do s (action_at status at)) e

over_asleep : (c : ℕ) (th : Thread) → IsOver th → woken c th ≡ th
over_asleep c th over = λ i. with_status th (same over i)
  where
    same : IsOver th → woken_status c th.status ≡ th.status
    same (inl a) = ap (woken_status c) a.1 ∙ sym a.1
    same (inr e) = ap (woken_status c) e ∙ sym e

pub over_same : (p : Program) (s : Snapshot) (t u : ℕ) → is_enabled p s t ≡ true → t ≢ u
    → IsOver (thread_at s u) → thread_at (step p s t) u ≡ thread_at s u
over_same p s t u h ne over =
    let m : Moves p s t = moves p s t h in
    let woke : List Thread = wake m.condition m.threads_to_wake s.threads in
    let asleep = over_asleep m.condition (thread_at s u) over in
    ap (λ ths. get_or ths u missing_thread) m.threads
    ∙ (get_or-set_other woke t u m.to missing_thread (λ e. ne (sym e))
    ∙ wake-get m.condition m.threads_to_wake u s.threads asleep)

pub over_other : (p : Program) (s : Snapshot) (t u : ℕ)
    → is_enabled p s t ≡ true → IsOver (thread_at s u) → t ≢ u
over_other p s t u h over e =
    let f : is_enabled p s t ≡ is_enabled p s u = ap (is_enabled p s) e in
    let g : is_enabled p s u ≡ false = over_idle p s u over in
    cc
