-- What steps on conditions and semaphores do.
use Rattle.std.proofs.Common.{◌≡◌, ◌≢◌, ◌↔◌, ◌+◌, ◌-◌, ◌<◌, ℕ, Bool, true, false, cond, nat_lt, List, [], ◌∷◌, length, inl, get_or, refl, ap, ◌∙◌, sym, subst, arith, get_or-set_same, get_or-set_other}
use Rattle.std.proofs.lemmas.Bool.Decides.{nat_tests}
use Rattle.guest_code.specs.{Program.{Program, code_of}, declared.limits.TheConstants.COUNT}
use Rattle.semantics.specs.Effects.{IsAboutTo, RunsOn, StopsFull}
use Rattle.semantics.specs.Machine.{Snapshot, step, is_enabled, can_do, thread_at, queue_of, count_of, missing_thread, threads_to_wake, wake, queue_after, count_after, counter_after, is_full, resumed, with_status}
use Rattle.semantics.specs.Waiters.{In, HasWaiters}
use Rattle.semantics.specs.declared.state.Action.TheVariants.{OnCondition, OnSemaphore}
use Rattle.semantics.specs.declared.state.ConditionAction.TheVariants.{Signal as Signals, Broadcast as Broadcasts}
use Rattle.semantics.specs.declared.state.SemaphoreAction.{SemaphoreAction}
use Rattle.semantics.specs.declared.state.SemaphoreAction.TheVariants.{Acquire as Acquires, Release as Releases}
use Rattle.semantics.specs.declared.state.Status.TheVariants.{Woken, Stopped}
use Rattle.semantics.specs.declared.state.{Stop.TheVariants.SemFull, Thread.Thread}
use Rattle.semantics.proofs.{QueuesHoldWaiters.called_wake, StepFrame.{step_is, set_thread}}

-- conditions

module _ (p : Program) (s : Snapshot) (t c : ℕ) where
  pub signal_queue : (u : ℕ) (us : List ℕ) → IsAboutTo p s t (OnCondition c Signals)
      → c < length s.queues → queue_of s c ≡ u ∷ us → queue_of (step p s t) c ≡ us
  signal_queue u us e l h = ap (λ (z : Snapshot). queue_of z c) (step_is p s t _ e)
      ∙ (get_or-set_same s.queues c _ [] l ∙ ap (queue_after Signals) h)

  pub broadcast_queue : IsAboutTo p s t (OnCondition c Broadcasts)
      → c < length s.queues → queue_of (step p s t) c ≡ []
  broadcast_queue e l = ap (λ (z : Snapshot). queue_of z c) (step_is p s t _ e)
      ∙ get_or-set_same s.queues c _ [] l

  pub first_woken : (u : ℕ) (us : List ℕ) → HasWaiters s
      → IsAboutTo p s t (OnCondition c Signals) → queue_of s c ≡ u ∷ us
      → (thread_at (step p s t) u).status ≡ Woken
  first_woken u us w e h = called_wake p s t u c Signals w e
      (subst (λ q. In (threads_to_wake Signals q) u) (sym h) (inl refl))

  -- a thread other than t after a signal, by the queue before it
  others_then : (queue : List ℕ) (v : ℕ) → IsAboutTo p s t (OnCondition c Signals)
      → queue_of s c ≡ queue → v ≢ t → thread_at (step p s t) v
      ≡ get_or (wake c (threads_to_wake Signals queue) s.threads) v missing_thread
  others_then queue v e h ne = ap (λ (z : Snapshot). thread_at z v) (step_is p s t _ e)
      ∙ (get_or-set_other (wake c (threads_to_wake Signals (queue_of s c)) s.threads) t v _ _ ne
      ∙ ap (λ q. get_or (wake c (threads_to_wake Signals q) s.threads) v missing_thread) h)

  pub none_woken : (v : ℕ) → IsAboutTo p s t (OnCondition c Signals)
      → queue_of s c ≡ [] → v ≢ t → thread_at (step p s t) v ≡ thread_at s v
  none_woken v e h ne = others_then [] v e h ne

  pub others_wait_on : (u : ℕ) (us : List ℕ) (v : ℕ) → IsAboutTo p s t (OnCondition c Signals)
      → queue_of s c ≡ u ∷ us → v ≢ t → v ≢ u → thread_at (step p s t) v ≡ thread_at s v
  others_wait_on u us v e h ne other = others_then (u ∷ us) v e h ne
      ∙ get_or-set_other s.threads u v _ missing_thread other

-- semaphores

not_full : (count : ℕ) → count ≢ COUNT → is_full count ≡ false
not_full count ne = grind (arith, nat_tests, ne)

full : (count : ℕ) → count ≡ COUNT → is_full count ≡ true
full count e = grind (arith, nat_tests, e)

some_left : (count : ℕ) → (nat_lt 0 count ≡ true) ↔ (0 < count)
some_left count = (λ h. to h, λ h. from h)
  where
    to : nat_lt 0 count ≡ true → 0 < count
    to h = grind (arith, nat_tests, h)

    from : 0 < count → nat_lt 0 count ≡ true
    from h = grind (arith, nat_tests, h)

module _ (p : Program) (s : Snapshot) (t k : ℕ) where
  count_then : (d : SemaphoreAction) → IsAboutTo p s t (OnSemaphore k d) → k < length s.counts
      → count_of (step p s t) k ≡ count_after d (count_of s k)
  count_then d e l = ap (λ (z : Snapshot). count_of z k) (step_is p s t _ e)
      ∙ get_or-set_same s.counts k _ 0 l

  thread_then : (d : SemaphoreAction) → IsAboutTo p s t (OnSemaphore k d)
      → thread_at (step p s t) t ≡ counter_after d (code_of p t) (count_of s k) (thread_at s t)
  thread_then d e = ap (λ (z : Snapshot). thread_at z t) (step_is p s t _ e)
      ∙ set_thread p s t _ _ e

  pub acquire_enabled : IsAboutTo p s t (OnSemaphore k Acquires)
      → (is_enabled p s t ≡ true) ↔ (0 < count_of s k)
  acquire_enabled e = (λ h. (some_left _).0 (sym same ∙ h), λ h. same ∙ (some_left _).1 h)
    where
      same : is_enabled p s t ≡ nat_lt 0 (count_of s k)
      same = ap (can_do s) e

  pub acquire_count : IsAboutTo p s t (OnSemaphore k Acquires)
      → k < length s.counts → count_of (step p s t) k ≡ count_of s k - 1
  acquire_count e l = count_then Acquires e l

  pub acquire_thread : IsAboutTo p s t (OnSemaphore k Acquires) → RunsOn p s t
  acquire_thread e = thread_then Acquires e

  pub release_count : IsAboutTo p s t (OnSemaphore k Releases) → k < length s.counts
      → count_of s k ≢ COUNT → count_of (step p s t) k ≡ count_of s k + 1
  release_count e l ne = count_then Releases e l
      ∙ ap (λ b. cond b (count_of s k) (count_of s k + 1)) (not_full (count_of s k) ne)

  -- the thread after a release, where the semaphore is full or not
  releaser : Bool → Thread
  releaser is_full = cond is_full (with_status (thread_at s t) (Stopped SemFull))
      (resumed (code_of p t) (thread_at s t))

  pub release_thread : IsAboutTo p s t (OnSemaphore k Releases)
      → count_of s k ≢ COUNT → RunsOn p s t
  unfolding releaser
  release_thread e ne = thread_then Releases e ∙ ap releaser (not_full (count_of s k) ne)

  pub full_count : IsAboutTo p s t (OnSemaphore k Releases) → k < length s.counts
      → count_of s k ≡ COUNT → count_of (step p s t) k ≡ COUNT
  full_count e l h = count_then Releases e l
      ∙ (ap (λ b. cond b (count_of s k) (count_of s k + 1)) (full (count_of s k) h) ∙ h)

  pub full_stops : IsAboutTo p s t (OnSemaphore k Releases)
      → count_of s k ≡ COUNT → StopsFull p s t
  unfolding releaser
  full_stops e h = ap (λ (th : Thread). th.status)
      (thread_then Releases e ∙ ap releaser (full (count_of s k) h))
