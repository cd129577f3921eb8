-- What a step leaves of the objects that it doesn't write, and of other threads.
use Rattle.std.proofs.Common.{◌≡◌, ◌≢◌, ◌<◌, ◌⊎◌, inl, inr, ℕ, pos, zero, suc, true, false, cond, nat_eq, List, [], ◌∷◌, length, Some, None, get_or, set, refl, ap, ◌∙◌, sym, subst, arith, get_or-set_same, get_or-set_other}
use Rattle.std.proofs.lemmas.{Bool.{cases_lt, cases_order}, List.{set-get_or, get_or_past}}
use Rattle.guest_code.specs.Program.{Program}
use Rattle.semantics.specs.Accesses.{Writes}
use Rattle.semantics.specs.Accesses.Access.{writes_var, writes_mutex, writes_condition, writes_semaphore}
use Rattle.semantics.specs.Accesses.Object.{variable, mutex, condition, semaphore}
use Rattle.semantics.specs.Effects.{IsAboutTo, WasWoken, IsLeft}
use Rattle.semantics.specs.Machine.{Snapshot, acts, step, is_enabled, next_of, thread_at, missing_thread, value_of, owner_of, queue_of, count_of, var_after, woken, woken_status, wake}
use Rattle.semantics.specs.declared.state.Action.{Action}
use Rattle.semantics.specs.declared.state.Action.TheVariants.{OnVariable, OnMutex, Wait as Waits, OnCondition, OnSemaphore}
use Rattle.semantics.specs.declared.state.Status.{Status}
use Rattle.semantics.specs.declared.state.Status.TheVariants.{Running, Waiting, Woken, Ended, Stopped}
use Rattle.semantics.specs.declared.state.{Thread.Thread, VariableAction.VariableAction}
use Rattle.semantics.specs.declared.state.VariableAction.TheVariants.{Load as Loads, Store as Stores, Add as Adds, Cas as Swaps}
use Rattle.semantics.proofs.WorkFalls.{Moves, moves}

-- a write that leaves a place as it is
pub set_unchanged : {A : Type 0} (xs : List A) (n m : ℕ) (v d : A)
    → (n ≡ m → v ≡ get_or xs m d) → get_or (set xs n v) m d ≡ get_or xs m d
set_unchanged {A} xs n m v d same = go (cases_order n m)
  where
    go : (n ≡ m) ⊎ ((n < m) ⊎ (m < n)) → get_or (set xs n v) m d ≡ get_or xs m d
    go (inl e) = ap (λ k. get_or (set xs k v) m d) e
        ∙ (ap (λ z. get_or (set xs m z) m d) (same e)
        ∙ ap (λ ys. get_or ys m d) (set-get_or xs m d))
    go (inr (inl l)) = get_or-set_other xs n m v d (omega arith)
    go (inr (inr l)) = get_or-set_other xs n m v d (omega arith)

module _ (p : Program) (s : Snapshot) (t : ℕ) where
  -- a thread that is about to do something is one of the state's
  pub about_below : (a : Action) → IsAboutTo p s t a → t < length s.threads
  about_below a e = elim (cases_lt t (length s.threads)) [
    | inl l ↦ l
    | inr g ↦ (
        let f : next_of p s t ≡ None = rw (get_or_past s.threads t missing_thread g) refl in
        cc)
  ]

  -- the step, with what it does written out
  pub step_is : (a : Action) → IsAboutTo p s t a → step p s t ≡ acts p s t (thread_at s t) (Some a)
  step_is a e = ap (acts p s t (thread_at s t)) e

  -- the thread that a step sets
  pub set_thread : (a : Action) (th : Thread)
      → IsAboutTo p s t a → get_or (set s.threads t th) t missing_thread ≡ th
  set_thread a th e = get_or-set_same s.threads t th missing_thread (about_below a e)

-- a step changes no object that it doesn't write

module _ (p : Program) (s : Snapshot) (t : ℕ) (th : Thread) where
  acts_variables : (a : Action) (x : ℕ)
      → (Writes a (variable x) → ⊥) → value_of (acts p s t th (Some a)) x ≡ value_of s x
  acts_variables (OnVariable y d) x clear = set_unchanged s.vars y x _ (pos 0) (kept d clear)
    where
      kept : (d : VariableAction) → (Writes (OnVariable y d) (variable x) → ⊥)
          → y ≡ x → var_after d th.locals (value_of s y) ≡ value_of s x
      kept (Loads r) clear e = ap (value_of s) e
      kept (Stores a) clear e = absurd (clear (0, omega arith, ap writes_var e))
      kept (Adds r a) clear e = absurd (clear (0, omega arith, ap writes_var e))
      kept (Swaps r a b) clear e = absurd (clear (0, omega arith, ap writes_var e))
  acts_variables a x clear = refl

  acts_mutexes : (a : Action) (m : ℕ)
      → (Writes a (mutex m) → ⊥) → owner_of (acts p s t th (Some a)) m ≡ owner_of s m
  acts_mutexes (OnMutex n d) m clear =
      set_unchanged s.owners n m _ None (λ e. absurd (clear (0, omega arith, ap writes_mutex e)))
  acts_mutexes (Waits c n) m clear =
      set_unchanged s.owners n m _ None (λ e. absurd (clear (1, omega arith, ap writes_mutex e)))
  acts_mutexes a m clear = refl

  acts_conditions : (a : Action) (c : ℕ)
      → (Writes a (condition c) → ⊥) → queue_of (acts p s t th (Some a)) c ≡ queue_of s c
  acts_conditions (Waits d n) c clear =
      set_unchanged s.queues d c _ [] (λ e. absurd (clear (0, omega arith, ap writes_condition e)))
  acts_conditions (OnCondition d f) c clear =
      set_unchanged s.queues d c _ [] (λ e. absurd (clear (0, omega arith, ap writes_condition e)))
  acts_conditions a c clear = refl

  acts_semaphores : (a : Action) (k : ℕ)
      → (Writes a (semaphore k) → ⊥) → count_of (acts p s t th (Some a)) k ≡ count_of s k
  acts_semaphores (OnSemaphore l d) k clear =
      set_unchanged s.counts l k _ 0 (λ e. absurd (clear (0, omega arith, ap writes_semaphore e)))
  acts_semaphores a k clear = refl

module _ (p : Program) (s : Snapshot) (t : ℕ) where
  pub step_variables : (x : ℕ) (a : Action)
      → IsAboutTo p s t a → (Writes a (variable x) → ⊥) → value_of (step p s t) x ≡ value_of s x
  step_variables x a e clear = ap (λ (z : Snapshot). value_of z x) (step_is p s t a e)
      ∙ acts_variables p s t (thread_at s t) a x clear

  pub step_mutexes : (m : ℕ) (a : Action)
      → IsAboutTo p s t a → (Writes a (mutex m) → ⊥) → owner_of (step p s t) m ≡ owner_of s m
  step_mutexes m a e clear = ap (λ (z : Snapshot). owner_of z m) (step_is p s t a e)
      ∙ acts_mutexes p s t (thread_at s t) a m clear

  pub step_conditions : (c : ℕ) (a : Action)
      → IsAboutTo p s t a → (Writes a (condition c) → ⊥) → queue_of (step p s t) c ≡ queue_of s c
  step_conditions c a e clear = ap (λ (z : Snapshot). queue_of z c) (step_is p s t a e)
      ∙ acts_conditions p s t (thread_at s t) a c clear

  pub step_semaphores : (k : ℕ) (a : Action)
      → IsAboutTo p s t a → (Writes a (semaphore k) → ⊥) → count_of (step p s t) k ≡ count_of s k
  step_semaphores k a e clear = ap (λ (z : Snapshot). count_of z k) (step_is p s t a e)
      ∙ acts_semaphores p s t (thread_at s t) a k clear

-- other threads are left as they are, or woken

abbrev Woke : Status → Status → Type 0
Woke old new = (new ≡ old) ⊎ WasWoken old new

left_woken : (c : ℕ) (th : Thread) → IsLeft th (woken c th)
left_woken c th = record { pc = refl; locals = refl; status = of th.status }
  where
    of : (status : Status) → Woke status (woken_status c status)
    of Running = inl refl
    of (Waiting d) = elim (nat_eq c d) as (λ b. Woke (Waiting d) (cond b Woken (Waiting d))) [
      | true ↦ inr (d, refl, refl)
      | false ↦ inl refl
    ]
    of Woken = inl refl
    of Ended = inl refl
    of (Stopped why) = inl refl

left_itself : (th : Thread) → IsLeft th th
left_itself th = record { pc = refl; locals = refl; status = inl refl }

left_twice : (a b c : Thread) → IsLeft a b → IsLeft b c → IsLeft a c
left_twice a b c x y = record {
  pc = y.pc ∙ x.pc;
  locals = y.locals ∙ x.locals;
  status = both a.status b.status c.status x.status y.status;
}
  where
    both : (i j k : Status)
        → (j ≡ i) ⊎ WasWoken i j → (k ≡ j) ⊎ WasWoken j k → (k ≡ i) ⊎ WasWoken i k
    both i j k (inl e) (inl f) = inl (f ∙ e)
    both i j k (inl e) (inr w) = inr (w.0, sym e ∙ w.1, w.2)
    both i j k (inr w) (inl f) = inr (w.0, w.1, f ∙ w.2)
    both i j k (inr w) (inr v) = let e : j ≡ Woken = w.2 in let f : j ≡ Waiting v.0 = v.1 in cc

-- thread k of a list
abbrev at : List Thread → ℕ → Thread
at T k = get_or T k missing_thread

left_one : (c u k : ℕ) (T : List Thread) → IsLeft (at T k) (at (set T u (woken c (at T u))) k)
left_one c u k [] = left_itself missing_thread
left_one c zero zero (th ∷ T) = left_woken c th
left_one c zero (suc k) (th ∷ T) = left_itself (at T k)
left_one c (suc u) zero (th ∷ T) = left_itself th
left_one c (suc u) (suc k) (th ∷ T) = left_one c u k T

left_all : (c : ℕ) (us : List ℕ) (k : ℕ) (T : List Thread) → IsLeft (at T k) (at (wake c us T) k)
left_all c [] k T = left_itself (at T k)
left_all c (u ∷ us) k T =
    let U : List Thread = set T u (woken c (at T u)) in
    left_twice (at T k) (at U k) (at (wake c us U) k) (left_one c u k T) (left_all c us k U)

pub others_left : (p : Program) (s : Snapshot) (t u : ℕ)
    → is_enabled p s t ≡ true → u ≢ t → IsLeft (thread_at s u) (thread_at (step p s t) u)
others_left p s t u h ne =
    let m : Moves p s t = moves p s t h in
    let woke : List Thread = wake m.condition m.threads_to_wake s.threads in
    let e : thread_at (step p s t) u ≡ at woke u =
    ap (λ ths. at ths u) m.threads ∙ get_or-set_other woke t u m.to missing_thread ne in
    subst (IsLeft (thread_at s u)) (sym e) (left_all m.condition m.threads_to_wake u s.threads)
