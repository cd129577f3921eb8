-- What a step changed, put back.
use Rattle.std.specs.Prelude.{All, ◌⊎◌}
use Rattle.std.proofs.Common.{◌≡◌, ◌≢◌, ℕ, zero, suc, pos, ◌<◌, true, inl, inr, List, [], ◌∷◌, length, Some, None, slice_get, get_or, set, refl, ap, ◌∙◌, sym, arith, subst}
use Rattle.std.proofs.lemmas.List.{get_or_read, set-set, set-get_or}
use Rattle.guest_code.specs.Program.{Program, code_of}
use Rattle.semantics.specs.Machine.{Snapshot, acts, performed, next_of, action_at, is_enabled, thread_at, missing_thread, wake, woken, with_status, threads_to_wake, queue_of, queue_after, queue_joined, owner_of, owner_after, given_back, count_of, count_after, value_of, var_after, reader_after, taker_after, waiter_after, counter_after, resumed}
use Rattle.semantics.specs.Reachable.{IsOf, IsValidAction}
use Rattle.semantics.specs.Undoing.{objects_of, put_back, waiting_again, undone, HasObjects, IsRecordOf}
use Rattle.semantics.specs.{Waiters.{In, HasWaiters}, declared.state.Action.Action}
use Rattle.semantics.specs.declared.state.Action.TheVariants.{OnVariable, OnMutex, Wait as Waits, OnCondition, OnSemaphore}
use Rattle.semantics.specs.declared.state.ConditionAction.{ConditionAction}
use Rattle.semantics.specs.declared.state.ConditionAction.TheVariants.{Signal as Signals, Broadcast as Broadcasts}
use Rattle.semantics.specs.declared.state.{Status.Status, Status.TheVariants.Waiting, Thread.Thread}
use Rattle.semantics.specs.declared.undo.Undo.{Undo}
use Rattle.semantics.proofs.{StepsKeepStates.{queue_below, step_is_of}, WorkFalls.enabled_below}

-- what was written is written back
set_back : {A : Type 0} (xs : List A) (i : ℕ) (a d : A) → set (set xs i a) i (get_or xs i d) ≡ xs
set_back xs i a d = set-set xs i a (get_or xs i d) ∙ set-get_or xs i d

-- threads that were woken wait again

lull_one : ℕ → ℕ → List Thread → List Thread
lull_one c u T = set T u (with_status (get_or T u missing_thread) (Waiting c))

wake_one : ℕ → ℕ → List Thread → List Thread
wake_one c u T = set T u (woken c (get_or T u missing_thread))

lull_woken-same : (c u : ℕ) (T : List Thread) → lull_one c u (wake_one c u T) ≡ lull_one c u T
unfolding lull_one wake_one
lull_woken-same c u [] = refl
lull_woken-same c zero (th ∷ T) = refl
lull_woken-same c (suc u) (th ∷ T) = ap (λ (X : List Thread). th ∷ X) (lull_woken-same c u T)

lull_woken-other : (c u v : ℕ) (T : List Thread) → u ≢ v
    → lull_one c v (wake_one c u T) ≡ wake_one c u (lull_one c v T)
unfolding lull_one wake_one
lull_woken-other c u v [] ne = refl
lull_woken-other c zero zero (th ∷ T) ne = absurd (ne refl)
lull_woken-other c zero (suc v) (th ∷ T) ne = refl
lull_woken-other c (suc u) zero (th ∷ T) ne = refl
lull_woken-other c (suc u) (suc v) (th ∷ T) ne =
    ap (λ (X : List Thread). th ∷ X) (lull_woken-other c u v T (λ e. ne (ap suc e)))

same_or_not : (u v : ℕ) → (u ≡ v) ⊎ (u ≢ v)
same_or_not zero zero = inl refl
same_or_not zero (suc v) = inr (λ e. omega arith)
same_or_not (suc u) zero = inr (λ e. omega arith)
same_or_not (suc u) (suc v) = elim (same_or_not u v)
    [ inl e ↦ inl (ap suc e) | inr n ↦ inr (λ e. n (omega arith)) ]

lull_one-set : (c u t : ℕ) (th : Thread) (T : List Thread) → u ≢ t
    → lull_one c u (set T t th) ≡ set (lull_one c u T) t th
unfolding lull_one
lull_one-set c u t th [] ne = refl
lull_one-set c zero zero th (x ∷ T) ne = absurd (ne refl)
lull_one-set c zero (suc t) th (x ∷ T) ne = refl
lull_one-set c (suc u) zero th (x ∷ T) ne = refl
lull_one-set c (suc u) (suc t) th (x ∷ T) ne =
    ap (λ (X : List Thread). x ∷ X) (lull_one-set c u t th T (λ e. ne (ap suc e)))

waiting_again-woken : (c u : ℕ) (q : List ℕ) (T : List Thread) → In q u
    → waiting_again c q (wake_one c u T) ≡ waiting_again c q T
unfolding lull_one wake_one
waiting_again-woken c u [] T i = absurd i
waiting_again-woken c u (v ∷ q) T i = elim (same_or_not u v) [
  | inl e ↦ subst (λ w. waiting_again c q (lull_one c w (wake_one c u T))
      ≡ waiting_again c q (lull_one c w T)) e (ap (waiting_again c q) (lull_woken-same c u T))
  | inr n ↦ ap (waiting_again c q) (lull_woken-other c u v T n) ∙ waiting_again-woken c u q
      (lull_one c v T) (elim i [ inl e ↦ absurd (n (sym e)) | inr j ↦ j ])
]

waiting_again-wake : (c : ℕ) (q us : List ℕ) (T : List Thread) → ((u : ℕ) → In us u → In q u)
    → waiting_again c q (wake c us T) ≡ waiting_again c q T
unfolding wake_one
waiting_again-wake c q [] T h = refl
waiting_again-wake c q (u ∷ us) T h = waiting_again-wake c q us (wake_one c u T)
    (λ v i. h v (inr i)) ∙ waiting_again-woken c u q T (h u (inl refl))

waiting_again-waiting : (c : ℕ) (q : List ℕ) (T : List Thread)
    → ((u : ℕ) → In q u → (get_or T u missing_thread).status ≡ Waiting c) → waiting_again c q T ≡ T
waiting_again-waiting c [] T h = refl
waiting_again-waiting c (u ∷ q) T h =
    let one : set T u (with_status (get_or T u missing_thread) (Waiting c)) ≡ T =
    ap (λ (z : Status). set T u (with_status (get_or T u missing_thread) z))
    (sym (h u (inl refl))) ∙ set-get_or T u missing_thread in
    ap (waiting_again c q) one ∙ waiting_again-waiting c q T (λ v i. h v (inr i))

called_in : (d : ConditionAction) (q : List ℕ) (u : ℕ) → In (threads_to_wake d q) u → In q u
called_in Broadcasts q u i = i
called_in Signals [] u i = i
called_in Signals (v ∷ q) u i = elim i [ inl e ↦ inl e | inr j ↦ absurd j ]

-- a thread that does not wait is left out
waiting_again-set : (c : ℕ) (q : List ℕ) (t : ℕ) (th : Thread) (T : List Thread)
    → (In q t → ⊥) → waiting_again c q (set T t th) ≡ set (waiting_again c q T) t th
unfolding lull_one
waiting_again-set c [] t th T out = refl
waiting_again-set c (u ∷ q) t th T out =
    ap (waiting_again c q) (lull_one-set c u t th T (λ e. out (inl e)))
    ∙ waiting_again-set c q t th (lull_one c u T) (λ i. out (inr i))

not_waiting : (p : Program) (s : Snapshot) (t : ℕ) (a : Action) (c : ℕ) → next_of p s t ≡ Some a
    → (thread_at s t).status ≡ Waiting c → ⊥
not_waiting p s t a c n w =
    let e : next_of p s t ≡ None =
    ap (λ (x : Status). action_at x (slice_get (code_of p t) (thread_at s t).pc)) w in cc

-- what a thread that acts wakes waits again
threads_wait : (p : Program) (s : Snapshot) (t c : ℕ) (d : ConditionAction) (th : Thread)
    → HasWaiters s → next_of p s t ≡ Some (OnCondition c d)
    → waiting_again c (queue_of s c)
    (set (wake c (threads_to_wake d (queue_of s c)) s.threads) t th) ≡ set s.threads t th
threads_wait p s t c d th w n =
    waiting_again-set c (queue_of s c) t th (wake c (threads_to_wake d (queue_of s c)) s.threads)
    (λ i. not_waiting p s t (OnCondition c d) c n (w.waits c t i))
    ∙ ap (λ (T : List Thread). set T t th)
    (waiting_again-wake c (queue_of s c) (threads_to_wake d (queue_of s c)) s.threads
    (called_in d (queue_of s c))
    ∙ waiting_again-waiting c (queue_of s c) s.threads (w.waits c))

-- a step taken back

-- the thread first, then the objects
pub step_back : (p : Program) (s : Snapshot) (t : ℕ) (a : Action) → HasWaiters s
    → next_of p s t ≡ Some a → put_back (objects_of s a)
    (record (performed p s t a) {
      threads =
          set (performed p s t a).threads t (thread_at s t);
    }) ≡ s
step_back p s t (OnVariable x d) w n = λ i. record s {
  vars = set_back s.vars x (var_after d (thread_at s t).locals (value_of s x)) (pos 0) i;
  threads = set_back s.threads t (resumed (code_of p t)
      (reader_after d (thread_at s t) (value_of s x))) missing_thread i;
}
step_back p s t (OnMutex m d) w n = λ i. record s {
  owners = set_back s.owners m (owner_after d t (owner_of s m)) None i;
  threads = set_back s.threads t (taker_after d (code_of p t) t (owner_of s m)
      (thread_at s t)) missing_thread i;
}
step_back p s t (Waits c m) w n = λ i. record s {
  owners = set_back s.owners m (given_back t (owner_of s m)) None i;
  queues = set_back s.queues c (queue_joined t (owner_of s m) (queue_of s c)) [] i;
  threads = set_back s.threads t (waiter_after c t (owner_of s m) (thread_at s t)) missing_thread i;
}
step_back p s t (OnCondition c d) w n = λ i. record s {
  queues = set_back s.queues c (queue_after d (queue_of s c)) [] i;
  threads = (ap (waiting_again c (queue_of s c))
      (set-set (wake c (threads_to_wake d (queue_of s c)) s.threads) t
      (resumed (code_of p t) (thread_at s t)) (thread_at s t))
      ∙ (threads_wait p s t c d (thread_at s t) w n ∙ set-get_or s.threads t missing_thread)) i;
}
step_back p s t (OnSemaphore k d) w n = λ i. record s {
  counts = set_back s.counts k (count_after d (count_of s k)) 0 i;
  threads = set_back s.threads t (counter_after d (code_of p t) (count_of s k)
      (thread_at s t)) missing_thread i;
}

-- what it changed is of the state after it
objects_there : (p : Program) (s new : Snapshot) (a : Action) → IsOf p s → IsOf p new
    → IsValidAction p a → HasObjects new (objects_of s a)
objects_there p s new (OnVariable x d) of of' f = omega (arith, f.0, of'.variables)
objects_there p s new (OnMutex m d) of of' f = omega (arith, f, of'.owners)
objects_there p s new (Waits c m) of of' f =
    (omega (arith, f.0, of'.queues), omega (arith, f.1, of'.owners))
objects_there p s new (OnCondition c d) of of' f = (
  omega (arith, f, of'.queues),
  subst (λ (n : ℕ). All (λ u. u < n) (queue_of s c)) (of.threads ∙ sym of'.threads)
      (queue_below s c of.waiters),
)
objects_there p s new (OnSemaphore k d) of of' f = omega (arith, f, of'.counts)

-- after a step the state is one of the program, and what was noted of the step leads back
pub record IsTaken (p : Program) (s new : Snapshot) (u : Undo) : Type 0 where
  pub of : IsOf p new
  pub record_of : IsRecordOf u new
  pub back : undone u new ≡ s

pub step_taken : (p : Program) (s new : Snapshot) (a : Action) (u : Undo) (T : List Thread)
    → IsOf p s → is_enabled p s u.thread ≡ true → Some a ≡ next_of p s u.thread
    → IsValidAction p a → new ≡ performed p s u.thread a → T ≡ s.threads
    → u.before ≡ get_or T u.thread u.before → u.objects ≡ objects_of s a → IsTaken p s new u
step_taken p s new a u T of on n fine is same read noted = record {
  of = of';
  record_of = record {
    thread = omega (arith, below, of.threads, of'.threads);
    objects = subst (HasObjects new) (sym noted) (objects_there p s new a of of' fine);
  };
  back = (λ i. put_back (noted i) (record (is i) {
    threads = set (is i).threads u.thread (before i);
  })) ∙ step_back p s u.thread a of.waiters (sym n);
}
  where
    below : u.thread < length s.threads
    below = enabled_below p s u.thread on

    of' : IsOf p new
    of' = subst (IsOf p) (sym (is ∙ ap (acts p s u.thread (thread_at s u.thread)) n))
        (step_is_of p s u.thread of on)

    there : u.thread < length T
    there = subst (λ (X : List Thread). u.thread < length X) (sym same) below

    before : u.before ≡ thread_at s u.thread
    before = get_or_read T u.thread u.before there read missing_thread
        ∙ ap (λ (X : List Thread). get_or X u.thread missing_thread) same
