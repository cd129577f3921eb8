-- A renamed thread does in a renamed state what the thread does in the state.
use Rattle.std.specs.Prelude.{option_map}
use Rattle.std.proofs.Common.{◌≡◌, ℕ, zero, suc, pos, ◌<◌, ◌+◌, ◌⊎◌, inl, inr, Bool, true, false, not, cond, ◌&&◌, ◌||◌, nat_eq, List, [], ◌∷◌, ◌++◌, map, length, get_or, set, slice_get, Option, Some, None, refl, ap, ◌∙◌, sym, subst}
use Rattle.std.{specs.Cmp.both_ways, specs.List.{list_any, list_all}, proofs.Math.ListN.get_or-map}
use Rattle.std.proofs.lemmas.Bool.{cases_eq, cases_lt, eq-eqb, ne_eqb, and_parts, and_from}
use Rattle.std.proofs.lemmas.List.{map-set, map-append, get_or-set_same, get_or-set_other, get_or_past, take-map, drop-map}
use Rattle.guest_code.specs.{Program.{Program, code_of}, declared.program.Instruction.Instruction}
use Rattle.semantics.specs.Ends.{is_terminal, view_at, is_stopped, is_ended}
use Rattle.semantics.specs.Machine.{Snapshot, acts, step, is_enabled, can_do, next_of, action_at, thread_at, missing_thread, with_status, resumed, wake, woken, threads_to_wake, queue_after, queue_joined, given_back, owner_of, queue_of, owns, is_free, var_after, reader_after, sem_allows, owner_after, taker_after, waiter_after, count_after, counter_after}
use Rattle.semantics.specs.{Mask.one_if, declared.state.Action.Action}
use Rattle.semantics.specs.declared.state.Action.TheVariants.{OnVariable, OnMutex, Wait as Waits, OnCondition, OnSemaphore}
use Rattle.semantics.specs.declared.state.ConditionAction.{ConditionAction}
use Rattle.semantics.specs.declared.state.ConditionAction.TheVariants.{Signal as Signals, Broadcast as Broadcasts}
use Rattle.semantics.specs.declared.state.MutexAction.{MutexAction}
use Rattle.semantics.specs.declared.state.MutexAction.TheVariants.{Lock as Locks, Unlock as Unlocks, Retake as Retakes}
use Rattle.semantics.specs.declared.state.Status.TheVariants.{Waiting, Stopped}
use Rattle.semantics.specs.declared.state.{Stop.TheVariants.NotHeld, Thread.Thread}
use Rattle.semantics.specs.declared.view.Kind.TheVariants.{Done, Failed, Stuck}
use Rattle.semantics.proofs.Waking.{wake-length}
use Rattle.semantics_schedules.specs.{Order.{is_complete, end_from}, Renaming.{IsRenaming, Renamed}}
use Rattle.semantics_schedules.specs.Schedules.{state_after, preempts, preemptions_from}
use Rattle.semantics_schedules.proofs.SchedulesUnderPrefix.{over_nobody}

-- what a choice gives, passed through a function
through : {A B : Type 0} (h : A → B) (b : Bool) (x y : A) → cond b (h x) (h y) ≡ h (cond b x y)
through h true x y = refl
through h false x y = refl

-- lists of threads

-- the thread of each number has its other number in the second list
record Turned (f : ℕ → ℕ) (T U : List Thread) : Type 0 where
  at : (t : ℕ) → get_or U (f t) missing_thread ≡ get_or T t missing_thread

woken_at : (c u : ℕ) (T : List Thread)
    → get_or (set T u (woken c (get_or T u missing_thread))) u missing_thread
    ≡ woken c (get_or T u missing_thread)
woken_at c u [] = refl
woken_at c zero (th ∷ T) = refl
woken_at c (suc u) (th ∷ T) = woken_at c u T

-- a thread that is about to do something is there
stands : (p : Program) (s : Snapshot) (t : ℕ) (a : Action) → next_of p s t ≡ Some a
    → t < length s.threads
stands p s t a h = elim (cases_lt t (length s.threads)) [
  | inl l ↦ l
  | inr past ↦ (let none : next_of p s t ≡ None =
      rw (get_or_past s.threads t missing_thread past) refl in cc)
]

-- a test that a missing thread passes is passed by all threads of a list where it is passed at
-- each number
all_at : (test : Thread → Bool) → test missing_thread ≡ true → (T : List Thread)
    → list_all test T ≡ true → (t : ℕ) → test (get_or T t missing_thread) ≡ true
all_at test missing [] h t = missing
all_at test missing (th ∷ T) h zero = (and_parts (test th) (list_all test T) h).0
all_at test missing (th ∷ T) h (suc t) =
    all_at test missing T (and_parts (test th) (list_all test T) h).1 t

all_from : (test : Thread → Bool) (T : List Thread)
    → ((t : ℕ) → test (get_or T t missing_thread) ≡ true) → list_all test T ≡ true
all_from test [] h = refl
all_from test (th ∷ T) h = and_from (test th) (list_all test T) (h 0)
    (all_from test T (λ t. h (suc t)))

any_is : (test : Thread → Bool) (T : List Thread)
    → list_any test T ≡ not (list_all (λ th. not (test th)) T)
any_is test [] = refl
any_is test (th ∷ T) = ap (λ b. test th || b) (any_is test T)
    ∙ go (test th) (list_all (λ x. not (test x)) T)
  where
    go : (a b : Bool) → (a || not b) ≡ not (not a && b)
    go true b = refl
    go false b = refl

module _ (p : Program) (f : ℕ → ℕ) (g : IsRenaming p f) where
  -- numbers

  injective : (t u : ℕ) → f t ≡ f u → t ≡ u
  injective t u e = sym (g.back t) ∙ (ap f e ∙ g.back u)

  eq_renamed : (t u : ℕ) → nat_eq (f t) (f u) ≡ nat_eq t u
  eq_renamed t u = elim (cases_eq t u) [
    | inl e ↦ eq-eqb (f t) (f u) (ap f e) ∙ sym (eq-eqb t u e)
    | inr d ↦ ne_eqb (f t) (f u) (λ e. d (injective t u e)) ∙ sym (ne_eqb t u d)
  ]

  owns_renamed : (t : ℕ) (o : Option ℕ) → owns (f t) (option_map f o) ≡ owns t o
  owns_renamed t None = refl
  owns_renamed t (Some u) = eq_renamed t u

  -- threads

  set_turned : (T U : List Thread) → Turned f T U → (t : ℕ) (x y : Thread) → y ≡ x
      → get_or (set T t x) t missing_thread ≡ x
      → get_or (set U (f t) y) (f t) missing_thread ≡ y → Turned f (set T t x) (set U (f t) y)
  set_turned T U turned t x y e a b = record { at = λ u. go u (cases_eq u t) }
    where
      go : (u : ℕ) → (u ≡ t) ⊎ (u ≡ t → ⊥) → get_or (set U (f t) y) (f u) missing_thread
          ≡ get_or (set T t x) u missing_thread
      go u (inl same) = ap (λ k. get_or (set U (f t) y) (f k) missing_thread) same
          ∙ (b ∙ (e ∙ (sym a ∙ ap (λ k. get_or (set T t x) k missing_thread) (sym same))))
      go u (inr other) =
          get_or-set_other U (f t) (f u) y missing_thread (λ k. other (injective u t k))
          ∙ (turned.at u ∙ sym (get_or-set_other T t u x missing_thread other))

  stepped_turned : (T U : List Thread) → Turned f T U → (t : ℕ) → t < length T
      → f t < length U → (x y : Thread) → y ≡ x → Turned f (set T t x) (set U (f t) y)
  stepped_turned T U turned t l m x y e = set_turned T U turned t x y e
      (get_or-set_same T t x missing_thread l) (get_or-set_same U (f t) y missing_thread m)

  wake_turned : (c : ℕ) (us : List ℕ) (T U : List Thread) → Turned f T U
      → Turned f (wake c us T) (wake c (map f us) U)
  wake_turned c [] T U turned = turned
  wake_turned c (u ∷ us) T U turned = wake_turned c us _ _ (set_turned T U turned u _ _
      (ap (woken c) (turned.at u)) (woken_at c u T) (woken_at c (f u) U))

  all_renamed : (test : Thread → Bool) → test missing_thread ≡ true → (T U : List Thread)
      → Turned f T U → list_all test U ≡ list_all test T
  all_renamed test missing T U turned = both_ways (list_all test U) (list_all test T)
      (λ h. all_from test T (λ t. ap test (sym (turned.at t)) ∙ all_at test missing U h (f t)))
      (λ h. all_from test U (λ t. ap (λ k. test (get_or U k missing_thread)) (sym (g.back t))
      ∙ (ap test (turned.at (f t)) ∙ all_at test missing T h (f t))))

  any_renamed : (test : Thread → Bool) → test missing_thread ≡ false → (T U : List Thread)
      → Turned f T U → list_any test U ≡ list_any test T
  any_renamed test missing T U turned = any_is test U
      ∙ (ap not (all_renamed (λ th. not (test th)) (ap not missing) T U turned)
      ∙ sym (any_is test T))

  -- what a step makes of an owner, a queue and a thread

  given_back_renamed : (t : ℕ) (o : Option ℕ)
      → given_back (f t) (option_map f o) ≡ option_map f (given_back t o)
  given_back_renamed t o = ap (λ b. cond b None (option_map f o)) (owns_renamed t o)
      ∙ through (option_map f) (owns t o) None o

  owner_renamed : (d : MutexAction) (t : ℕ) (o : Option ℕ)
      → owner_after d (f t) (option_map f o) ≡ option_map f (owner_after d t o)
  owner_renamed Locks t o = refl
  owner_renamed Unlocks t o = given_back_renamed t o
  owner_renamed Retakes t o = refl

  taker_renamed : (d : MutexAction) (code : List Instruction) (t : ℕ) (o : Option ℕ) (th : Thread)
      → taker_after d code (f t) (option_map f o) th ≡ taker_after d code t o th
  taker_renamed Locks code t o th = refl
  taker_renamed Unlocks code t o th =
      ap (λ b. cond b (resumed code th) (with_status th (Stopped NotHeld))) (owns_renamed t o)
  taker_renamed Retakes code t o th = refl

  joined_renamed : (t : ℕ) (o : Option ℕ) (q : List ℕ)
      → queue_joined (f t) (option_map f o) (map f q) ≡ map f (queue_joined t o q)
  joined_renamed t o q = ap (λ b. cond b (map f q ++ f t ∷ []) (map f q)) (owns_renamed t o)
      ∙ (ap (λ longer. cond (owns t o) longer (map f q)) (sym (map-append f q (t ∷ [])))
      ∙ through (map f) (owns t o) (q ++ t ∷ []) q)

  waiter_renamed : (c t : ℕ) (o : Option ℕ) (th : Thread)
      → waiter_after c (f t) (option_map f o) th ≡ waiter_after c t o th
  waiter_renamed c t o th =
      ap (λ b. cond b (with_status th (Waiting c)) (with_status th (Stopped NotHeld)))
      (owns_renamed t o)

  called_renamed : (d : ConditionAction) (q : List ℕ)
      → threads_to_wake d (map f q) ≡ map f (threads_to_wake d q)
  called_renamed Broadcasts q = refl
  called_renamed Signals q = take-map f 1 q

  left_renamed : (d : ConditionAction) (q : List ℕ)
      → queue_after d (map f q) ≡ map f (queue_after d q)
  left_renamed Broadcasts q = refl
  left_renamed Signals q = drop-map f 1 q

  -- the threads and the objects of a renamed state

  turned : (s r : Snapshot) → Renamed f s r → Turned f s.threads r.threads
  turned s r e = record { at = e.threads }

  owner_at : (s r : Snapshot) → Renamed f s r → (m : ℕ)
      → owner_of r m ≡ option_map f (owner_of s m)
  owner_at s r e m = ap (λ L. get_or L m None) e.owners
      ∙ get_or-map (option_map f) s.owners m None

  queue_at : (s r : Snapshot) → Renamed f s r → (c : ℕ) → queue_of r c ≡ map f (queue_of s c)
  queue_at s r e c = ap (λ L. get_or L c []) e.queues ∙ get_or-map (map f) s.queues c []

  -- the step

  acts_renamed : (s r : Snapshot) → Renamed f s r → (t : ℕ) → t < length s.threads
      → f t < length r.threads → (th : Thread) (a : Action)
      → Renamed f (acts p s t th (Some a)) (acts p r (f t) th (Some a))
  acts_renamed s r e t l m th (OnVariable x d) = record {
    vars = λ k. set (e.vars k) x (var_after d th.locals (get_or (e.vars k) x (pos 0)));
    owners = e.owners;
    queues = e.queues;
    counts = e.counts;
    threads = (stepped_turned s.threads r.threads (turned s r e) t l m _ _
        (λ k. resumed (g.code t k) (reader_after d th (get_or (e.vars k) x (pos 0))))).at;
  }
  acts_renamed s r e t l m th (OnMutex n d) = record {
    vars = e.vars;
    owners = (λ k. set (e.owners k) n (owner_after d (f t) (owner_at s r e n k)))
        ∙ (ap (set (map (option_map f) s.owners) n) (owner_renamed d t (owner_of s n))
        ∙ sym (map-set (option_map f) s.owners n _));
    queues = e.queues;
    counts = e.counts;
    threads = (stepped_turned s.threads r.threads (turned s r e) t l m _ _
        ((λ k. taker_after d (g.code t k) (f t) (owner_at s r e n k) th)
        ∙ taker_renamed d (code_of p t) t (owner_of s n) th)).at;
  }
  acts_renamed s r e t l m th (Waits c n) = record {
    vars = e.vars;
    owners = (λ k. set (e.owners k) n (given_back (f t) (owner_at s r e n k)))
        ∙ (ap (set (map (option_map f) s.owners) n) (given_back_renamed t (owner_of s n))
        ∙ sym (map-set (option_map f) s.owners n _));
    queues =
        (λ k. set (e.queues k) c (queue_joined (f t) (owner_at s r e n k) (queue_at s r e c k)))
        ∙ (ap (set (map (map f) s.queues) c) (joined_renamed t (owner_of s n) (queue_of s c))
        ∙ sym (map-set (map f) s.queues c _));
    counts = e.counts;
    threads = (stepped_turned s.threads r.threads (turned s r e) t l m _ _
        ((λ k. waiter_after c (f t) (owner_at s r e n k) th)
        ∙ waiter_renamed c t (owner_of s n) th)).at;
  }
  acts_renamed s r e t l m th (OnCondition c d) =
      let us : List ℕ = threads_to_wake d (queue_of s c) in
      let vs : List ℕ = threads_to_wake d (queue_of r c) in
      let called : vs ≡ map f us =
      ap (threads_to_wake d) (queue_at s r e c) ∙ called_renamed d (queue_of s c) in
      let woke : Turned f (wake c us s.threads) (wake c vs r.threads) =
      subst (λ ws. Turned f (wake c us s.threads) (wake c ws r.threads)) (sym called)
      (wake_turned c us s.threads r.threads (turned s r e)) in record {
        vars = e.vars;
        owners = e.owners;
        queues = (λ k. set (e.queues k) c (queue_after d (queue_at s r e c k)))
            ∙ (ap (set (map (map f) s.queues) c) (left_renamed d (queue_of s c))
            ∙ sym (map-set (map f) s.queues c _));
        counts = e.counts;
        threads = (stepped_turned (wake c us s.threads) (wake c vs r.threads) woke t
            (subst (λ n. t < n) (sym (wake-length c us s.threads)) l)
            (subst (λ n. f t < n) (sym (wake-length c vs r.threads)) m) _ _
            (λ k. resumed (g.code t k) th)).at;
      }
  acts_renamed s r e t l m th (OnSemaphore n d) = record {
    vars = e.vars;
    owners = e.owners;
    queues = e.queues;
    counts = λ k. set (e.counts k) n (count_after d (get_or (e.counts k) n 0));
    threads = (stepped_turned s.threads r.threads (turned s r e) t l m _ _
        (λ k. counter_after d (g.code t k) (get_or (e.counts k) n 0) th)).at;
  }

  -- what a renamed thread is about to do, and whether it can

  next_renamed : (s r : Snapshot) → Renamed f s r → (t : ℕ) → next_of p r (f t) ≡ next_of p s t
  next_renamed s r e t = λ k. action_at (e.threads t k).status
      (slice_get (g.code t k) (e.threads t k).pc)

  free_renamed : (o : Option ℕ) → is_free (option_map f o) ≡ is_free o
  free_renamed None = refl
  free_renamed (Some u) = refl

  can_renamed : (s r : Snapshot) → Renamed f s r → (a : Option Action) → can_do r a ≡ can_do s a
  can_renamed s r e (Some (OnVariable x d)) = refl
  can_renamed s r e (Some (OnMutex m Locks)) =
      ap is_free (owner_at s r e m) ∙ free_renamed (owner_of s m)
  can_renamed s r e (Some (OnMutex m Unlocks)) = refl
  can_renamed s r e (Some (OnMutex m Retakes)) =
      ap is_free (owner_at s r e m) ∙ free_renamed (owner_of s m)
  can_renamed s r e (Some (Waits c m)) = refl
  can_renamed s r e (Some (OnCondition c d)) = refl
  can_renamed s r e (Some (OnSemaphore n d)) = λ k. sem_allows d (get_or (e.counts k) n 0)
  can_renamed s r e None = refl

  pub enabled_renamed : (s r : Snapshot) → Renamed f s r → (t : ℕ)
      → is_enabled p r (f t) ≡ is_enabled p s t
  enabled_renamed s r e t = ap (can_do r) (next_renamed s r e t)
      ∙ can_renamed s r e (next_of p s t)

  pub step_renamed : (s r : Snapshot) → Renamed f s r → (t : ℕ)
      → Renamed f (step p s t) (step p r (f t))
  step_renamed s r e t = subst (λ x. Renamed f (step p s t) x)
      (λ k. acts p r (f t) (sym (e.threads t) k) (sym (next_renamed s r e t) k))
      (go (next_of p s t) refl)
    where
      go : (o : Option Action) → next_of p s t ≡ o
          → Renamed f (acts p s t (thread_at s t) o) (acts p r (f t) (thread_at s t) o)
      go None h = e
      go (Some a) h = acts_renamed s r e t (stands p s t a h)
          (stands p r (f t) a (next_renamed s r e t ∙ h)) (thread_at s t) a

  -- schedules

  pub runs_renamed : (w : List ℕ) (s r : Snapshot) → Renamed f s r
      → Renamed f (state_after p s w) (state_after p r (map f w))
  runs_renamed [] s r e = e
  runs_renamed (t ∷ w) s r e =
      runs_renamed w (step p s t) (step p r (f t)) (step_renamed s r e t)

  terminal_renamed : (s r : Snapshot) → Renamed f s r → is_terminal p r ≡ is_terminal p s
  terminal_renamed s r e = both_ways (is_terminal p r) (is_terminal p s)
      (λ h. (over_nobody p s).1 (λ t. sym (enabled_renamed s r e t)
      ∙ (over_nobody p r).0 h (f t)))
      (λ h. (over_nobody p r).1 (λ t. ap (is_enabled p r) (sym (g.back t))
      ∙ (enabled_renamed s r e (f t) ∙ (over_nobody p s).0 h (f t))))

  pub complete_renamed : (w : List ℕ) (s r : Snapshot) → Renamed f s r
      → is_complete p r (map f w) ≡ is_complete p s w
  complete_renamed [] s r e = terminal_renamed s r e
  complete_renamed (t ∷ w) s r e = λ k. enabled_renamed s r e t k
      && complete_renamed w (step p s t) (step p r (f t)) (step_renamed s r e t) k

  preempts_renamed : (s r : Snapshot) → Renamed f s r → (last : Option ℕ) (t : ℕ)
      → preempts p r (option_map f last) (f t) ≡ preempts p s last t
  preempts_renamed s r e None t = refl
  preempts_renamed s r e (Some u) t = λ k. enabled_renamed s r e u k && not (eq_renamed u t k)

  pub preemptions_renamed : (w : List ℕ) (s r : Snapshot) → Renamed f s r → (last : Option ℕ)
      → preemptions_from p r (option_map f last) (map f w) ≡ preemptions_from p s last w
  preemptions_renamed [] s r e last = refl
  preemptions_renamed (t ∷ w) s r e last = λ k. one_if (preempts_renamed s r e last t k)
      + preemptions_renamed w (step p s t) (step p r (f t)) (step_renamed s r e t) (Some t) k

  view_renamed : (s r : Snapshot) → Renamed f s r → view_at r ≡ view_at s
  view_renamed s r e =
      let stops = any_renamed (λ th. is_stopped th.status) refl s.threads r.threads
      (turned s r e) in
      let ends = all_renamed (λ th. is_ended th.status) refl s.threads r.threads (turned s r e) in
      λ k. record {
        kind = cond (stops k) Failed (cond (ends k) Done Stuck);
        vars = e.vars k;
      }

  pub end_renamed : (w : List ℕ) (s r : Snapshot) → Renamed f s r
      → end_from p r (map f w) ≡ end_from p s w
  end_renamed w s r e = view_renamed _ _ (runs_renamed w s r e)
