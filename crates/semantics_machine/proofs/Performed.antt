-- What each statement's step makes of a state, but for what its thread does itself after it.
use Rattle.std.specs.Prelude.{if◌then◌else◌}
use Rattle.std.proofs.Common.{◌≡◌, ◌≢◌, ℕ, ℤ, ◌+◌, ◌-◌, ◌<◌, ◌≤◌, true, false, Bool, cond, ◌⊎◌, nat_eq, List, [], ◌∷◌, ◌++◌, length, take, drop, pos, Option, Some, None, get_or, set, refl, ap, ◌∙◌, sym, subst, arith, get_or-set_same, get_or-set_other, length-set, inl, inr}
use Rattle.std.proofs.Math.{Path.transport, Seq.take-set-lt}
use Rattle.std.proofs.lemmas.Bool.{cases_lt, cases_order, Decides.nat_tests}
use Rattle.std.proofs.lemmas.List.{set-get_or, get_or_past, get_or_default, get_or-take}
use Rattle.guest_code.specs.{Program.{Program, code_of}, declared.limits.TheConstants.COUNT}
use Rattle.guest_code.specs.declared.program.Instruction.{Instruction}
use Rattle.guest_code.specs.declared.program.Instruction.TheVariants.{Signal, Broadcast}
use Rattle.semantics.specs.Machine.{Snapshot, thread_at, owner_of, queue_of, count_of, value_of, action_of, missing_thread, next_of, var_after, reader_after, acts, owns, is_full, resumed, with_status, wake, woken, woken_status}
use Rattle.semantics.specs.{Turns.{own_thread, IsAccessBelow}, Waiters.{In, Once}}
use Rattle.semantics.specs.declared.{local.Landing.Landing, state.Action.Action}
use Rattle.semantics.specs.declared.state.Action.TheVariants.{OnVariable, OnMutex, Wait as Waits, OnCondition, OnSemaphore}
use Rattle.semantics.specs.declared.state.ConditionAction.TheVariants.{Signal as Signals, Broadcast as Broadcasts}
use Rattle.semantics.specs.declared.state.MutexAction.TheVariants.{Lock as Locks, Unlock as Unlocks, Retake as Retakes}
use Rattle.semantics.specs.declared.state.SemaphoreAction.TheVariants.{Acquire as Acquires, Release as Releases}
use Rattle.semantics.specs.declared.state.Status.{Status}
use Rattle.semantics.specs.declared.state.Status.TheVariants.{Running, Waiting, Woken, Ended, Stopped}
use Rattle.semantics.specs.declared.state.{Stop.TheVariants.{NotHeld, SemFull}, Thread.Thread}
use Rattle.semantics.specs.declared.state.VariableAction.{VariableAction}
use Rattle.semantics.proofs.StepsKeepStates.{room_in_queue}
use Rattle.semantics_machine.specs.Refinement.{queued, thread_or_none, takes_mutex, takes_semaphore}
use Rattle.semantics_machine.specs.declared.control.{Control.Control, TheConstants.FREE}
use Rattle.semantics_machine.specs.inner.Parts.{IsControlBut}
use Rattle.semantics_machine.specs.inner.Steps.{AreShared, HasShared, IsPoised, IsPerformed, IsCalling, settled}
use Rattle.semantics_machine.proofs.Lists.{set_twice}
use Rattle.semantics_machine.proofs.LocalRuns.{narrow_var, narrow_reader, reader_pc}

pub leaves : (p : Program) (s : Snapshot) (t : ℕ) (i : Instruction) (c : Control)
    (cells mine : List ℤ) (a : Action)
    → IsPoised p s t i c cells mine → action_of i ≡ Some a
    → ((m : ℕ) → takes_mutex m (Some a) ≡ false)
    → ((k : ℕ) → takes_semaphore k (Some a) ≡ false) → IsControlBut p c s t
leaves p s t i c cells mine a poised is mutex semaphore = record {
  objects = poised.control.objects;
  threads = poised.control.threads;
  idle = record {
    unended = poised.control.unended;
    stopped = poised.control.stopped;
    woken = poised.woken;
    apart = record {
      mutexes = λ m. poised.control.mutexes m (ap (takes_mutex m) is ∙ mutex m);
      semaphores = λ k. poised.control.semaphores k (ap (takes_semaphore k) is ∙ semaphore k);
    };
  };
}

-- variables

-- the value of a variable stands in its cell
shared_value : (lengths : List ℕ) (cells vars : List ℤ) (queues : List (List ℕ)) (x : ℕ)
    → AreShared lengths cells vars queues → x < length vars
    → get_or cells x (pos 0) ≡ get_or vars x (pos 0)
shared_value lengths cells vars queues x h inside =
    sym (get_or-take (length vars) cells x (pos 0) inside)
    ∙ ap (λ xs. get_or xs x (pos 0)) h.variables

-- and is written there
shared_set : (lengths : List ℕ) (cells vars : List ℤ) (queues : List (List ℕ)) (x : ℕ) (v : ℤ)
    → AreShared lengths cells vars queues → x < length vars
    → AreShared lengths (set cells x v) (set vars x v) queues
shared_set lengths cells vars queues x v h inside = record {
  variables = ap (λ n. take n (set cells x v)) same
      ∙ (take-set-lt (length vars) cells x v inside ∙ ap (λ xs. set xs x v) h.variables);
  are_queues = λ n l. ap (queued (get_or lengths n 0))
      (ap (λ k. get_or (set cells x v) (k + n) (pos 0)) same
      ∙ get_or-set_other cells x (length vars + n) v (pos 0) (omega (arith, inside)))
      ∙ h.are_queues n l;
  size = length-set cells x v ∙ (h.size ∙ ap (λ k. k + length queues) (sym same));
}
  where
    same : length (set vars x v) ≡ length vars
    same = length-set vars x v

pub accessed : (p : Program) (s : Snapshot) (t : ℕ) (i : Instruction) (c : Control)
    (cells mine : List ℤ)
    (x : ℕ) (d : VariableAction) (cell : ℤ) (cells' mine' : List ℤ)
    → IsPoised p s t i c cells mine → action_of i ≡ Some (OnVariable x d) → x < length s.vars
    → IsAccessBelow (length mine) d
    → cell ≡ get_or cells x (pos 0) → cells' ≡ set cells x (var_after d mine cell)
    → ((at : Landing) → own_thread at mine' ≡ reader_after d (own_thread at mine) cell)
    → length mine' ≡ length mine
    → IsPerformed p s t c cells' mine' Running
accessed p s t i c cells mine x d cell cells' mine' poised is inside below read wrote own long =
    record {
      after = record s { vars = set s.vars x (var_after d th.locals (value_of s x)) };
      th = reader_after d th (value_of s x);
      control = record { objects = but.objects; threads = but.threads; idle = but.idle };
      shared = transport (λ j. AreShared c.lengths (sym wrote j) (set s.vars x (value j)) s.queues)
          (shared_set c.lengths cells s.vars s.queues x (var_after d mine cell) poised.shared
          inside);
      own = ap (λ (y : Thread). y.locals) (own nowhere)
          ∙ ((λ j. (reader_after d (own_thread nowhere (poised.own j)) (old j)).locals)
          ∙ (narrow_reader (length mine) th d (value_of s x) nowhere below
          ∙ ap (λ n. take n (reader_after d th (value_of s x)).locals) (sym long)));
      pc = reader_pc d th (value_of s x);
      threads = refl;
      others = λ u ne. refl;
      step = ap (acts p s t th) (poised.next ∙ is);
    }
  where
    but : IsControlBut p c s t
    but = leaves p s t i c cells mine (OnVariable x d) poised is (λ m. refl) (λ k. refl)

    th : Thread
    th = thread_at s t

    nowhere : Landing
    nowhere = record { pc = 0; status = Running; free = false }

    old : cell ≡ value_of s x
    old = read ∙ shared_value c.lengths cells s.vars s.queues x poised.shared inside

    value : var_after d mine cell ≡ var_after d th.locals (value_of s x)
    value = (λ j. var_after d (poised.own j) (old j))
        ∙ narrow_var (length mine) th.locals d (value_of s x) below

-- a step that changes a mutex or a semaphore, or none, with the thread as it was
pub moved_on : (p : Program) (s : Snapshot) (t : ℕ) (i : Instruction) (c d : Control)
    (cells mine cells' : List ℤ) (a : Action)
    (after : Snapshot) (status : Status)
    → IsPoised p s t i c cells mine → action_of i ≡ Some a → IsControlBut p d after t
    → HasShared d cells' after
    → after.threads ≡ s.threads
    → acts p s t (thread_at s t) (Some a)
    ≡ record after { threads = set after.threads t (settled (code_of p t) status (thread_at s t)) }
    → IsPerformed p s t d cells' mine status
moved_on p s t i c d cells mine cells' a after status poised is control held ts does = record {
  after = after;
  th = thread_at s t;
  control = control;
  shared = held;
  own = poised.own;
  pc = refl;
  threads = ap (λ (T : List Thread). length T) ts;
  others = λ u ne. ap (λ (T : List Thread). (get_or T u missing_thread).locals) ts;
  step = ap (acts p s t (thread_at s t)) (poised.next ∙ is) ∙ does;
}

-- no queue is another
still : (p : Program) (s : Snapshot) (t : ℕ) (i : Instruction) (c d : Control)
    (cells mine : List ℤ) → IsPoised p s t i c cells mine → d.lengths ≡ c.lengths
    → HasShared d cells s
still p s t i c d cells mine poised same =
    subst (λ ls. AreShared ls cells s.vars s.queues) (sym same) poised.shared

pub locks : (p : Program) (s : Snapshot) (t : ℕ) (i : Instruction) (c d : Control)
    (cells mine : List ℤ) (m : ℕ)
    → IsPoised p s t i c cells mine → action_of i ≡ Some (OnMutex m Locks)
    → d.lengths ≡ c.lengths
    → IsControlBut p d (record s { owners = set s.owners m (Some t) }) t
    → IsPerformed p s t d cells mine Running
locks p s t i c d cells mine m poised is same control =
    moved_on p s t i c d cells mine cells (OnMutex m Locks) _ Running poised is control
    (still p s t i c d cells mine poised same) refl refl

pub retakes : (p : Program) (s : Snapshot) (t : ℕ) (c d : Control) (cells mine : List ℤ) (m : ℕ)
    → HasShared c cells s → mine ≡ take (length mine) (thread_at s t).locals
    → next_of p s t ≡ Some (OnMutex m Retakes) → d.lengths ≡ c.lengths
    → IsControlBut p d (record s { owners = set s.owners m (Some t) }) t
    → IsPerformed p s t d cells mine Running
retakes p s t c d cells mine m shared own next same control = record {
  after = record s { owners = set s.owners m (Some t) };
  th = thread_at s t;
  control = control;
  shared = subst (λ ls. AreShared ls cells s.vars s.queues) (sym same) shared;
  own = own;
  pc = refl;
  threads = refl;
  others = λ u ne. refl;
  step = ap (acts p s t (thread_at s t)) next;
}

pub unlocks : (p : Program) (s : Snapshot) (t : ℕ) (i : Instruction) (c d : Control)
    (cells mine : List ℤ) (m : ℕ)
    → IsPoised p s t i c cells mine → action_of i ≡ Some (OnMutex m Unlocks)
    → owns t (owner_of s m) ≡ true
    → d.lengths ≡ c.lengths
    → IsControlBut p d (record s { owners = set s.owners m None }) t
    → IsPerformed p s t d cells mine Running
unlocks p s t i c d cells mine m poised is mine_it same control =
    moved_on p s t i c d cells mine cells (OnMutex m Unlocks) _ Running poised is control
    (still p s t i c d cells mine poised same) refl
    (λ j. record s {
      owners = set s.owners m (cond (mine_it j) None (owner_of s m));
      threads = set s.threads t (cond (mine_it j) (resumed (code_of p t) (thread_at s t))
          (with_status (thread_at s t) (Stopped NotHeld)));
    })

pub cannot_unlock : (p : Program) (s : Snapshot) (t : ℕ) (i : Instruction) (c : Control)
    (cells mine : List ℤ) (m : ℕ)
    → IsPoised p s t i c cells mine → action_of i ≡ Some (OnMutex m Unlocks)
    → owns t (owner_of s m) ≡ false
    → IsPerformed p s t c cells mine (Stopped NotHeld)
cannot_unlock p s t i c cells mine m poised is not_it =
    moved_on p s t i c c cells mine cells (OnMutex m Unlocks) s (Stopped NotHeld) poised is
    (leaves p s t i c cells mine (OnMutex m Unlocks) poised is (λ n. refl) (λ k. refl))
    poised.shared refl
    ((λ j. record s {
      owners = set s.owners m (cond (not_it j) None (owner_of s m));
      threads = set s.threads t (cond (not_it j) (resumed (code_of p t) (thread_at s t))
          (with_status (thread_at s t) (Stopped NotHeld)));
    }) ∙ (λ j. record s {
      owners = set-get_or s.owners m None j;
      threads = set s.threads t (with_status (thread_at s t) (Stopped NotHeld));
    }))

pub acquires : (p : Program) (s : Snapshot) (t : ℕ) (i : Instruction) (c d : Control)
    (cells mine : List ℤ) (k : ℕ)
    → IsPoised p s t i c cells mine → action_of i ≡ Some (OnSemaphore k Acquires)
    → d.lengths ≡ c.lengths
    → IsControlBut p d (record s { counts = set s.counts k (count_of s k - 1) }) t
    → IsPerformed p s t d cells mine Running
acquires p s t i c d cells mine k poised is same control =
    moved_on p s t i c d cells mine cells (OnSemaphore k Acquires) _ Running poised is control
    (still p s t i c d cells mine poised same) refl refl

pub releases : (p : Program) (s : Snapshot) (t : ℕ) (i : Instruction) (c d : Control)
    (cells mine : List ℤ) (k : ℕ)
    → IsPoised p s t i c cells mine → action_of i ≡ Some (OnSemaphore k Releases)
    → is_full (count_of s k) ≡ false
    → d.lengths ≡ c.lengths
    → IsControlBut p d (record s { counts = set s.counts k (count_of s k + 1) }) t
    → IsPerformed p s t d cells mine Running
releases p s t i c d cells mine k poised is room same control =
    moved_on p s t i c d cells mine cells (OnSemaphore k Releases) _ Running poised is control
    (still p s t i c d cells mine poised same) refl
    (λ j. record s {
      counts = set s.counts k (cond (room j) (count_of s k) (count_of s k + 1));
      threads = set s.threads t (cond (room j) (with_status (thread_at s t) (Stopped SemFull))
          (resumed (code_of p t) (thread_at s t)));
    })

pub cannot_release : (p : Program) (s : Snapshot) (t : ℕ) (i : Instruction) (c : Control)
    (cells mine : List ℤ) (k : ℕ)
    → IsPoised p s t i c cells mine → action_of i ≡ Some (OnSemaphore k Releases)
    → is_full (count_of s k) ≡ true
    → IsPerformed p s t c cells mine (Stopped SemFull)
cannot_release p s t i c cells mine k poised is full =
    moved_on p s t i c c cells mine cells (OnSemaphore k Releases) s (Stopped SemFull) poised is
    (leaves p s t i c cells mine (OnSemaphore k Releases) poised is (λ n. refl) (λ j. refl))
    poised.shared refl
    ((λ j. record s {
      counts = set s.counts k (cond (full j) (count_of s k) (count_of s k + 1));
      threads = set s.threads t (cond (full j) (with_status (thread_at s t) (Stopped SemFull))
          (resumed (code_of p t) (thread_at s t)));
    }) ∙ (λ j. record s {
      counts = set-get_or s.counts k 0 j;
      threads = set s.threads t (with_status (thread_at s t) (Stopped SemFull));
    }))

-- places and limits

pub full_count : (n : ℕ) → n ≡ COUNT → is_full n ≡ true
full_count n e = grind (arith, nat_tests, e)

pub room_count : (n : ℕ) → n ≢ COUNT → is_full n ≡ false
room_count n e = grind (arith, nat_tests, e)

-- a wait, for the owner of the mutex and for another
pub waits_on : (p : Program) (s : Snapshot) (t : ℕ) (i : Instruction) (c d : Control)
    (cells mine cells' : List ℤ) (n m : ℕ)
    → IsPoised p s t i c cells mine → action_of i ≡ Some (Waits n m) → owns t (owner_of s m) ≡ true
    → IsControlBut p d (record s {
      queues = set s.queues n (queue_of s n ++ t ∷ []);
      owners = set
          s.owners m None;
    }) t
    → AreShared d.lengths cells' s.vars (set s.queues n (queue_of s n ++ t ∷ []))
    → IsPerformed p s t d cells' mine (Waiting n)
waits_on p s t i c d cells mine cells' n m poised is mine_it control held =
    moved_on p s t i c d cells mine cells' (Waits n m) _ (Waiting n) poised is control held refl
    (λ j. record s {
      owners = set s.owners m (cond (mine_it j) None (owner_of s m));
      queues = set s.queues n (cond (mine_it j) (queue_of s n ++ t ∷ []) (queue_of s n));
      threads = set s.threads t (cond (mine_it j) (with_status (thread_at s t) (Waiting n))
          (with_status (thread_at s t) (Stopped NotHeld)));
    })

pub cannot_wait : (p : Program) (s : Snapshot) (t : ℕ) (i : Instruction) (c : Control)
    (cells mine : List ℤ) (n m : ℕ)
    → IsPoised p s t i c cells mine → action_of i ≡ Some (Waits n m) → owns t (owner_of s m) ≡ false
    → IsPerformed p s t c cells mine (Stopped NotHeld)
cannot_wait p s t i c cells mine n m poised is not_it =
    moved_on p s t i c c cells mine cells (Waits n m) s (Stopped NotHeld) poised is
    (leaves p s t i c cells mine (Waits n m) poised is (λ k. refl) (λ k. refl)) poised.shared
    refl
    ((λ j. record s {
      owners = set s.owners m (cond (not_it j) None (owner_of s m));
      queues = set s.queues n (cond (not_it j) (queue_of s n ++ t ∷ []) (queue_of s n));
      threads = set s.threads t (cond (not_it j) (with_status (thread_at s t) (Waiting n))
          (with_status (thread_at s t) (Stopped NotHeld)));
    }) ∙ (λ j. record s {
      owners = set-get_or s.owners m None j;
      queues = set-get_or s.queues n [] j;
      threads = set s.threads t (with_status (thread_at s t) (Stopped NotHeld));
    }))

pub room_for : (p : Program) (s : Snapshot) (t : ℕ) (i : Instruction) (c : Control)
    (cells mine : List ℤ) (n m : ℕ)
    → IsPoised p s t i c cells mine → action_of i ≡ Some (Waits n m) → get_or c.lengths n 0 < 16
room_for p s t i c cells mine n m poised is =
    let r = room_in_queue p s t n (Waits n m) poised.of.waiters poised.thread (poised.next ∙ is) in
    omega (arith, r, poised.of.few, poised.control.objects.lengths_are n)

nothing : (q : List ℕ) → length q ≡ 0 → q ≡ []
nothing [] e = refl
nothing (x ∷ q) e = absurd (omega arith)

-- a signal

first_in : (q : List ℕ) (f : ℕ) → take 1 q ≡ f ∷ [] → In q f
first_in [] f e = cc
first_in (x ∷ q) f e = inl (let h : x ≡ f = cc in h)

pub first_waits : (p : Program) (s : Snapshot) (t n f : ℕ) (i : Instruction) (c : Control)
    (cells mine : List ℤ)
    → IsPoised p s t i c cells mine → take 1 (queue_of s n) ≡ f ∷ [] → (thread_at s f).status
    ≡ Waiting n
first_waits p s t n f i c cells mine poised e = poised.of.waiters.waits n f
    (first_in (queue_of s n) f e)

pub first_apart : (p : Program) (s : Snapshot) (t n f : ℕ) (i : Instruction) (c : Control)
    (cells mine : List ℤ)
    → IsPoised p s t i c cells mine → (thread_at s f).status ≡ Waiting n → f ≢ t
first_apart p s t n f i c cells mine poised waits = λ e.
    let r : (thread_at s f).status ≡ Running = ap (λ k. (thread_at s k).status) e ∙ poised.status in
    let q : Waiting n ≡ Running = sym waits ∙ r in cc

pub first_below : (p : Program) (s : Snapshot) (t n f : ℕ) (i : Instruction) (c : Control)
    (cells mine : List ℤ)
    → IsPoised p s t i c cells mine → take 1 (queue_of s n) ≡ f ∷ [] → f < length s.threads
first_below p s t n f i c cells mine poised e = elim (cases_lt f (length s.threads)) [
  | inl l ↦ l
  | inr g ↦ (let w : Waiting n ≡ Ended = sym (first_waits p s t n f i c cells mine poised e)
      ∙ ap (λ (x : Thread). x.status) (get_or_past s.threads f missing_thread g) in cc)
]

pub signals : (p : Program) (s : Snapshot) (t n f : ℕ) (c d : Control) (cells mine : List ℤ)
    → IsPoised p s t (Signal n) c cells mine → take 1 (queue_of s n) ≡ f ∷ []
    → IsControlBut p d (record s {
      queues = set s.queues n (drop 1 (queue_of s n));
      threads = set s.threads f (with_status (thread_at s f) Woken);
    }) t
    → AreShared d.lengths cells s.vars (set s.queues n (drop 1 (queue_of s n)))
    → IsPerformed p s t d cells mine Running
signals p s t n f c d cells mine poised e control held = record {
  after = record s {
    queues = set s.queues n (drop 1 (queue_of s n));
    threads = set s.threads f (with_status (thread_at s f) Woken);
  };
  th = thread_at s t;
  control = control;
  shared = held;
  own = poised.own;
  pc = refl;
  threads = length-set s.threads f (with_status (thread_at s f) Woken);
  others = λ u ne. go u (cases_order u f);
  step = ap (acts p s t (thread_at s t)) poised.next ∙ (λ j. record s {
    queues = set s.queues n (drop 1 (queue_of s n));
    threads = set (called j) t (resumed (code_of p t) (thread_at s t));
  });
}
  where
    below : f < length s.threads
    below = first_below p s t n f (Signal n) c cells mine poised e

    waits : (thread_at s f).status ≡ Waiting n
    waits = first_waits p s t n f (Signal n) c cells mine poised e

    same : nat_eq n n ≡ true
    same = grind (arith, nat_tests)

    called : wake n (take 1 (queue_of s n)) s.threads
        ≡ set s.threads f (with_status (thread_at s f) Woken)
    called = ap (λ q. wake n q s.threads) e
        ∙ ap (λ w. set s.threads f (with_status (thread_at s f) w))
        (ap (woken_status n) waits ∙ ap (λ b. cond b Woken (Waiting n)) same)

    go : (u : ℕ) → (u ≡ f) ⊎ ((u < f) ⊎ (f < u))
        → (get_or (set s.threads f (with_status (thread_at s f) Woken)) u missing_thread).locals
        ≡ (thread_at s u).locals
    go u (inl q) = rw q (ap (λ (x : Thread). x.locals) (get_or-set_same s.threads f
        (with_status (thread_at s f) Woken) missing_thread below))
    go u (inr (inl l)) = ap (λ (x : Thread). x.locals)
        (get_or-set_other s.threads f u (with_status (thread_at s f) Woken) missing_thread
        (omega arith))
    go u (inr (inr l)) = ap (λ (x : Thread). x.locals)
        (get_or-set_other s.threads f u (with_status (thread_at s f) Woken) missing_thread
        (omega arith))

pub signals_nobody : (p : Program) (s : Snapshot) (t n : ℕ) (c : Control) (cells mine : List ℤ)
    → IsPoised p s t (Signal n) c cells mine → get_or c.lengths n 0 ≡ 0
    → IsPerformed p s t c cells mine Running
signals_nobody p s t n c cells mine poised none =
    moved_on p s t (Signal n) c c cells mine cells (OnCondition n Signals) s Running poised refl
    (leaves p s t (Signal n) c cells mine (OnCondition n Signals) poised refl (λ k. refl)
    (λ k. refl)) poised.shared refl
    ((λ j. record s {
      queues = set s.queues n (drop 1 (empty j));
      threads = set (wake n (take 1 (empty j)) s.threads) t (resumed (code_of p t) (thread_at s t));
    }) ∙ ((λ j. record s {
      queues = set s.queues n (sym empty j);
      threads = set s.threads t (resumed (code_of p t) (thread_at s t));
    }) ∙ (λ j. record s {
      queues = set-get_or s.queues n [] j;
      threads = set s.threads t (resumed (code_of p t) (thread_at s t));
    })))
  where
    empty : queue_of s n ≡ []
    empty = nothing (queue_of s n) (sym (poised.control.objects.lengths_are n) ∙ none)

-- a queue has no more threads than there are
pub few_wait : (p : Program) (s : Snapshot) (t n : ℕ) (i : Instruction) (c : Control)
    (cells mine : List ℤ) {d : Action} → IsPoised p s t i c cells mine → action_of i ≡ Some d
    → get_or c.lengths n 0 ≤ 16
few_wait p s t n i c cells mine {d = d} poised is =
    let r = room_in_queue p s t n d poised.of.waiters poised.thread (poised.next ∙ is) in
    omega (arith, r, poised.of.few, poised.control.objects.lengths_are n)

-- a broadcast

pub calling_start : (p : Program) (s : Snapshot) (t n : ℕ) (c : Control) (cells mine : List ℤ)
    → IsPoised p s t (Broadcast n) c cells mine → IsCalling p s t n c cells
calling_start p s t n c cells mine poised = record {
  rest = queue_of s n;
  threads = s.threads;
  control = subst (λ q. IsControlBut p c (record s { queues = q; threads = s.threads }) t)
      (sym (set-get_or s.queues n []))
      (leaves p s t (Broadcast n) c cells mine (OnCondition n Broadcasts) poised refl (λ k. refl)
      (λ k. refl));
  shared = subst (λ q. AreShared c.lengths cells s.vars q) (sym (set-get_or s.queues n []))
      poised.shared;
  same = refl;
  waits = λ u i. poised.of.waiters.waits n u i;
  once = poised.of.waiters.once n;
  many = refl;
  locals = λ u. refl;
  me = refl;
}

module _ (p : Program) (s : Snapshot) (t n : ℕ) (c : Control) (cells : List ℤ)
    (h : IsCalling p s t n c cells)
    (inside : n < length s.queues)
    (running : (thread_at s t).status ≡ Running) where
  abbrev pub calling_state : Snapshot
  calling_state = record s { queues = set s.queues n h.rest; threads = h.threads }

  queue_now : get_or (set s.queues n h.rest) n [] ≡ h.rest
  queue_now = get_or-set_same s.queues n h.rest [] inside

  module _ (f : ℕ) (first : take 1 (get_or (set s.queues n h.rest) n []) ≡ f ∷ []) where
    front : take 1 h.rest ≡ f ∷ []
    front = ap (take 1) (sym queue_now) ∙ first

    pub called_waits : (get_or h.threads f missing_thread).status ≡ Waiting n
    called_waits = h.waits f (first_in h.rest f front)

    pub called_apart : f ≢ t
    called_apart = λ e.
        let r : (get_or h.threads f missing_thread).status ≡ Running =
        ap (λ k. (get_or h.threads k missing_thread).status) e
        ∙ (ap (λ (x : Thread). x.status) h.me ∙ running) in
        let q : Waiting n ≡ Running = sym called_waits ∙ r in cc

    pub called_below : f < length h.threads
    called_below = elim (cases_lt f (length h.threads)) [
      | inl l ↦ l
      | inr g ↦ (let w : Waiting n ≡ Ended = sym called_waits
          ∙ ap (λ (x : Thread). x.status) (get_or_past h.threads f missing_thread g) in cc)
    ]

    abbrev pub to : Thread
    to = with_status (get_or h.threads f missing_thread) Woken

    same_nat : nat_eq n n ≡ true
    same_nat = grind (arith, nat_tests)

    is_woken_one : woken n (get_or h.threads f missing_thread) ≡ to
    is_woken_one = ap (with_status (get_or h.threads f missing_thread))
        (ap (woken_status n) called_waits ∙ ap (λ b. cond b Woken (Waiting n)) same_nat)

    woke : (q : List ℕ) → take 1 q ≡ f ∷ [] → wake n (drop 1 q) (set h.threads f to)
        ≡ wake n q h.threads
    woke [] e = cc
    woke (x ∷ q) e = let z : f ≡ x = cc in
        (λ i. wake n q (set h.threads f (sym is_woken_one i)))
        ∙ (ap (λ k. wake n q (set h.threads k (woken n (get_or h.threads k missing_thread)))) z)

    in_rest : (q : List ℕ) (u : ℕ) → In (drop 1 q) u → In q u
    in_rest [] u i = i
    in_rest (x ∷ q) u i = inr i

    not_first : (q : List ℕ) → take 1 q ≡ f ∷ [] → Once q → In (drop 1 q) f → ⊥
    not_first [] e o i = i
    not_first (x ∷ q) e o i = let z : f ≡ x = cc in o.0 (subst (In q) z i)

    once_rest : (q : List ℕ) → Once q → Once (drop 1 q)
    once_rest [] o = o
    once_rest (x ∷ q) o = o.1

    other : (u : ℕ) → u ≢ f → get_or (set h.threads f to) u missing_thread
        ≡ get_or h.threads u missing_thread
    other u ne = get_or-set_other h.threads f u to missing_thread ne

    pub calling_next : (d : Control)
        → IsControlBut p d (record s {
          queues = set (set s.queues n h.rest) n (drop 1 (get_or (set s.queues n h.rest) n []));
          threads = set h.threads f to;
        }) t
        → AreShared d.lengths cells s.vars
        (set (set s.queues n h.rest) n (drop 1 (get_or (set s.queues n h.rest) n [])))
        → IsCalling p s t n d cells
    calling_next d control held = record {
      rest = drop 1 h.rest;
      threads = set h.threads f to;
      control = subst (λ q. IsControlBut p d (record s {
        queues = q;
        threads = set h.threads f to;
      }) t)
          less control;
      shared = subst (λ q. AreShared d.lengths cells s.vars q) less held;
      same = woke h.rest front ∙ h.same;
      waits = λ u i. ap (λ (x : Thread). x.status)
          (other u (λ e. not_first h.rest front h.once (subst (In (drop 1 h.rest)) e i)))
          ∙ h.waits u (in_rest h.rest u i);
      once = once_rest h.rest h.once;
      many = length-set h.threads f to ∙ h.many;
      locals = λ u. go u (cases_order u f);
      me = other t (λ e. called_apart (sym e)) ∙ h.me;
    }
      where
        less : set (set s.queues n h.rest) n (drop 1 (get_or (set s.queues n h.rest) n []))
            ≡ set s.queues n (drop 1 h.rest)
        less = set_twice s.queues n h.rest (drop 1 (get_or (set s.queues n h.rest) n []))
            ∙ ap (λ q. set s.queues n (drop 1 q)) queue_now

        go : (u : ℕ) → (u ≡ f) ⊎ ((u < f) ⊎ (f < u))
            → (get_or (set h.threads f to) u missing_thread).locals ≡ (thread_at s u).locals
        go u (inl q) = rw q (ap (λ (x : Thread). x.locals) (get_or-set_same h.threads f to
            missing_thread called_below)
            ∙ h.locals f)
        go u (inr (inl l)) = ap (λ (x : Thread). x.locals) (other u (omega arith)) ∙ h.locals u
        go u (inr (inr l)) = ap (λ (x : Thread). x.locals) (other u (omega arith)) ∙ h.locals u

pub calling_done : (p : Program) (s : Snapshot) (t n : ℕ) (c d : Control) (cells mine : List ℤ)
    → IsPoised p s t (Broadcast n) c cells mine → IsCalling p s t n d cells
    → get_or d.lengths n 0 ≡ 0
    → IsPerformed p s t d cells mine Running
calling_done p s t n c d cells mine poised h none = record {
  after = record s { queues = set s.queues n []; threads = h.threads };
  th = thread_at s t;
  control = subst (λ q. IsControlBut p d (record s {
    queues = set s.queues n q;
    threads =
        h.threads;
  }) t) empty h.control;
  shared = subst (λ q. AreShared d.lengths cells s.vars (set s.queues n q)) empty h.shared;
  own = poised.own;
  pc = refl;
  threads = h.many;
  others = λ u ne. h.locals u;
  step = ap (acts p s t (thread_at s t)) poised.next ∙ (λ j. record s {
    queues = set s.queues n [];
    threads = set ((sym h.same ∙ ap (λ q. wake n q h.threads) empty) j) t
        (resumed (code_of p t) (thread_at s t));
  });
}
  where
    inside : n < length s.queues
    inside = omega (arith, poised.fine, poised.of.queues)

    empty : h.rest ≡ []
    empty = nothing h.rest (ap (λ (q : List ℕ). length q) (sym
        (get_or-set_same s.queues n h.rest [] inside))
        ∙ (sym (h.control.objects.lengths_are n) ∙ none))

-- whether a thread owns a mutex, by the number that is kept of its owner
pub owns_number : (t n : ℕ) (o : Option ℕ) → t < 16 → thread_or_none n ≡ o
    → owns t o ≡ nat_eq n t
owns_number t n o few is = ap (owns t) (sym is) ∙ go (nat_eq n FREE) refl
  where
    go : (b : Bool) → nat_eq n FREE ≡ b → owns t (if b then None else Some n) ≡ nat_eq n t
    go true e = let z : n ≡ FREE = grind (arith, nat_tests, e) in
        let w : nat_eq n t ≡ false = grind (arith, nat_tests, z, few) in sym w
    go false e = grind (arith, nat_tests)

-- the read of an owner, at another default
pub owner_is : (owners : List ℕ) (m t : ℕ) → m < length owners → get_or owners m 0 ≡ t
    → nat_eq (get_or owners m FREE) t ≡ true
owner_is owners m t l e = let z = get_or_default owners m FREE 0 l ∙ e in
    grind (arith, nat_tests, z)

pub owner_is_not : (owners : List ℕ) (m t : ℕ) → m < length owners → get_or owners m 0 ≢ t
    → nat_eq (get_or owners m FREE) t ≡ false
owner_is_not owners m t l ne = let z = get_or_default owners m FREE 0 l in
    let w : get_or owners m FREE ≢ t = λ e. ne (sym z ∙ e) in grind (arith, nat_tests, w)
