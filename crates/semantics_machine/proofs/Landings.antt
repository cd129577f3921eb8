-- A thread is put where it is after its step, or after it was called.
use Rattle.std.specs.Prelude.{if◌then◌else◌}
use Rattle.std.proofs.Common.{◌≡◌, ◌≢◌, ℕ, zero, suc, ◌+◌, ◌<◌, ℤ, cond, List, [], ◌∷◌, drop, slice_get, Bool, true, false, not, ◌&&◌, ◌⊎◌, nat_eq, nat_lt, length, Option, Some, None, get_or, set, refl, ap, ◌∙◌, sym, subst, arith, get_or-set_same, get_or-set_other, inl, inr}
use Rattle.std.proofs.lemmas.Bool.{cases_order}
use Rattle.guest_code.specs.{Program.Program, declared.program.Expression.Expression}
use Rattle.guest_code.specs.declared.program.Instruction.{Instruction}
use Rattle.guest_code.specs.declared.program.Instruction.TheVariants.{Lock, Acquire, Set, Assert, SkipIfZero, Skip}
use Rattle.semantics.specs.Ends.{is_stopped, is_ended}
use Rattle.semantics.specs.Machine.{Snapshot, thread_at, owner_of, can_do, is_free, missing_thread, action_of, action_at, value_of_expression, is_zero}
use Rattle.semantics.specs.{Mask.has, Turns.{turn_of, IsFree}, declared.local.Landing.Landing}
use Rattle.semantics.specs.declared.{local.Turn.TheVariants.{Runs, Fails, Visible}, mask.Mask.Mask}
use Rattle.semantics.specs.declared.state.Action.{Action, TheVariants.{OnMutex, OnSemaphore}}
use Rattle.semantics.specs.declared.state.MutexAction.{MutexAction}
use Rattle.semantics.specs.declared.state.MutexAction.TheVariants.{Lock as Locks, Unlock as Unlocks, Retake as Retakes}
use Rattle.semantics.specs.declared.state.SemaphoreAction.TheVariants.{Acquire as Acquires}
use Rattle.semantics.specs.declared.state.{Status.TheVariants.{Running, Waiting}, Thread.Thread}
use Rattle.semantics_machine.specs.Refinement.{thread_or_none, takes_mutex, takes_semaphore, is_woken, at_mutex, at_semaphore, held, next_at, HasObjects, HasThreadAt, IsControl}
use Rattle.semantics_machine.specs.declared.control.{Control.Control, TheConstants.FREE}
use Rattle.semantics_machine.specs.inner.LocalRuns.{IsLandingOf}
use Rattle.semantics_machine.specs.inner.Parts.{IsIdle, IsApart, IsControlBut, LeavesOthers, IsMarked, Stands, Lands, IsTaking, IsPlain, IsFreeIn}
use Rattle.semantics_machine.{specs.inner.Steps.Faces, proofs.Lists.{set_has, set_there}}
use Rattle.semantics_machine.proofs.Objects.{can_held}

and_true : (b : Bool) → (b && true) ≡ b
and_true true = refl
and_true false = refl

-- a mutex is free where its owner's number stands for none
pub free_is : (n : ℕ) (b : Bool) → b ≡ nat_eq n FREE → b ≡ is_free (thread_or_none n)
free_is n b e = e ∙ elim (nat_eq n FREE) as (λ q. q ≡ is_free (if q then None else Some n)) [
  | true ↦ refl
  | false ↦ refl
]

-- nothing changes for the others
pub same_others : (t : ℕ) (c : Control) → LeavesOthers t c c
same_others t c = record {
  places = λ u ne. refl;
  unended = λ u ne. refl;
  stopped = λ u ne. refl;
  woken = λ u ne. refl;
  enabled = λ u ne. refl;
  mutexes = λ m u ne. refl;
  semaphores = λ k u ne. refl;
}

-- at a mutex

taking : (d : MutexAction) (s : Snapshot) (m : ℕ) → IsTaking d
    → (((n : ℕ) → takes_mutex n (Some (OnMutex m d)) ≡ nat_eq m n)
    × (can_do (held s) (Some (OnMutex m d)) ≡ is_free (owner_of s m)))
taking Locks s m h = ((λ n. refl), refl)
taking Retakes s m h = ((λ n. refl), refl)
taking Unlocks s m h = absurd h

pub stands_at_mutex : (s : Snapshot) (t m : ℕ) (d : MutexAction) (c : Control) (near : Mask)
    (on : Bool)
    → HasObjects c s → IsApart c t → IsTaking d → m < length c.mutexes
    → has near t ≡ true → ((u : ℕ) → u ≢ t → has near u ≡ has (at_mutex c m) u)
    → on ≡ is_free (thread_or_none (get_or c.owners m FREE))
    → Stands c (record c { mutexes = set c.mutexes m near }) s t (Some (OnMutex m d)) on
stands_at_mutex s t m d c near on objects apart take few here others free = record {
  objects = objects;
  others = record {
    places = λ u ne. refl;
    unended = λ u ne. refl;
    stopped = λ u ne. refl;
    woken = λ u ne. refl;
    enabled = λ u ne. refl;
    mutexes = λ n u ne. set_has c.mutexes m u near few (others u ne) n;
    semaphores = λ k u ne. refl;
  };
  unended = refl;
  stopped = refl;
  woken = refl;
  mutexes = λ n. set_there c.mutexes m t near true few here (λ k e. apart.mutexes k) n
      ∙ (and_true (nat_eq m n) ∙ sym ((taking d s m take).0 n));
  semaphores = apart.semaphores;
  free = free ∙ (ap is_free (objects.owners_are m) ∙ sym (taking d s m take).1);
}

-- at a semaphore

pub stands_at_semaphore : (s : Snapshot) (t k : ℕ) (c : Control) (near : Mask)
    → HasObjects c s → IsApart c t → k < length c.semaphores
    → has near t ≡ true → ((u : ℕ) → u ≢ t → has near u ≡ has (at_semaphore c k) u)
    → Stands c (record c { semaphores = set c.semaphores k near }) s t
    (Some (OnSemaphore k Acquires)) (nat_lt 0 (get_or c.counts k 0))
stands_at_semaphore s t k c near objects apart few here others = record {
  objects = objects;
  others = record {
    places = λ u ne. refl;
    unended = λ u ne. refl;
    stopped = λ u ne. refl;
    woken = λ u ne. refl;
    enabled = λ u ne. refl;
    mutexes = λ m u ne. refl;
    semaphores = λ n u ne. set_has c.semaphores k u near few (others u ne) n;
  };
  unended = refl;
  stopped = refl;
  woken = refl;
  mutexes = apart.mutexes;
  semaphores = λ n. set_there c.semaphores k t near true few here (λ j e. apart.semaphores j) n
      ∙ and_true (nat_eq k n);
  free = ap (nat_lt 0) (objects.counts_are k);
}

-- at neither

pub stands_at_none : (s : Snapshot) (t : ℕ) (a : Option Action) (c : Control) (on : Bool)
    → HasObjects c s → IsApart c t → IsPlain a on → Stands c c s t a on
stands_at_none s t a c on objects apart plain = record {
  objects = objects;
  others = same_others t c;
  unended = refl;
  stopped = refl;
  woken = refl;
  mutexes = λ m. apart.mutexes m ∙ plain.1 m;
  semaphores = λ k. apart.semaphores k ∙ plain.2 k;
  free = plain.0 s;
}

pub nothing : (a : Option Action) → a ≡ None → IsPlain a false
nothing a e = subst (λ b. IsPlain b false) (sym e) ((λ s. refl), (λ m. refl), (λ k. refl))

-- a visible instruction that takes nothing
pub plain_else : (x : Instruction) → ((m : ℕ) → x ≡ Lock m → ⊥) → ((k : ℕ) → x ≡ Acquire k → ⊥)
    → ((r : ℕ) → (e : Expression) → x ≡ Set r e → ⊥) → ((e : Expression) → x ≡ Assert e → ⊥)
    → ((e : Expression) → (n : ℕ) → x ≡ SkipIfZero e n → ⊥) → ((n : ℕ) → x ≡ Skip n → ⊥)
    → IsPlain (action_of x) true
plain_else (Lock m) a b c d e f = absurd (a m refl)
plain_else (Acquire k) a b c d e f = absurd (b k refl)
plain_else (Set r v) a b c d e f = absurd (c r v refl)
plain_else (Assert v) a b c d e f = absurd (d v refl)
plain_else (SkipIfZero v n) a b c d e f = absurd (e v n refl)
plain_else (Skip n) a b c d e f = absurd (f n refl)
plain_else x a b c d e f = ((λ s. refl), (λ m. refl), (λ k. refl))

fails_or_runs : (at : ℕ) (b : Bool) → cond b Fails (Runs (at + 1)) ≡ Visible → ⊥
fails_or_runs at true h = cc
fails_or_runs at false h = cc

-- where a local run comes to one
plain_there : (at : ℕ) (locals : List ℤ) (is : List Instruction)
    → turn_of at locals is ≡ Visible → IsPlain (action_at Running (slice_get is 0)) true
plain_there at locals [] h = absurd cc
plain_there at locals (Lock m ∷ is) h = absurd cc
plain_there at locals (Acquire k ∷ is) h = absurd cc
plain_there at locals (Set r e ∷ is) h = absurd cc
plain_there at locals (Assert e ∷ is) h = absurd (fails_or_runs at
    (is_zero (value_of_expression locals e)) h)
plain_there at locals (SkipIfZero e n ∷ is) h = absurd cc
plain_there at locals (Skip n ∷ is) h = absurd cc
plain_there at locals (i ∷ is) h = ((λ s. refl), (λ m. refl), (λ k. refl))

there_first : (code : List Instruction) (k : ℕ) → slice_get (drop k code) 0 ≡ slice_get code k
there_first [] zero = refl
there_first [] (suc k) = refl
there_first (i ∷ code) zero = refl
there_first (i ∷ code) (suc k) = there_first code k

pub free_there : (code : List Instruction) (at : Landing)
    → (at.free ≡ true → IsFree code at Running) → IsFreeIn code at
free_there code at known free =
    let h = known free in
    subst (λ w. IsPlain (action_at w (slice_get code at.pc)) true) (sym h.status)
    (subst (λ i. IsPlain (action_at Running i) true) (there_first code at.pc)
    (plain_there at.pc h.locals (drop at.pc code) h.turn))

-- what a thread comes to that never waits is let by the objects
pub faces_visible : (c : Control) (code : List Instruction) (at : ℕ) (locals : List ℤ)
    → turn_of at locals (drop at code) ≡ Visible → Faces c (slice_get code at)
faces_visible c code at locals turn i here s objects =
    sym ((plain_there at locals (drop at code) turn).0 s
    ∙ (ap (λ o. can_do (held s) (action_at Running o)) (there_first code at ∙ here)
    ∙ can_held s (action_of i)))

-- all together

both : (t : ℕ) (c d e : Control) → LeavesOthers t c d → LeavesOthers t d e → LeavesOthers t c e
both t c d e f g = record {
  places = λ u ne. g.places u ne ∙ f.places u ne;
  unended = λ u ne. g.unended u ne ∙ f.unended u ne;
  stopped = λ u ne. g.stopped u ne ∙ f.stopped u ne;
  woken = λ u ne. g.woken u ne ∙ f.woken u ne;
  enabled = λ u ne. g.enabled u ne ∙ f.enabled u ne;
  mutexes = λ m u ne. g.mutexes m u ne ∙ f.mutexes m u ne;
  semaphores = λ k u ne. g.semaphores k u ne ∙ f.semaphores k u ne;
}

pub landed : (p : Program) (s : Snapshot) (t : ℕ) (th : Thread) (at : Landing) (c d e : Control)
    (on : Bool)
    (more : Mask)
    → IsMarked c d t at.status → HasObjects c s → IsLandingOf at th
    → (HasObjects d s → IsApart d t
    → Stands d e s t (next_at p t (record th { pc = at.pc; status = at.status })) on)
    → t < length e.places → has more t ≡ on → ((u : ℕ) → u ≢ t → has more u ≡ has e.enabled u)
    → Lands p c (record e { enabled = more; places = set e.places t at.pc }) s t th
landed p s t th at c d e on more mark objects land stands few here others = record {
  objects = st.objects;
  others = record {
    places = λ u ne. get_or-set_other e.places t u at.pc 0 ne ∙ left.places u ne;
    unended = left.unended;
    stopped = left.stopped;
    woken = left.woken;
    enabled = λ u ne. others u ne ∙ left.enabled u ne;
    mutexes = left.mutexes;
    semaphores = left.semaphores;
  };
  own = record {
    place = get_or-set_same e.places t at.pc 0 few ∙ land.pc;
    unended = ap (λ w. has w t) st.unended ∙ (mark.unended ∙ ap (λ x. not (is_ended x))
        land.status);
    stopped = ap (λ w. has w t) st.stopped ∙ (mark.stopped ∙ ap is_stopped land.status);
    woken = ap (λ w. has w t) st.woken ∙ (mark.woken ∙ ap is_woken land.status);
    enabled = here ∙ (st.free ∙ ap (can_do (held s)) same);
    mutexes = λ m. st.mutexes m ∙ ap (takes_mutex m) same;
    semaphores = λ k. st.semaphores k ∙ ap (takes_semaphore k) same;
  };
}
  where
    st : Stands d e s t (next_at p t (record th { pc = at.pc; status = at.status })) on
    st = stands (mark.objects s objects) mark.apart

    left : LeavesOthers t c e
    left = both t c d e mark.others st.others

    same : next_at p t (record th { pc = at.pc; status = at.status }) ≡ next_at p t th
    same = λ i. next_at p t (record th { pc = land.pc i; status = land.status i })

-- the state with this thread

there_still : (p : Program) (s : Snapshot) (t u : ℕ) (c d : Control) → LeavesOthers t c d → u ≢ t
    → HasThreadAt p c s u (thread_at s u) → HasThreadAt p d s u (thread_at s u)
there_still p s t u c d left ne h = record {
  place = left.places u ne ∙ h.place;
  unended = left.unended u ne ∙ h.unended;
  stopped = left.stopped u ne ∙ h.stopped;
  woken = left.woken u ne ∙ h.woken;
  enabled = left.enabled u ne ∙ h.enabled;
  mutexes = λ m. left.mutexes m u ne ∙ h.mutexes m;
  semaphores = λ k. left.semaphores k u ne ∙ h.semaphores k;
}

pub with_thread : (p : Program) (s : Snapshot) (t u : ℕ) (th : Thread) (c d : Control)
    → t < length s.threads → Lands p c d s t th
    → (u ≢ t → HasThreadAt p c s u (thread_at s u))
    → HasThreadAt p d s u (get_or (set s.threads t th) u missing_thread)
with_thread p s t u th c d there lands rest = go (cases_order u t)
  where
    other : u ≢ t → HasThreadAt p d s u (get_or (set s.threads t th) u missing_thread)
    other ne = subst (HasThreadAt p d s u) (sym (get_or-set_other s.threads t u th missing_thread
        ne))
        (there_still p s t u c d lands.others ne (rest ne))

    go : (u ≡ t) ⊎ ((u < t) ⊎ (t < u))
        → HasThreadAt p d s u (get_or (set s.threads t th) u missing_thread)
    go (inl e) = rw e (subst (HasThreadAt p d s t)
        (sym (get_or-set_same s.threads t th missing_thread there)) lands.own)
    go (inr (inl l)) = other (omega arith)
    go (inr (inr l)) = other (omega arith)

-- after a step
pub arrived : (p : Program) (s : Snapshot) (t : ℕ) (th : Thread) (c d : Control)
    → IsControlBut p c s t → t < length s.threads → Lands p c d s t th
    → IsControl p d (record s { threads = set s.threads t th })
arrived p s t th c d shows there lands = record {
  objects = lands.objects;
  threads = λ u. with_thread p s t u th c d there lands (shows.threads u);
}

-- a thread that waits is idle
pub waiting_is_idle : (p : Program) (s : Snapshot) (u n : ℕ) (c : Control)
    → HasThreadAt p c s u (thread_at s u) → (thread_at s u).status ≡ Waiting n → IsIdle c u
waiting_is_idle p s u n c h waits = record {
  unended = h.unended ∙ ap (λ x. not (is_ended x)) waits;
  stopped = h.stopped ∙ ap is_stopped waits;
  woken = h.woken ∙ ap is_woken waits;
  apart = record {
    mutexes = λ m. h.mutexes m ∙ ap (takes_mutex m) none;
    semaphores = λ k. h.semaphores k ∙ ap (takes_semaphore k) none;
  };
}
  where
    none : next_at p u (thread_at s u) ≡ None
    none = ap (λ w. next_at p u (record (thread_at s u) { status = w })) waits

-- another thread gets another status, while thread t takes its step
pub called : (p : Program) (s : Snapshot) (t u : ℕ) (th : Thread) (c d : Control)
    → IsControlBut p c s t → u ≢ t → u < length s.threads → Lands p c d s u th
    → IsControlBut p d (record s { threads = set s.threads u th }) t
called p s t u th c d shows apart there lands = record {
  objects = lands.objects;
  threads = λ v ne. with_thread p s u v th c d there lands (λ other. shows.threads v ne);
  idle = record {
    unended = left.unended t away ∙ shows.idle.unended;
    stopped = left.stopped t away ∙ shows.idle.stopped;
    woken = left.woken t away ∙ shows.idle.woken;
    apart = record {
      mutexes = λ m. left.mutexes m t away ∙ shows.idle.apart.mutexes m;
      semaphores = λ k. left.semaphores k t away ∙ shows.idle.apart.semaphores k;
    };
  };
}
  where
    away : t ≢ u
    away = λ e. apart (sym e)

    left : LeavesOthers u c d
    left = lands.others
