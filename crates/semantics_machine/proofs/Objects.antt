-- Who may go on after a change of an object, and the sets of those who are at it.
use Rattle.std.specs.Prelude.{if◌then◌else◌}
use Rattle.std.proofs.Common.{◌≡◌, ◌≢◌, ℕ, zero, suc, ◌+◌, ◌-◌, ◌<◌, Bool, true, false, cond, not, ◌&&◌, ◌||◌, nat_eq, nat_lt, length, Option, Some, None, slice_get, get_or, set, refl, ap, ◌∙◌, sym, arith, get_or-set_same, get_or-set_other}
use Rattle.std.proofs.lemmas.Bool.Decides.{nat_tests}
use Rattle.guest_code.specs.{Program.{Program, code_of}, declared.program.Instruction.Instruction}
use Rattle.semantics.specs.Ends.{is_stopped, is_ended}
use Rattle.semantics.specs.Machine.{Snapshot, thread_at, owner_of, count_of, next_of, is_enabled, can_do, action_at, is_free}
use Rattle.semantics.specs.{Mask.has, declared.mask.Mask.Mask, declared.state.Action.Action}
use Rattle.semantics.specs.declared.state.Action.TheVariants.{OnVariable, OnMutex, Wait as Waits, OnCondition, OnSemaphore}
use Rattle.semantics.specs.declared.state.MutexAction.{MutexAction}
use Rattle.semantics.specs.declared.state.MutexAction.TheVariants.{Lock as Locks, Unlock as Unlocks, Retake as Retakes}
use Rattle.semantics.specs.declared.state.SemaphoreAction.TheVariants.{Acquire as Acquires, Release as Releases}
use Rattle.semantics.specs.declared.state.Status.{Status, TheVariants.{Ended, Stopped}}
use Rattle.semantics_machine.specs.Refinement.{takes_mutex, takes_semaphore, at_mutex, at_semaphore, held, thread_or_none, HasObjects, HasThreadAt, IsControl}
use Rattle.semantics_machine.specs.declared.control.{Control.Control, TheConstants.FREE}
use Rattle.semantics_machine.specs.inner.Parts.{IsControlBut, IsLeaving, IsTaking}
use Rattle.semantics_machine.proofs.Lists.{by_place, same_set, set_has, set_there, test_set}

and_true : (b : Bool) → (b && true) ≡ b
and_true true = refl
and_true false = refl

pub and_false : (b : Bool) → (b && false) ≡ false
and_false true = refl
and_false false = refl

or_false : (b : Bool) → (b || false) ≡ b
or_false true = refl
or_false false = refl

locked_out : (b q : Bool) → cond q false b ≡ (b && not q)
locked_out true true = refl
locked_out true false = refl
locked_out false true = refl
locked_out false false = refl

let_in : (b q : Bool) → cond q true b ≡ (b || q)
let_in true true = refl
let_in true false = refl
let_in false true = refl
let_in false false = refl

-- only the objects are asked
pub can_held : (s : Snapshot) (a : Option Action) → can_do (held s) a ≡ can_do s a
can_held s None = refl
can_held s (Some (OnVariable x d)) = refl
can_held s (Some (OnMutex n d)) = refl
can_held s (Some (Waits c n)) = refl
can_held s (Some (OnCondition c d)) = refl
can_held s (Some (OnSemaphore k d)) = refl

-- a mutex was taken
locked : (s : Snapshot) (m t : ℕ) (a : Option Action) → m < length s.owners
    → can_do (record s { owners = set s.owners m (Some t) }) a
    ≡ (can_do s a && not (takes_mutex m a))
locked s m t None l = refl
locked s m t (Some (OnVariable x d)) l = refl
locked s m t (Some (OnMutex n Locks)) l = test_set is_free s.owners m (Some t) None l n
    ∙ locked_out (is_free (owner_of s n)) (nat_eq n m)
locked s m t (Some (OnMutex n Retakes)) l = test_set is_free s.owners m (Some t) None l n
    ∙ locked_out (is_free (owner_of s n)) (nat_eq n m)
locked s m t (Some (OnMutex n Unlocks)) l = refl
locked s m t (Some (Waits c n)) l = refl
locked s m t (Some (OnCondition c d)) l = refl
locked s m t (Some (OnSemaphore k d)) l = sym (and_true (can_do s (Some (OnSemaphore k d))))

-- a mutex got free
freed : (s : Snapshot) (m : ℕ) (a : Option Action) → m < length s.owners
    → can_do (record s { owners = set s.owners m None }) a ≡ (can_do s a || takes_mutex m a)
freed s m None l = refl
freed s m (Some (OnVariable x d)) l = refl
freed s m (Some (OnMutex n Locks)) l = test_set is_free s.owners m None None l n
    ∙ let_in (is_free (owner_of s n)) (nat_eq n m)
freed s m (Some (OnMutex n Retakes)) l = test_set is_free s.owners m None None l n
    ∙ let_in (is_free (owner_of s n)) (nat_eq n m)
freed s m (Some (OnMutex n Unlocks)) l = refl
freed s m (Some (Waits c n)) l = refl
freed s m (Some (OnCondition c d)) l = refl
freed s m (Some (OnSemaphore k d)) l = sym (or_false (can_do s (Some (OnSemaphore k d))))

-- a semaphore can't be acquired any more
run_out : (s : Snapshot) (k : ℕ) (a : Option Action) → k < length s.counts
    → can_do (record s { counts = set s.counts k 0 }) a
    ≡ (can_do s a && not (takes_semaphore k a))
run_out s k None l = refl
run_out s k (Some (OnVariable x d)) l = refl
run_out s k (Some (OnMutex n d)) l = sym (and_true (can_do s (Some (OnMutex n d))))
run_out s k (Some (Waits c n)) l = refl
run_out s k (Some (OnCondition c d)) l = refl
run_out s k (Some (OnSemaphore j Acquires)) l = test_set (nat_lt 0) s.counts k 0 0 l j
    ∙ locked_out (nat_lt 0 (count_of s j)) (nat_eq j k)
run_out s k (Some (OnSemaphore j Releases)) l = refl

-- a semaphore can be acquired
let_through : (s : Snapshot) (k n : ℕ) (a : Option Action) → k < length s.counts
    → can_do (record s { counts = set s.counts k (suc n) }) a
    ≡ (can_do s a || takes_semaphore k a)
let_through s k n None l = refl
let_through s k n (Some (OnVariable x d)) l = refl
let_through s k n (Some (OnMutex m d)) l = sym (or_false (can_do s (Some (OnMutex m d))))
let_through s k n (Some (Waits c m)) l = refl
let_through s k n (Some (OnCondition c d)) l = refl
let_through s k n (Some (OnSemaphore j Acquires)) l =
    let one : nat_lt 0 (suc n) ≡ true = grind (arith, nat_tests) in
    test_set (nat_lt 0) s.counts k (suc n) 0 l j
    ∙ (ap (λ b. cond (nat_eq j k) b (nat_lt 0 (count_of s j))) one
    ∙ let_in (nat_lt 0 (count_of s j)) (nat_eq j k))
let_through s k n (Some (OnSemaphore j Releases)) l = refl

-- who is at a semaphore whose count is above 0 may go on
may_acquire : (s : Snapshot) (k : ℕ) (a : Option Action) → nat_lt 0 (count_of s k) ≡ true
    → (can_do s a || takes_semaphore k a) ≡ can_do s a
may_acquire s k None h = refl
may_acquire s k (Some (OnVariable x d)) h = refl
may_acquire s k (Some (OnMutex m d)) h = or_false (can_do s (Some (OnMutex m d)))
may_acquire s k (Some (Waits c m)) h = refl
may_acquire s k (Some (OnCondition c d)) h = refl
may_acquire s k (Some (OnSemaphore j Acquires)) h = go (nat_eq j k) refl
  where
    go : (q : Bool) → nat_eq j k ≡ q → (nat_lt 0 (count_of s j) || q) ≡ nat_lt 0 (count_of s j)
    go true e = let z : j ≡ k = grind (arith, nat_tests, e) in rw z (rw h refl)
    go false e = or_false (nat_lt 0 (count_of s j))
may_acquire s k (Some (OnSemaphore j Releases)) h = refl

-- a count that stays above 0
still : (s : Snapshot) (k n : ℕ) (a : Option Action) → k < length s.counts → 0 < n
    → nat_lt 0 (count_of s k) ≡ true
    → can_do (record s { counts = set s.counts k n }) a ≡ can_do s a
still s k zero a l z h = absurd (omega arith)
still s k (suc n) a l z h = let_through s k n a l ∙ may_acquire s k a h

-- a thread that is about to do something is not over
not_over : (s : Snapshot) (status : Status) (o : Option Instruction)
    → can_do s (action_at status o) ≡ true
    → (is_ended status ≡ false) × (is_stopped status ≡ false)
not_over s Ended o e = cc
not_over s (Stopped why) o e = cc
not_over s status o e = (refl, refl)

-- a thread that is about to take a step
pub leaving : (p : Program) (s : Snapshot) (t : ℕ) (c : Control) (a : Option Action)
    → IsControl p c s → is_enabled p s t ≡ true → next_of p s t ≡ a → IsLeaving p c s t a
leaving p s t c a shows on next = record {
  objects = shows.objects;
  threads = λ u ne. shows.threads u;
  unended = mine.unended ∙ ap not over.0;
  stopped = mine.stopped ∙ over.1;
  mutexes = λ m e. mine.mutexes m ∙ (ap (takes_mutex m) next ∙ e);
  semaphores = λ k e. mine.semaphores k ∙ (ap (takes_semaphore k) next ∙ e);
}
  where
    mine : HasThreadAt p c s t (thread_at s t)
    mine = shows.threads t

    over : (is_ended (thread_at s t).status ≡ false) × (is_stopped (thread_at s t).status ≡ false)
    over = not_over s (thread_at s t).status (slice_get (code_of p t) (thread_at s t).pc) on

-- the number of a thread stands for it
pub its_number : (t : ℕ) → t < 16 → thread_or_none t ≡ Some t
its_number t few = let z : nat_eq t FREE ≡ false = grind (arith, nat_tests, few) in
    ap (λ b. if b then None else Some t) z

takes : (d : MutexAction) (m n : ℕ) → IsTaking d → takes_mutex n (Some (OnMutex m d)) ≡ nat_eq m n
takes Locks m n h = refl
takes Retakes m n h = refl
takes Unlocks m n h = absurd h

-- the owners, where one is another
owned : (c : Control) (s : Snapshot) (m n : ℕ) (o : Option ℕ) → HasObjects c s
    → m < length s.owners → m < length c.owners → thread_or_none n ≡ o
    → (k : ℕ) → thread_or_none (get_or (set c.owners m n) k FREE) ≡ get_or (set s.owners m o) k None
owned c s m n o objects inside room e =
    by_place (λ k x. thread_or_none x ≡ get_or (set s.owners m o) k None) c.owners m n FREE room
    (e ∙ sym (get_or-set_same s.owners m o None inside))
    (λ k ne. objects.owners_are k ∙ sym (get_or-set_other s.owners m k o None ne))

-- a thread takes a mutex
pub took : (p : Program) (s : Snapshot) (t m : ℕ) (d : MutexAction) (c : Control)
    (near up less : Mask)
    → IsLeaving p c s t (Some (OnMutex m d)) → m < length s.owners → m < length c.mutexes
    → m < length c.owners → t < 16 → IsTaking d
    → has near t ≡ false → ((u : ℕ) → u ≢ t → has near u ≡ has (at_mutex c m) u)
    → has up t ≡ false → ((u : ℕ) → u ≢ t → has up u ≡ has c.woken u)
    → ((u : ℕ) → has less u ≡ (has c.enabled u && not (has near u)))
    → IsControlBut p (record c {
      mutexes = set c.mutexes m near;
      owners = set c.owners m t;
      woken = up;
      enabled = less;
    }) (record s { owners = set s.owners m (Some t) }) t
took p s t m d c near up less shows inside few room small taking out others awake sleep left =
    record {
      objects = record {
        owners_are = owned c s m t (Some t) shows.objects inside room (its_number t small);
        counts_are = shows.objects.counts_are;
        lengths_are = shows.objects.lengths_are;
      };
      threads = λ u ne. let h = shows.threads u ne in record {
        place = h.place;
        unended = h.unended;
        stopped = h.stopped;
        woken = sleep u ne ∙ h.woken;
        enabled = left u ∙ ((λ i. h.enabled i && not ((others u ne ∙ h.mutexes m) i))
            ∙ sym (locked (held s) m t (next_of p s u) inside));
        mutexes = λ n. set_has c.mutexes m u near few (others u ne) n ∙ h.mutexes n;
        semaphores = h.semaphores;
      };
      idle = record {
        unended = shows.unended;
        stopped = shows.stopped;
        woken = awake;
        apart = record {
          mutexes = λ n. set_there c.mutexes m t near false few out
              (λ k e. shows.mutexes k (takes d m k taking ∙ e)) n
              ∙ and_false (nat_eq m n);
          semaphores = λ k. shows.semaphores k refl;
        };
      };
    }

-- a mutex gets free
pub gave : (p : Program) (s : Snapshot) (t m : ℕ) (c : Control) (more : Mask)
    → IsControlBut p c s t → m < length s.owners → m < length c.owners
    → ((u : ℕ) → has more u ≡ (has c.enabled u || has (at_mutex c m) u))
    → IsControlBut p (record c { owners = set c.owners m FREE; enabled = more })
    (record s { owners = set s.owners m None }) t
gave p s t m c more shows inside room more_is = record {
  objects = record {
    owners_are = owned c s m FREE None shows.objects inside room refl;
    counts_are = shows.objects.counts_are;
    lengths_are = shows.objects.lengths_are;
  };
  threads = λ u ne. let h = shows.threads u ne in record {
    place = h.place;
    unended = h.unended;
    stopped = h.stopped;
    woken = h.woken;
    enabled = more_is u ∙ ((λ i. h.enabled i || h.mutexes m i)
        ∙ sym (freed (held s) m (next_of p s u) inside));
    mutexes = h.mutexes;
    semaphores = h.semaphores;
  };
  idle = shows.idle;
}

-- a thread acquires a semaphore; `less` are those enabled after it
pub acquired : (p : Program) (s : Snapshot) (t k : ℕ) (c : Control) (near less : Mask)
    → IsLeaving p c s t (Some (OnSemaphore k Acquires)) → has c.woken t ≡ false
    → k < length s.counts → k < length c.semaphores → k < length c.counts
    → has near t ≡ false → ((u : ℕ) → u ≢ t → has near u ≡ has (at_semaphore c k) u)
    → ((u : ℕ) → u ≢ t → has less u
    ≡ can_do (held (record s { counts = set s.counts k (count_of s k - 1) })) (next_of p s u))
    → IsControlBut p (record c {
      semaphores = set c.semaphores k near;
      counts = set c.counts k (get_or c.counts k 0 - 1);
      enabled = less;
    }) (record s { counts = set s.counts k (count_of s k - 1) }) t
acquired p s t k c near less shows asleep inside few room out others left = record {
  objects = record {
    owners_are = shows.objects.owners_are;
    counts_are = λ j. ap (λ n. get_or (set c.counts k (n - 1)) j 0) (shows.objects.counts_are k)
        ∙ same_set c.counts s.counts k (count_of s k - 1) 0 shows.objects.counts_are room inside j;
    lengths_are = shows.objects.lengths_are;
  };
  threads = λ u ne. let h = shows.threads u ne in record {
    place = h.place;
    unended = h.unended;
    stopped = h.stopped;
    woken = h.woken;
    enabled = left u ne;
    mutexes = h.mutexes;
    semaphores = λ n. set_has c.semaphores k u near few (others u ne) n ∙ h.semaphores n;
  };
  idle = record {
    unended = shows.unended;
    stopped = shows.stopped;
    woken = asleep;
    apart = record {
      mutexes = λ m. shows.mutexes m refl;
      semaphores = λ n. set_there c.semaphores k t near false few out
          (λ j e. shows.semaphores j e) n
          ∙ and_false (nat_eq k n);
    };
  };
}

-- whom it leaves enabled: at count 0 nobody who is at the semaphore
pub left_empty : (p : Program) (s : Snapshot) (t k : ℕ) (c : Control) (near less : Mask)
    → IsLeaving p c s t (Some (OnSemaphore k Acquires)) → k < length s.counts → get_or c.counts k 0 - 1 ≡ 0
    → ((u : ℕ) → u ≢ t → has near u ≡ has (at_semaphore c k) u)
    → ((u : ℕ) → has less u ≡ (has c.enabled u && not (has near u)))
    → (u : ℕ) → u ≢ t → has less u
    ≡ can_do (held (record s { counts = set s.counts k (count_of s k - 1) })) (next_of p s u)
left_empty p s t k c near less shows inside none others left u ne =
    let h = shows.threads u ne in
    let z : count_of s k - 1 ≡ 0 = ap (λ n. n - 1) (sym (shows.objects.counts_are k)) ∙ none in
    left u ∙ ((λ i. h.enabled i && not ((others u ne ∙ h.semaphores k) i))
    ∙ (sym (run_out (held s) k (next_of p s u) inside)
    ∙ ap (λ n. can_do (held (record s { counts = set s.counts k n })) (next_of p s u)) (sym z)))

-- above it all as before
pub left_some : (p : Program) (s : Snapshot) (t k : ℕ) (c : Control)
    → IsLeaving p c s t (Some (OnSemaphore k Acquires)) → k < length s.counts → (get_or c.counts k 0 - 1 ≡ 0 → ⊥)
    → (u : ℕ) → u ≢ t → has c.enabled u
    ≡ can_do (held (record s { counts = set s.counts k (count_of s k - 1) })) (next_of p s u)
left_some p s t k c shows inside some u ne =
    let h = shows.threads u ne in
    let e = shows.objects.counts_are k in
    let l : 0 < count_of s k - 1 = omega (arith, some, e) in
    let g : nat_lt 0 (count_of s k) ≡ true = grind (arith, nat_tests, l) in
    h.enabled ∙ sym (still (held s) k (count_of s k - 1) (next_of p s u) inside l g)

-- a count rises
pub rose : (p : Program) (s : Snapshot) (t k : ℕ) (c : Control) (more : Mask)
    → IsControlBut p c s t → k < length s.counts → k < length c.counts
    → ((u : ℕ) → has more u ≡ (has c.enabled u || has (at_semaphore c k) u))
    → IsControlBut p (record c {
      counts = set c.counts k (get_or c.counts k 0 + 1);
      enabled =
          more;
    })
    (record s { counts = set s.counts k (count_of s k + 1) }) t
rose p s t k c more shows inside room more_is = record {
  objects = record {
    owners_are = shows.objects.owners_are;
    counts_are = λ j. ap (λ n. get_or (set c.counts k (n + 1)) j 0) (shows.objects.counts_are k)
        ∙ same_set c.counts s.counts k (count_of s k + 1) 0 shows.objects.counts_are room inside j;
    lengths_are = shows.objects.lengths_are;
  };
  threads = λ u ne. let h = shows.threads u ne in record {
    place = h.place;
    unended = h.unended;
    stopped = h.stopped;
    woken = h.woken;
    enabled = more_is u ∙ ((λ i. h.enabled i || h.semaphores k i)
        ∙ sym (ap (λ n. can_do (held (record s { counts = set s.counts k n })) (next_of p s u)) up
        ∙ let_through (held s) k (count_of s k) (next_of p s u) inside));
    mutexes = h.mutexes;
    semaphores = h.semaphores;
  };
  idle = shows.idle;
}
  where
    up : count_of s k + 1 ≡ suc (count_of s k)
    up = omega arith
