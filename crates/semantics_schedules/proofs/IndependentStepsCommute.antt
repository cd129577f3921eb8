-- Independent steps commute.
use Rattle.std.proofs.Common.{◌≡◌, ◌≢◌, ℕ, pos, zero, suc, ◌+◌, Bool, true, false, not, cond, ◌&&◌, ◌||◌, nat_eq, List, [], ◌∷◌, Option, Some, None, slice_get, get_or, set, refl, ap, ◌∙◌, sym, arith, get_or-set_other, drop}
use Rattle.std.proofs.lemmas.{Bool.and_parts, Bool.Decides.nat_tests, List.{set_comm, set-get_or}}
use Rattle.guest_code.specs.{Program.{Program, code_of}, declared.program.Instruction.Instruction}
use Rattle.guest_code.specs.declared.program.Instruction.TheVariants.{Set, Assert, SkipIfZero, Skip}
use Rattle.semantics.specs.Accesses.{Access, access_of, accesses}
use Rattle.semantics.specs.Accesses.Access.{reads_var, writes_var, writes_mutex, writes_condition, writes_semaphore}
use Rattle.semantics.specs.Machine.{Snapshot, local_run, advance, with_local, with_status, resumed, acts, step, is_enabled, can_do, next_of, action_at, thread_at, missing_thread, value_of_expression, is_zero, wake, woken, woken_status, threads_to_wake, queue_after, queue_joined, given_back, value_of, owner_of, queue_of, count_of, owns, is_full, var_after, reader_after, mutex_allows, sem_allows, owner_after, taker_after, waiter_after, count_after, counter_after}
use Rattle.semantics.specs.declared.state.Action.{Action}
use Rattle.semantics.specs.declared.state.Action.TheVariants.{OnVariable, OnMutex, Wait as Waits, OnCondition, OnSemaphore}
use Rattle.semantics.specs.declared.state.MutexAction.{MutexAction}
use Rattle.semantics.specs.declared.state.MutexAction.TheVariants.{Lock as Locks, Unlock as Unlocks, Retake as Retakes}
use Rattle.semantics.specs.declared.state.SemaphoreAction.{SemaphoreAction}
use Rattle.semantics.specs.declared.state.SemaphoreAction.TheVariants.{Acquire as Acquires, Release as Releases}
use Rattle.semantics.specs.declared.state.Status.TheVariants.{Running, Waiting, Woken, Stopped}
use Rattle.semantics.specs.declared.state.Stop.TheVariants.{Assert as FailedAssert, NotHeld, SemFull}
use Rattle.semantics.specs.declared.state.{Thread.Thread, VariableAction.VariableAction}
use Rattle.semantics.specs.declared.state.VariableAction.TheVariants.{Load as Loads}
use Rattle.semantics.proofs.Waking.{wake-get, wake-set, wake-wake, woken_same, thread_awake}
use Rattle.semantics.proofs.WorkFalls.{Moves, moves}
use Rattle.semantics_schedules.specs.Sleep.{conflict, conflicts_with_any, some_conflict, apart, independent, CommutesWith}

differ : (t v : ℕ) → nat_eq t v ≡ false → t ≢ v
differ t v h = grind (arith, nat_tests, h)

nat_eq-swap : (t v : ℕ) → nat_eq t v ≡ nat_eq v t
nat_eq-swap t v = grind (arith, nat_tests)

not_false : (b : Bool) → not b ≡ true → b ≡ false
not_false true h = cc
not_false false h = refl

-- who isn't woken

-- neither does one after its local run
local_run-awake : (c : ℕ) (is : List Instruction) (k : ℕ) (th : Thread)
    → woken_status c th.status ≡ th.status → woken_status c (local_run is k th).status
    ≡ (local_run is k th).status
local_run-awake c [] k th h = refl
local_run-awake c (i ∷ is) (suc k) th h = local_run-awake c is k (advance th 1) h
local_run-awake c (Set r e ∷ is) zero th h =
    local_run-awake c is 0 (advance (with_local th r (value_of_expression th.locals e)) 1) h
local_run-awake c (Assert e ∷ is) zero th h =
    elim (is_zero (value_of_expression th.locals e)) as
    (λ b. woken_status c (cond b (with_status th (Stopped FailedAssert))
    (local_run is 0 (advance th 1))).status
    ≡ (cond b (with_status th (Stopped FailedAssert)) (local_run is 0 (advance th 1))).status)
    [ true ↦ refl | false ↦ local_run-awake c is 0 (advance th 1) h ]
local_run-awake c (SkipIfZero e n ∷ is) zero th h =
    local_run-awake c is (cond (is_zero (value_of_expression th.locals e)) n 0) (advance th 1) h
local_run-awake c (Skip n ∷ is) zero th h = local_run-awake c is n (advance th 1) h
local_run-awake c (i ∷ is) zero th h = h

resumed-awake : (c : ℕ) (code : List Instruction) (th : Thread)
    → woken c (resumed code th) ≡ resumed code th
resumed-awake c code th = woken_same c (resumed code th)
    (local_run-awake c (drop (th.pc + 1) code) 0 (record th { pc = th.pc + 1; status = Running })
    refl)

taker-awake : (c : ℕ) (d : MutexAction) (code : List Instruction) (t : ℕ) (owner : Option ℕ)
    (th : Thread) → woken c (taker_after d code t owner th) ≡ taker_after d code t owner th
taker-awake c Locks code t owner th = resumed-awake c code th
taker-awake c Unlocks code t owner th = elim (owns t owner) as
    (λ b. woken c (cond b (resumed code th) (with_status th (Stopped NotHeld)))
    ≡ cond b (resumed code th) (with_status th (Stopped NotHeld)))
    [ true ↦ resumed-awake c code th | false ↦ refl ]
taker-awake c Retakes code t owner th = resumed-awake c code th

counter-awake : (c : ℕ) (d : SemaphoreAction) (code : List Instruction) (count : ℕ) (th : Thread)
    → woken c (counter_after d code count th) ≡ counter_after d code count th
counter-awake c Acquires code count th = resumed-awake c code th
counter-awake c Releases code count th =
    elim (is_full count) as (λ b. woken c (cond b (with_status th (Stopped SemFull))
    (resumed code th)) ≡ cond b (with_status th (Stopped SemFull)) (resumed code th))
    [ true ↦ refl | false ↦ resumed-awake c code th ]

waiter-awake : (c d t : ℕ) (owner : Option ℕ) (th : Thread) → nat_eq c d ≡ false
    → woken c (waiter_after d t owner th) ≡ waiter_after d t owner th
waiter-awake c d t owner th h = elim (owns t owner) as
    (λ b. woken c (cond b (with_status th (Waiting d)) (with_status th (Stopped NotHeld)))
    ≡ cond b (with_status th (Waiting d)) (with_status th (Stopped NotHeld))) [
      | true ↦ ap (λ b. with_status th (cond b Woken (Waiting d))) h
      | false ↦ refl
    ]

-- another thread that is about to do something is where it was

other_thread : (p : Program) (s : Snapshot) (t v : ℕ) → is_enabled p s t ≡ true
    → is_enabled p s v ≡ true → t ≢ v → thread_at (step p s t) v ≡ thread_at s v
other_thread p s t v h k ne =
    let m : Moves p s t = moves p s t h in
    let en : v ≢ t = λ e. ne (sym e) in
    ap (λ ths. get_or ths v missing_thread) m.threads
    ∙ (get_or-set_other (wake m.condition m.threads_to_wake s.threads) t v m.to missing_thread en
    ∙ wake-get m.condition m.threads_to_wake v s.threads (thread_awake p s v m.condition k))

other_next : (p : Program) (s : Snapshot) (t v : ℕ) → is_enabled p s t ≡ true
    → is_enabled p s v ≡ true → t ≢ v → next_of p (step p s t) v ≡ next_of p s v
other_next p s t v h k ne = ap (λ (th : Thread). action_at th.status
    (slice_get (code_of p v) th.pc)) (other_thread p s t v h k ne)

-- what touches nothing of the other's leaves it enabled

conflict-swap : (a b : Access) → conflict a b ≡ conflict b a
conflict-swap (reads_var x) (writes_var y) = nat_eq-swap x y
conflict-swap (writes_var x) (reads_var y) = nat_eq-swap x y
conflict-swap (writes_var x) (writes_var y) = nat_eq-swap x y
conflict-swap (writes_mutex m) (writes_mutex n) = nat_eq-swap m n
conflict-swap (writes_condition c) (writes_condition d) = nat_eq-swap c d
conflict-swap (writes_semaphore k) (writes_semaphore l) = nat_eq-swap k l
conflict-swap a b = refl

lone : (b : Bool) → not ((b || false) || false) ≡ true → b ≡ false
lone true h = cc
lone false h = refl

left_of_two : (a b : Bool) → not ((a || (b || false)) || false) ≡ true → (a ≡ false) × (b ≡ false)
left_of_two true b h = cc
left_of_two false true h = cc
left_of_two false false h = (refl, refl)

right_of_two : (a b : Bool) → not ((a || false) || ((b || false) || false)) ≡ true → (a ≡ false)
    × (b ≡ false)
right_of_two true b h = cc
right_of_two false true h = cc
right_of_two false false h = (refl, refl)

four : (a b : Bool) → not ((a || (false || false)) || ((false || (b || false)) || false)) ≡ true
    → (a ≡ false) × (b ≡ false)
four true b h = cc
four false true h = cc
four false false h = (refl, refl)

can_do-same : (p : Program) (s : Snapshot) (t : ℕ) (a : Thread) (i j : Option Action)
    → apart i j ≡ true → can_do (acts p s t a i) j ≡ can_do s j
can_do-same p s t a (Some (OnMutex m e)) (Some (OnMutex n d)) h =
    ap (mutex_allows d) (get_or-set_other s.owners m n _ None
    (differ n m (nat_eq-swap n m ∙ lone (nat_eq m n) h)))
can_do-same p s t a (Some (Waits c m)) (Some (OnMutex n d)) h =
    ap (mutex_allows d) (get_or-set_other s.owners m n _ None
    (differ n m (nat_eq-swap n m ∙ (right_of_two false (nat_eq m n) h).1)))
can_do-same p s t a (Some (OnSemaphore k e)) (Some (OnSemaphore l d)) h =
    ap (sem_allows d) (get_or-set_other s.counts k l _ 0
    (differ l k (nat_eq-swap l k ∙ lone (nat_eq k l) h)))
can_do-same p s t a None j h = refl
can_do-same p s t a i None h = cc
can_do-same p s t a (Some i) (Some j) h = refl

-- a step, with the thread and what it does written out
step_as : (p : Program) (s : Snapshot) (t : ℕ) (th : Thread) (i : Option Action)
    → thread_at s t ≡ th → next_of p s t ≡ i → step p s t ≡ acts p s t th i
step_as p s t th i e f = λ k. acts p s t (e k) (f k)

pub differ_independent : (p : Program) (s : Snapshot) (t v : ℕ) → independent p s t v ≡ true → t ≢ v
unfolding independent
differ_independent p s t v i = differ t v
    (not_false _ (and_parts (not (nat_eq t v)) (apart (next_of p s t) (next_of p s v)) i).0)

apart_of : (p : Program) (s : Snapshot) (t v : ℕ) → independent p s t v ≡ true
    → apart (next_of p s t) (next_of p s v) ≡ true
unfolding independent
apart_of p s t v i = (and_parts (not (nat_eq t v)) (apart (next_of p s t) (next_of p s v)) i).1

pub still_enabled : (p : Program) (s : Snapshot) (t v : ℕ) → is_enabled p s t ≡ true
    → is_enabled p s v ≡ true → independent p s t v ≡ true → is_enabled p (step p s t) v ≡ true
still_enabled p s t v h k i =
    ap (can_do (step p s t)) (other_next p s t v h k (differ_independent p s t v i))
    ∙ (can_do-same p s t (thread_at s t) (next_of p s t) (next_of p s v) (apart_of p s t v i) ∙ k)

shuffle : (a b c d : Bool) → ((a || b) || (c || d)) ≡ ((a || c) || (b || d))
shuffle true b c d = refl
shuffle false true true d = refl
shuffle false true false d = refl
shuffle false false c d = refl

some_conflict-none : (bs : List Access) → some_conflict bs [] ≡ false
some_conflict-none [] = refl
some_conflict-none (b ∷ bs) = some_conflict-none bs

some_conflict-more : (a : Access) (xs bs : List Access)
    → some_conflict bs (a ∷ xs) ≡ (conflicts_with_any a bs || some_conflict bs xs)
some_conflict-more a xs [] = refl
some_conflict-more a xs (b ∷ bs) =
    (λ i. (conflict-swap b a i || conflicts_with_any b xs) || some_conflict-more a xs bs i)
    ∙ shuffle (conflict a b) (conflicts_with_any b xs) (conflicts_with_any a bs)
    (some_conflict bs xs)

some_conflict-swap : (xs bs : List Access) → some_conflict xs bs ≡ some_conflict bs xs
some_conflict-swap [] bs = sym (some_conflict-none bs)
some_conflict-swap (a ∷ xs) bs = ap (λ b. conflicts_with_any a bs || b) (some_conflict-swap xs bs)
    ∙ sym (some_conflict-more a xs bs)

apart-swap : (i j : Option Action) → apart i j ≡ apart j i
apart-swap (Some i) (Some j) = ap not (some_conflict-swap (accesses i) (accesses j))
apart-swap (Some i) None = refl
apart-swap None (Some j) = refl
apart-swap None None = refl

pub independent-swap : (p : Program) (s : Snapshot) (t v : ℕ)
    → independent p s t v ≡ independent p s v t
unfolding independent
independent-swap p s t v = λ i. not (nat_eq-swap t v i) && apart-swap (next_of p s t)
    (next_of p s v) i

-- both orders make the same of two places of a list
two : {A : Type 0} (xs : List A) (i j : ℕ) (a a2 b b2 : A) → i ≢ j → b2 ≡ b → a2 ≡ a
    → set (set xs i a) j b2 ≡ set (set xs j b) i a2
two xs i j a a2 b b2 ne h k = ap (λ z. set (set xs i a) j z) h ∙
    (set_comm xs i j a b ne ∙ ap (λ z. set (set xs j b) i z) (sym k))

-- of the threads, where one step wakes some
waking_first : (T : List Thread) (t v c : ℕ) (us us2 : List ℕ) (a b : Thread) → t ≢ v → us2 ≡ us
    → woken c b ≡ b → set (set (wake c us T) t a) v b ≡ set (wake c us2 (set T v b)) t a
waking_first T t v c us us2 a b ne e h =
    set_comm (wake c us T) t v a b ne
    ∙ (ap (λ z. set z t a) (sym (wake-set c us v b T h)) ∙ ap (λ z. set (wake c z (set T v b)) t a)
    (sym e))

both_waking : (T : List Thread) (t v c d : ℕ) (us us2 ws ws2 : List ℕ) (a b : Thread) → t ≢ v
    → ws2 ≡ ws → us2 ≡ us → woken d a ≡ a → woken c b ≡ b
    → set (wake d ws2 (set (wake c us T) t a)) v b ≡ set (wake c us2 (set (wake d ws T) v b)) t a
both_waking T t v c d us us2 ws ws2 a b ne e f h k =
    ap (λ z. set (wake d z (set (wake c us T) t a)) v b) e
    ∙ (ap (λ z. set z v b) (wake-set d ws t a (wake c us T) h)
    ∙ (set_comm (wake d ws (wake c us T)) t v a b ne
    ∙ (ap (λ z. set (set z v b) t a) (wake-wake d ws c us T)
    ∙ (ap (λ z. set z t a) (sym (wake-set c us v b (wake d ws T) k))
    ∙ ap (λ z. set (wake c z (set (wake d ws T) v b)) t a) (sym f)))))

same : (x y : Snapshot) → x.vars ≡ y.vars → x.owners ≡ y.owners → x.queues ≡ y.queues
    → x.counts ≡ y.counts → x.threads ≡ y.threads → x ≡ y
same x y a b c d e = λ k. record {
  vars = a k;
  owners = b k;
  queues = c k;
  counts = d k;
  threads = e k;
}

-- two steps that do not clash on a variable are of two variables, or both load
data OfVars : ℕ → VariableAction → ℕ → VariableAction → Type 0 where
  two_vars : {x : ℕ} {d : VariableAction} {y : ℕ} {e : VariableAction} → x ≢ y → OfVars x d y e
  two_loads : {x r y q : ℕ} → OfVars x (Loads r) y (Loads q)

of_vars : (x : ℕ) (d : VariableAction) (y : ℕ) (e : VariableAction)
    → conflict (access_of d x) (access_of e y) ≡ false → OfVars x d y e
of_vars x (Loads r) y (Loads q) h = two_loads
of_vars x (Loads r) y e h = two_vars (differ x y h)
of_vars x d y (Loads q) h = two_vars (differ x y h)
of_vars x d y e h = two_vars (differ x y h)

module _ (p : Program) (s : Snapshot) (t v : ℕ) (a b : Thread) (ne : t ≢ v) where
  vars_commute : (x : ℕ) (d : VariableAction) (y : ℕ) (e : VariableAction) → OfVars x d y e
      → acts p (acts p s t a (Some (OnVariable x d))) v b (Some (OnVariable y e))
      ≡ acts p (acts p s v b (Some (OnVariable y e))) t a (Some (OnVariable x d))
  vars_commute x d y e (two_vars n) =
      let f : get_or (set s.vars x (var_after d a.locals (value_of s x))) y (pos 0)
      ≡ value_of s y = get_or-set_other s.vars x y _ (pos 0) (λ z. n (sym z)) in
      let g : get_or (set s.vars y (var_after e b.locals (value_of s y))) x (pos 0)
      ≡ value_of s x = get_or-set_other s.vars y x _ (pos 0) n in
      same _ _ (two s.vars x y _ _ _ _ n (ap (var_after e b.locals) f)
      (ap (var_after d a.locals) g)) refl refl refl
      (two s.threads t v _ _ _ _ ne (ap (λ z. resumed (code_of p v) (reader_after e b z)) f)
      (ap (λ z. resumed (code_of p t) (reader_after d a z)) g))
  vars_commute x (Loads r) y (Loads q) two_loads =
      let f : set s.vars x (value_of s x) ≡ s.vars = set-get_or s.vars x (pos 0) in
      let g : set s.vars y (value_of s y) ≡ s.vars = set-get_or s.vars y (pos 0) in
      same _ _ (ap (λ z. set z y (get_or z y (pos 0))) f ∙
      (g ∙ (sym f ∙ ap (λ z. set z x (get_or z x (pos 0))) (sym g)))) refl refl refl
      (two s.threads t v _ _ _ _ ne (ap (λ z. resumed (code_of p v)
      (with_local b q (get_or z y (pos 0)))) f)
      (ap (λ z. resumed (code_of p t) (with_local a r (get_or z x (pos 0)))) g))

  -- the owner of another mutex, the queue of another condition
  other_owner : (m n : ℕ) (o : Option ℕ) → nat_eq m n ≡ false
      → get_or (set s.owners m o) n None ≡ owner_of s n
  other_owner m n o h = get_or-set_other s.owners m n o None (differ n m (nat_eq-swap n m ∙ h))

  other_queue : (c d : ℕ) (q : List ℕ) → nat_eq c d ≡ false
      → get_or (set s.queues c q) d [] ≡ queue_of s d
  other_queue c d q h = get_or-set_other s.queues c d q [] (differ d c (nat_eq-swap d c ∙ h))

  other_count : (k l n : ℕ) → nat_eq k l ≡ false → get_or (set s.counts k n) l 0 ≡ count_of s l
  other_count k l n h = get_or-set_other s.counts k l n 0 (differ l k (nat_eq-swap l k ∙ h))

  acts_commute : (i j : Option Action) → apart i j ≡ true
      → acts p (acts p s t a i) v b j ≡ acts p (acts p s v b j) t a i
  acts_commute (Some (OnVariable x d)) (Some (OnVariable y e)) h =
      vars_commute x d y e (of_vars x d y e (lone _ h))
  acts_commute (Some (OnVariable x d)) (Some (OnCondition c e)) h =
      same _ _ refl refl refl refl (sym (waking_first s.threads v t c
      (threads_to_wake e (queue_of s c)) (threads_to_wake e (queue_of s c))
      (resumed (code_of p v) b) (resumed (code_of p t) (reader_after d a (value_of s x)))
      (λ z. ne (sym z)) refl (resumed-awake c (code_of p t) (reader_after d a (value_of s x)))))
  acts_commute (Some (OnMutex m d)) (Some (OnMutex n e)) h =
      let apart_ : nat_eq m n ≡ false = lone _ h in
      let f = other_owner m n (owner_after d t (owner_of s m)) apart_ in
      let g = other_owner n m (owner_after e v (owner_of s n)) (nat_eq-swap n m ∙ apart_) in
      same _ _ refl (two s.owners m n _ _ _ _ (differ m n apart_) (ap (owner_after e v) f)
      (ap (owner_after d t) g)) refl refl
      (two s.threads t v _ _ _ _ ne (ap (λ z. taker_after e (code_of p v) v z b) f)
      (ap (λ z. taker_after d (code_of p t) t z a) g))
  acts_commute (Some (OnMutex m d)) (Some (Waits c n)) h =
      let apart_ : nat_eq m n ≡ false = (left_of_two false (nat_eq m n) h).1 in
      let f = other_owner m n (owner_after d t (owner_of s m)) apart_ in
      let g = other_owner n m (given_back v (owner_of s n)) (nat_eq-swap n m ∙ apart_) in
      same _ _ refl (two s.owners m n _ _ _ _ (differ m n apart_) (ap (given_back v) f)
      (ap (owner_after d t) g)) (ap (λ z. set s.queues c (queue_joined v z (queue_of s c))) f)
      refl
      (two s.threads t v _ _ _ _ ne (ap (λ z. waiter_after c v z b) f)
      (ap (λ z. taker_after d (code_of p t) t z a) g))
  acts_commute (Some (OnMutex m d)) (Some (OnCondition c e)) h =
      same _ _ refl refl refl refl (sym (waking_first s.threads v t c
      (threads_to_wake e (queue_of s c)) (threads_to_wake e (queue_of s c))
      (resumed (code_of p v) b) (taker_after d (code_of p t) t (owner_of s m) a) (λ z. ne (sym z))
      refl (taker-awake c d (code_of p t) t (owner_of s m) a)))
  acts_commute (Some (Waits c m)) (Some (OnMutex n e)) h =
      let apart_ : nat_eq m n ≡ false = (right_of_two false (nat_eq m n) h).1 in
      let f = other_owner m n (given_back t (owner_of s m)) apart_ in
      let g = other_owner n m (owner_after e v (owner_of s n)) (nat_eq-swap n m ∙ apart_) in
      same _ _ refl (two s.owners m n _ _ _ _ (differ m n apart_) (ap (owner_after e v) f)
      (ap (given_back t) g)) (sym (ap (λ z. set s.queues c (queue_joined t z (queue_of s c)))
      g)) refl
      (two s.threads t v _ _ _ _ ne (ap (λ z. taker_after e (code_of p v) v z b) f)
      (ap (λ z. waiter_after c t z a) g))
  acts_commute (Some (Waits c m)) (Some (Waits d n)) h =
      let both : (nat_eq c d ≡ false) × (nat_eq m n ≡ false) = four (nat_eq c d) (nat_eq m n) h in
      let f = other_owner m n (given_back t (owner_of s m)) both.1 in
      let g = other_owner n m (given_back v (owner_of s n)) (nat_eq-swap n m ∙ both.1) in
      let k = other_queue c d (queue_joined t (owner_of s m) (queue_of s c)) both.0 in
      let l = other_queue d c (queue_joined v (owner_of s n) (queue_of s d))
      (nat_eq-swap d c ∙ both.0) in
      same _ _ refl (two s.owners m n _ _ _ _ (differ m n both.1) (ap (given_back v) f)
      (ap (given_back t) g))
      (two s.queues c d _ _ _ _ (differ c d both.0) (λ i. queue_joined v (f i) (k i))
      (λ i. queue_joined t (g i) (l i))) refl
      (two s.threads t v _ _ _ _ ne (ap (λ z. waiter_after d v z b) f)
      (ap (λ z. waiter_after c t z a) g))
  acts_commute (Some (Waits c m)) (Some (OnCondition d e)) h =
      let apart_ : nat_eq c d ≡ false = (right_of_two (nat_eq c d) false h).0 in
      let k = other_queue c d (queue_joined t (owner_of s m) (queue_of s c)) apart_ in
      let l = other_queue d c (queue_after e (queue_of s d)) (nat_eq-swap d c ∙ apart_) in
      same _ _ refl refl (two s.queues c d _ _ _ _ (differ c d apart_) (ap (queue_after e) k)
      (ap (queue_joined t (owner_of s m)) l)) refl
      (sym (waking_first s.threads v t d _ _ _ _ (λ z. ne (sym z)) (ap (threads_to_wake e) k)
      (waiter-awake d c t (owner_of s m) a (nat_eq-swap d c ∙ apart_))))
  acts_commute (Some (OnCondition c d)) (Some (OnVariable y e)) h =
      same _ _ refl refl refl refl (waking_first s.threads t v c (threads_to_wake d (queue_of s c))
      (threads_to_wake d (queue_of s c)) (resumed (code_of p t) a)
      (resumed (code_of p v) (reader_after e b (value_of s y))) ne refl
      (resumed-awake c (code_of p v) (reader_after e b (value_of s y))))
  acts_commute (Some (OnCondition c d)) (Some (OnMutex n e)) h =
      same _ _ refl refl refl refl (waking_first s.threads t v c (threads_to_wake d (queue_of s c))
      (threads_to_wake d (queue_of s c)) (resumed (code_of p t) a)
      (taker_after e (code_of p v) v (owner_of s n) b) ne refl
      (taker-awake c e (code_of p v) v (owner_of s n) b))
  acts_commute (Some (OnCondition c d)) (Some (Waits f n)) h =
      let apart_ : nat_eq c f ≡ false = (left_of_two (nat_eq c f) false h).0 in
      let k = other_queue c f (queue_after d (queue_of s c)) apart_ in
      let l = other_queue f c (queue_joined v (owner_of s n) (queue_of s f))
      (nat_eq-swap f c ∙ apart_) in
      same _ _ refl refl (two s.queues c f _ _ _ _ (differ c f apart_)
      (ap (queue_joined v (owner_of s n)) k) (ap (queue_after d) l)) refl
      (waking_first s.threads t v c _ _ _ _ ne (ap (threads_to_wake d) l)
      (waiter-awake c f v (owner_of s n) b apart_))
  acts_commute (Some (OnCondition c d)) (Some (OnCondition f e)) h =
      let apart_ : nat_eq c f ≡ false = lone _ h in
      let k = other_queue c f (queue_after d (queue_of s c)) apart_ in
      let l = other_queue f c (queue_after e (queue_of s f)) (nat_eq-swap f c ∙ apart_) in
      same _ _ refl refl (two s.queues c f _ _ _ _ (differ c f apart_) (ap (queue_after e) k)
      (ap (queue_after d) l)) refl
      (both_waking s.threads t v c f _ _ _ _ _ _ ne (ap (threads_to_wake e) k)
      (ap (threads_to_wake d) l) (resumed-awake f (code_of p t) a)
      (resumed-awake c (code_of p v) b))
  acts_commute (Some (OnCondition c d)) (Some (OnSemaphore k e)) h =
      same _ _ refl refl refl refl (waking_first s.threads t v c (threads_to_wake d (queue_of s c))
      (threads_to_wake d (queue_of s c)) (resumed (code_of p t) a)
      (counter_after e (code_of p v) (count_of s k) b) ne refl
      (counter-awake c e (code_of p v) (count_of s k) b))
  acts_commute (Some (OnSemaphore k d)) (Some (OnCondition c e)) h =
      same _ _ refl refl refl refl (sym (waking_first s.threads v t c
      (threads_to_wake e (queue_of s c)) (threads_to_wake e (queue_of s c))
      (resumed (code_of p v) b) (counter_after d (code_of p t) (count_of s k) a) (λ z. ne (sym z))
      refl (counter-awake c d (code_of p t) (count_of s k) a)))
  acts_commute (Some (OnSemaphore k d)) (Some (OnSemaphore l e)) h =
      let apart_ : nat_eq k l ≡ false = lone _ h in
      let f = other_count k l (count_after d (count_of s k)) apart_ in
      let g = other_count l k (count_after e (count_of s l)) (nat_eq-swap l k ∙ apart_) in
      same _ _ refl refl refl (two s.counts k l _ _ _ _ (differ k l apart_) (ap (count_after e) f)
      (ap (count_after d) g))
      (two s.threads t v _ _ _ _ ne (ap (λ z. counter_after e (code_of p v) z b) f)
      (ap (λ z. counter_after d (code_of p t) z a) g))
  acts_commute None j h = cc
  acts_commute (Some i) None h = cc
  acts_commute (Some i) (Some j) h =
      same _ _ refl refl refl refl (set_comm s.threads t v _ _ ne)

pub commute : (p : Program) (s : Snapshot) (t v : ℕ) → is_enabled p s t ≡ true
    → is_enabled p s v ≡ true → independent p s t v ≡ true
    → step p (step p s t) v ≡ step p (step p s v) t
commute p s t v h k i =
    let ne : t ≢ v = differ_independent p s t v i in
    let en : v ≢ t = λ e. ne (sym e) in
    step_as p (step p s t) v (thread_at s v) (next_of p s v) (other_thread p s t v h k ne)
    (other_next p s t v h k ne)
    ∙ (acts_commute p s t v (thread_at s t) (thread_at s v) ne (next_of p s t) (next_of p s v)
    (apart_of p s t v i)
    ∙ sym (step_as p (step p s v) t (thread_at s t) (next_of p s t) (other_thread p s v t k h en)
    (other_next p s v t k h en)))

pub both_orders : (p : Program) (s : Snapshot) (t v : ℕ) → independent p s t v ≡ true
    → CommutesWith p s t v
both_orders p s t v i = λ h k. record {
  second = still_enabled p s t v h k i;
  first = still_enabled p s v t k h (sym (independent-swap p s t v) ∙ i);
  same = commute p s t v h k i;
}

-- of two different threads
pub independent-differ : (p : Program) (s : Snapshot) (t v : ℕ) → t ≢ v
    → independent p s t v ≡ apart (next_of p s t) (next_of p s v)
unfolding independent
independent-differ p s t v ne = let e : nat_eq t v ≡ false =
    grind (arith, nat_tests, ne) in ap (λ b. not b && apart (next_of p s t) (next_of p s v)) e
