-- The numbers of events are in range.
use Rattle.std.specs.Prelude.{Bool, true, false, IfSome, nat_eq, slice_get, slice_index_or, if◌then◌else◌}
use Rattle.std.proofs.Common.{◌≡◌, ℕ, zero, suc, ◌+◌, ◌<◌, ◌≤◌, ℤ, List, [], ◌∷◌, ◌++◌, length, drop, length-drop, Option, Some, None, refl, ap, subst, arith}
use Rattle.std.{specs.List.{All, list_any}, proofs.lemmas.Bool.eqb-true}
use Rattle.guest_code.specs.Program.{Program, Thread, IsValid, IsValidCode, IsWellFormed, code_of, no_thread}
use Rattle.guest_code.specs.declared.limits.TheConstants.{LOCALS, VARIABLES}
use Rattle.guest_code.specs.declared.program.Instruction.{Instruction}
use Rattle.guest_code.specs.declared.program.Instruction.TheVariants.{Load, Store, Add, Cas, Lock, Unlock, Wait, Signal, Broadcast, Acquire, Release, Set, Assert, SkipIfZero, Skip}
use Rattle.semantics.specs.{Ends.is_stopped, Expressions.{value_of_expression, is_zero}}
use Rattle.replay.specs.declared.run.Act.TheVariants.{Cas as Swaps}
use Rattle.explain_run.specs.{Blocked.mutex_of, declared.explanation.Explanation.Explanation}
use Rattle.explain_run.specs.declared.{explanation.Holder.Holder, step.Step.Step}
use Rattle.explain_run.specs.declared.thread_state.{Reason.Reason, ThreadState.ThreadState}
use Rattle.explain_cause.specs.Course.{all_after, all_zero, blocked_by, blocked_from, blocked_in, course, events_by, events_from, events_in, listed, local_events, opening_from, owner_for, row, visible_event}
use Rattle.explain_cause.specs.{Events.written_by, declared.event.Deed.Deed}
use Rattle.explain_cause.specs.declared.event.{Deed.TheVariants.{Stepped, Blocked}, Event.Event}
use Rattle.explain_cause.specs.inner.Wanting.{IsValidEvent}
use Rattle.check_lint.specs.Uses.{is, local_set, variable_read, variable_used}

-- a variable that is written, and a local that is set

below : (p : Program) (x : ℕ) → IsWellFormed p → x < length p.variables → x < VARIABLES
below p x f l = let m = f.variables in omega (arith, l, m)

pub writes_few : (p : Program) (i : Instruction) (d : Deed) → IsWellFormed p → IsValid p i →
    IfSome (written_by i d) (λ x. x < VARIABLES)
writes_few p (Store x a) d f v = below p x f v.0
writes_few p (Add r x a) d f v = below p x f v.1
writes_few p (Cas r x a b) (Stepped (Swaps y o (Some w)) stop) f v = below p x f v.1
writes_few p i d f v = tt

pub uses_few : (p : Program) (i : Instruction) → IsWellFormed p → IsValid p i →
    IfSome (variable_used i) (λ x. x < VARIABLES)
uses_few p (Load r x) f v = below p x f v.1
uses_few p (Store x a) f v = below p x f v.0
uses_few p (Add r x a) f v = below p x f v.1
uses_few p (Cas r x a b) f v = below p x f v.1
uses_few p i f v = tt

pub reads_few : (p : Program) (i : Instruction) (x : ℕ) → IsWellFormed p → IsValid p i →
    is x (variable_read i) ≡ true → x < VARIABLES
reads_few p (Load r y) x f v h =
    let e = eqb-true y x h in let l = below p y f v.1 in omega (arith, e, l)
reads_few p (Add r y a) x f v h =
    let e = eqb-true y x h in let l = below p y f v.1 in omega (arith, e, l)
reads_few p (Cas r y a b) x f v h =
    let e = eqb-true y x h in let l = below p y f v.1 in omega (arith, e, l)
reads_few p i x f v h = absurd cc

pub sets_few : (p : Program) (i : Instruction) → IsValid p i →
    IfSome (local_set i) (λ r. r < LOCALS)
sets_few p (Load r x) v = v.0
sets_few p (Add r x a) v = v.0
sets_few p (Cas r x a b) v = v.0
sets_few p (Set r e) v = v.0
sets_few p i v = tt

-- each event of a run

none_valid : (p : Program) → All (IsValidEvent p) []
none_valid p k d l = absurd (omega (arith, l))

more_valid : (p : Program) (e : Event) (es : List Event) → IsValidEvent p e →
    All (IsValidEvent p) es → All (IsValidEvent p) (e ∷ es)
more_valid p e es v vs zero d l = v
more_valid p e es v vs (suc k) d l = vs k d (omega (arith, l))

all_valid : (p : Program) (xs ys : List Event) → All (IsValidEvent p) xs →
    All (IsValidEvent p) ys → All (IsValidEvent p) (xs ++ ys)
all_valid p [] ys vs ws = ws
all_valid p (x ∷ xs) ys vs ws = more_valid p x (xs ++ ys) (vs 0 x (omega arith))
    (all_valid p xs ys (λ k d l. vs (suc k) d (omega (arith, l))) ws)

-- what a thread does by itself at instructions of its code, of which the first is number `at`
local_valid : (p : Program) (t : ℕ) (step : Option ℕ) (is : List Instruction) (at skip : ℕ)
    (locals : List ℤ) → t < length p.threads → All (IsValid p) is →
    at + length is ≤ length (code_of p t) →
    All (IsValidEvent p) (local_events t step is at skip locals)
local_valid p t step [] at skip locals m v l = none_valid p
local_valid p t step (i ∷ is) at (suc skip) locals m v l =
    local_valid p t step is (at + 1) skip locals m (λ k d b. v (suc k) d (omega (arith, b)))
    (omega (arith, l))
local_valid p t step (Set r e ∷ is) at zero locals m v l = more_valid p _ _
    (record { thread = m; inside = omega (arith, l); statement = v 0 (Skip 0) (omega arith) })
    (local_valid p t step is (at + 1) 0 _ m (λ k d b. v (suc k) d (omega (arith, b)))
    (omega (arith, l)))
local_valid p t step (Assert e ∷ is) at zero locals m v l = more_valid p _ _
    (record { thread = m; inside = omega (arith, l); statement = v 0 (Skip 0) (omega arith) })
    (unless (is_zero (value_of_expression locals e)) _
    (local_valid p t step is (at + 1) 0 locals m (λ k d b. v (suc k) d (omega (arith, b)))
    (omega (arith, l))))
  where
    unless : (b : Bool) (es : List Event) → All (IsValidEvent p) es →
        All (IsValidEvent p) (if b then [] else es)
    unless true es w = none_valid p
    unless false es w = w
local_valid p t step (SkipIfZero e n ∷ is) at zero locals m v l = more_valid p _ _
    (record { thread = m; inside = omega (arith, l); statement = v 0 (Skip 0) (omega arith) })
    (local_valid p t step is (at + 1) _ locals m (λ k d b. v (suc k) d (omega (arith, b)))
    (omega (arith, l)))
local_valid p t step (Skip n ∷ is) at zero locals m v l = more_valid p _ _
    (record { thread = m; inside = omega (arith, l); statement = v 0 (Skip 0) (omega arith) })
    (local_valid p t step is (at + 1) n locals m (λ k d b. v (suc k) d (omega (arith, b)))
    (omega (arith, l)))
local_valid p t step (Load r x ∷ is) at zero locals m v l = none_valid p
local_valid p t step (Store x a ∷ is) at zero locals m v l = none_valid p
local_valid p t step (Add r x a ∷ is) at zero locals m v l = none_valid p
local_valid p t step (Cas r x a b ∷ is) at zero locals m v l = none_valid p
local_valid p t step (Lock n ∷ is) at zero locals m v l = none_valid p
local_valid p t step (Unlock n ∷ is) at zero locals m v l = none_valid p
local_valid p t step (Wait c n ∷ is) at zero locals m v l = none_valid p
local_valid p t step (Signal c ∷ is) at zero locals m v l = none_valid p
local_valid p t step (Broadcast c ∷ is) at zero locals m v l = none_valid p
local_valid p t step (Acquire k ∷ is) at zero locals m v l = none_valid p
local_valid p t step (Release k ∷ is) at zero locals m v l = none_valid p

-- the code of a thread
instruction_there : (p : Program) (code : List Instruction) (k : ℕ) (i : Instruction) →
    All (IsValid p) code → slice_get code k ≡ Some i → (k < length code) × IsValid p i
instruction_there p [] k i v e = absurd cc
instruction_there p (x ∷ xs) zero i v e =
    (omega arith, subst (IsValid p) (ap (λ o. or x o) e) (v 0 x (omega arith)))
  where
    or : Instruction → Option Instruction → Instruction
    or d None = d
    or d (Some j) = j
instruction_there p (x ∷ xs) (suc k) i v e =
    let there = instruction_there p xs k i (λ j d l. v (suc j) d (omega (arith, l))) e in
    (let l = there.0 in omega (arith, l), there.1)

thread_there : (p : Program) (t k : ℕ) (i : Instruction) → slice_get (code_of p t) k ≡ Some i →
    t < length p.threads
thread_there p t k i e = there p.threads t
    (let h : slice_get (slice_index_or p.threads t no_thread).code k ≡ Some i = e in h)
  where
    there : (threads : List Thread) (t : ℕ) →
        slice_get (slice_index_or threads t no_thread).code k ≡ Some i → t < length threads
    there [] t e = absurd cc
    there (x ∷ xs) zero e = omega arith
    there (x ∷ xs) (suc t) e = let l = there xs t e in omega (arith, l)

code_valid : (p : Program) (t : ℕ) → IsWellFormed p → t < length p.threads →
    IsValidCode p (code_of p t)
code_valid p t f l = f.codes t no_thread l

-- an event of a thread at an instruction of its code
event_there : (p : Program) (e : Event) → IsWellFormed p →
    slice_get (code_of p e.thread) e.instruction ≡ Some e.statement → IsValidEvent p e
event_there p e f is =
    let l = thread_there p e.thread e.instruction e.statement is in
    let there = instruction_there p (code_of p e.thread) e.instruction e.statement
    (code_valid p e.thread f l).fine is in
    record { thread = l; inside = there.0; statement = there.1 }

-- what a thread does by itself from an instruction of its code on
run_valid : (p : Program) (t : ℕ) (step : Option ℕ) (k : ℕ) (locals : List ℤ) →
    IsWellFormed p → t < length p.threads → k ≤ length (code_of p t) →
    All (IsValidEvent p) (local_events t step (drop k (code_of p t)) k 0 locals)
run_valid p t step k locals f l m = local_valid p t step (drop k (code_of p t)) k 0 locals l
    (dropped (code_of p t) k (code_valid p t f l).fine)
    (rw (length-drop k (code_of p t)) (omega (arith, m)))
  where
    dropped : (code : List Instruction) (k : ℕ) → All (IsValid p) code →
        All (IsValid p) (drop k code)
    dropped code zero v = v
    dropped [] (suc k) v = λ j d l. absurd (omega (arith, l))
    dropped (x ∷ xs) (suc k) v = dropped xs k (λ j d l. v (suc j) d (omega (arith, l)))

step_valid : (p : Program) (k : ℕ) (s : Step) (locals : List ℤ) (o : Option Instruction) →
    IsWellFormed p → slice_get (code_of p s.line.thread) s.instruction ≡ o →
    All (IsValidEvent p) (events_by (code_of p s.line.thread) k s locals o)
step_valid p k s locals None f is = none_valid p
step_valid p k s locals (Some i) f is =
    let l = thread_there p s.line.thread s.instruction i is in
    let there = instruction_there p (code_of p s.line.thread) s.instruction i
    (code_valid p s.line.thread f l).fine is in
    let m = there.0 in
    more_valid p _ _ (event_there p (visible_event k s i) f is)
    (after (nat_eq s.next s.instruction) _ (run_valid p s.line.thread (Some k)
    (s.instruction + 1) _ f l (omega (arith, m))))
  where
    after : (b : Bool) (es : List Event) → All (IsValidEvent p) es →
        All (IsValidEvent p) (if b then [] else es)
    after true es w = none_valid p
    after false es w = w

steps_valid : (p : Program) (all : List (List ℤ)) (k : ℕ) (steps : List Step) →
    IsWellFormed p → All (IsValidEvent p) (events_from p all k steps)
steps_valid p all k [] f = none_valid p
steps_valid p all k (s ∷ ss) f = all_valid p _ _
    (step_valid p k s (row all s.line.thread) _ f refl)
    (steps_valid p (all_after all s.line.thread (events_in (code_of p s.line.thread) k s
    (row all s.line.thread))) (k + 1) ss f)

opening_valid : (p : Program) (steps : List Step) (all : List (List ℤ)) (t n : ℕ) →
    IsWellFormed p → t + n ≤ length p.threads →
    All (IsValidEvent p) (opening_from p steps all t n)
opening_valid p steps all t zero f l = steps_valid p all 0 steps f
opening_valid p steps all t (suc n) f l = all_valid p _ _
    (run_valid p t None 0 (row all t) f (omega (arith, l)) (omega arith))
    (opening_valid p steps (all_after all t (local_events t None (code_of p t) 0 0 (row all t)))
    (t + 1) n f (omega (arith, l)))

blocked_valid : (p : Program) (holders : List (Option Holder)) (thread_states : List ThreadState)
    (t n : ℕ) → IsWellFormed p → All (IsValidEvent p) (blocked_from p holders thread_states t n)
blocked_valid p holders thread_states t zero f = none_valid p
blocked_valid p holders thread_states t (suc n) f = all_valid p _ _
    (one (slice_get thread_states t)) (blocked_valid p holders thread_states (t + 1) n f)
  where
    blocked_event : ThreadState → Reason → Instruction → Event
    blocked_event s r i = record {
      thread = t;
      step = None;
      instruction = s.instruction;
      statement = i;
      deed = Blocked r (owner_for holders (mutex_of r));
    }

    here : (s : ThreadState) (r : Option Reason) (o : Option Instruction) →
        slice_get (code_of p t) s.instruction ≡ o →
        All (IsValidEvent p) (listed (blocked_by holders t s r o))
    here s None o e = none_valid p
    here s (Some r) None e = none_valid p
    here s (Some r) (Some i) e = more_valid p (blocked_event s r i) []
        (event_there p (blocked_event s r i) f e) (none_valid p)

    one : (o : Option ThreadState) → All (IsValidEvent p) (listed (blocked_in p holders t o))
    one None = none_valid p
    one (Some s) = here s s.reason (slice_get (code_of p t) s.instruction) refl

pub course_valid : (p : Program) (told : Explanation) → IsWellFormed p →
    All (IsValidEvent p) (course p told)
course_valid p told f = all_valid p _ _
    (opening_valid p told.steps.items all_zero 0 (length p.threads) f (omega arith))
    (unless (list_any (λ (s : ThreadState). is_stopped s.status) told.thread_states.items) _
    (blocked_valid p told.holders.items told.thread_states.items 0 (length p.threads) f))
  where
    unless : (b : Bool) (es : List Event) → All (IsValidEvent p) es →
        All (IsValidEvent p) (if b then [] else es)
    unless true es w = none_valid p
    unless false es w = w
