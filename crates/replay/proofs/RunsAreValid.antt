-- The run of a schedule of a well formed program can be told with the program's names.
use Rattle.std.specs.Prelude.{IfSome}
use Rattle.std.proofs.Common.{rules, ◌≡◌, ◌≢◌, ℕ, zero, suc, ◌+◌, ◌<◌, true, List, [], ◌∷◌, length, Option, Some, None, sym, subst, arith}
use Rattle.std.{specs.List.{All, slice_get}, proofs.lemmas.Bool.false≢true}
use Rattle.std.proofs.lemmas.List.Elements.{All-nil, All-cons, All-append, All-filter}
use Rattle.guest_code.specs.Program.{Program, IsWellFormed, IsValid, code_of, no_thread}
use Rattle.guest_code.specs.declared.program.Instruction.{Instruction}
use Rattle.semantics.specs.Ends.{is_stopped}
use Rattle.semantics.specs.Machine.{Snapshot, thread_at, next_of, can_do, is_enabled, step, start}
use Rattle.semantics.specs.{Reachable.{IsOf, IsValidAction}, Work.up_from}
use Rattle.semantics.specs.declared.state.Action.{Action}
use Rattle.semantics.specs.declared.state.Action.TheVariants.{OnVariable, OnMutex, OnCondition, OnSemaphore}
use Rattle.semantics.specs.declared.state.ConditionAction.TheVariants.{Signal as Signals}
use Rattle.semantics.specs.declared.state.MutexAction.TheVariants.{Lock as Locks}
use Rattle.semantics.specs.declared.state.SemaphoreAction.TheVariants.{Acquire as Acquires}
use Rattle.semantics.specs.declared.state.VariableAction.TheVariants.{Load as Loads, Store as Stores, Add as Adds, Cas as Swaps}
use Rattle.semantics.proofs.{StepsKeepStates.step_is_of, ValidActions.valid_action_at}
use Rattle.semantics.proofs.WorkFalls.{enabled_below}
use Rattle.semantics_schedules.specs.Schedules.{runs, state_after}
use Rattle.semantics_schedules.proofs.UnfoldingUnderPrefix.{and_true}
use Rattle.replay.specs.Run.{Run, act_of, line_at, line_of, lines_from, stopped_in, IsRunOf}
use Rattle.replay.specs.Trace.{IsValidAct, IsValidLine, IsValidRun}

-- an action on objects of the program is told with them
pub valid_act : (p : Program) (s : Snapshot) (t : ℕ) (action : Action) → IsValidAction p action →
    IsValidAct p (act_of s t action)
valid_act p s t (OnVariable x (Loads r)) h = h.0
valid_act p s t (OnVariable x (Stores a)) h = h.0
valid_act p s t (OnVariable x (Adds r a)) h = h.0
valid_act p s t (OnVariable x (Swaps r a b)) h = h.0
valid_act p s t (OnMutex m Locks) h = h
valid_act p s t (OnCondition c Signals) h = h
valid_act p s t (OnSemaphore k Acquires) h = h
valid_act p s t a h = h

-- what a thread is about to do
valid_instruction : (p : Program) (code : List Instruction) (k : ℕ) → All (IsValid p) code →
    IfSome (slice_get code k) (IsValid p)
valid_instruction p [] k h = search rules
valid_instruction p (i ∷ code) zero h = h 0 i (omega arith)
valid_instruction p (i ∷ code) (suc k) h =
    valid_instruction p code k (λ j d l. h (suc j) d (omega (arith, l)))

valid_code : (p : Program) (t : ℕ) → IsWellFormed p → t < length p.threads →
    All (IsValid p) (code_of p t)
valid_code p t f l = (f.codes t no_thread l).fine

valid_next : (p : Program) (s : Snapshot) (t : ℕ) → IsWellFormed p → t < length p.threads →
    IfSome (next_of p s t) (IsValidAction p)
valid_next p s t f l =
    valid_action_at p (thread_at s t).status (slice_get (code_of p t) (thread_at s t).pc)
    (valid_instruction p (code_of p t) (thread_at s t).pc (valid_code p t f l))

valid_line_at : (p : Program) (s : Snapshot) (last : Option ℕ) (t : ℕ) (next : Option Action) →
    t < length p.threads → IfSome next (IsValidAction p) →
    All (IsValidLine p) (line_at p s last t next)
valid_line_at p s last t None l h = All-nil (IsValidLine p)
valid_line_at p s last t (Some action) l h =
    All-cons (IsValidLine p) (line_of p s last t action) []
    (record { thread = l; act = valid_act p s t action h }) (All-nil (IsValidLine p))

valid_lines : (p : Program) (s : Snapshot) (last : Option ℕ) (w : List ℕ) → IsWellFormed p →
    IsOf p s → runs p s w ≡ true → All (IsValidLine p) (lines_from p s last w)
valid_lines p s last [] f of h = All-nil (IsValidLine p)
valid_lines p s last (t ∷ w) f of h =
    let on = and_true (is_enabled p s t) (runs p (step p s t) w) h in
    let inside : t < length p.threads = let l = enabled_below p s t on.0 in let n = of.threads in
    omega (arith, l, n) in
    All-append (IsValidLine p) (line_at p s last t (next_of p s t))
    (lines_from p (step p s t) (Some t) w)
    (valid_line_at p s last t (next_of p s t) inside (valid_next p s t f inside))
    (valid_lines p (step p s t) (Some t) w f (step_is_of p s t of on.0) on.1)

-- the threads that stopped at the start
below_all : (first n : ℕ) → All (λ t. t < first + n) (up_from first n)
below_all first zero = All-nil (λ t. t < first + 0)
below_all first (suc n) =
    All-cons (λ t. t < first + suc n) first (up_from (suc first) n) (omega arith)
    (λ k d l. let h = below_all (suc first) n k d l in omega (arith, h))

valid_stopped : (p : Program) (s : Snapshot) → length s.threads ≡ length p.threads →
    All (λ t. t < length p.threads) (stopped_in s)
valid_stopped p s e =
    All-filter (λ t. is_stopped (thread_at s t).status) (λ t. t < length p.threads)
    (up_from 0 (length s.threads))
    (λ k d l. let h = below_all 0 (length s.threads) k d l in omega (arith, h, e))

pub valid_run : (p : Program) (w : List ℕ) (r : Run) → IsWellFormed p → IsOf p (start p) →
    IsOf p (state_after p (start p) w) → IsRunOf p w r → IsValidRun p r
valid_run p w r f opened reached is = subst (IsValidRun p) (sym is.same) (record {
  stopped = valid_stopped p (start p) opened.threads;
  lines = valid_lines p (start p) None w f opened is.legal;
  vars = reached.variables;
})

-- an enabled thread is about to do something
pub something : (s : Snapshot) (next : Option Action) → can_do s next ≡ true → next ≢ None
something s None h e = absurd (false≢true h)
something s (Some action) h e = absurd cc
