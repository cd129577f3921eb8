-- What is so after each schedule that runs, since each step keeps it.
use Rattle.std.proofs.Common.{◌≡◌, ℕ, true, List, [], ◌∷◌, Some, refl, ◌∙◌, sym, subst}
use Rattle.std.proofs.lemmas.Bool.{and_parts}
use Rattle.guest_code.specs.Program.{Program}
use Rattle.semantics.specs.Effects.{IsOver}
use Rattle.semantics.specs.Machine.{Snapshot, step, start, is_enabled, thread_at, owner_of}
use Rattle.semantics.specs.{Reachable.IsOf, Waiters.HasWaiters}
use Rattle.semantics.proofs.MutexSteps.{owner_stays, over_same, over_other}
use Rattle.semantics.proofs.{QueuesHoldWaiters.{step_keeps, start_has}, StepsKeepStates.step_is_of}
use Rattle.semantics_schedules.specs.Schedules.{runs, state_after}

-- the state is one of the program
pub run_is_of : (p : Program) (s : Snapshot) (w : List ℕ) → IsOf p s → runs p s w ≡ true
    → IsOf p (state_after p s w)
run_is_of p s [] of h = of
run_is_of p s (t ∷ w) of h = let on = and_parts (is_enabled p s t) (runs p (step p s t) w) h in
    run_is_of p (step p s t) w (step_is_of p s t of on.0) on.1

-- queues hold threads that wait, each once
pub run_keeps : (p : Program) (s : Snapshot) (v : List ℕ) → runs p s v ≡ true → HasWaiters s
    → HasWaiters (state_after p s v)
run_keeps p s [] h w = w
run_keeps p s (t ∷ v) h w = let on = and_parts (is_enabled p s t) (runs p (step p s t) v) h in
    run_keeps p (step p s t) v on.1 (step_keeps p s t on.0 w)

-- in each state that a schedule leads to
pub queues_hold : (p : Program) (v : List ℕ) → runs p (start p) v ≡ true
    → HasWaiters (state_after p (start p) v)
queues_hold p v h = run_keeps p (start p) v h (start_has p)

-- a thread that is over stays as it is, and keeps its mutexes
pub over_stays : (p : Program) (s : Snapshot) (u : ℕ) (w : List ℕ)
    → IsOver (thread_at s u) → runs p s w ≡ true → thread_at (state_after p s w) u ≡ thread_at s u
over_stays p s u [] over h = refl
over_stays p s u (t ∷ w) over h =
    let on = and_parts (is_enabled p s t) (runs p (step p s t) w) h in
    let same = over_same p s t u on.0 (over_other p s t u on.0 over) over in
    over_stays p (step p s t) u w (subst IsOver (sym same) over) on.1 ∙ same

pub over_keeps : (p : Program) (s : Snapshot) (u m : ℕ) (w : List ℕ) → IsOver (thread_at s u)
    → owner_of s m ≡ Some u → runs p s w ≡ true → owner_of (state_after p s w) m ≡ Some u
over_keeps p s u m [] over own h = own
over_keeps p s u m (t ∷ w) over own h =
    let on = and_parts (is_enabled p s t) (runs p (step p s t) w) h in
    let ne = over_other p s t u on.0 over in
    let same = over_same p s t u on.0 ne over in
    over_keeps p (step p s t) u m w (subst IsOver (sym same) over)
    (owner_stays p s t u m on.0 own ne) on.1
