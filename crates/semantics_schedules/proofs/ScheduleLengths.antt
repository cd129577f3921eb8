-- How many steps a schedule has at most.
use Rattle.std.proofs.Common.{◌≡◌, ℕ, zero, suc, ◌+◌, ◌*◌, ◌<◌, ◌≤◌, true, List, [], ◌∷◌, length, map, drop, get_or, arith}
use Rattle.std.proofs.lemmas.{Bool.and_parts, List.length-map}
use Rattle.guest_code.specs.Program.{Program, Thread, no_thread, code_of, IsValidCode, IsWellFormed}
use Rattle.guest_code.specs.declared.limits.TheConstants.{THREADS, INSTRUCTIONS}
use Rattle.guest_code.specs.declared.program.Instruction.{Instruction, TheVariants.Wait}
use Rattle.semantics_schedules.specs.{Schedules.runs, declared.limits.TheConstants.STEPS}
use Rattle.semantics.specs.Machine.{Snapshot, local_run, initial_thread, step, is_enabled, start, missing_thread}
use Rattle.semantics.specs.Work.{up_from, total_by, steps_of, steps_in, thread_left, left_of, work, most_steps}
use Rattle.semantics.proofs.WorkFalls.{work-step, steps_in-less, steps_left-most}

pub runs_short : (p : Program) (s : Snapshot) (w : List ℕ) → runs p s w ≡ true → length w ≤ work p s
runs_short p s [] h = omega arith
runs_short p s (t ∷ w) h =
    let on = and_parts (is_enabled p s t) (runs p (step p s t) w) h in
    let a = work-step p s t on.0 in
    let b = runs_short p (step p s t) w on.1 in
    omega arith

total_by-most : (f g : ℕ → ℕ) (first n : ℕ) → ((t : ℕ) → f t ≤ g t)
    → total_by f (up_from first n) ≤ total_by g (up_from first n)
total_by-most f g first zero h = omega arith
total_by-most f g first (suc n) h = let a = h first in let b =
    total_by-most f g (suc first) n h in omega arith

opening_left : (code : List Instruction)
    → thread_left code (local_run code 0 initial_thread) ≤ steps_in code
opening_left code =
    let a = steps_left-most (local_run code 0 initial_thread).status
    (steps_in (drop (local_run code 0 initial_thread).pc code)) in
    let b = steps_in-less code (local_run code 0 initial_thread).pc in
    omega arith

start_left : (threads : List Thread) (t : ℕ)
    → thread_left (get_or threads t no_thread).code
    (get_or (map (λ th. local_run th.code 0 initial_thread) threads) t missing_thread) ≤ steps_in
    (get_or threads t no_thread).code
start_left [] t = omega arith
start_left (th ∷ threads) zero = opening_left th.code
start_left (th ∷ threads) (suc t) = start_left threads t

pub start_work : (p : Program) → work p (start p) ≤ most_steps p
unfolding work
start_work p = rw (length-map p.threads (λ th. local_run th.code 0 initial_thread))
    (total_by-most (left_of p (start p)) (λ t. steps_in (code_of p t)) 0 (length p.threads)
    (λ t. start_left p.threads t))

pub schedule_short : (p : Program) (w : List ℕ) → runs p (start p) w ≡ true
    → length w ≤ most_steps p
schedule_short p w h = let a = runs_short p (start p) w h in let b = start_work p in omega arith

-- in a well formed program

steps_of-two : (i : Instruction) → steps_of i ≤ 2
steps_of-two (Wait c m) = omega arith
steps_of-two i = omega arith

steps_in-twice : (code : List Instruction) → steps_in code ≤ 2 * length code
steps_in-twice [] = omega arith
steps_in-twice (i ∷ is) = let a = steps_of-two i in let b = steps_in-twice is in omega arith

total_by-times : (f : ℕ → ℕ) (most first n : ℕ)
    → ((t : ℕ) → first ≤ t → t < first + n → f t ≤ most) → total_by f (up_from first n) ≤ n * most
total_by-times f most first zero h = omega arith
total_by-times f most first (suc n) h =
    let a : f first ≤ most = h first (omega arith) (omega arith) in
    let b : total_by f (up_from (suc first) n) ≤ n * most =
    total_by-times f most (suc first) n (λ t from to. h t (omega arith) (omega arith)) in
    omega arith

pub most_steps-limit : (p : Program) → IsWellFormed p → most_steps p ≤ STEPS
most_steps-limit p h =
    let a = total_by-times (λ t. steps_in (code_of p t)) (2 * INSTRUCTIONS) 0 (length p.threads)
    (λ t from to.
    let code : IsValidCode p (code_of p t) = h.codes t no_thread (omega arith) in
    let b = steps_in-twice (code_of p t) in
    let c : length (code_of p t) ≤ INSTRUCTIONS = code.short in
    omega arith) in
    let b : length p.threads ≤ THREADS = h.threads in
    omega arith

pub schedule_within : (p : Program) (w : List ℕ) → IsWellFormed p → runs p (start p) w ≡ true
    → length w ≤ STEPS
schedule_within p w h r = let a = schedule_short p w r in let b =
    most_steps-limit p h in omega arith
