-- How many turns a walk can take: the children of an item cost less than it.
use Rattle.std.proofs.Common.{◌≡◌, ℕ, zero, suc, ◌+◌, ◌*◌, ◌≤◌, Bool, true, false, cond, List, []}
use Rattle.std.proofs.Common.{◌∷◌, ◌++◌, length, refl, ap, arith, inl, inr}
use Rattle.std.specs.List.{filter}
use Rattle.guest_code.specs.{Program.{Program, IsWellFormed}, declared.limits.TheConstants.THREADS}
use Rattle.semantics_schedules.specs.Schedules.{state_after, runs, preemptions, last_of}
use Rattle.semantics_schedules.specs.declared.limits.TheConstants.{STEPS}
use Rattle.semantics_schedules.proofs.{Executions.reaches_few, ReducedSchedules.from_enabled}
use Rattle.semantics_schedules.proofs.ScheduleLengths.{schedule_within}
use Rattle.semantics_schedules.proofs.UnfoldingUnderPrefix.{state_after-push}
use Rattle.semantics.specs.Ends.{enabled, is_terminal}
use Rattle.semantics.specs.{Machine.{Snapshot, start, step, is_enabled}, Reachable.IsOf, Waiters.In}
use Rattle.semantics.{specs.Work.{up_from, work}, proofs.ListMembers.from_filter}
use Rattle.semantics.proofs.{TerminalStates.is_terminal-none, WorkFalls.work-step}
use Rattle.walk_items.specs.Children.{state_of, next_steps, is_kept_step, kept_steps, child_of}
use Rattle.walk_items.specs.Children.{children_of, children, turns, cost_of, costs}
use Rattle.walk_items.specs.{Items.ItemView, declared.mode.Mode.Mode}

pub costs-append : (xs ys : List ItemView) → costs (xs ++ ys) ≡ costs xs + costs ys
costs-append [] ys = omega arith
costs-append (x ∷ xs) ys = let e = costs-append xs ys in omega (arith, e)

turns_two : (n : ℕ) → 2 ≤ turns n
turns_two zero = omega arith
turns_two (suc n) = omega arith

pub turns_more : (m n : ℕ) → m ≤ n → turns m ≤ turns n
turns_more zero n h = turns_two n
turns_more (suc m) zero h = absurd (omega arith)
turns_more (suc m) (suc n) h =
    let less : turns m ≤ turns n = turns_more m n (omega arith) in
    omega (arith, less)

-- each item takes two turns at least: the walk goes down to it, and back
pub cost_two : (i : ItemView) → 2 ≤ cost_of i
cost_two i = turns_two (work i.program (state_of i))

-- an item a step, each of this cost at most
costs_times : (mode : Mode) (i : ItemView) (most : ℕ) (steps : List ℕ) →
    ((t : ℕ) → In steps t → cost_of (child_of mode i t) ≤ most) →
    costs (children_of mode i steps) ≤ length steps * most
costs_times mode i most [] h = omega arith
costs_times mode i most (t ∷ ts) h =
    let a : cost_of (child_of mode i t) ≤ most = h t (inl refl) in
    let b = costs_times mode i most ts (λ u m. h u (inr m)) in
    omega (arith, a, b)

filter_short : (test : ℕ → Bool) (xs : List ℕ) → length (filter test xs) ≤ length xs
filter_short test [] = omega arith
filter_short test (x ∷ xs) = go (test x) (filter_short test xs)
  where
    go : (b : Bool) → length (filter test xs) ≤ length xs →
        length (cond b (x ∷ filter test xs) (filter test xs)) ≤ suc (length xs)
    go true h = omega (arith, h)
    go false h = omega (arith, h)

length_up_from : (first n : ℕ) → length (up_from first n) ≡ n
length_up_from first zero = refl
length_up_from first (suc n) = let e = length_up_from (suc first) n in omega (arith, e)

pub few_steps : (i : ItemView) → IsOf i.program (state_of i) → length (next_steps i) ≤ THREADS
unfolding enabled
few_steps i of =
    let all : List ℕ = up_from 0 (length (state_of i).threads) in
    let a = filter_short (is_enabled i.program (state_of i)) all in
    let b = length_up_from 0 (length (state_of i).threads) in
    let c = of.few in
    omega (arith, a, b, c)

times_more : (a b m : ℕ) → a ≤ b → a * m ≤ b * m
times_more zero b m h = omega arith
times_more (suc a) zero m h = absurd (omega arith)
times_more (suc a) (suc b) m h =
    let less : a * m ≤ b * m = times_more a b m (omega arith) in
    omega (arith, less)

-- where no work is left nothing is enabled
no_work : (p : Program) (s : Snapshot) → work p s ≡ 0 → is_terminal p s ≡ true
no_work p s none = is_terminal-none p s (λ t l. off t (is_enabled p s t) refl)
  where
    off : (t : ℕ) (b : Bool) → is_enabled p s t ≡ b → is_enabled p s t ≡ false
    off t true e = let falls = work-step p s t e in absurd (omega (arith, falls, none))
    off t false e = e

child_cost : (mode : Mode) (i : ItemView) (t n : ℕ) →
    is_enabled i.program (state_of i) t ≡ true → work i.program (state_of i) ≡ suc n →
    cost_of (child_of mode i t) ≤ turns n
child_cost mode i t n e left =
    let falls = work-step i.program (state_of i) t e in
    let same : work i.program (state_of (child_of mode i t))
    ≡ work i.program (step i.program (state_of i) t) =
    ap (work i.program) (state_after-push i.program (start i.program) i.prefix t) in
    turns_more (work i.program (state_of (child_of mode i t))) n (omega (arith, falls, same, left))

-- a turn that puts an item's children in its place costs two at least
pub children_cost : (mode : Mode) (i : ItemView) → IsOf i.program (state_of i) →
    is_terminal i.program (state_of i) ≡ false → costs (children mode i) + 2 ≤ cost_of i
children_cost mode i of more = go (work i.program (state_of i)) refl
  where
    s : Snapshot
    s = state_of i

    go : (n : ℕ) → work i.program s ≡ n → costs (children mode i) + 2 ≤ turns n
    go zero none = (let over : is_terminal i.program s ≡ true = no_work i.program s none in
        absurd (cc))
    go (suc n) left =
        let each = costs_times mode i (turns n) (kept_steps mode i) (λ t m. child_cost mode i t n
        (from_enabled i.program s t (from_filter (is_kept_step mode i) (next_steps i) t m).0)
        left) in
        let a = filter_short (is_kept_step mode i) (next_steps i) in
        let b = few_steps i of in
        let c : length (kept_steps mode i) * turns n ≤ THREADS * turns n =
        times_more (length (kept_steps mode i)) THREADS (turns n) (omega (arith, a, b)) in
        omega (arith, each, c)

-- no more switches of a schedule are preempting than it has steps

pub preemptions_few : (p : Program) (w : List ℕ) → runs p (start p) w ≡ true →
    preemptions p w ≤ length w
preemptions_few p w h = reaches_few p w
    (record { state = state_after p (start p) w; last = last_of w; preemptions = preemptions p w })
    (record { runs = h; state = refl; last = refl; preemptions = refl })

pub preemptions_limit : (p : Program) (w : List ℕ) → IsWellFormed p → runs p (start p) w ≡ true →
    preemptions p w ≤ STEPS
preemptions_limit p w fine h =
    let a = preemptions_few p w h in
    let b = schedule_within p w fine h in
    omega (arith, a, b)
