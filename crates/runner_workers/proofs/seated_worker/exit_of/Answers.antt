use Rattle.std.proofs.Common.{rules, tests, arith, ◌≡◌, ◌<◌, ℕ, Bool, true, false, List, [], ◌∷◌, length, get_or, MatchBool}
use Rattle.std.specs.List.{Any, HoldsAt}
use Rattle.std.proofs.lemmas.{Iterator.{cases_from_any, YieldsList-from_slice}, List.get_or_default}
use Rattle.runner_workers.specs.declared.exit.Exit.{Exit, TheVariants.{Stopped, OutOfMemory}}
use Rattle.runner_workers.specs.declared.seated_worker.SeatedWorker.{SeatedWorker}
use Rattle.runner_workers.proofs.seated_worker.exit_of.Goals as goal

-- the worker ended so
abbrev Ended : Exit → SeatedWorker → Type 0
Ended e w = w.exit ≡ e

-- a worker at some place ended so
abbrev EndedAt : Exit → List SeatedWorker → Type 0
EndedAt e ws = (k : ℕ) × (k < length ws) × HoldsAt (Ended e) ws k

some_ended : (e : Exit) (ws : List SeatedWorker) → EndedAt e ws → Any (Ended e) ws
some_ended e [] h = absurd (omega (arith, h.1))
some_ended e (w ∷ ws) h =
    let at : SeatedWorker = get_or (w ∷ ws) h.0 w in
    (h.0, at, h.1, get_or_default (w ∷ ws) h.0 at w h.1, h.2 w)

found : (e : Exit) (ws : List SeatedWorker) (No : Type 0) (r : Bool) → r ≡ true →
    MatchBool r (EndedAt e ws) No → Any (Ended e) ws
found e ws No true is h = some_ended e ws h
found e ws No false is h = absurd cc

pub returns-then-any-clause-memory : goal.returns-then-any-clause-memory
returns-then-any-clause-memory c e =
    let ws = c.args.workers.now in
    let No : SeatedWorker → Type 0 = λ w. w.exit ≡ OutOfMemory → ⊥ in
    found OutOfMemory ws _ c.any.result c.if-any.true
    (cases_from_any _ _ _ (Ended OutOfMemory) No c.any.ensures.ran (YieldsList-from_slice ws cc)
    (λ x q k. search (rules, tests)) (λ x q k. search (rules, tests)))

pub returns-then-any-2-clause-stopped : goal.returns-then-any-2-clause-stopped
returns-then-any-2-clause-stopped c e =
    let ws = c.args.workers.now in
    let No : SeatedWorker → Type 0 = λ w. w.exit ≡ Stopped → ⊥ in
    found Stopped ws _ c.any-else-any.result c.if-any-2.true
    (cases_from_any _ _ _ (Ended Stopped) No c.any-else-any.ensures.ran
    (YieldsList-from_slice ws cc) (λ x q k. search (rules, tests)) (λ x q k. search (rules, tests)))
