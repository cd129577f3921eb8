-- A run of a thread: the nodes that its steps lead to.
use Rattle.std.proofs.Common.{◌≡◌, ℕ, zero, suc, ◌+◌, ◌-◌, ◌<◌, ◌≤◌, Bool, true, false, ◌&&◌, not}
use Rattle.std.proofs.Common.{nat_eq, List, [], ◌∷◌, ◌++◌, length, take, replicate, Some, refl, ap}
use Rattle.std.proofs.Common.{◌∙◌, sym, subst, arith, append_assoc}
use Rattle.std.proofs.Math.{Path.transport, Seq.take-append_seam}
use Rattle.std.proofs.lemmas.Bool.Decides.{nat_tests}
use Rattle.std.proofs.lemmas.List.{replicate_more, replicate-append-replicate, length-replicate}
use Rattle.std.proofs.lemmas.List.{length-append, take_at}
use Rattle.std.proofs.lemmas.List.Elements.{All-map}
use Rattle.guest_code.specs.{Program.{Program, IsWellFormed}, declared.limits.TheConstants.COUNT}
use Rattle.semantics.specs.Machine.{Snapshot, start, step, is_enabled}
use Rattle.semantics.specs.{Mask.{HasEnabled, one_if}, Reachable.IsOf, declared.mask.Mask.Mask}
use Rattle.semantics.proofs.StepsKeepStates.{start_is_of}
use Rattle.semantics_schedules.specs.{Execution.Reaches, Schedules.{state_after, runs, preempts}}
use Rattle.semantics_schedules.proofs.{Executions.reaches_parts, RunsKeepStates.run_is_of}
use Rattle.semantics_schedules.proofs.UnfoldingUnderPrefix.{state_after-push}
use Rattle.semantics_machine.specs.Refinement.{Shows}
use Rattle.walk.specs.declared.path.{Node.Node, Path.Path}
use Rattle.walk.specs.inner.Paths.{IsPath, ReachesNode, used_frames, state_at}
use Rattle.walk.proofs.PathSteps.{path_on}

-- one more step of a run
pub run_push : (w : List ℕ) (t k : ℕ)
    → w ++ replicate (k + 1) t ≡ (w ++ replicate k t) ++ t ∷ []
run_push w t k = sym (append_assoc w (replicate k t) (t ∷ [])
    ∙ ap (λ (xs : List ℕ). w ++ xs) (replicate_more k t))

-- the state after it
state_over : (p : Program) (s : Snapshot) (v w : List ℕ)
    → state_after p s (v ++ w) ≡ state_after p (state_after p s v) w
state_over p s [] w = refl
state_over p s (t ∷ v) w = state_over p (step p s t) v w

-- the state that a schedule leads to is one of the program
pub reached_of : (p : Program) (w : List ℕ) → IsWellFormed p → runs p (start p) w ≡ true
    → IsOf p (state_at p w)
reached_of p w fine h = run_is_of p (start p) w (start_is_of p fine.threads
    (All-map (λ n. n ≤ COUNT) (λ k. k.count) p.semaphores fine.counts)) h

-- a step leads to the next node
next_node : (p : Program) (w : List ℕ) (t : ℕ) (old new : Node) → ReachesNode p w old
    → is_enabled p (state_at p w) t ≡ true
    → new.used ≡ old.used + one_if (preempts p (state_at p w) old.last t) → new.last ≡ Some t
    → ReachesNode p (w ++ t ∷ []) new
next_node p w t old new reaches on used last =
    transport (λ i. Reaches p (w ++ t ∷ []) (record {
      state = state_at p (w ++ t ∷ []);
      last = sym last i;
      preemptions = new.used;
    }))
    (reaches_parts p w _ t (state_at p (w ++ t ∷ [])) new.used reaches on
    (state_after-push p (start p) w t) used)

-- a thread that goes on preempts none
own_step : (p : Program) (s : Snapshot) (n : Node) (t : ℕ) → n.last ≡ Some t
    → n.used ≡ n.used + one_if (preempts p s n.last t)
own_step p s n t last =
    let none : one_if (preempts p s n.last t) ≡ 0 =
    (λ i. one_if (preempts p s (last i) t)) ∙ no (is_enabled p s t) (nat_eq t t)
    (let z : nat_eq t t ≡ true = grind (arith, nat_tests) in z) in
    omega (arith, none)
  where
    no : (a b : Bool) → b ≡ true → one_if (a && not b) ≡ 0
    no true true h = refl
    no false true h = refl
    no a false h = cc

-- the nodes of a run from a node, where the thread may go on after each step but the last
module _ (p : Program) (w : List ℕ) (t n : ℕ) (old new : Node) (reaches : ReachesNode p w old)
    (first : is_enabled p (state_at p w) t ≡ true)
    (used : new.used ≡ old.used + one_if (preempts p (state_at p w) old.last t))
    (last : new.last ≡ Some t)
    (on : (k : ℕ) → 1 ≤ k → k < n → is_enabled p (state_at p (w ++ replicate k t)) t ≡ true) where
  pub run_reaches : (k : ℕ) → 1 ≤ k → k ≤ n → ReachesNode p (w ++ replicate k t) new
  run_reaches zero some few = absurd (omega (arith, some))
  run_reaches (suc zero) some few = next_node p w t old new reaches first used last
  run_reaches (suc (suc k)) some few =
      let v : List ℕ = w ++ replicate (suc k) t in
      let more : suc k + 1 ≡ suc (suc k) = omega arith in
      subst (λ (m : ℕ). ReachesNode p (w ++ replicate m t) new) more
      (subst (λ (u : List ℕ). ReachesNode p u new) (sym (run_push w t (suc k)))
      (next_node p v t new new (run_reaches (suc k) (omega arith) (omega (arith, few)))
      (on (suc k) (omega arith) (omega (arith, few))) (own_step p (state_at p v) new t last) last))

-- the steps before it are its front
pub run_front : (w v : List ℕ) (t n : ℕ) → v ≡ w ++ replicate n t → take (length w) v ≡ w
run_front w v t n e = ap (take (length w)) e ∙ take-append_seam w (replicate n t)

-- and some steps of the run after them
pub run_take : (w v : List ℕ) (t n k : ℕ) → v ≡ w ++ replicate n t → k ≤ n
    → take (length w + k) v ≡ w ++ replicate k t
run_take w v t n k e few = ap (take (length w + k)) (e ∙ (split ∙ sym (append_assoc w
    (replicate k t) (replicate (n - k) t))))
    ∙ take_at (w ++ replicate k t) (replicate (n - k) t) (length w + k)
    (let a = length-append w (replicate k t) in let b = length-replicate k t in
    omega (arith, a, b))
  where
    split : w ++ replicate n t ≡ w ++ (replicate k t ++ replicate (n - k) t)
    split = ap (λ (xs : List ℕ). w ++ xs)
        (sym (replicate-append-replicate k (n - k) t ∙ ap (λ m. replicate m t)
        (let m : k + (n - k) ≡ n = omega (arith, few) in m)))

-- those are enabled between its steps that the machine names
pub run_enabled : (p : Program) (w : List ℕ) (t k : ℕ) (e : Mask)
    → HasEnabled e p (state_after p (state_at p w) (replicate k t))
    → HasEnabled e p (state_at p (w ++ replicate k t))
run_enabled p w t k e h = subst (HasEnabled e p) (sym (state_over p (start p) w (replicate k t))) h

pub run_on : (p : Program) (w : List ℕ) (t k : ℕ)
    → is_enabled p (state_after p (state_at p w) (replicate k t)) t ≡ true
    → is_enabled p (state_at p (w ++ replicate k t)) t ≡ true
run_on p w t k h = subst (λ (s : Snapshot). is_enabled p s t ≡ true)
    (sym (state_over p (start p) w (replicate k t))) h

-- the way after it
pub path_extended : (p : Program) (old new : Path) (t n : ℕ) → IsPath p old
    → 0 < length (used_frames old) → is_enabled p (state_at p old.steps.items) t ≡ true
    → new.node.used ≡ old.node.used
    + one_if (preempts p (state_at p old.steps.items) old.node.last t)
    → new.node.last ≡ Some t
    → ((k : ℕ) → 1 ≤ k → k < n
    → is_enabled p (state_at p (old.steps.items ++ replicate k t)) t ≡ true) → 1 ≤ n
    → new.steps.items ≡ old.steps.items ++ replicate n t
    → Shows p new.machine (state_after p (state_at p old.steps.items) (replicate n t))
    → length new.machine.values.items ≡ length old.machine.values.items
    → new.machine.shape ≡ old.machine.shape → new.size ≡ old.size
    → (used_frames new) ≡ (used_frames old) → new.words.items ≡ old.words.items
    → new.depth ≤ length new.frames.items → IsPath p new
path_extended p old new t n h some enabled used last on one steps shows values shape size frames
    words room = path_on p old new h some (run_front w new.steps.items t n steps)
    (subst (λ (v : List ℕ). ReachesNode p v new.node) (sym steps)
    (run_reaches p w t n old.node new.node h.reaches enabled used last on n one (omega arith)))
    (subst (Shows p new.machine) (sym (ap (state_at p) steps
    ∙ state_over p (start p) w (replicate n t))) shows)
    values shape size frames words room
  where
    w : List ℕ
    w = old.steps.items
