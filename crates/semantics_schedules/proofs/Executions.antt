-- A further step of an execution, and what loops over a schedule know of theirs.
use Rattle.std.proofs.Common.{◌≡◌, ℕ, zero, suc, ◌+◌, ◌<◌, ◌≤◌, Bool, true, false, List, [], ◌∷◌, ◌++◌, length, take, get_or, Option, None, Some, refl, ap, ◌∙◌, sym, subst, arith}
use Rattle.std.specs.Int.{from_bool}
use Rattle.guest_code.specs.Program.{Program}
use Rattle.semantics.specs.{Machine.{Snapshot, start, step, is_enabled}, Mask.one_if}
use Rattle.semantics_schedules.specs.Execution.{ExecutionView, Reaches, stepped}
use Rattle.semantics_schedules.specs.Schedules.{state_after, runs, preempts, preemptions_from}
use Rattle.semantics_schedules.proofs.PrefixesExtend.{last_of-push}
use Rattle.semantics_schedules.proofs.UnfoldingUnderPrefix.{and_true, runs-push, state_after-push, preemptions-push}

pub from_bool_is : (b : Bool) → from_bool b ≡ one_if b
from_bool_is true = refl
from_bool_is false = refl

-- a schedule with a further step leads to the execution with a further step
pub reaches_step : (p : Program) (w : List ℕ) (e : ExecutionView) (t : ℕ) → Reaches p w e
    → is_enabled p e.state t ≡ true → Reaches p (w ++ t ∷ []) (stepped p e t)
reaches_step p w e t h can = record {
  runs = runs-push p (start p) w t h.runs (subst (λ z. is_enabled p z t ≡ true) h.state can);
  state = ap (λ z. step p z t) h.state ∙ sym (state_after-push p (start p) w t);
  last = sym (last_of-push w t);
  preemptions = (λ i. h.preemptions i + one_if (preempts p (h.state i) (h.last i) t)) ∙ sym
      (preemptions-push p w t);
}

-- the same of an execution whose parts are found one by one
pub reaches_parts : (p : Program) (w : List ℕ) (e : ExecutionView) (t : ℕ) (s : Snapshot) (n : ℕ)
    → Reaches p w e → is_enabled p e.state t ≡ true → s ≡ step p e.state t
    → n ≡ e.preemptions + one_if (preempts p e.state e.last t)
    → Reaches p (w ++ t ∷ []) (record { state = s; last = Some t; preemptions = n })
reaches_parts p w e t s n h can state count =
    subst (Reaches p (w ++ t ∷ [])) (λ i. record {
      state = sym state i;
      last = Some t;
      preemptions = sym count i;
    }) (reaches_step p w e t h can)

-- for loops over a schedule

one_if_few : (b : Bool) → one_if b ≤ 1
one_if_few true = omega arith
one_if_few false = omega arith

preemptions_from_few : (p : Program) (s : Snapshot) (last : Option ℕ) (w : List ℕ)
    → preemptions_from p s last w ≤ length w
preemptions_from_few p s last [] = omega arith
preemptions_from_few p s last (t ∷ w) = let one = one_if_few (preempts p s last t) in let rest =
    preemptions_from_few p (step p s t) (Some t) w in omega (arith, one, rest)

-- no more switches are preempting than steps were taken
pub reaches_few : (p : Program) (w : List ℕ) (e : ExecutionView) → Reaches p w e
    → e.preemptions ≤ length w
reaches_few p w e h = let few = preemptions_from_few p (start p) None w in let is : e.preemptions
    ≡ preemptions_from p (start p) None w = h.preemptions in omega (arith, few, is)

-- each step of a schedule that runs is one of an enabled thread
pub runs_at : (p : Program) (s : Snapshot) (w : List ℕ) (i : ℕ) → runs p s w ≡ true → i < length w
    → is_enabled p (state_after p s (take i w)) (get_or w i 0) ≡ true
runs_at p s [] i h l = absurd (omega arith)
runs_at p s (t ∷ w) zero h l = (and_true (is_enabled p s t) (runs p (step p s t) w) h).0
runs_at p s (t ∷ w) (suc i) h l = runs_at p (step p s t) w i
    (and_true (is_enabled p s t) (runs p (step p s t) w) h).1 (omega arith)
