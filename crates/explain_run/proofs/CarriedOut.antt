-- A schedule that is carried out up to a place, and what is told of its steps.
use Rattle.std.proofs.Common.{length-append, ◌≡◌, ℕ, zero, suc, ◌+◌, ◌<◌, true, List, [], ◌∷◌, ◌++◌, length, take, map, replicate, get_or, Option, Some, None, refl, ap, ◌∙◌, sym, subst, inl, inr, arith}
use Rattle.std.{specs.List.slice_get, proofs.lemmas.List.{map-append, length-replicate}}
use Rattle.guest_code.specs.Program.{Program, IsWellFormed}
use Rattle.semantics.specs.Machine.{Snapshot, is_enabled, owner_of}
use Rattle.semantics_schedules.specs.Execution.{ExecutionView, IsExecutionOf, Reaches}
use Rattle.replay.specs.{Run.number_at, declared.run.Line.Line}
use Rattle.replay.proofs.LinesOfSteps.{IsToldUpTo, told_none, told_more}
use Rattle.explain_run.specs.{Explains.{carried_out, TellsHolders}, Holders.IsHeldBy}
use Rattle.explain_run.specs.{Steps.{Tells, IsTakenStep}, declared.explanation.Holder.Holder}
use Rattle.explain_run.specs.{declared.step.Step.Step, inner.Carrying.AreHoldersAfter}
use Rattle.explain_run.proofs.{HeldOn.{held_on, held_by_none}, Pushed.pushed_at}

abbrev pub line_in : Step → Line
line_in told = told.line

-- the first k steps are carried out
pub record IsCarriedUpTo (p : Program) (w : List ℕ) (k : ℕ) (e : ExecutionView)
    (steps : List Step) (owned : List (Option Holder)) : Type 0 where
  pub of : IsExecutionOf p e
  pub count : length steps ≡ k
  pub told : IsToldUpTo p w k e (map line_in steps)
  pub each : (j : ℕ) (told : Step) → slice_get steps j ≡ Some told →
      Tells p (carried_out p w j) (number_at w j) told
  pub holders : TellsHolders p w k owned

-- none is
free_at : {A : Type 0} → (n m : ℕ) → get_or (replicate {A = Option A} n None) m None ≡ None
free_at zero m = refl
free_at (suc n) zero = refl
free_at (suc n) (suc m) = free_at n m

pub carried_none : (p : Program) (w : List ℕ) (e : ExecutionView) (n : ℕ) → Reaches p [] e →
    IsExecutionOf p e → n ≡ length p.mutexes → IsCarriedUpTo p w 0 e [] (replicate n None)
carried_none p w e n r of same = record {
  of = of;
  count = refl;
  told = told_none p w e r;
  each = λ j told h. absurd cc;
  holders = record {
    all = length-replicate n None ∙ same;
    each = λ m l. held_by_none p w m (get_or (replicate n None) m None) (free_at n m)
        (free_at (length p.mutexes) m);
  };
}

-- the execution so far is what the schedule so far leads to
so_far : (p : Program) (w : List ℕ) (k : ℕ) (e : ExecutionView) → Reaches p (take k w) e →
    e ≡ carried_out p w k
so_far p w k e r = λ i. record {
  state = r.state i;
  last = r.last i;
  preemptions = r.preemptions i;
}

-- one more
pub carried_more : (p : Program) (w : List ℕ) (k t : ℕ) (e new : ExecutionView)
    (steps more : List Step) (holders follow : List (Option Holder)) (told : Step) →
    IsWellFormed p → k < length w → t ≡ get_or w k 0 → is_enabled p e.state t ≡ true →
    IsCarriedUpTo p w k e steps holders → IsTakenStep p e new t told →
    more ≡ steps ++ told ∷ [] → AreHoldersAfter holders follow new.state k →
    IsCarriedUpTo p w (k + 1) new more follow
carried_more p w k t e new steps more holders follow told f inside_w is can old taken pushed next =
    record {
      of = taken.of;
      count = ap length pushed
          ∙ (length-append steps (told ∷ []) ∙ ap (λ n. n + 1) old.count);
      told = further;
      each = λ j one h. each_of j one (subst (λ l. slice_get l j ≡ Some one) pushed h);
      holders = record {
        all = next.all ∙ old.holders.all;
        each = holds;
      };
    }
  where
    further : IsToldUpTo p w (k + 1) new (map line_in more)
    further = told_more p w k e new (map line_in steps) (map line_in more) t told.line inside_w is
        old.told can taken.tells.line taken.value
        (ap (map line_in) pushed ∙ map-append line_in steps (told ∷ []))

    tells_here : Tells p (carried_out p w k) (number_at w k) told
    tells_here = subst (λ u. Tells p (carried_out p w k) u told) is
        (subst (λ v. Tells p v t told) (so_far p w k e old.told.reached) taken.tells)

    each_of : (j : ℕ) (one : Step) → slice_get (steps ++ told ∷ []) j ≡ Some one →
        Tells p (carried_out p w j) (number_at w j) one
    each_of j one h = elim (pushed_at steps told j one h) [
      | inl earlier ↦ old.each j one earlier
      | inr here ↦ subst (λ n. Tells p (carried_out p w n) (number_at w n) one)
          (sym (here.0 ∙ old.count))
          (subst (Tells p (carried_out p w k) (number_at w k)) here.1 tells_here)
    ]

    holds : (m : ℕ) → m < length p.mutexes → IsHeldBy p w (k + 1) m (get_or follow m None)
    holds m l = held_on p w k m (get_or holders m None) (get_or follow m None)
        (owner_of new.state m) (old.holders.each m l)
        (sym (ap (λ (s : Snapshot). owner_of s m) further.reached.state))
        (next.each m (let e = old.holders.all in omega (arith, l, e)))
