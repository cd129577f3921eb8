-- The threads that have stopped, and the lines of steps one after another.
use Rattle.std.proofs.Common.{◌≡◌, ℕ, zero, suc, ◌+◌, ◌<◌, ◌≤◌, Bool, true, false, cond, List, [], ◌∷◌, ◌++◌, length, take, get_or, Option, Some, None, refl, ap, ◌∙◌, sym, subst, arith, append_assoc, append-nil, add-one}
use Rattle.std.{specs.List.filter, proofs.lemmas.List.take_more}
use Rattle.std.proofs.lemmas.List.Elements.{filter-append}
use Rattle.guest_code.specs.Program.{Program}
use Rattle.semantics.specs.{Machine.{Snapshot, next_of, is_enabled, step, start}, Work.up_from}
use Rattle.semantics_schedules.specs.Execution.{ExecutionView, Reaches, stepped}
use Rattle.semantics_schedules.specs.Schedules.{state_after, last_of, last_after}
use Rattle.semantics_schedules.proofs.Executions.{reaches_step, reaches_few}
use Rattle.replay.specs.Run.{lines_from, line_at, IsFirstBad, ReplayErrorMeans}
use Rattle.replay.specs.declared.error.ReplayError.{ReplayError}
use Rattle.replay.specs.declared.error.ReplayError.TheVariants.{NoSuchThread, NotEnabled, OutOfMemory}
use Rattle.replay.specs.{declared.run.Line.Line, inner.Step.RefusalMeans}

-- rising numbers, with one more
up_from-push : (first n : ℕ) → up_from first (suc n) ≡ up_from first n ++ (first + n) ∷ []
up_from-push first zero = let e : first ≡ first + 0 = omega arith in ap (λ k. k ∷ []) e
up_from-push first (suc n) = let e : suc first + n ≡ first + suc n = omega arith in
    ap (λ ks. first ∷ ks) (up_from-push (suc first) n ∙ ap (λ k. up_from (suc first) n ++ k ∷ []) e)

up_to-push : (n : ℕ) → up_from 0 (suc n) ≡ up_from 0 n ++ n ∷ []
up_to-push n = up_from-push 0 n
    ∙ (let e : 0 + n ≡ n = omega arith in ap (λ k. up_from 0 n ++ k ∷ []) e)

-- the next number passes
pub passed_more : (test : ℕ → Bool) (n : ℕ) (old new : List ℕ) →
    old ≡ filter test (up_from 0 n) → test n ≡ true → new ≡ old ++ n ∷ [] →
    new ≡ filter test (up_from 0 (n + 1))
passed_more test n old new e h made =
    made ∙ (ap (λ ks. ks ++ n ∷ []) e
    ∙ sym (ap (λ k. filter test (up_from 0 k)) (add-one n) ∙ (ap (filter test) (up_to-push n)
    ∙ (filter-append test (up_from 0 n) (n ∷ [])
    ∙ ap (λ b. filter test (up_from 0 n) ++ cond b (n ∷ []) []) h))))

-- it does not
pub passed_same : (test : ℕ → Bool) (n : ℕ) (old : List ℕ) → old ≡ filter test (up_from 0 n) →
    test n ≡ false → old ≡ filter test (up_from 0 (n + 1))
passed_same test n old e h =
    e ∙ sym (ap (λ k. filter test (up_from 0 k)) (add-one n) ∙ (ap (filter test) (up_to-push n)
    ∙ (filter-append test (up_from 0 n) (n ∷ [])
    ∙ (ap (λ b. filter test (up_from 0 n) ++ cond b (n ∷ []) []) h
    ∙ append-nil (filter test (up_from 0 n))))))

-- lines of one schedule after another
lines_from-append : (p : Program) (s : Snapshot) (last : Option ℕ) (v w : List ℕ) →
    lines_from p s last (v ++ w) ≡ lines_from p s last v ++ lines_from p (state_after p s v)
    (last_after last v) w
lines_from-append p s last [] w = refl
lines_from-append p s last (t ∷ v) w =
    ap (λ ls. line_at p s last t (next_of p s t) ++ ls)
    (lines_from-append p (step p s t) (Some t) v w)
    ∙ sym (append_assoc (line_at p s last t (next_of p s t))
    (lines_from p (step p s t) (Some t) v) _)

-- a schedule that is carried out up to a place, with the lines of its steps
pub record IsToldUpTo (p : Program) (w : List ℕ) (k : ℕ) (e : ExecutionView)
    (lines : List Line) : Type 0 where
  pub reached : Reaches p (take k w) e
  pub told : lines ≡ lines_from p (start p) None (take k w)

pub told_none : (p : Program) (w : List ℕ) (e : ExecutionView) → Reaches p [] e →
    IsToldUpTo p w 0 e []
told_none p w e r = record { reached = r; told = refl }

pub told_more : (p : Program) (w : List ℕ) (k : ℕ) (e new : ExecutionView)
    (lines more : List Line) (t : ℕ) (line : Line) → k < length w → t ≡ get_or w k 0 →
    IsToldUpTo p w k e lines → is_enabled p e.state t ≡ true →
    line_at p e.state e.last t (next_of p e.state t) ≡ line ∷ [] → new ≡ stepped p e t →
    more ≡ lines ++ line ∷ [] → IsToldUpTo p w (k + 1) new more
told_more p w k e new lines more t line inside is old can told value pushed =
    let longer : take k w ++ t ∷ [] ≡ take (k + 1) w = ap (λ u. take k w ++ u ∷ []) is
    ∙ sym (take_more w k 0 inside) in
    let r = old.reached in
    record {
      reached = subst (λ v. Reaches p v new) longer
          (subst (Reaches p (take k w ++ t ∷ [])) (sym value)
          (reaches_step p (take k w) e t r can));
      told = pushed
          ∙ (λ i. old.told i ++ line_is i)
          ∙ sym (lines_from-append p (start p) None (take k w) (t ∷ []))
          ∙ ap (lines_from p (start p) None) longer;
    }
  where
    line_is : line ∷ [] ≡ lines_from p (state_after p (start p) (take k w))
        (last_after None (take k w)) (t ∷ [])
    line_is = sym told
        ∙ (λ i. line_at p (old.reached.state i) (old.reached.last i) t
        (next_of p (old.reached.state i) t))
        ∙ sym (append-nil
        (line_at p (state_after p (start p) (take k w)) (last_of (take k w)) t
        (next_of p (state_after p (start p) (take k w)) t)))

-- no more switches than steps
pub few_so_far : (p : Program) (w : List ℕ) (k : ℕ) (e : ExecutionView) (lines : List Line) →
    IsToldUpTo p w k e lines → e.preemptions ≤ length (take k w)
few_so_far p w k e lines old = reaches_few p (take k w) e old.reached

-- a step that is refused is the first bad place
refused_at : (p : Program) (w : List ℕ) (k t : ℕ) (e : ExecutionView) (lines : List Line) →
    k < length w → t ≡ get_or w k 0 → IsToldUpTo p w k e lines → is_enabled p e.state t ≡ false →
    IsFirstBad p w k
refused_at p w k t e lines inside is old bad = record {
  inside = inside;
  legal = old.reached.runs;
  bad = sym (λ i. is_enabled p (old.reached.state i) (is i)) ∙ bad;
}

pub refused : (p : Program) (w : List ℕ) (k t : ℕ) (e : ExecutionView) (lines : List Line)
    (error : ReplayError) → k < length w → t ≡ get_or w k 0 → IsToldUpTo p w k e lines →
    RefusalMeans p e.state k t error → ReplayErrorMeans p w error
refused p w k t e lines (NoSuchThread j) inside is old h = (
  subst (IsFirstBad p w) (sym h.0) (refused_at p w k t e lines inside is old h.1),
  subst (λ u. ¬ (u < length p.threads)) (is ∙ ap (λ n. get_or w n 0) (sym h.0)) h.2,
)
refused p w k t e lines (NotEnabled j) inside is old h = (
  subst (IsFirstBad p w) (sym h.0) (refused_at p w k t e lines inside is old h.1),
  subst (λ u. u < length p.threads) (is ∙ ap (λ n. get_or w n 0) (sym h.0)) h.2,
)
refused p w k t e lines OutOfMemory inside is old h = absurd h
