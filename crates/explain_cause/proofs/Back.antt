-- The marks, from one place to the one before it.
use Rattle.std.specs.Prelude.{Bool, true, cond, ◌&&◌, IfSome, slice_index_or, slice_set}
use Rattle.std.proofs.Common.{◌≡◌, ℕ, ◌+◌, ◌<◌, List, [], ◌∷◌, length, take, drop, get_or, Option, Some, None, refl, ap, ◌∙◌, sym, subst, arith}
use Rattle.std.{specs.List.count_by, proofs.lemmas.Bool.eq-eqb}
use Rattle.guest_code.specs.Program.{Program, IsWellFormed}
use Rattle.guest_code.specs.declared.limits.TheConstants.{THREADS, VARIABLES}
use Rattle.explain_cause.specs.{Causes.{is_needed, marks_in}, Events.is_use}
use Rattle.explain_cause.specs.declared.backward_slice.BackwardSlice.{BackwardSlice}
use Rattle.explain_cause.specs.{declared.event.Event.Event, inner.Keeping.{IsMovedBefore, needs}}
use Rattle.explain_cause.specs.inner.Wanting.{IsValidEvent, IsWanted}
use Rattle.explain_cause.proofs.Following.{needs_alike, one_more, taken_on}
use Rattle.explain_cause.proofs.Places.{marked_at, rest_marked, set_at, up_to}
use Rattle.check_lint.specs.Uses.{is, variable_used}

module _ (p : Program) (events : List Event) (k : ℕ) (d : Event) (old : BackwardSlice)
    (f : IsWellFormed p) (l : k < length events) (v : IsValidEvent p (get_or events k d))
    (w : IsWanted (take (k + 1) events) (rest_marked p events (k + 1)) old) where
  is_mark : (mark : Bool) → mark ≡ needs p old (get_or events k d) →
      mark ≡ is_needed p (take (k + 1) events) (rest_marked p events (k + 1)) (get_or events k d)
  is_mark mark e = e ∙ needs_alike p (take (k + 1) events) (rest_marked p events (k + 1)) old
      (get_or events k d) f v w

  pub wanted_back : (mark : Bool) (new : BackwardSlice) → mark ≡ needs p old (get_or events k d) →
      IsMovedBefore (get_or events k d) mark old new →
      IsWanted (take k events) (rest_marked p events k) new
  wanted_back mark new e h = subst (λ ms. IsWanted (take k events) ms new)
      (ap (λ b. record { event = get_or events k d; mark = b } ∷ rest_marked p events (k + 1))
      (is_mark mark e) ∙ sym (marked_at p events k d l))
      (taken_on (take k events) (rest_marked p events (k + 1)) (get_or events k d) mark old new h
      (subst (λ es. IsWanted es (rest_marked p events (k + 1)) old) (up_to events k d l) w))

  pub marks_back : (mark : Bool) (marks : List Bool) → mark ≡ needs p old (get_or events k d) →
      length marks ≡ length events →
      drop (k + 1) marks ≡ marks_in (rest_marked p events (k + 1)) →
      drop k (slice_set marks k mark) ≡ marks_in (rest_marked p events k)
  marks_back mark marks e m h = set_at marks k mark (omega (arith, l, m))
      ∙ (ap (λ ms. mark ∷ ms) h
      ∙ (ap (λ b. b ∷ marks_in (rest_marked p events (k + 1))) (is_mark mark e)
      ∙ sym (ap (λ ms. marks_in ms) (marked_at p events k d l))))

  -- a variable that the event uses is used up to it
  pub used_here : (o : Option ℕ) → variable_used (get_or events k d).statement ≡ o →
      IfSome o (λ x. x < VARIABLES) →
      IfSome o (λ x. 0 < slice_index_or (slice_index_or old.uses (get_or events k d).thread []) x 0)
  used_here None e m = tt
  used_here (Some x) e m = let t = (get_or events k d).thread in
      let few : t < THREADS = (let a = v.thread in let b = f.threads in omega (arith, a, b)) in
      let there : is_use t x (get_or events k d) ≡ true = (ap (λ b. b && is x
      (variable_used (get_or events k d).statement)) (eq-eqb t t refl)
      ∙ (ap (λ o. is x o) e ∙ eq-eqb x x refl)) in
      let one : cond {A = ℕ} (is_use t x (get_or events k d)) 1 0 ≡ 1 = ap (λ b. cond {A = ℕ} b 1 0) there in
      let all = w.uses t x few m in
      let more = one_more (is_use t x) (take k events) (get_or events k d) in
      let same = ap (λ es. count_by (is_use t x) es) (up_to events k d l) in
      omega (arith, one, all, more, same)
