-- All complete schedules, by their first steps: none of them is cut off.
use Rattle.std.proofs.Common.{◌≡◌, ℕ, zero, suc, ◌<◌, ◌≤◌, Bool, true, false, cond, List, [], ◌∷◌, ◌++◌, length, refl, ap, ◌∙◌, sym, arith}
use Rattle.std.specs.List.{filter, flat_map}
use Rattle.guest_code.specs.Program.{Program}
use Rattle.semantics.specs.{Ends.enabled, Machine.{Snapshot, step, is_enabled}}
use Rattle.semantics.{specs.Work.{up_from, work}, proofs.WorkFalls.work-step}
use Rattle.semantics_schedules.specs.Schedules.{before, or_complete, schedules_cut_at, complete_schedules}

-- two functions that agree on what passes make the same of a filter
pub flat_map-filter_same : {A B : Type 0} (test : A → Bool) (f g : A → List B) (xs : List A)
    → ((x : A) → test x ≡ true → f x ≡ g x)
    → flat_map f (filter test xs) ≡ flat_map g (filter test xs)
flat_map-filter_same test f g [] same = refl
flat_map-filter_same {A} {B} test f g (x ∷ xs) same =
    elim (test x) as (λ b. test x ≡ b → flat_map f (cond b (x ∷ filter test xs) (filter test xs))
    ≡ flat_map g (cond b (x ∷ filter test xs) (filter test xs))) [
      | true ↦ λ e. ap (λ ys. ys ++ flat_map f (filter test xs)) (same x e) ∙ ap (λ ys. g x ++ ys)
          (flat_map-filter_same test f g xs same)
      | false ↦ λ e. flat_map-filter_same test f g xs same
    ] refl

filter_none : {A : Type 0} (test : A → Bool) (xs : List A) → ((x : A) → test x ≡ false)
    → filter test xs ≡ []
filter_none test [] none = refl
filter_none {A} test (x ∷ xs) none = rw (none x) (filter_none test xs none)

not_true : (b : Bool) → (b ≡ true → ⊥) → b ≡ false
not_true true h = absurd (h refl)
not_true false h = refl

no_work : (p : Program) (s : Snapshot) → work p s ≤ 0 → enabled p s ≡ []
unfolding enabled
no_work p s h = filter_none (is_enabled p s) _
    (λ t. not_true (is_enabled p s t) (λ e. let l : work p (step p s t) < work p s = work-step p s
    t e in omega arith))

-- more steps than there is work for give the same
enough : (m n : ℕ) (p : Program) (s : Snapshot) → work p s ≤ m → work p s ≤ n
    → schedules_cut_at m p s ≡ schedules_cut_at n p s
unfolding enabled
enough zero zero p s a b = refl
enough zero (suc n) p s a b = let e : enabled p s ≡ [] = no_work p s a in sym (rw e refl)
enough (suc m) zero p s a b = let e : enabled p s ≡ [] = no_work p s b in rw e refl
enough (suc m) (suc n) p s a b =
    ap (or_complete (enabled p s)) (flat_map-filter_same (is_enabled p s) _ _
    (up_from 0 (length s.threads)) (λ t e.
    let l : work p (step p s t) < work p s = work-step p s t e in
    ap (before t) (enough m n p (step p s t) (omega arith) (omega arith))))

-- the law of `All`
pub complete_schedules-unfold : (p : Program) (s : Snapshot)
    → complete_schedules p s ≡ or_complete (enabled p s)
    (flat_map (λ t. before t (complete_schedules p (step p s t))) (enabled p s))
unfolding complete_schedules enabled
complete_schedules-unfold p s = enough (work p s) (suc (work p s)) p s (omega arith) (omega arith)
    ∙ ap (or_complete (enabled p s)) (flat_map-filter_same (is_enabled p s) _ _
    (up_from 0 (length s.threads)) (λ t e.
    let l : work p (step p s t) < work p s = work-step p s t e in
    ap (before t) (enough (work p s) (work p (step p s t)) p (step p s t) (omega arith)
    (omega arith))))
