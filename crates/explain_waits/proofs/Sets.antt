-- Sets of threads, for each thread, and owners.
use Rattle.std.specs.Prelude.{◌↔◌, IsTrue}
use Rattle.std.proofs.Common.{◌≡◌, ◌≢◌, ◌∙◌, ℕ, ◌+◌, ◌<◌, inl, inr, Bool, true, false, List, length, Option, Some, None, arith, sym, subst, ap, refl, set, replicate}
use Rattle.std.proofs.lemmas.Bool.{cases_lt, cases_eq, both_ways, eqb-true, eq-eqb}
use Rattle.std.proofs.lemmas.List.{get_or_past, get_or-replicate, length-replicate, get_or-set_same, get_or-set_other}
use Rattle.semantics.specs.{Machine.owns, Mask.{has, no_threads}, declared.mask.Mask.Mask}
use Rattle.semantics.proofs.Masks.{empty_has}
use Rattle.explain_waits.specs.Graph.{row, IsIn}

-- nobody is in the empty set
pub nobody : (u : ℕ) → ¬ IsTrue (has no_threads u)
nobody u h = both_ways (has no_threads u) (empty_has u) h

-- a thread that has a set with a member is one of the list
pub inside : (rows : List Mask) (n : ℕ) → length rows ≡ n → (t u : ℕ) → IsIn rows t u → t < n
inside rows n e t u h = elim (cases_lt t n) [
  | inl less ↦ less
  | inr more ↦ absurd (nobody u (let P : Mask → Type 0 = λ set. IsTrue (has set u) in
      subst P (get_or_past rows t no_threads (omega (arith, e, more))) h))
]

pub owner_is : (u : ℕ) (o : Option ℕ) → owns u o ≡ true → o ≡ Some u
owner_is u None h = absurd (both_ways false refl h)
owner_is u (Some v) h = ap Some (sym (eqb-true u v h))

pub is_owner : (u : ℕ) (o : Option ℕ) → o ≡ Some u → owns u o ≡ true
is_owner u o e = ap (owns u) e ∙ eq-eqb u u refl

-- a set with one thread more or less, of those that a test picks
pub picked_more : (P : ℕ → Type 0) (old new : Mask) (n : ℕ) (b : Bool) → has new n ≡ b
    → ((u : ℕ) → u ≢ n → has new u ≡ has old u) → (IsTrue b ↔ P n)
    → ((u : ℕ) → IsTrue (has old u) ↔ ((u < n) × P u))
    → (u : ℕ) → IsTrue (has new u) ↔ ((u < n + 1) × P u)
picked_more P old new n b same others says before u = elim (cases_eq u n) [
  | inl here ↦ (let Q : ℕ → Type 0 = λ u. IsTrue (has new u) ↔ ((u < n + 1) × P u) in
      subst Q (sym here) (
        λ h. (omega arith, says.0 (sym same ∙ h)),
        λ h. same ∙ says.1 h.1,
      ))
  | inr other ↦ (
    λ h. let old_ = (before u).0 (sym (others u other) ∙ h) in (omega (arith, old_.0), old_.1),
    λ h. others u other ∙ (before u).1 (omega (arith, h.0, other), h.1),
  )
]

pub picked_none : (P : ℕ → Type 0) (u : ℕ) → IsTrue (has no_threads u) ↔ ((u < 0) × P u)
picked_none P u = (λ h. absurd (nobody u h), λ h. absurd (omega (arith, h.0)))

-- lists of sets that grow

row_none : (n t : ℕ) → row (replicate n no_threads) t ≡ no_threads
row_none n t = elim (cases_lt t n) [
  | inl less ↦ get_or-replicate n t no_threads no_threads less
  | inr more ↦ get_or_past (replicate n no_threads) t no_threads
      (let e = length-replicate n no_threads in omega (arith, e, more))
]

pub rows_none : (E : ℕ → ℕ → Type 0) (n : ℕ) (set : Mask) → set ≡ no_threads → (t u : ℕ)
    → IsIn (replicate n set) t u ↔ ((t < 0) × E t u)
rows_none E n set e t u = (
  λ h. let Q : Mask → Type 0 = λ set. IsIn (replicate n set) t u in
      let P : Mask → Type 0 = λ set. IsTrue (has set u) in
      absurd (nobody u (subst P (row_none n t) (subst Q e h))),
  λ h. absurd (omega (arith, h.0)),
)

-- the next thread has this set
pub rows_put : (E : ℕ → ℕ → Type 0) (old : List Mask) (n : ℕ) (new : Mask) → n < length old
    → ((u : ℕ) → IsTrue (has new u) ↔ E n u)
    → ((t u : ℕ) → IsIn old t u ↔ ((t < n) × E t u))
    → (t u : ℕ) → IsIn (set old n new) t u ↔ ((t < n + 1) × E t u)
rows_put E old n new l says before t u =
    let P : Mask → Type 0 = λ set. IsTrue (has set u) in
    elim (cases_eq t n) [
      | inl here ↦ (let Q : ℕ → Type 0 = λ t. IsIn (set old n new) t u ↔ ((t < n + 1) × E t u) in
          let same = get_or-set_same old n new no_threads l in
          subst Q (sym here) (
            λ h. (omega arith, (says u).0 (subst P same h)),
            λ h. subst P (sym same) ((says u).1 h.1),
          ))
      | inr other ↦ (let same = get_or-set_other old n t new no_threads other in (
        λ h. let old_ = (before t u).0 (subst P same h) in (omega (arith, old_.0), old_.1),
        λ h. subst P (sym same) ((before t u).1 (omega (arith, h.0, other), h.1)),
      ))
    ]

-- it has none
pub rows_kept : (E : ℕ → ℕ → Type 0) (old : List Mask) (n : ℕ) → ((u : ℕ) → ¬ E n u)
    → ((t u : ℕ) → IsIn old t u ↔ ((t < n) × E t u))
    → (t u : ℕ) → IsIn old t u ↔ ((t < n + 1) × E t u)
rows_kept E old n none before t u = (
  λ h. let old_ = (before t u).0 h in (omega (arith, old_.0), old_.1),
  λ h. elim (cases_eq t n) [
    | inl here ↦ (let Q : ℕ → Type 0 = λ t. E t u in absurd (none u (subst Q here h.1)))
    | inr other ↦ (before t u).1 (omega (arith, h.0, other), h.1)
  ],
)

-- one equivalence after the other
pub both : {A B C : Type 0} → A ↔ B → B ↔ C → A ↔ C
both f g = (λ a. g.0 (f.0 a), λ c. f.1 (g.1 c))
