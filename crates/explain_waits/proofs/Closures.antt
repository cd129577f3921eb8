-- The closure of a relation of the threads, one inner thread after the other.
use Rattle.std.specs.Prelude.{◌↔◌, ◌&&◌}
use Rattle.std.proofs.Common.{◌≡◌, ◌∙◌, ℕ, ◌+◌, ◌<◌, ◌⊎◌, inl, inr, List, arith, sym, subst}
use Rattle.std.proofs.lemmas.Bool.{cases_lt, or_cases, or_left, or_right, and_parts, and_from}
use Rattle.semantics.specs.{Mask.has, declared.mask.Mask.Mask}
use Rattle.explain_waits.specs.Graph.{Leads, edge, on, AreInCircle, row, IsIn}
use Rattle.explain_waits.specs.inner.Rows.{IsExtendedThrough}

-- one edge after the other leads from t to u, and all threads between are below k
pub data Through (E : ℕ → ℕ → Type 0) (k : ℕ) : ℕ → ℕ → Type 0 where
  direct : {t u : ℕ} → E t u → Through E k t u
  via : {t u : ℕ} (v : ℕ) → v < k → Through E k t v → Through E k v u → Through E k t u

abbrev pub to_it : (E : ℕ → ℕ → Type 0) (k t : ℕ)
    → Through E k t k ⊎ (Through E k t k × Through E k k k) → Through E k t k
to_it E k t (inl p) = p
to_it E k t (inr p) = p.0

abbrev pub from_it : (E : ℕ → ℕ → Type 0) (k u : ℕ)
    → Through E k k u ⊎ (Through E k k k × Through E k k u) → Through E k k u
from_it E k u (inl p) = p
from_it E k u (inr p) = p.1

-- the ways to v and from it, where v is below k
below : (E : ℕ → ℕ → Type 0) (k t v u : ℕ) → v < k
    → Through E k t v ⊎ (Through E k t k × Through E k k v)
    → Through E k v u ⊎ (Through E k v k × Through E k k u)
    → Through E k t u ⊎ (Through E k t k × Through E k k u)
below E k t v u h (inl p) (inl q) = inl (via v h p q)
below E k t v u h (inl p) (inr q) = inr (via v h p q.0, q.1)
below E k t v u h (inr p) (inl q) = inr (p.0, via v h p.1 q)
below E k t v u h (inr p) (inr q) = inr (p.0, q.1)

-- the same where v is k itself
at_it : (E : ℕ → ℕ → Type 0) (k t v u : ℕ) → v ≡ k
    → Through E k t v ⊎ (Through E k t k × Through E k k v)
    → Through E k v u ⊎ (Through E k v k × Through E k k u)
    → Through E k t u ⊎ (Through E k t k × Through E k k u)
at_it E k t v u e p q =
    let P : ℕ → Type 0 = λ v. Through E k t v ⊎ (Through E k t k × Through E k k v) in
    let Q : ℕ → Type 0 = λ v. Through E k v u ⊎ (Through E k v k × Through E k k u) in
    inr (to_it E k t (subst P e p), from_it E k u (subst Q e q))

-- where k may be between too, it is not, or the way goes to it and on from it
pub split : (E : ℕ → ℕ → Type 0) (k t u : ℕ) → Through E (k + 1) t u
    → Through E k t u ⊎ (Through E k t k × Through E k k u)
split E k t u (direct e) = inl (direct e)
split E k t u (via v h p q) = elim (cases_lt v k) [
  | inl less ↦ below E k t v u less (split E k t v p) (split E k v u q)
  | inr more ↦ at_it E k t v u (omega (arith, h, more)) (split E k t v p) (split E k v u q)
]

pub grown : (E : ℕ → ℕ → Type 0) (k t u : ℕ) → Through E k t u → Through E (k + 1) t u
grown E k t u (direct e) = direct e
grown E k t u (via v h p q) =
    via v (let l : v < k + 1 = omega (arith, h) in l) (grown E k t v p) (grown E k v u q)

-- the sets are those of the ways whose inner threads are below k
abbrev pub AreThrough : (ℕ → ℕ → Type 0) → ℕ → List Mask → Type 0
AreThrough E k rows = (t u : ℕ) → IsIn rows t u ↔ Through E k t u

only_direct : (rows : List Mask) (t u : ℕ) → Through (IsIn rows) 0 t u → IsIn rows t u
only_direct rows t u (direct e) = e
only_direct rows t u (via v h p q) = absurd (omega (arith, h))

pub through_none : (rows : List Mask) → AreThrough (IsIn rows) 0 rows
through_none rows t u = (λ e. direct e, λ p. only_direct rows t u p)

pub through_more : (E : ℕ → ℕ → Type 0) (old new : List Mask) (k : ℕ) →
    IsExtendedThrough old new k
    → AreThrough E k old → AreThrough E (k + 1) new
through_more E old new k passes before t u = (
  λ h. elim (or_cases (has (row old t) u) (has (row old t) k && has (row old k) u)
      (sym (passes t u) ∙ h)) [
        | inl direct_ ↦ grown E k t u ((before t u).0 direct_)
        | inr both ↦ (let parts = and_parts (has (row old t) k) (has (row old k) u) both in
            via k (let l : k < k + 1 = omega arith in l) (grown E k t k ((before t k).0 parts.0))
            (grown E k k u ((before k u).0 parts.1)))
      ],
  λ p. passes t u ∙ elim (split E k t u p) [
    | inl q ↦ or_left (has (row old t) u) (has (row old t) k && has (row old k) u)
        ((before t u).1 q)
    | inr q ↦ or_right (has (row old t) u) (has (row old t) k && has (row old k) u)
        (and_from (has (row old t) k) (has (row old k) u)
        ((before t k).1 q.0) ((before k u).1 q.1))
  ],
)

-- where edges begin at threads below n only
begins : (E : ℕ → ℕ → Type 0) (n t u : ℕ) → ((t u : ℕ) → E t u → t < n) → Leads E t u → t < n
begins E n t u within (edge e) = within t u e
begins E n t u within (on v p q) = begins E n t v within p

leads_through : (E : ℕ → ℕ → Type 0) (n t u : ℕ) → ((t u : ℕ) → E t u → t < n)
    → Leads E t u → Through E n t u
leads_through E n t u within (edge e) = direct e
leads_through E n t u within (on v p q) =
    via v (begins E n v u within q) (leads_through E n t v within p)
    (leads_through E n v u within q)

through_leads : (E : ℕ → ℕ → Type 0) (n t u : ℕ) → Through E n t u → Leads E t u
through_leads E n t u (direct e) = edge e
through_leads E n t u (via v h p q) = on v (through_leads E n t v p) (through_leads E n v u q)

pub through_all : (E : ℕ → ℕ → Type 0) (n : ℕ) (rows : List Mask)
    → ((t u : ℕ) → E t u → t < n) → AreThrough E n rows
    → (t u : ℕ) → IsIn rows t u ↔ Leads E t u
through_all E n rows within whole t u = (
  λ h. through_leads E n t u ((whole t u).0 h),
  λ p. (whole t u).1 (leads_through E n t u within p),
)

-- what leads by some edges leads by others that are there wherever those are
pub leads_along : (E F : ℕ → ℕ → Type 0) (t u : ℕ) → ((t u : ℕ) → E t u → F t u)
    → Leads E t u → Leads F t u
leads_along E F t u each (edge e) = edge (each t u e)
leads_along E F t u each (on v p q) =
    on v (leads_along E F t v each p) (leads_along E F v u each q)

-- what the sets of a closure say of circles
pub circles_along : (F : ℕ → ℕ → Type 0) (edges leads : List Mask)
    → ((t u : ℕ) → IsIn edges t u ↔ F t u) → ((t u : ℕ) → IsIn leads t u ↔ Leads (IsIn edges) t u)
    → (t u : ℕ) → (IsIn leads t u × IsIn leads u t) ↔ AreInCircle F t u
circles_along F edges leads same closed t u = (
  λ h. (
    leads_along (IsIn edges) F t u (λ t u. (same t u).0) ((closed t u).0 h.0),
    leads_along (IsIn edges) F u t (λ t u. (same t u).0) ((closed u t).0 h.1),
  ),
  λ h. (
    (closed t u).1 (leads_along F (IsIn edges) t u (λ t u. (same t u).1) h.0),
    (closed u t).1 (leads_along F (IsIn edges) u t (λ t u. (same t u).1) h.1),
  ),
)
