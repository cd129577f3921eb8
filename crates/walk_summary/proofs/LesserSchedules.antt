-- The lesser of two schedules: associative and commutative, and so the least of two lists.
use Rattle.std.proofs.Common.{◌≡◌, inl, inr, ℕ, Bool, true, false, cond, List, [], ◌∷◌, ◌++◌, Option, Some, None, refl, ap, ◌∙◌, sym}
use Rattle.semantics_schedules.specs.Order.{precedes, lesser, least}
use Rattle.semantics_schedules.proofs.LeastSchedule.{before_later, either_first, never_before_itself}

-- of two schedules, at most one comes before the other
not_both : (v w : List ℕ) → precedes v w ≡ true → precedes w v ≡ false
not_both v w h = go (precedes w v) refl
  where
    go : (b : Bool) → precedes w v ≡ b → precedes w v ≡ false
    go true k = (let a : precedes v v ≡ true = before_later v w v h k in
        let b = never_before_itself v in cc)
    go false k = k

-- v isn't before u, w isn't before v, so w isn't before u
not_before_later : (u v w : List ℕ) →
    precedes v u ≡ false → precedes w v ≡ false → precedes w u ≡ false
not_before_later u v w h k = elim (either_first v w) [
  | inl same ↦ ap (λ z. precedes z u) (sym same) ∙ h
  | inr (inl first) ↦ go (precedes w u) refl first
  | inr (inr second) ↦ cc
]
  where
    go : (b : Bool) → precedes w u ≡ b → precedes v w ≡ true → precedes w u ≡ false
    go true e first = (let a : precedes v u ≡ true = before_later v w u first e in cc)
    go false e first = e

three : (u v w : List ℕ) (vu wv : Bool) → precedes v u ≡ vu → precedes w v ≡ wv →
    lesser (cond vu (Some v) (Some u)) (Some w) ≡ lesser (Some u) (cond wv (Some w) (Some v))
three u v w true true e f = rw (f, before_later w v u f e) refl
three u v w true false e f = rw (e, f) refl
three u v w false true e f = refl
three u v w false false e f = rw (e, not_before_later u v w e f) refl

pub lesser_none : (o : Option (List ℕ)) → lesser o None ≡ o
lesser_none None = refl
lesser_none (Some v) = refl

pub lesser_assoc : (a b c : Option (List ℕ)) → lesser (lesser a b) c ≡ lesser a (lesser b c)
lesser_assoc None b c = refl
lesser_assoc (Some u) None c = refl
lesser_assoc (Some u) (Some v) None = lesser_none (lesser (Some u) (Some v))
lesser_assoc (Some u) (Some v) (Some w) = three u v w (precedes v u) (precedes w v) refl refl

pub lesser_comm : (a b : Option (List ℕ)) → lesser a b ≡ lesser b a
lesser_comm None None = refl
lesser_comm None (Some w) = refl
lesser_comm (Some v) None = refl
lesser_comm (Some v) (Some w) = elim (either_first v w) [
  | inl same ↦ ap (λ z. lesser (Some v) (Some z)) (sym same)
      ∙ ap (λ z. lesser (Some z) (Some v)) same
  | inr (inl first) ↦ rw (first, not_both v w first) refl
  | inr (inr second) ↦ rw (second, not_both w v second) refl
]

pub least-append : (K L : List (List ℕ)) → least (K ++ L) ≡ lesser (least K) (least L)
least-append [] L = refl
least-append (w ∷ K) L =
    ap (lesser (Some w)) (least-append K L) ∙ sym (lesser_assoc (Some w) (least K) (least L))
