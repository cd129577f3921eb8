-- What comes after a schedule.
use Rattle.std.proofs.Common.{◌≡◌, ℕ, Bool, true, false, cond, ◌&&◌, ◌||◌, nat_eq, nat_lt, List, [], ◌∷◌, Option, Some, None, refl, ◌∙◌, sym, subst, arith}
use Rattle.std.proofs.lemmas.Bool.Decides.{nat_tests}
use Rattle.semantics_schedules.specs.{Order.{precedes, lesser}, Schedules.begins_with}
use Rattle.semantics_schedules.proofs.LeastSchedule.{before_later, never_before_itself}
use Rattle.walk_prefixes.specs.PrefixLists.{is_later}

pub later_precedes : (w p : List ℕ) → is_later w p ≡ true → precedes w p ≡ true
later_precedes [] p h = cc
later_precedes (u ∷ w) [] h = cc
later_precedes (u ∷ w) (t ∷ p) h =
    go (nat_lt u t) (nat_eq u t) h (λ k. later_precedes w p k)
  where
    go : (a b : Bool) → (a || (b && is_later w p)) ≡ true →
        (is_later w p ≡ true → precedes w p ≡ true) → (a || (b && precedes w p)) ≡ true
    go true b h f = refl
    go false true h f = f h
    go false false h f = h

-- what begins with a prefix after the schedule is after it
pub begins_later : (w p v : List ℕ) → precedes w p ≡ true → begins_with p v ≡ true →
    precedes w v ≡ true
begins_later w [] v h k = (let e : false ≡ true = h in cc)
begins_later [] (t ∷ p) [] h k = cc
begins_later [] (t ∷ p) (u ∷ v) h k = refl
begins_later (a ∷ w) (t ∷ p) [] h k = cc
begins_later (a ∷ w) (t ∷ p) (u ∷ v) h k = go (nat_eq t u) refl k h (λ x y. begins_later w p v x y)
  where
    same : (t u : ℕ) → nat_eq t u ≡ true → t ≡ u
    same t u e = grind (arith, nat_tests, e)

    then : (x y : Bool) → (x || (y && precedes w p)) ≡ true → begins_with p v ≡ true →
        (precedes w p ≡ true → begins_with p v ≡ true → precedes w v ≡ true) →
        (x || (y && precedes w v)) ≡ true
    then true y h k f = refl
    then false true h k f = f h k
    then false false h k f = h

    go : (b : Bool) → nat_eq t u ≡ b → (b && begins_with p v) ≡ true →
        precedes (a ∷ w) (t ∷ p) ≡ true →
        (precedes w p ≡ true → begins_with p v ≡ true → precedes w v ≡ true) →
        precedes (a ∷ w) (u ∷ v) ≡ true
    go true e k h f = subst (λ (z : ℕ). precedes (a ∷ w) (z ∷ v) ≡ true) (same t u e)
        (then (nat_lt a t) (nat_eq a t) h k f)
    go false e k h f = (let c : false ≡ true = k in cc)

-- it is after the schedule, where it is there
abbrev pub IsAfter : List ℕ → Option (List ℕ) → Type 0
IsAfter w None = Unit {0}
IsAfter w (Some v) = precedes w v ≡ true

pub lesser_first : (w : List ℕ) (o : Option (List ℕ)) → IsAfter w o → lesser (Some w) o ≡ Some w
lesser_first w None h = refl
lesser_first w (Some v) h = go (precedes v w) refl
  where
    go : (b : Bool) → precedes v w ≡ b → cond b (Some v) (Some w) ≡ Some w
    go true e = absurd (
        let a : precedes w w ≡ true = before_later w v w h e in
        let n : precedes w w ≡ false = never_before_itself w in
        let c : true ≡ false = sym a ∙ n in
        cc)
    go false e = refl

pub lesser_after : (w : List ℕ) (a b : Option (List ℕ)) → IsAfter w a → IsAfter w b →
    IsAfter w (lesser a b)
lesser_after w None b h k = k
lesser_after w (Some u) None h k = h
lesser_after w (Some u) (Some v) h k =
    elim (precedes v u) as (λ c. IsAfter w (cond c (Some v) (Some u))) [ true ↦ k | false ↦ h ]

-- the lesser of a schedule and another: what is after the one is after it
pub lesser_some : (w : List ℕ) (o : Option (List ℕ)) →
    (v : List ℕ) × (lesser (Some w) o ≡ Some v) ×
    ((p : List ℕ) → precedes w p ≡ true → precedes v p ≡ true)
lesser_some w None = (w, refl, λ p h. h)
lesser_some w (Some u) = go (precedes u w) refl
  where
    go : (b : Bool) → precedes u w ≡ b →
        (v : List ℕ) × (cond b (Some u) (Some w) ≡ Some v) ×
        ((p : List ℕ) → precedes w p ≡ true → precedes v p ≡ true)
    go true e = (u, refl, λ p h. before_later u w p e h)
    go false e = (w, refl, λ p h. h)

pub after_more : (w v : List ℕ) (o : Option (List ℕ)) →
    ((p : List ℕ) → precedes w p ≡ true → precedes v p ≡ true) → IsAfter w o → IsAfter v o
after_more w v None f h = h
after_more w v (Some u) f h = f u h
