-- The order of schedules is a strict total one, and the least of a rising list is its first.
pub use Rattle.semantics_schedules.proofs.ReducedSchedules.{never_before_itself}
use Rattle.std.proofs.Common.{◌≡◌, ℕ, zero, suc, ◌<◌, ◌⊎◌, inl, inr, Bool, true, false, cond, ◌&&◌, ◌||◌, nat_eq, nat_lt, List, [], ◌∷◌, Option, Some, None, slice_get, length, get_or, refl, arith, subst}
use Rattle.std.specs.{Cmp.Lexicographic.slice_cmp, List.{filter, Contains}}
use Rattle.std.specs.{Ordering.{ordering_then, is_lt, nat_cmp}, declared.cmp.Ordering.Ordering}
use Rattle.std.specs.declared.cmp.Ordering.TheVariants.{Less, Equal, Greater}
use Rattle.guest_code.specs.Program.{Program}
use Rattle.semantics.specs.{Machine.Snapshot, Waiters.In}
use Rattle.semantics.proofs.ListMembers.{in_contains, contains_in, from_filter}
use Rattle.semantics_schedules.specs.{Order.{precedes, lesser, least, ends_badly}, Rising.IsRising}
use Rattle.semantics_schedules.specs.Schedules.{complete_schedules}
use Rattle.semantics_schedules.proofs.CompleteSchedulesRise.{Rises, all_rise}
use Rattle.semantics_schedules.proofs.ReducedSchedules.{before_precedes, precedes_before, before_trans, not_before, Ordered, ordered, IsLeast, least_is}
use Rattle.semantics_schedules.proofs.ReducedSchedules.IsLeast.{none, some}
use Rattle.semantics_schedules.proofs.ReducedSchedules.Ordered.{first, equal, second}
use Rattle.semantics_schedules.proofs.SleepSets.{Before}

-- the order

pub before_later : (u v w : List ℕ) → precedes u v ≡ true → precedes v w ≡ true
    → precedes u w ≡ true
before_later u v w h k = before_precedes
    (before_trans (precedes_before u v h) (precedes_before v w k))

pub either_first : (v w : List ℕ) → (v ≡ w) ⊎ ((precedes v w ≡ true) ⊎ (precedes w v ≡ true))
either_first v w = go (ordered v w)
  where
    go : Ordered v w → (v ≡ w) ⊎ ((precedes v w ≡ true) ⊎ (precedes w v ≡ true))
    go (first b) = inr (inl (before_precedes b))
    go (equal e) = inl e
    go (second b) = inr (inr (before_precedes b))

-- the least of a list

pub least_none : (L : List (List ℕ)) → least L ≡ None → L ≡ []
least_none L h = go (least L) h (least_is L)
  where
    go : (o : Option (List ℕ)) → o ≡ None → IsLeast L o → L ≡ []
    go None e (none i) = i
    go (Some m) e l = cc

pub least_some : (L : List (List ℕ)) (m : List ℕ) → least L ≡ Some m → Contains L m
    × ((w : List ℕ) → Contains L w → precedes w m ≡ false)
least_some L m h = go (subst (IsLeast L) h (least_is L))
  where
    go : IsLeast L (Some m) → Contains L m × ((w : List ℕ) → Contains L w → precedes w m ≡ false)
    go (some i low) = (
      in_contains L m i,
      λ w c. not_before_it w (contains_in L w c) (precedes w m)
          refl,
    )
      where
        not_before_it : (w : List ℕ) → In L w → (b : Bool) → precedes w m ≡ b → precedes w m ≡ false
        not_before_it w j true e = absurd (low w j (precedes_before w m e))
        not_before_it w j false e = e

-- the least of a rising list

rises : (L : List (List ℕ)) → IsRising L → Rises L
rises [] r = tt
rises (w ∷ L) r = (after_same, rises L (λ i j h k. r (suc i) (suc j) (omega arith) (omega arith)))
  where
    after_same : (v : List ℕ) → In L v → Before w v
    after_same v i =
        let c : Contains L v = in_contains L v i in
        let same : get_or L c.0 [] ≡ v = anywhere L c.0 v c.1 c.2 in
        subst (Before w) same (precedes_before w (get_or L c.0 [])
        (r 0 (suc c.0) (omega arith) (let h : c.0 < length L = c.1 in omega arith)))
      where
        anywhere : (L : List (List ℕ)) (k : ℕ) (v : List ℕ) → k < length L → get_or L k v ≡ v
            → get_or L k [] ≡ v
        anywhere [] k v h e = absurd (omega arith)
        anywhere (x ∷ L) zero v h e = e
        anywhere (x ∷ L) (suc k) v h e = anywhere L k v (omega arith) e

rises-filter : (test : List ℕ → Bool) (L : List (List ℕ)) → Rises L → Rises (filter test L)
rises-filter test [] r = tt
rises-filter test (w ∷ L) r = elim (test w) as
    (λ b. Rises (cond b (w ∷ filter test L) (filter test L))) [
      | true ↦ (λ v i. r.0 v (from_filter test L v i).0, rises-filter test L r.1)
      | false ↦ rises-filter test L r.1
    ]

least_first : (L : List (List ℕ)) → Rises L → least L ≡ slice_get L 0
least_first [] r = refl
least_first (w ∷ L) r = go (least L) (least_is L)
  where
    go : (o : Option (List ℕ)) → IsLeast L o → lesser (Some w) o ≡ Some w
    go None l = refl
    go (Some m) (some i low) = pick (precedes m w) refl
      where
        pick : (b : Bool) → precedes m w ≡ b → cond b (Some m) (Some w) ≡ Some w
        pick true h = absurd (not_before (before_trans (r.0 m i) (precedes_before m w h)) refl)
        pick false h = refl

pub least_of_rising : (L : List (List ℕ)) (test : List ℕ → Bool) → IsRising L
    → least (filter test L) ≡ slice_get (filter test L) 0
least_of_rising L test r = least_first (filter test L) (rises-filter test L (rises L r))

pub least_bad_first : (p : Program) (s : Snapshot)
    → least (filter (ends_badly p s) (complete_schedules p s))
    ≡ slice_get (filter (ends_badly p s) (complete_schedules p s)) 0
least_bad_first p s = least_of_rising (complete_schedules p s) (ends_badly p s) (all_rise p s)

-- the order as std has it on slices
pub slices_order : (v w : List ℕ) → precedes v w ≡ is_lt (slice_cmp nat_cmp v w)
slices_order [] [] = refl
slices_order [] (u ∷ w) = refl
slices_order (t ∷ v) [] = refl
slices_order (t ∷ v) (u ∷ w) = go (nat_lt t u) (nat_eq t u) (precedes v w) (slice_cmp nat_cmp v w)
    (slices_order v w)
  where
    go : (a b c : Bool) (o : Ordering) → c ≡ is_lt o
        → (a || (b && c)) ≡ is_lt (ordering_then (cond a Less (cond b Equal Greater)) o)
    go true b c o e = refl
    go false true c o e = e
    go false false c o e = refl
