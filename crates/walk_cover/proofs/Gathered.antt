-- A list whose members each begin with the prefix of exactly one item: gathered by items it is the
-- same, but for the order.
use Rattle.std.proofs.Common.{◌≡◌, ℕ, ◌+◌, Bool, true, false, ◌||◌, cond, List, [], ◌∷◌, ◌++◌, refl, ap, ◌∙◌, sym, subst, arith, append_assoc, inl, inr, IsPermutation}
use Rattle.std.{specs.List.{filter, flat_map, list_any}, proofs.lemmas.List.Folds.list_any-append}
use Rattle.std.proofs.lemmas.List.Sorted.{IsPermutation-refl, IsPermutation-trans, IsPermutation-sym, IsPermutation-cons, IsPermutation-append_comm, IsPermutation-append_left, IsPermutation-append_right}
use Rattle.semantics.specs.{Mask.one_if, Waiters.In}
use Rattle.semantics_schedules.specs.Schedules.{begins_with}
use Rattle.walk_items.specs.Items.{ItemView, covers}

-- of a list, what begins with an item's prefix
abbrev pub under_item : List (List ℕ) → ItemView → List (List ℕ)
under_item L r = filter (begins_with r.prefix) L

-- a schedule, as often as items have its beginning
abbrev repeated : List ℕ → List ItemView → List (List ℕ)
repeated w [] = []
repeated w (r ∷ rs) = cond (begins_with r.prefix w) (w ∷ repeated w rs) (repeated w rs)

never : (w : List ℕ) (items : List ItemView) → covers w items ≡ 0 → repeated w items ≡ []
never w [] h = refl
never w (r ∷ rs) h = go (begins_with r.prefix w) h (never w rs)
  where
    go : (b : Bool) → one_if b + covers w rs ≡ 0 →
        (covers w rs ≡ 0 → repeated w rs ≡ []) →
        cond b (w ∷ repeated w rs) (repeated w rs) ≡ []
    go true e rest = absurd (omega (arith, e))
    go false e rest = rest (omega (arith, e))

once : (w : List ℕ) (items : List ItemView) → covers w items ≡ 1 → repeated w items ≡ w ∷ []
once w [] h = absurd (omega (arith, h))
once w (r ∷ rs) h = go (begins_with r.prefix w) h (once w rs)
  where
    go : (b : Bool) → one_if b + covers w rs ≡ 1 →
        (covers w rs ≡ 1 → repeated w rs ≡ w ∷ []) →
        cond b (w ∷ repeated w rs) (repeated w rs) ≡ w ∷ []
    go true e rest = ap (λ L. w ∷ L) (never w rs (omega (arith, e)))
    go false e rest = rest (omega (arith, e))

-- the second of three parts goes first
second_first : {A : Type 0} (xs ys zs : List A) → IsPermutation (xs ++ (ys ++ zs))
    (ys ++ (xs ++ zs))
second_first xs ys zs =
    subst (λ L. IsPermutation L (ys ++ (xs ++ zs))) (append_assoc xs ys zs)
    (subst (IsPermutation ((xs ++ ys) ++ zs)) (append_assoc ys xs zs)
    (IsPermutation-append_left zs _ _ (IsPermutation-append_comm xs ys)))

taken : (w : List ℕ) (L : List (List ℕ)) (items : List ItemView) →
    IsPermutation (flat_map (under_item (w ∷ L)) items)
    (repeated w items ++ flat_map (under_item L) items)
taken w L [] = IsPermutation-refl []
taken w L (r ∷ rs) = go (begins_with r.prefix w) (taken w L rs)
  where
    F : List (List ℕ)
    F = under_item L r

    moved : IsPermutation (flat_map (under_item (w ∷ L)) rs)
        (repeated w rs ++ flat_map (under_item L) rs) →
        IsPermutation (F ++ flat_map (under_item (w ∷ L)) rs)
        (repeated w rs ++ (F ++ flat_map (under_item L) rs))
    moved h =
        IsPermutation-trans _ _ _ (IsPermutation-append_right F _ _ h)
        (second_first F (repeated w rs) (flat_map (under_item L) rs))

    go : (b : Bool) → IsPermutation (flat_map (under_item (w ∷ L)) rs)
        (repeated w rs ++ flat_map (under_item L) rs) →
        IsPermutation (cond b (w ∷ F) F ++ flat_map (under_item (w ∷ L)) rs)
        (cond b (w ∷ repeated w rs) (repeated w rs) ++ (F ++ flat_map (under_item L) rs))
    go true h = IsPermutation-cons w _ _ (moved h)
    go false h = moved h

none_under : (items : List ItemView) → flat_map (under_item []) items ≡ []
none_under [] = refl
none_under (r ∷ rs) = none_under rs

pub gathered : (L : List (List ℕ)) (items : List ItemView) →
    ((w : List ℕ) → In L w → covers w items ≡ 1) →
    IsPermutation L (flat_map (under_item L) items)
gathered [] items h = subst (IsPermutation []) (sym (none_under items)) (IsPermutation-refl [])
gathered (w ∷ L) items h =
    IsPermutation-trans _ _ _
    (IsPermutation-cons w _ _ (gathered L items (λ v m. h v (inr m))))
    (subst (λ K. IsPermutation (K ++ flat_map (under_item L) items)
    (flat_map (under_item (w ∷ L)) items)) (once w items (h w (inl refl)))
    (IsPermutation-sym _ _ (taken w L items)))

pub any_gathered : (test : List ℕ → Bool) (f : ItemView → List (List ℕ)) (items : List ItemView) →
    list_any test (flat_map f items) ≡ list_any (λ r. list_any test (f r)) items
any_gathered test f [] = refl
any_gathered test f (r ∷ rs) =
    list_any-append test (f r) (flat_map f rs)
    ∙ ap (λ b. list_any test (f r) || b) (any_gathered test f rs)
