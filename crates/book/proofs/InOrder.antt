-- Items that stand in a list one after another: the first is left out with all before it.
use Rattle.std.proofs.Common.{◌≡◌, ℕ, zero, suc, ◌<◌, List, [], ◌∷◌, length, get_or, drop, Some, slice_get, arith, inl, inr, sym, ◌∙◌}
use Rattle.walk_items.specs.Items.{ItemView}
use Rattle.book.specs.Books.{StandInOrder}

-- those but the first stand there as well
later_stand : (xs items : List ItemView) (k : ℕ) (ks : List ℕ) → StandInOrder xs items (k ∷ ks) →
    StandInOrder xs items ks
later_stand [] items k ks h = absurd h
later_stand (x ∷ xs) items k [] h = tt
later_stand (x ∷ xs) items k (j ∷ ks) (inl h) = inr h.1
later_stand (x ∷ xs) items k (j ∷ ks) (inr h) = inr (later_stand xs items k (j ∷ ks) h)

-- where the first is in never place, they don't
pub none_stand : (xs items : List ItemView) (k : ℕ) (ks : List ℕ) (i : ItemView) →
    slice_get items k ≡ Some i →
    ((j : ℕ) (d : ItemView) → j < length xs → get_or xs j d ≡ i → ⊥) →
    StandInOrder xs items (k ∷ ks) → ⊥
none_stand [] items k ks i e never h = h
none_stand (x ∷ xs) items k ks i e never (inl h) =
    let same : Some x ≡ Some i = sym h.0 ∙ e in
    never 0 x (omega arith) (let f : x ≡ i = cc in f)
none_stand (x ∷ xs) items k ks i e never (inr h) =
    none_stand xs items k ks i e (λ j d l. never (suc j) d (omega (arith, l))) h

-- where the first is at a place and at none before it, the others stand after that place
pub next_stand : (xs items : List ItemView) (k : ℕ) (ks : List ℕ) (i : ItemView) (place : ℕ) →
    slice_get items k ≡ Some i →
    ((j : ℕ) (d : ItemView) → j < place → get_or xs j d ≡ i → ⊥) →
    StandInOrder xs items (k ∷ ks) → StandInOrder (drop (suc place) xs) items ks
next_stand [] items k ks i place e never h = absurd h
next_stand (x ∷ xs) items k ks i zero e never (inl h) = h.1
next_stand (x ∷ xs) items k ks i zero e never (inr h) = later_stand xs items k ks h
next_stand (x ∷ xs) items k ks i (suc place) e never (inl h) =
    let same : Some x ≡ Some i = sym h.0 ∙ e in
    absurd (never 0 x (omega arith) (let f : x ≡ i = cc in f))
next_stand (x ∷ xs) items k ks i (suc place) e never (inr h) =
    next_stand xs items k ks i place e (λ j d l. never (suc j) d (omega (arith, l))) h
