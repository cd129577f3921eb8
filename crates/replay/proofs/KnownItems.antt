-- A `for` over an iterator whose items are known.
use Rattle.std.proofs.Common.{◌≡◌, ◌<◌, List, Option, Some, None, length, map, take, get_or}
use Rattle.std.{specs.Iterator.Yields, proofs.lemmas.Iterator.YieldsList}
use Rattle.std.proofs.lemmas.Iterator.Consumers.{YieldsList-so_far, YieldsList-turn, YieldsList-end}

module _ {S A B : Type 0} {steps : S → Option A → S → Type 0} {v : A → B} {s : S} {all : List B}
  where
    -- a turn with an item
    pub turned : (xs : List A) (t : S) → Yields steps s xs t → (r : Option A) (u : S) (x : A) →
        r ≡ Some x → steps t r u → YieldsList steps v s all →
        (map v xs ≡ take (length xs) all) × (length xs < length all)
        × (v x ≡ get_or all (length xs) (v x))
    turned xs t y r u x is step road = let turn = YieldsList-turn road xs t y r u x is step in
        (YieldsList-so_far road xs t y, turn.0, turn.1)

    -- the end
    pub ended : (xs : List A) (t : S) → Yields steps s xs t → (r : Option A) (u : S) → r ≡ None →
        steps t r u → YieldsList steps v s all → map v xs ≡ all
    ended xs t y r u is step road = (YieldsList-end road xs t y r u is step).0
