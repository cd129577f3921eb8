-- What is listed of some items or prefixes.
use Rattle.std.proofs.Common.{◌≡◌, Bool, true, false, not, ◌&&◌, List, [], ◌++◌, ℕ, refl}
use Rattle.guest_code.specs.Program.{Program}
use Rattle.walk_items.specs.Walks.{items_at, listed_if}

-- nothing is listed of nothing
pub listed_none : {X : Type 0} (lists : Bool) → listed_if {X = X} lists [] ≡ []
listed_none true = refl
listed_none false = refl

-- of some, and then others
pub listed_both : {X : Type 0} (lists : Bool) (xs ys : List X) →
    listed_if lists xs ++ listed_if lists ys ≡ listed_if lists (xs ++ ys)
listed_both true xs ys = refl
listed_both false xs ys = refl

-- or of a list of some, and then others
pub listed_more : {X : Type 0} (lists : Bool) (xs ys : List X) →
    listed_if lists (xs ++ listed_if lists ys) ≡ listed_if lists xs ++ listed_if lists ys
listed_more true xs ys = refl
listed_more false xs ys = refl

-- what one lists of what another listed, which lists no less
pub listed_twice : {X : Type 0} (lists of : Bool) → (lists && not of) ≡ false → (xs : List X) →
    listed_if lists (listed_if of xs) ≡ listed_if lists xs
listed_twice true true h xs = refl
listed_twice true false h xs = cc
listed_twice false of h xs = refl

-- of prefixes, as items of a program
pub listed_items : (p : Program) (lists : Bool) (ps : List (List ℕ)) →
    items_at p (listed_if lists ps) ≡ listed_if lists (items_at p ps)
listed_items p true ps = refl
listed_items p false ps = refl
