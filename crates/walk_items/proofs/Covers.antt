-- How many items of a list a schedule lies under.
use Rattle.std.proofs.Common.{◌≡◌, ℕ, ◌+◌, ◌≤◌, Bool, true, false, List, [], ◌∷◌, ◌++◌, arith}
use Rattle.semantics.specs.Mask.{one_if}
use Rattle.walk_items.specs.Items.{ItemView, covers}

pub at_most_one : (b : Bool) → one_if b ≤ 1
at_most_one true = omega arith
at_most_one false = omega arith

pub covers-append : (v : List ℕ) (xs ys : List ItemView) → covers v (xs ++ ys) ≡ covers v xs +
    covers v ys
covers-append v [] ys = omega arith
covers-append v (x ∷ xs) ys = let e = covers-append v xs ys in omega (arith, e)
