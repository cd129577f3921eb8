-- What operators make of chosen values.
use Rattle.std.proofs.Common.{◌≡◌, ◌≢◌, ◌⊎◌, inl, inr, zero, suc, ℤ, pos, Bool, true, false, not, List, [], ◌∷◌, refl, ap, arith}
use Rattle.std.specs.{Int.int_wrap, List.{list_any, list_all, All, Any}, Ordering.int_eq}
use Rattle.std.proofs.lemmas.Bool.{and_parts, Decides.Decides-int_eq}
use Rattle.std.proofs.lemmas.List.Folds.{Any-from_list_any}
use Rattle.guest_syntax.specs.declared.tree.Op.{Op}
use Rattle.guest_syntax.specs.declared.tree.Op.TheVariants as ops
use Rattle.semantics.specs.Machine.{of_both}
use Rattle.semantics.specs.OperatorTable.{Row, IsRight, Differ, sums, differences, products, equalities, orders}

-- a test that all members pass
all_pass : {A : Type 0} (test : A → Bool) (xs : List A)
    → list_all test xs ≡ true → All (λ x. test x ≡ true) xs
all_pass test [] h k d l = absurd (omega arith)
all_pass test (x ∷ xs) h zero d l = (and_parts (test x) (list_all test xs) h).0
all_pass test (x ∷ xs) h (suc k) d l =
    all_pass test xs (and_parts (test x) (list_all test xs) h).1 k d (omega arith)

same_int : (a b : ℤ) → int_eq a b ≡ true → a ≡ b
same_int a b h = (Decides-int_eq a b).0 h

-- the rows of a table, by computing each
is_right : Row → Bool
is_right r = int_eq (of_both r.op r.left r.right) r.value

right_rows : (rows : List Row) → list_all is_right rows ≡ true → All IsRight rows
unfolding is_right
right_rows rows h k d l = same_int _ _ (all_pass is_right rows h k d l)

pub right_sums : All IsRight sums
unfolding int_wrap is_right
right_sums = right_rows sums refl

pub right_differences : All IsRight differences
unfolding int_wrap is_right
right_differences = right_rows differences refl

pub right_products : All IsRight products
unfolding int_wrap is_right
right_products = right_rows products refl

pub right_equalities : All IsRight equalities
unfolding is_right
right_equalities = right_rows equalities refl

pub right_orders : All IsRight orders
unfolding is_right
right_orders = right_rows orders refl

-- three pairs of values that tell each operator from each other one
abbrev probes : List (ℤ × ℤ)
probes = (pos 2, pos 3) ∷ (pos 3, pos 2) ∷ (pos 2, pos 2) ∷ []

abbrev differ_at : Op → Op → ℤ × ℤ → Bool
differ_at o q probe = not (int_eq (of_both o probe.0 probe.1) (of_both q probe.0 probe.1))

same_or_differ : (o q : Op) → (o ≡ q) ⊎ (list_any (differ_at o q) probes ≡ true)
unfolding int_wrap
same_or_differ ops.Add ops.Add = inl refl
same_or_differ ops.Subtract ops.Subtract = inl refl
same_or_differ ops.Multiply ops.Multiply = inl refl
same_or_differ ops.Equal ops.Equal = inl refl
same_or_differ ops.NotEqual ops.NotEqual = inl refl
same_or_differ ops.Less ops.Less = inl refl
same_or_differ ops.LessOrEqual ops.LessOrEqual = inl refl
same_or_differ ops.Greater ops.Greater = inl refl
same_or_differ ops.GreaterOrEqual ops.GreaterOrEqual = inl refl
same_or_differ o q = inr refl

pub operators_differ : (o q : Op) → o ≢ q → Differ o q
operators_differ o q ne = go (same_or_differ o q)
  where
    apart_at : (x y : ℤ) → not (int_eq x y) ≡ true → x ≢ y
    apart_at x y h e =
        let k : int_eq x y ≡ true = (Decides-int_eq x y).1 e in
        let n : not (int_eq x y) ≡ false = ap not k in
        cc

    go : (o ≡ q) ⊎ (list_any (differ_at o q) probes ≡ true) → Differ o q
    go (inl e) = absurd (ne e)
    go (inr h) =
        let a : Any (λ (probe : ℤ × ℤ). differ_at o q probe ≡ true) probes =
        Any-from_list_any (differ_at o q) probes h in
        (a.1.0, a.1.1, apart_at (of_both o a.1.0 a.1.1) (of_both q a.1.0 a.1.1) a.4)
