-- What each operator makes of chosen pairs of values, written out by hand.
use Rattle.std.specs.Prelude.{◌≡◌, ◌≢◌, ℕ, ℤ, pos, neg_ℤ, List, [], ◌∷◌}
use Rattle.guest_syntax.specs.declared.tree.Op.{Op}
use Rattle.guest_syntax.specs.declared.tree.Op.TheVariants as ops
use Rattle.semantics.specs.Machine.{of_both}

-- an operator between two values, and what it makes of them
pub record Row : Type 0 where
  pub left : ℤ
  pub op : Op
  pub right : ℤ
  pub value : ℤ

abbrev pub row : ℤ → Op → ℤ → ℤ → Row
row left op right value = record { left = left; op = op; right = right; value = value }

-- a number below 0
abbrev pub minus : ℕ → ℤ
minus n = neg_ℤ (pos n)

-- the greatest value, 2 ^ 63 - 1, and the lowest, - 2 ^ 63
abbrev pub highest : ℤ
highest = pos 9223372036854775807

abbrev pub lowest : ℤ
lowest = minus 9223372036854775808

-- sums, differences and products wrap round at 64 bits
abbrev pub sums : List Row
sums =
    row (pos 2) ops.Add (pos 3) (pos 5)
    ∷ row (pos 3) ops.Add (minus 5) (minus 2)
    ∷ row highest ops.Add (pos 1) lowest
    ∷ row lowest ops.Add (minus 1) highest
    ∷ []

abbrev pub differences : List Row
differences =
    row (pos 5) ops.Subtract (pos 3) (pos 2)
    ∷ row (pos 3) ops.Subtract (pos 5) (minus 2)
    ∷ row lowest ops.Subtract (pos 1) highest
    ∷ row highest ops.Subtract (minus 1) lowest
    ∷ row (pos 0) ops.Subtract lowest lowest
    ∷ []

abbrev pub products : List Row
products =
    row (pos 2) ops.Multiply (pos 3) (pos 6)
    ∷ row (minus 2) ops.Multiply (pos 3) (minus 6)
    ∷ row (pos 4294967296) ops.Multiply (pos 4294967296) (pos 0)
    ∷ row (pos 4294967296) ops.Multiply (pos 2147483648) lowest
    ∷ row (pos 3037000500) ops.Multiply (pos 3037000500) (minus 9223372036709301616)
    ∷ row highest ops.Multiply highest (pos 1)
    ∷ row lowest ops.Multiply (minus 1) lowest
    ∷ []

-- a comparison is of signed numbers, and is 1 where it holds, else 0
abbrev pub equalities : List Row
equalities =
    row (pos 2) ops.Equal (pos 2) (pos 1)
    ∷ row (pos 2) ops.Equal (pos 3) (pos 0)
    ∷ row (minus 1) ops.Equal highest (pos 0)
    ∷ row (pos 2) ops.NotEqual (pos 2) (pos 0)
    ∷ row (pos 2) ops.NotEqual (pos 3) (pos 1)
    ∷ []

abbrev pub orders : List Row
orders =
    row (pos 2) ops.Less (pos 3) (pos 1)
    ∷ row (pos 3) ops.Less (pos 2) (pos 0)
    ∷ row (pos 2) ops.Less (pos 2) (pos 0)
    ∷ row (minus 1) ops.Less (pos 1) (pos 1)
    ∷ row highest ops.Less lowest (pos 0)
    ∷ row (pos 2) ops.LessOrEqual (pos 3) (pos 1)
    ∷ row (pos 3) ops.LessOrEqual (pos 2) (pos 0)
    ∷ row (pos 2) ops.LessOrEqual (pos 2) (pos 1)
    ∷ row (minus 1) ops.LessOrEqual (pos 1) (pos 1)
    ∷ row (pos 2) ops.Greater (pos 3) (pos 0)
    ∷ row (pos 3) ops.Greater (pos 2) (pos 1)
    ∷ row (pos 2) ops.Greater (pos 2) (pos 0)
    ∷ row (minus 1) ops.Greater (pos 1) (pos 0)
    ∷ row (pos 2) ops.GreaterOrEqual (pos 3) (pos 0)
    ∷ row (pos 3) ops.GreaterOrEqual (pos 2) (pos 1)
    ∷ row (pos 2) ops.GreaterOrEqual (pos 2) (pos 1)
    ∷ row (minus 1) ops.GreaterOrEqual (pos 1) (pos 0)
    ∷ []

-- the operator makes of the two values what the row says
abbrev pub IsRight : Row → Type 0
IsRight r = of_both r.op r.left r.right ≡ r.value

-- some pair of values tells the two operators apart
abbrev pub Differ : Op → Op → Type 0
Differ o q = (a : ℤ) × (b : ℤ) × (of_both o a b ≢ of_both q a b)
