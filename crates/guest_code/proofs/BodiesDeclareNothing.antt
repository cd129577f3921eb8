-- The uses of a thread's body declare nothing.
use Rattle.std.proofs.Common.{◌≡◌, ℕ, List, [], ◌∷◌, ◌++◌, Bool, true, false, refl}
use Rattle.guest_syntax.specs.{Tree.{Operand, Expr, Stmt, Block}, declared.place.Pos.Pos}
use Rattle.guest_syntax.specs.Tree as tree
use Rattle.guest_code.specs.Uses.{Use, declares, object, local, outside, operand_uses, expr_uses, stmt_uses, block_uses, kind_in, how_many}
use Rattle.guest_code.specs.declared.kinds.NameKind.{NameKind}

abbrev pub DeclaresNothing : List Use → Type 0
DeclaresNothing [] = Unit {0}
DeclaresNothing (declares k n ∷ us) = ⊥
DeclaresNothing (object k n ∷ us) = DeclaresNothing us
DeclaresNothing (local n ∷ us) = DeclaresNothing us
DeclaresNothing (outside at ∷ us) = DeclaresNothing us

pub DeclaresNothing-append : (us vs : List Use) → DeclaresNothing us → DeclaresNothing vs
    → DeclaresNothing (us ++ vs)
DeclaresNothing-append [] vs p q = q
DeclaresNothing-append (declares k n ∷ us) vs p q = absurd p
DeclaresNothing-append (object k n ∷ us) vs p q = DeclaresNothing-append us vs p q
DeclaresNothing-append (local n ∷ us) vs p q = DeclaresNothing-append us vs p q
DeclaresNothing-append (outside at ∷ us) vs p q = DeclaresNothing-append us vs p q

operand_declares_nothing : (a : Operand) → DeclaresNothing (operand_uses a)
operand_declares_nothing (tree.local n) = tt
operand_declares_nothing (tree.literal z) = tt

expr_declares_nothing : (e : Expr) → DeclaresNothing (expr_uses e)
expr_declares_nothing (tree.single a) = operand_declares_nothing a
expr_declares_nothing (tree.both a op b) = DeclaresNothing-append (operand_uses a)
    (operand_uses b) (operand_declares_nothing a) (operand_declares_nothing b)

mutual
  pub stmt_declares_nothing : (inside : Bool) (at : Pos) (s : Stmt)
      → DeclaresNothing (stmt_uses inside at s)
  stmt_declares_nothing inside at (tree.store x a) = operand_declares_nothing a
  stmt_declares_nothing inside at (tree.add r x a) = operand_declares_nothing a
  stmt_declares_nothing inside at (tree.cas r x a b) = DeclaresNothing-append (operand_uses a)
      (operand_uses b) (operand_declares_nothing a) (operand_declares_nothing b)
  stmt_declares_nothing inside at (tree.set r e) = expr_declares_nothing e
  stmt_declares_nothing inside at (tree.assert e) = expr_declares_nothing e
  stmt_declares_nothing inside at (tree.if_then e b) = DeclaresNothing-append (expr_uses e)
      (block_uses inside b) (expr_declares_nothing e) (block_declares_nothing inside b)
  stmt_declares_nothing inside at (tree.if_else e b c) = DeclaresNothing-append (expr_uses e)
      (block_uses inside b ++ block_uses inside c) (expr_declares_nothing e)
      (DeclaresNothing-append (block_uses inside b) (block_uses inside c)
      (block_declares_nothing inside b) (block_declares_nothing inside c))
  stmt_declares_nothing inside at (tree.repeat n b) = block_declares_nothing true b
  stmt_declares_nothing true at tree.leave = tt
  stmt_declares_nothing false at tree.leave = tt
  stmt_declares_nothing inside at _ = tt

  pub block_declares_nothing : (inside : Bool) (b : Block) → DeclaresNothing (block_uses inside b)
  block_declares_nothing inside tree.nothing = tt
  block_declares_nothing inside (tree.next at s b) = DeclaresNothing-append (stmt_uses inside at s)
      (block_uses inside b) (stmt_declares_nothing inside at s) (block_declares_nothing inside b)

pub kind_skips : (us vs : List Use) (name : List ℕ) → DeclaresNothing us
    → kind_in (us ++ vs) name ≡ kind_in vs name
kind_skips [] vs name p = refl
kind_skips (declares k n ∷ us) vs name p = absurd p
kind_skips (object k n ∷ us) vs name p = kind_skips us vs name p
kind_skips (local n ∷ us) vs name p = kind_skips us vs name p
kind_skips (outside at ∷ us) vs name p = kind_skips us vs name p

pub many_skips : (us vs : List Use) (k : NameKind) → DeclaresNothing us
    → how_many k (us ++ vs) ≡ how_many k vs
many_skips [] vs k p = refl
many_skips (declares j n ∷ us) vs k p = absurd p
many_skips (object j n ∷ us) vs k p = many_skips us vs k p
many_skips (local n ∷ us) vs k p = many_skips us vs k p
many_skips (outside at ∷ us) vs k p = many_skips us vs k p
