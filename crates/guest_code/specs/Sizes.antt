-- How many instructions a block comes to, with every copy of a `repeat` written out.
use Rattle.std.specs.Prelude.{ℕ, ◌+◌, ◌*◌}
use Rattle.guest_syntax.specs.Tree as tree
use Rattle.guest_syntax.specs.Tree.{Stmt, Block}

-- how many instructions a statement and a block come to
abbrev mutual
  pub size : Stmt → ℕ
  size (tree.load r x) = 1
  size (tree.store x a) = 1
  size (tree.add r x a) = 1
  size (tree.cas r x a b) = 1
  size (tree.lock m) = 1
  size (tree.unlock m) = 1
  size (tree.wait c m) = 1
  size (tree.signal c) = 1
  size (tree.broadcast c) = 1
  size (tree.acquire s) = 1
  size (tree.release s) = 1
  size (tree.set r e) = 1
  size (tree.assert e) = 1
  size (tree.if_then e b) = 1 + block_size b
  size (tree.if_else e b c) = 2 + block_size b + block_size c
  size (tree.repeat n b) = n * block_size b
  size tree.leave = 1

  pub block_size : Block → ℕ
  block_size tree.nothing = 0
  block_size (tree.next at s b) = size s + block_size b
