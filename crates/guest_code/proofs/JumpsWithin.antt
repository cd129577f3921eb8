-- The jumps of the code of a tree are within it.
use Rattle.std.proofs.Common.{◌≡◌, ℕ, zero, suc, ◌+◌, ◌*◌, ◌<◌, ◌≤◌, List, [], ◌∷◌, ◌++◌, length, get_or, arith, length-append}
use Rattle.guest_syntax.specs.Tree.{Stmt, Block}
use Rattle.guest_syntax.specs.Tree as tree
use Rattle.guest_code.specs.Code.{Names, stmt_code, block_code, unrolled}
use Rattle.guest_code.specs.{Program.{JumpsWithin, skip_of}, Sizes.block_size}
use Rattle.guest_code.specs.declared.program.Instruction.{Instruction, TheVariants.Skip}
use Rattle.guest_code.proofs.CodeLengths.{block_length, length-unrolled}

-- each jump goes at most so far after the code's end
abbrev pub Reach : ℕ → List Instruction → Type 0
Reach far [] = Unit {0}
Reach far (i ∷ is) = (skip_of i ≤ length is + far) × Reach far is

Reach-more : (near far : ℕ) (is : List Instruction) → near ≤ far → Reach near is → Reach far is
Reach-more near far [] le h = tt
Reach-more near far (i ∷ is) le h = (omega (arith, h.0, le), Reach-more near far is le h.1)

Reach-append : (near far : ℕ) (is js : List Instruction) → near ≤ length js + far → Reach near is
    → Reach far js → Reach far (is ++ js)
Reach-append near far [] js le h g = g
Reach-append near far (i ∷ is) js le h g =
    (omega (arith, h.0, le, length-append is js), Reach-append near far is js le h.1 g)

unrolled_reach : (body : ℕ → List Instruction) (len n : ℕ) → ((k : ℕ) → length (body k) ≡ len)
    → ((k : ℕ) → Reach k (body k)) → Reach 0 (unrolled body len n)
unrolled_reach body len zero same h = tt
unrolled_reach body len (suc n) same h =
    Reach-append (n * len) 0 (body (n * len)) (unrolled body len n)
    (omega (arith, length-unrolled body len n same)) (h (n * len))
    (unrolled_reach body len n same h)

mutual
  stmt_reach : (ns : Names) (s : Stmt) (exit : ℕ) → Reach exit (stmt_code ns s exit)
  stmt_reach ns (tree.if_then e b) exit =
      (omega (arith, block_length ns b exit), block_reach ns b exit)
  stmt_reach ns (tree.if_else e b c) exit =
      let yes = block_code ns b (exit + 1 + block_size c) in
      let other = Skip (block_size c) ∷ block_code ns c exit in
      let here : Reach exit other =
      (omega (arith, block_length ns c exit), block_reach ns c exit) in (
        omega (arith, length-append yes other, block_length ns b (exit + 1 + block_size c)),
        Reach-append (exit + 1 + block_size c) exit yes other
            (omega (arith, block_length ns c exit)) (block_reach ns b (exit + 1 + block_size c))
            here,
      )
  stmt_reach ns (tree.repeat n b) exit =
      Reach-more 0 exit (unrolled (block_code ns b) (block_size b) n) (omega arith)
      (unrolled_reach (block_code ns b) (block_size b) n (block_length ns b) (block_reach ns b))
  stmt_reach ns _ exit = (omega arith, tt)

  pub block_reach : (ns : Names) (b : Block) (exit : ℕ) → Reach exit (block_code ns b exit)
  block_reach ns tree.nothing exit = tt
  block_reach ns (tree.next at s b) exit =
      Reach-append (exit + block_size b) exit (stmt_code ns s (exit + block_size b))
      (block_code ns b exit) (omega (arith, block_length ns b exit))
      (stmt_reach ns s (exit + block_size b)) (block_reach ns b exit)

-- with no way beyond the end, each jump is within the code
reach_at : (is : List Instruction) (k : ℕ) → Reach 0 is → k < length is
    → k + 1 + skip_of (get_or is k (Skip 0)) ≤ length is
reach_at [] k h lt = absurd (omega arith)
reach_at (i ∷ is) zero h lt = omega (arith, h.0)
reach_at (i ∷ is) (suc k) h lt = omega (arith, reach_at is k h.1 (omega arith))

pub jumps_within : (ns : Names) (b : Block) → JumpsWithin (block_code ns b 0)
jumps_within ns b k lt = reach_at (block_code ns b 0) k (block_reach ns b 0) lt
