-- Sizes and codes, one statement after the other.
use Rattle.std.proofs.Common.{◌≡◌, ℕ, zero, suc, ◌+◌, ◌-◌, ◌*◌, ◌<◌, ◌≤◌, min, List, [], ◌∷◌, ◌++◌, length, get_or, drop, refl, sym, ◌∙◌, arith, add-one, drop-cons, append_assoc, length-append}
use Rattle.std.proofs.lemmas.List.{drop_all, nil_from_length, append-nil}
use Rattle.guest_syntax.specs.Tree.{Stmt, Block, stmt_view, block_view}
use Rattle.guest_syntax.{specs.declared.tree.Placed.Placed, proofs.StatementView.view-placed}
use Rattle.guest_syntax.specs.Tree as tree
use Rattle.guest_code.specs.Code.{Names, stmt_code, block_code, unrolled}
use Rattle.guest_code.specs.{Sizes.{size, block_size}, declared.limits.TheConstants.INSTRUCTIONS}
use Rattle.guest_code.specs.declared.program.Instruction.{Instruction, TheVariants.Skip}

pub block_size_at : (ss : List Placed) (i : ℕ) (x : Placed) → i < length ss → x ≡ get_or ss i x
    → block_size (block_view (drop i ss))
    ≡ size (stmt_view x.statement) + block_size (block_view (drop (i + 1) ss))
block_size_at ss i x lt is = rw (add-one, drop-cons ss i x, ← is, view-placed x) refl

pub block_size_end : (ss : List Placed) (i : ℕ) → length ss ≤ i
    → block_size (block_view (drop i ss)) ≡ 0
block_size_end ss i le = rw (drop_all i ss le) refl

pub cut_below : (n m : ℕ) → 0 < n → n * m ≤ INSTRUCTIONS → min m (INSTRUCTIONS + 1) ≡ m
cut_below zero m h lt = absurd (omega arith)
cut_below (suc n) m h lt = omega arith

pub length-unrolled : (body : ℕ → List Instruction) (len n : ℕ)
    → ((k : ℕ) → length (body k) ≡ len) → length (unrolled body len n) ≡ n * len
length-unrolled body len zero h = omega arith
length-unrolled body len (suc n) h = omega (
  arith,
  length-append (body (n * len))
      (unrolled body len n),
  h (n * len),
  length-unrolled body len n h,
)

mutual
  pub stmt_length : (ns : Names) (s : Stmt) (exit : ℕ) → length (stmt_code ns s exit) ≡ size s
  stmt_length ns (tree.if_then e b) exit = omega (arith, block_length ns b exit)
  stmt_length ns (tree.if_else e b c) exit =
      omega (
        arith,
        block_length ns b (exit + 1 + block_size c),
        block_length ns c exit,
        length-append (block_code ns b (exit + 1 + block_size c))
            (Skip (block_size c) ∷ block_code ns c exit),
      )
  stmt_length ns (tree.repeat n b) exit = length-unrolled (block_code ns b) (block_size b) n
      (block_length ns b)
  stmt_length ns _ exit = refl

  pub block_length : (ns : Names) (b : Block) (exit : ℕ)
      → length (block_code ns b exit) ≡ block_size b
  block_length ns tree.nothing exit = refl
  block_length ns (tree.next at s b) exit =
      omega (
        arith,
        length-append (stmt_code ns s (exit + block_size b)) (block_code ns b exit),
        stmt_length ns s (exit + block_size b),
        block_length ns b exit,
      )

-- copies of nothing
pub unrolled_none : (ns : Names) (b : Block) (n : ℕ) → block_size b ≡ 0
    → unrolled (block_code ns b) (block_size b) n ≡ []
unrolled_none ns b n e = nil_from_length _
    (let h = length-unrolled (block_code ns b) (block_size b) n (block_length ns b) in h
    ∙ rw e (omega arith))

-- one copy more
pub unrolled_step : (body : ℕ → List Instruction) (len left : ℕ)
    (code new total : List Instruction) → 0 < left → new ≡ code ++ body ((left - 1) * len)
    → code ++ unrolled body len left ≡ total → new ++ unrolled body len (left - 1) ≡ total
unrolled_step body len zero code new total lt e h = absurd (omega arith)
unrolled_step body len (suc n) code new total lt e h =
    let k : suc n - 1 ≡ n = omega arith in
    rw (e, k, append_assoc code (body (n * len)) (unrolled body len n)) h

pub unrolled_end : (body : ℕ → List Instruction) (len : ℕ) (code total : List Instruction)
    → code ++ unrolled body len 0 ≡ total → code ≡ total
unrolled_end body len code total h = sym (append-nil code) ∙ h
