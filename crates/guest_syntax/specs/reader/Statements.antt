-- Reading statements and blocks from the front of a list of tokens.
use Rattle.std.specs.Prelude.{ℕ, zero, suc, List, Bool, true, false, Option, Some, None}
use Rattle.guest_syntax.specs.Tokens.{TokenKind, keyword, symbol, Token}
use Rattle.guest_syntax.specs.Tree.{Name, Expr, Stmt, Block, Placed, block_of}
use Rattle.guest_syntax.specs.declared.{place.Pos.Pos, token.Keyword.Keyword}
use Rattle.guest_syntax.specs.reader.Expressions.{operand_from, expr_from}
use Rattle.guest_syntax.specs.reader.{Items.{Turn, all_from}, Reads.Read, Scanner.◌>>=◌}
use Rattle.guest_syntax.specs.reader.SingleTokens.{token_at, symbol_from, name_from, times_from}
use Rattle.guest_syntax.specs.declared.token.Keyword.TheVariants as keywords
use Rattle.guest_syntax.specs.declared.token.Symbol.TheVariants as symbols
use Rattle.guest_syntax.specs.Tree as tree

-- a name and a `;`
unfoldable pub one_name_from : List Token → Read Name
one_name_from ts = do
  n ← name_from ts
  e ← symbol_from symbols.End n.1
  Some (n.0, e)

-- two names and a `;`
unfoldable pub two_names_from : List Token → Read (Name × Name)
two_names_from ts = do
  n ← name_from ts
  m ← name_from n.1
  e ← symbol_from symbols.End m.1
  Some ((n.0, m.0), e)

unfoldable pub store_from : List Token → Read Stmt
store_from ts = do
  x ← name_from ts
  a ← operand_from x.1
  e ← symbol_from symbols.End a.1
  Some (tree.store x.0 a.0, e)

unfoldable pub add_from : List Token → Read Stmt
add_from ts = do
  r ← name_from ts
  x ← name_from r.1
  a ← operand_from x.1
  e ← symbol_from symbols.End a.1
  Some (tree.add r.0 x.0 a.0, e)

unfoldable pub cas_from : List Token → Read Stmt
cas_from ts = do
  r ← name_from ts
  x ← name_from r.1
  a ← operand_from x.1
  b ← operand_from a.1
  e ← symbol_from symbols.End b.1
  Some (tree.cas r.0 x.0 a.0 b.0, e)

unfoldable pub set_from : List Token → Read Stmt
set_from ts = do
  r ← name_from ts
  x ← expr_from r.1
  e ← symbol_from symbols.End x.1
  Some (tree.set r.0 x.0, e)

unfoldable pub assert_from : List Token → Read Stmt
assert_from ts = do
  x ← expr_from ts
  e ← symbol_from symbols.End x.1
  Some (tree.assert x.0, e)

-- a statement of one name, whose keyword was read
abbrev pub named_by : Keyword → List Token → Read Stmt
named_by keywords.Lock ts = one_name_from ts >>= λ n. Some (tree.lock n.0, n.1)
named_by keywords.Unlock ts = one_name_from ts >>= λ n. Some (tree.unlock n.0, n.1)
named_by keywords.Signal ts = one_name_from ts >>= λ n. Some (tree.signal n.0, n.1)
named_by keywords.Broadcast ts = one_name_from ts >>= λ n. Some (tree.broadcast n.0, n.1)
named_by keywords.Acquire ts = one_name_from ts >>= λ n. Some (tree.acquire n.0, n.1)
named_by keywords.Release ts = one_name_from ts >>= λ n. Some (tree.release n.0, n.1)
named_by _ ts = None

-- a statement without a block, whose keyword was read
abbrev pub simple_by : Keyword → List Token → Read Stmt
simple_by keywords.Load ts = two_names_from ts >>= λ n. Some (tree.load n.0.0 n.0.1, n.1)
simple_by keywords.Wait ts = two_names_from ts >>= λ n. Some (tree.wait n.0.0 n.0.1, n.1)
simple_by keywords.Store ts = store_from ts
simple_by keywords.Add ts = add_from ts
simple_by keywords.Cas ts = cas_from ts
simple_by keywords.Set ts = set_from ts
simple_by keywords.Assert ts = assert_from ts
simple_by keywords.Leave ts = symbol_from symbols.End ts >>= λ e. Some (tree.leave, e)
simple_by w ts = named_by w ts

unfoldable pub is_else : TokenKind → Bool
is_else (keyword keywords.Else) = true
is_else _ = false

-- an `if`, whose first block was read, and what may be `else`
abbrev pub choice_by : (List Token → Read Block) → Expr → Block → List Token → List Token → Bool
    → Read Stmt
choice_by block e b before following false = Some (tree.if_then e b, before)
choice_by block e b before following true =
    block following >>= λ c. Some (tree.if_else e b c.0, c.1)

unfoldable pub choice_from : (List Token → Read Block) → List Token → Read Stmt
choice_from block ts = do
  e ← expr_from ts
  b ← block e.1
  t ← token_at b.1
  choice_by block e.0 b.0 b.1 t.1 (is_else t.0.kind)

unfoldable pub repeat_from : (List Token → Read Block) → List Token → Read Stmt
repeat_from block ts = do
  n ← times_from ts
  b ← block n.1
  Some (tree.repeat n.0 b.0, b.1)

-- a statement, whose keyword was read
abbrev pub statement_by : (List Token → Read Block) → Keyword → List Token → Read Stmt
statement_by block keywords.If ts = choice_from block ts
statement_by block keywords.Repeat ts = repeat_from block ts
statement_by block w ts = simple_by w ts

-- a statement, whose keyword was read at a place, or the end of a block
abbrev pub turn_by : (List Token → Read Block) → TokenKind → Pos → List Token → Read (Option Placed)
turn_by block (symbol symbols.Close) at ts = Some (None, ts)
turn_by block (keyword w) at ts = statement_by block w ts >>= λ s.
    Some (Some (record { at = at; statement = s.0 }), s.1)
turn_by block _ at ts = None

unfoldable pub turn_from : (List Token → Read Block) → Turn Placed
turn_from block ts = do
  t ← token_at ts
  turn_by block t.0.kind t.0.at t.1

-- a block, with the number of blocks that may be inside one another
unfoldable pub block_from : ℕ → List Token → Read Block
block_from zero ts = None
block_from (suc room) ts = do
  o ← symbol_from symbols.Open ts
  ss ← all_from (turn_from (block_from room)) o
  Some (block_of ss.0, ss.1)
