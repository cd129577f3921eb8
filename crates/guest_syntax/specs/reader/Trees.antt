-- Reading declarations, threads and a whole text from a list of tokens.
use Rattle.std.specs.Prelude.{suc, pos, List, Option, Some, None}
use Rattle.guest_syntax.specs.Tokens.{TokenKind, keyword, symbol, Token}
use Rattle.guest_syntax.specs.Tree.{Name, Declaration, Thread, Tree}
use Rattle.guest_syntax.specs.declared.{limits.TheConstants.{DEPTH, COUNT}, tree.Object.Object}
use Rattle.guest_syntax.specs.reader.{Expressions.literal_from, Items.{Turn, all_from}, Reads.Read}
use Rattle.guest_syntax.specs.reader.Scanner.{◌>>=◌}
use Rattle.guest_syntax.specs.reader.SingleTokens.{next_at, token_at, symbol_from, name_from, number_from}
use Rattle.guest_syntax.specs.reader.Statements.{one_name_from, block_from}
use Rattle.guest_syntax.specs.declared.token.Keyword.TheVariants as keywords
use Rattle.guest_syntax.specs.declared.token.Symbol.TheVariants as symbols
use Rattle.guest_syntax.specs.declared.tree.Object.TheVariants as objects

abbrev pub variable_by : Name → TokenKind → List Token → Read Declaration
variable_by x (symbol symbols.End) ts = Some
    (record { name = x; object = objects.Variable (pos 0) }, ts)
variable_by x (symbol symbols.Assign) ts = do
  z ← literal_from ts
  e ← symbol_from symbols.End z.1
  Some (record { name = x; object = objects.Variable z.0 }, e)
variable_by x _ ts = None

-- a variable, after its keyword
unfoldable pub variable_from : List Token → Read Declaration
variable_from ts = do
  x ← name_from ts
  t ← token_at x.1
  variable_by x.0 t.0.kind t.1

-- an object without an opening value, after its keyword
unfoldable pub plain_from : Object → List Token → Read Declaration
plain_from o ts = do
  x ← one_name_from ts
  Some (record { name = x.0; object = o }, x.1)

-- a semaphore, after its keyword
unfoldable pub semaphore_from : List Token → Read Declaration
semaphore_from ts = do
  x ← name_from ts
  s ← symbol_from symbols.Assign x.1
  n ← number_from COUNT s
  e ← symbol_from symbols.End n.1
  Some (record { name = x.0; object = objects.Semaphore n.0 }, e)

abbrev pub declaration_by : TokenKind → List Token → List Token → Read (Option Declaration)
declaration_by (keyword keywords.Var) before following =
    variable_from following >>= λ d. Some (Some d.0, d.1)
declaration_by (keyword keywords.Mutex) before following =
    plain_from objects.Mutex following >>= λ d. Some (Some d.0, d.1)
declaration_by (keyword keywords.Cond) before following =
    plain_from objects.Condition following >>= λ d. Some (Some d.0, d.1)
declaration_by (keyword keywords.Sem) before following =
    semaphore_from following >>= λ d. Some (Some d.0, d.1)
declaration_by _ before following = Some (None, before)

abbrev pub declaration_next : Option Token → List Token → List Token → Read (Option Declaration)
declaration_next None before following = Some (None, before)
declaration_next (Some t) before following = declaration_by t.kind before following

-- a declaration, or nothing where something else comes
unfoldable pub declaration_turn : Turn Declaration
declaration_turn ts = do
  t ← next_at ts
  declaration_next t.0 ts t.1

-- a thread, after its keyword
unfoldable pub thread_from : List Token → Read Thread
unfolding block_from
thread_from ts = do
  x ← name_from ts
  b ← block_from (suc DEPTH) x.1
  Some (record { name = x.0; body = b.0 }, b.1)

abbrev pub thread_by : TokenKind → List Token → Read (Option Thread)
thread_by (keyword keywords.Thread) ts = thread_from ts >>= λ x. Some (Some x.0, x.1)
thread_by _ ts = None

abbrev pub thread_next : Option Token → List Token → Read (Option Thread)
thread_next None ts = Some (None, ts)
thread_next (Some t) ts = thread_by t.kind ts

-- a thread, or the end of the text
unfoldable pub thread_turn : Turn Thread
thread_turn ts = do
  t ← next_at ts
  thread_next t.0 t.1

unfoldable pub tree_from : List Token → Option Tree
tree_from ts = do
  ds ← all_from declaration_turn ts
  xs ← all_from thread_turn ds.1
  Some (record { declarations = ds.0; threads = xs.0 })
