-- Statements and blocks: what was read is spelled so, and what is spelled so is read.
use Rattle.std.proofs.Common.{◌≡◌, ℕ, zero, suc, ◌<◌, Bool, true, false, List, [], ◌∷◌, length, Option, Some, None, refl, sym, ap, subst, arith}
use Rattle.guest_syntax.specs.Forms.{Form, ◌then◌, IsTokenAt, IsToken, IsName, IsEnd, BeginsAt, placed_at, in_braces}
use Rattle.guest_syntax.specs.Grammar.{IsOperand, IsExpr, IsTimes, IsStatement, AreStatements, IsBlock}
use Rattle.guest_syntax.specs.Tokens.{TokenKind, keyword, symbol, Token}
use Rattle.guest_syntax.specs.Tree.{Name, Operand, Expr, Stmt, load, store, add, cas, lock, unlock, wait, signal, broadcast, acquire, release, set, assert, if_then, if_else, repeat, leave, Block, nothing, next, Placed, block_of}
use Rattle.guest_syntax.specs.declared.{place.Pos.Pos, token.Keyword.Keyword, token.Symbol.Symbol}
use Rattle.guest_syntax.specs.reader.Expressions.{operand_from, op_of, expr_from}
use Rattle.guest_syntax.specs.reader.{Items.{Turn, many_by, many, all_from}, Reads.Read}
use Rattle.guest_syntax.specs.reader.Scanner.{◌>>=◌}
use Rattle.guest_syntax.specs.reader.SingleTokens.{token_at, symbol_from, name_from, times_from}
use Rattle.guest_syntax.specs.reader.Statements.{is_else, one_name_from, two_names_from, store_from, add_from, cas_from, set_from, assert_from, named_by, simple_by, choice_by, choice_from, repeat_from, statement_by, turn_by, turn_from, block_from}
use Rattle.guest_syntax.proofs.ExpressionReaders.{operand_takes, operand_again, Ends, expr_takes, expr_again}
use Rattle.guest_syntax.proofs.{OptionCases.{bind_some, some_is}, TakesTokens.statement_shorter}
use Rattle.guest_syntax.proofs.TokenReaders.{token_takes, kind_again, kind_takes, symbol_takes, symbol_again, name_takes, name_again, times_takes, times_again}
use Rattle.guest_syntax.specs.declared.token.Keyword.TheVariants as keywords
use Rattle.guest_syntax.specs.declared.token.Symbol.TheVariants as symbols

-- ---- what was read is spelled so

abbrev Reader : Type 0
Reader = List Token → Read Block

-- what a reader of blocks gives is spelled so
abbrev Takes : Reader → ℕ → Type 0
Takes block room = (ts : List Token) (x : Block × List Token) → block ts ≡ Some x
    → IsBlock x.0 room ts x.1

abbrev IsTurn : ℕ → Option Placed → Form
IsTurn room None = IsToken (symbol symbols.Close)
IsTurn room (Some p) = placed_at p.at (IsStatement p.statement room)

-- what is read before the end, and the end
pub last_takes : {A B : Type 0} (from : List Token → Read A) (F : A → Form)
    → ((ts : List Token) (x : A × List Token) → from ts ≡ Some x → F x.0 ts x.1)
    → (made : A → B) (ts : List Token) (x : B × List Token)
    → (from ts >>= λ a. symbol_from symbols.End a.1 >>= λ e. Some (made a.0, e)) ≡ Some x
    → (a : A) × (made a ≡ x.0) × (F a then IsEnd) ts x.1
last_takes {A = A} {B = B} from F takes made ts x h =
    let a = bind_some (from ts) _ _ h in
    let e = bind_some (symbol_from symbols.End a.0.1) _ _ a.2 in
    let is : (made a.0.0, e.0) ≡ x = some_is (made a.0.0, e.0) x e.2 in
    subst (λ (y : B × List Token). (a : A) × (made a ≡ y.0) × (F a then IsEnd) ts y.1) is
    (a.0.0, refl, (a.0.1, takes ts a.0 a.1, symbol_takes symbols.End a.0.1 e.0 e.1))

pub one_name_takes : (ts : List Token) (x : Name × List Token) → one_name_from ts ≡ Some x
    → (IsName x.0 then IsEnd) ts x.1
unfolding one_name_from
one_name_takes ts x e =
    let n = last_takes name_from IsName name_takes (λ n. n) ts x e in
    subst (λ n. (IsName n then IsEnd) ts x.1) n.1 n.2

-- a name, what is read after it before the end, and the end
value_takes : {A B : Type 0} (from : List Token → Read A) (F : A → Form)
    → ((ts : List Token) (x : A × List Token) → from ts ≡ Some x → F x.0 ts x.1)
    → (made : Name → A → B) (ts : List Token) (x : B × List Token)
    → (name_from ts >>= λ n. from n.1 >>= λ a. symbol_from symbols.End a.1 >>= λ e.
    Some (made n.0 a.0, e)) ≡ Some x
    → (n : Name) × (a : A) × (made n a ≡ x.0) × (IsName n then F a then IsEnd) ts x.1
value_takes from F takes made ts x h =
    let n = bind_some (name_from ts) _ _ h in
    let a = last_takes from F takes (made n.0.0) n.0.1 x n.2 in
    (n.0.0, a.0, a.1, (n.0.1, name_takes ts n.0 n.1, a.2))

two_names_takes : (ts : List Token) (x : (Name × Name) × List Token) → two_names_from ts ≡ Some x
    → (IsName x.0.0 then IsName x.0.1 then IsEnd) ts x.1
unfolding two_names_from
two_names_takes ts x e =
    let n = value_takes name_from IsName name_takes (λ n m. (n, m)) ts x e in
    subst (λ (y : Name × Name). (IsName y.0 then IsName y.1 then IsEnd) ts x.1) n.2 n.3

-- a statement and the tokens after it
abbrev IsSpelt : ℕ → List Token → Stmt × List Token → Type 0
IsSpelt room before x = IsStatement x.0 room before x.1

-- what is read after this keyword is spelled so
abbrev StatementTakes : Keyword → (List Token → Read Stmt) → Type 0
StatementTakes w reader =
    (room : ℕ) (before ts : List Token) (x : Stmt × List Token)
    → IsToken (keyword w) before ts → reader ts ≡ Some x → IsStatement x.0 room before x.1

store_takes : StatementTakes keywords.Store store_from
unfolding store_from
store_takes room before ts x w e =
    let v = value_takes operand_from IsOperand operand_takes store ts x e in
    subst (λ s. IsStatement s room before x.1) v.2 (ts, w, v.3)

add_takes : StatementTakes keywords.Add add_from
unfolding add_from
add_takes room before ts x w e =
    let r = bind_some (name_from ts) _ _ e in
    let v = value_takes operand_from IsOperand operand_takes (add r.0.0) r.0.1 x r.2 in
    subst (λ s. IsStatement s room before x.1) v.2 (ts, w, (r.0.1, name_takes ts r.0 r.1, v.3))

cas_takes : StatementTakes keywords.Cas cas_from
unfolding cas_from
cas_takes room before ts x w e =
    let r = bind_some (name_from ts) _ _ e in
    let n = bind_some (name_from r.0.1) _ _ r.2 in
    let a = bind_some (operand_from n.0.1) _ _ n.2 in
    let b = last_takes operand_from IsOperand operand_takes (cas r.0.0 n.0.0 a.0.0) a.0.1 x a.2 in
    let operands : (IsOperand a.0.0 then IsOperand b.0 then IsEnd) n.0.1 x.1 =
    (a.0.1, operand_takes n.0.1 a.0 a.1, b.2) in
    subst (λ s. IsStatement s room before x.1) b.1
    (ts, w, (r.0.1, name_takes ts r.0 r.1, (n.0.1, name_takes r.0.1 n.0 n.1, operands)))

set_takes : StatementTakes keywords.Set set_from
unfolding set_from
set_takes room before ts x w e =
    let v = value_takes expr_from IsExpr expr_takes set ts x e in
    subst (λ s. IsStatement s room before x.1) v.2 (ts, w, v.3)

assert_takes : StatementTakes keywords.Assert assert_from
unfolding assert_from
assert_takes room before ts x w e =
    let v = last_takes expr_from IsExpr expr_takes assert ts x e in
    subst (λ s. IsStatement s room before x.1) v.1 (ts, w, v.2)

-- a statement of one name
named_takes_by : (w : Keyword) (made : Name → Stmt) (room : ℕ)
    → ((n : Name) (ts rest : List Token) → (IsToken (keyword w) then IsName n then IsEnd) ts rest
    → IsStatement (made n) room ts rest)
    → (before ts : List Token) (x : Stmt × List Token) → IsToken (keyword w) before ts
    → (one_name_from ts >>= λ n. Some (made n.0, n.1)) ≡ Some x
    → IsStatement x.0 room before x.1
named_takes_by w made room is before ts x h e =
    let n = bind_some (one_name_from ts) _ _ e in
    subst (IsSpelt room before) (some_is (made n.0.0, n.0.1) x n.2)
    (is n.0.0 before n.0.1 (ts, h, one_name_takes ts n.0 n.1))

named_takes : (w : Keyword) (room : ℕ) (before ts : List Token) (x : Stmt × List Token)
    → IsToken (keyword w) before ts → named_by w ts ≡ Some x → IsStatement x.0 room before x.1
named_takes keywords.Lock room before ts x h e =
    named_takes_by keywords.Lock lock room (λ n ts rest h. h) before ts x h e
named_takes keywords.Unlock room before ts x h e =
    named_takes_by keywords.Unlock unlock room (λ n ts rest h. h) before ts x h e
named_takes keywords.Signal room before ts x h e =
    named_takes_by keywords.Signal signal room (λ n ts rest h. h) before ts x h e
named_takes keywords.Broadcast room before ts x h e =
    named_takes_by keywords.Broadcast broadcast room (λ n ts rest h. h) before ts x h e
named_takes keywords.Acquire room before ts x h e =
    named_takes_by keywords.Acquire acquire room (λ n ts rest h. h) before ts x h e
named_takes keywords.Release room before ts x h e =
    named_takes_by keywords.Release release room (λ n ts rest h. h) before ts x h e
named_takes w room before ts x h e = absurd cc

simple_takes : (w : Keyword) (room : ℕ) (before ts : List Token) (x : Stmt × List Token)
    → IsToken (keyword w) before ts → simple_by w ts ≡ Some x
    → IsStatement x.0 room before x.1
simple_takes keywords.Load room before ts x h e =
    let n = bind_some (two_names_from ts) _ _ e in
    subst (IsSpelt room before) (some_is (load n.0.0.0 n.0.0.1, n.0.1) x n.2)
    (ts, h, two_names_takes ts n.0 n.1)
simple_takes keywords.Wait room before ts x h e =
    let n = bind_some (two_names_from ts) _ _ e in
    subst (IsSpelt room before) (some_is (wait n.0.0.0 n.0.0.1, n.0.1) x n.2)
    (ts, h, two_names_takes ts n.0 n.1)
simple_takes keywords.Store room before ts x h e = store_takes room before ts x h e
simple_takes keywords.Add room before ts x h e = add_takes room before ts x h e
simple_takes keywords.Cas room before ts x h e = cas_takes room before ts x h e
simple_takes keywords.Set room before ts x h e = set_takes room before ts x h e
simple_takes keywords.Assert room before ts x h e = assert_takes room before ts x h e
simple_takes keywords.Leave room before ts x h e =
    let s = bind_some (symbol_from symbols.End ts) _ _ e in
    subst (IsSpelt room before) (some_is (leave, s.0) x s.2)
    (ts, h, symbol_takes symbols.End ts s.0 s.1)
simple_takes w room before ts x h e = named_takes w room before ts x h e

is_else_kind : (k : TokenKind) → is_else k ≡ true → k ≡ keyword keywords.Else
unfolding is_else
is_else_kind (keyword keywords.Else) e = refl
is_else_kind k e = absurd cc

choice_by_takes : (block : Reader) (room : ℕ) → Takes block room
    → (before ts : List Token) (x : Stmt × List Token) (e : Expr) (b : Block)
    (t1 t2 following : List Token) (k : TokenKind) (o : Bool) → is_else k ≡ o
    → IsToken (keyword keywords.If) before ts → IsExpr e ts t1 → IsBlock b room t1 t2
    → IsToken k t2 following → choice_by block e b t2 following o ≡ Some x
    → IsStatement x.0 room before x.1
choice_by_takes block room ih before ts x e b t1 t2 following k false is w he hb hk h =
    subst (IsSpelt room before) (some_is (if_then e b, t2) x h) (ts, w, (t1, he, hb))
choice_by_takes block room ih before ts x e b t1 t2 following k true is w he hb hk h =
    let c = bind_some (block following) _ _ h in
    subst (IsSpelt room before) (some_is (if_else e b c.0.0, c.0.1) x c.2) (
      ts,
      w,
      (
        t1,
        he,
        (
          t2,
          hb,
          (
            following,
            subst (λ k. IsToken k t2 following) (is_else_kind k is)
                hk,
            ih following c.0 c.1,
          ),
        ),
      ),
    )

choice_takes : (block : Reader) (room : ℕ) → Takes block room
    → (before ts : List Token) (x : Stmt × List Token) → IsToken (keyword keywords.If) before ts
    → choice_from block ts ≡ Some x → IsStatement x.0 room before x.1
unfolding choice_from
choice_takes block room ih before ts x w h =
    let e = bind_some (expr_from ts) _ _ h in
    let b = bind_some (block e.0.1) _ _ e.2 in
    let t = bind_some (token_at b.0.1) _ _ b.2 in
    choice_by_takes block room ih before ts x e.0.0 b.0.0 e.0.1 b.0.1 t.0.1 t.0.0.kind
    (is_else t.0.0.kind) refl w (expr_takes ts e.0 e.1) (ih e.0.1 b.0 b.1)
    (kind_takes t.0.0.kind b.0.1 t.0 t.1 refl) t.2

repeat_takes : (block : Reader) (room : ℕ) → Takes block room
    → (before ts : List Token) (x : Stmt × List Token)
    → IsToken (keyword keywords.Repeat) before ts → repeat_from block ts ≡ Some x
    → IsStatement x.0 room before x.1
unfolding repeat_from
repeat_takes block room ih before ts x w h =
    let n = bind_some (times_from ts) _ _ h in
    let b = bind_some (block n.0.1) _ _ n.2 in
    subst (IsSpelt room before) (some_is (repeat n.0.0 b.0.0, b.0.1) x b.2)
    (ts, w, (n.0.1, times_takes ts n.0 n.1, ih n.0.1 b.0 b.1))

statement_takes : (block : Reader) (room : ℕ) → Takes block room
    → (w : Keyword) (before ts : List Token) (x : Stmt × List Token)
    → IsToken (keyword w) before ts → statement_by block w ts ≡ Some x
    → IsStatement x.0 room before x.1
statement_takes block room ih keywords.If before ts x h e =
    choice_takes block room ih before ts x h e
statement_takes block room ih keywords.Repeat before ts x h e =
    repeat_takes block room ih before ts x h e
statement_takes block room ih w before ts x h e = simple_takes w room before ts x h e

begins : (at : Pos) (k : TokenKind) (ts rest : List Token) → IsTokenAt at k ts rest → BeginsAt at ts
begins at k ts rest h = subst (BeginsAt at) (sym h) refl

-- a word's statement, or the end
turn_by_takes : (block : Reader) (room : ℕ) → Takes block room
    → (k : TokenKind) (at : Pos) (before ts : List Token) (x : Option Placed × List Token)
    → IsTokenAt at k before ts → turn_by block k at ts ≡ Some x → IsTurn room x.0 before x.1
turn_by_takes block room ih (keyword v) at before ts x w h =
    let s = bind_some (statement_by block v ts) _ _ h in
    subst (λ (y : Option Placed × List Token). IsTurn room y.0 before y.1)
    (some_is (Some (record { at = at; statement = s.0.0 }), s.0.1) x s.2)
    (begins at (keyword v) before ts w, statement_takes block room ih v before ts s.0 (at, w) s.1)
turn_by_takes block room ih (symbol symbols.Close) at before ts x w h =
    subst (λ (y : Option Placed × List Token). IsTurn room y.0 before y.1) (some_is (None, ts) x h)
    (at, w)
turn_by_takes block room ih k at before ts x w h = absurd cc

turn_takes : (block : Reader) (room : ℕ) → Takes block room
    → (ts : List Token) (x : Option Placed × List Token) → turn_from block ts ≡ Some x
    → IsTurn room x.0 ts x.1
unfolding turn_from
turn_takes block room ih ts x h =
    let t = bind_some (token_at ts) _ _ h in
    turn_by_takes block room ih t.0.0.kind t.0.0.at ts t.0.1 x (token_takes ts t.0 t.1).1 t.2

abbrev AreTurns : ℕ → List Placed → Form
AreTurns room ss = AreStatements (block_of ss) room then IsToken (symbol symbols.Close)

many_by_takes : (more : List Token → Read (List Placed)) (room : ℕ)
    → ((ts : List Token) (x : List Placed × List Token) → more ts ≡ Some x
    → AreTurns room x.0 ts x.1)
    → (o : Option Placed) (before ts : List Token) (x : List Placed × List Token)
    → IsTurn room o before ts → many_by more o ts ≡ Some x → AreTurns room x.0 before x.1
many_by_takes more room ih None before ts x t h =
    subst (λ (y : List Placed × List Token). AreTurns room y.0 before y.1) (some_is ([], ts) x h)
    (before, refl, t)
many_by_takes more room ih (Some s) before ts x t h =
    let m = bind_some (more ts) _ _ h in
    let r = ih ts m.0 m.1 in
    subst (λ (y : List Placed × List Token). AreTurns room y.0 before y.1)
    (some_is (s ∷ m.0.0, m.0.1) x m.2) (r.0, (ts, t, r.1), r.2)

many_takes : (block : Reader) (room : ℕ) → Takes block room
    → (n : ℕ) (ts : List Token) (x : List Placed × List Token)
    → many (turn_from block) n ts ≡ Some x
    → AreTurns room x.0 ts x.1
unfolding many
many_takes block room ih zero ts x h = absurd cc
many_takes block room ih (suc n) ts x h =
    let t = bind_some (turn_from block ts) _ _ h in
    many_by_takes (many (turn_from block) n) room (many_takes block room ih n) t.0.0 ts t.0.1 x
    (turn_takes block room ih ts t.0 t.1) t.2

pub block_takes : (room : ℕ) (ts : List Token) (x : Block × List Token)
    → block_from room ts ≡ Some x → IsBlock x.0 room ts x.1
unfolding block_from all_from
block_takes zero ts x h = absurd cc
block_takes (suc room) ts x h =
    let o = bind_some (symbol_from symbols.Open ts) _ _ h in
    let ss = bind_some (all_from (turn_from (block_from room)) o.0) _ _ o.2 in
    let r = many_takes (block_from room) room (block_takes room) (suc (length o.0)) o.0 ss.0 ss.1 in
    subst (λ (y : Block × List Token). IsBlock y.0 (suc room) ts y.1)
    (some_is (block_of ss.0.0, ss.0.1) x ss.2)
    (room, refl, (o.0, symbol_takes symbols.Open ts o.0 o.1, r))

-- ---- what is spelled so is read

abbrev pub statements_of : Block → List Placed
statements_of nothing = []
statements_of (next at s b) = record { at = at; statement = s } ∷ statements_of b

block_of-statements_of : (b : Block) → block_of (statements_of b) ≡ b
block_of-statements_of nothing = refl
block_of-statements_of (next at s b) = ap (next at s) (block_of-statements_of b)

keyword_ends : (w : Keyword) (ts rest : List Token) → is_else (keyword w) ≡ false
    → IsToken (keyword w) ts rest → Ends ts
keyword_ends w ts rest e h = record {
  first = record { kind = keyword w; at = h.0 };
  more = rest;
  read = kind_again (keyword w) ts rest h refl;
  no_op = refl;
  no_else = e;
}

symbol_ends : (s : Symbol) (ts rest : List Token) → op_of (symbol s) ≡ None
    → IsToken (symbol s) ts rest → Ends ts
unfolding is_else
symbol_ends s ts rest e h = record {
  first = record { kind = symbol s; at = h.0 };
  more = rest;
  read = kind_again (symbol s) ts rest h refl;
  no_op = e;
  no_else = refl;
}

-- a statement ends what comes before it
statement_ends : (s : Stmt) (room : ℕ) (ts rest : List Token) → IsStatement s room ts rest → Ends ts
unfolding is_else
statement_ends (load r x) room ts rest h = keyword_ends keywords.Load ts h.0 refl h.1
statement_ends s room ts rest h = keyword_ends _ ts h.0 refl h.1

statements_end : (b : Block) (room : ℕ) (ts mid rest : List Token) → AreStatements b room ts mid
    → IsToken (symbol symbols.Close) mid rest → Ends ts
statements_end nothing room ts mid rest h close =
    symbol_ends symbols.Close ts rest refl (subst (λ us. IsToken (symbol symbols.Close) us rest)
    (sym h) close)
statements_end (next at s b) room ts mid rest h close = statement_ends s room ts h.0 h.1.1

-- the statements of a block are read, with their closing brace
abbrev Again : Block → Type 0
Again b = (room n : ℕ) (ts mid rest : List Token) → AreStatements b room ts mid
    → IsToken (symbol symbols.Close) mid rest → length ts < n
    → many (turn_from (block_from room)) n ts ≡ Some (statements_of b, rest)

block_again_by : (b : Block) → Again b → (room : ℕ) (ts rest : List Token) → IsBlock b room ts rest
    → block_from room ts ≡ Some (b, rest)
unfolding block_from all_from
block_again_by b again room ts rest (less, is, (inner, brace, (mid, inside, close))) =
    rw (
      is,
      symbol_again symbols.Open ts inner brace,
      again less (suc (length inner)) inner mid rest inside close (omega arith),
      block_of-statements_of b,
    ) refl

pub one_name_again : (n : Name) (ts rest : List Token) → (IsName n then IsEnd) ts rest
    → one_name_from ts ≡ Some (n, rest)
unfolding one_name_from
one_name_again n ts rest (a, hn, he) = rw (
  name_again n ts a hn,
  symbol_again symbols.End a rest he,
) refl

two_names_again : (n m : Name) (ts rest : List Token) → (IsName n then IsName m then IsEnd) ts rest
    → two_names_from ts ≡ Some ((n, m), rest)
unfolding two_names_from
two_names_again n m ts rest (a, hn, (b, hm, he)) =
    rw (name_again n ts a hn, name_again m a b hm, symbol_again symbols.End b rest he) refl

store_again : (x : Name) (a : Operand) (ts rest : List Token)
    → (IsName x then IsOperand a then IsEnd) ts rest → store_from ts ≡ Some (store x a, rest)
unfolding store_from
store_again x a ts rest (b, hx, (c, ha, he)) =
    rw (name_again x ts b hx, operand_again a b c ha, symbol_again symbols.End c rest he) refl

add_again : (r x : Name) (a : Operand) (ts rest : List Token)
    → (IsName r then IsName x then IsOperand a then IsEnd) ts rest
    → add_from ts ≡ Some (add r x a, rest)
unfolding add_from
add_again r x a ts rest (t1, hr, (t2, hx, (t3, ha, he))) =
    rw (name_again r ts t1 hr, name_again x t1 t2 hx, operand_again a t2 t3 ha)
    (rw (symbol_again symbols.End t3 rest he) refl)

cas_again : (r x : Name) (a b : Operand) (ts rest : List Token)
    → (IsName r then IsName x then IsOperand a then IsOperand b then IsEnd) ts rest
    → cas_from ts ≡ Some (cas r x a b, rest)
unfolding cas_from
cas_again r x a b ts rest (t1, hr, (t2, hx, (t3, ha, (t4, hb, he)))) =
    rw (name_again r ts t1 hr, name_again x t1 t2 hx, operand_again a t2 t3 ha)
    (rw (operand_again b t3 t4 hb, symbol_again symbols.End t4 rest he) refl)

set_again : (r : Name) (e : Expr) (ts rest : List Token)
    → (IsName r then IsExpr e then IsEnd) ts rest → set_from ts ≡ Some (set r e, rest)
unfolding set_from
set_again r e ts rest (b, hr, (c, he, hs)) =
    rw (
      name_again r ts b hr,
      expr_again e b c he (symbol_ends symbols.End c rest refl hs),
      symbol_again symbols.End c rest hs,
    ) refl

assert_again : (e : Expr) (ts rest : List Token) → (IsExpr e then IsEnd) ts rest
    → assert_from ts ≡ Some (assert e, rest)
unfolding assert_from
assert_again e ts rest (a, he, hs) = rw (
  expr_again e ts a he
      (symbol_ends symbols.End a rest refl hs),
  symbol_again symbols.End a rest hs,
) refl

braces_end : (inner : ℕ → Form) (room : ℕ) (ts rest : List Token) → in_braces inner room ts rest
    → Ends ts
braces_end inner room ts rest (less, is, h) = symbol_ends symbols.Open ts h.0 refl h.1

then_again : (e : Expr) (b : Block) → Again b → (room : ℕ) (ts rest : List Token)
    → (IsExpr e then IsBlock b room) ts rest → Ends rest
    → choice_from (block_from room) ts ≡ Some (if_then e b, rest)
unfolding choice_from
then_again e b again room ts rest (a, he, hb) ends =
    rw (
      expr_again e ts a he (braces_end _ room a rest hb),
      block_again_by b again room a rest hb,
      ends.read,
      ends.no_else,
    ) refl

else_again : (e : Expr) (b c : Block) → Again b → Again c → (room : ℕ) (ts rest : List Token)
    → (IsExpr e then IsBlock b room then IsToken (keyword keywords.Else) then IsBlock c room) ts
    rest → choice_from (block_from room) ts ≡ Some (if_else e b c, rest)
unfolding choice_from is_else
else_again e b c again again' room ts rest (t1, he, (t2, hb, (t3, hw, hc))) =
    rw (
      expr_again e ts t1 he (braces_end _ room t1 t2 hb),
      block_again_by b again room t1 t2 hb,
      kind_again (keyword keywords.Else) t2 t3 hw refl,
      block_again_by c again' room t3 rest hc,
    )
    refl

repeat_again : (n : ℕ) (b : Block) → Again b → (room : ℕ) (ts rest : List Token)
    → (IsTimes n then IsBlock b room) ts rest
    → repeat_from (block_from room) ts ≡ Some (repeat n b, rest)
unfolding repeat_from
repeat_again n b again room ts rest (a, hn, hb) =
    rw (times_again n ts a hn, block_again_by b again room a rest hb) refl

-- a turn that begins with this word at this place
keyword_turn : (w : Keyword) (block : Reader) (at : Pos) (ts mid : List Token)
    (x : Option Placed × List Token) → BeginsAt at ts → IsToken (keyword w) ts mid
    → turn_by block (keyword w) at mid ≡ Some x → turn_from block ts ≡ Some x
unfolding turn_from
keyword_turn w block at ts mid x first h e =
    let here : h.0 ≡ at = subst (BeginsAt at) h.1 first in
    rw (kind_again (keyword w) ts mid h refl, here) e

end_again : (block : Reader) (n : ℕ) (ts rest : List Token)
    → IsToken (symbol symbols.Close) ts rest → length ts < n
    → many (turn_from block) n ts ≡ Some ([], rest)
unfolding many turn_from
end_again block zero ts rest h lt = absurd (omega arith)
end_again block (suc n) ts rest h lt = rw (kind_again (symbol symbols.Close) ts rest h refl) refl

-- one item more
pub next_again : {A : Type 0} (turn : Turn A) (a : A) (xs : List A) (n : ℕ)
    (ts mid rest : List Token) → turn ts ≡ Some (Some a, mid) → length mid < length ts
    → length ts < n
    → ((m : ℕ) → length mid < m → many turn m mid ≡ Some (xs, rest))
    → many turn n ts ≡ Some (a ∷ xs, rest)
unfolding many
next_again turn a xs zero ts mid rest e shorter lt more = absurd (omega arith)
next_again turn a xs (suc n) ts mid rest e shorter lt more = rw (e, more n (omega arith)) refl

mutual
  statement_again : (at : Pos) (s : Stmt) (room : ℕ) (ts rest : List Token) → BeginsAt at ts
      → IsStatement s room ts rest → Ends rest
      → turn_from (block_from room) ts ≡ Some (Some (record { at = at; statement = s }), rest)
  statement_again at (load r x) room ts rest first (mid, w, h) ends =
      keyword_turn keywords.Load _ at ts mid _ first w (rw (two_names_again r x mid rest h) refl)
  statement_again at (store x a) room ts rest first (mid, w, h) ends =
      keyword_turn keywords.Store _ at ts mid _ first w (rw (store_again x a mid rest h) refl)
  statement_again at (add r x a) room ts rest first (mid, w, h) ends =
      keyword_turn keywords.Add _ at ts mid _ first w (rw (add_again r x a mid rest h) refl)
  statement_again at (cas r x a b) room ts rest first (mid, w, h) ends =
      keyword_turn keywords.Cas _ at ts mid _ first w (rw (cas_again r x a b mid rest h) refl)
  statement_again at (lock m) room ts rest first (mid, w, h) ends =
      keyword_turn keywords.Lock _ at ts mid _ first w (rw (one_name_again m mid rest h) refl)
  statement_again at (unlock m) room ts rest first (mid, w, h) ends =
      keyword_turn keywords.Unlock _ at ts mid _ first w (rw (one_name_again m mid rest h) refl)
  statement_again at (wait c m) room ts rest first (mid, w, h) ends =
      keyword_turn keywords.Wait _ at ts mid _ first w (rw (two_names_again c m mid rest h) refl)
  statement_again at (signal c) room ts rest first (mid, w, h) ends =
      keyword_turn keywords.Signal _ at ts mid _ first w (rw (one_name_again c mid rest h) refl)
  statement_again at (broadcast c) room ts rest first (mid, w, h) ends =
      keyword_turn keywords.Broadcast _ at ts mid _ first w (rw (one_name_again c mid rest h) refl)
  statement_again at (acquire s) room ts rest first (mid, w, h) ends =
      keyword_turn keywords.Acquire _ at ts mid _ first w (rw (one_name_again s mid rest h) refl)
  statement_again at (release s) room ts rest first (mid, w, h) ends =
      keyword_turn keywords.Release _ at ts mid _ first w (rw (one_name_again s mid rest h) refl)
  statement_again at (set r e) room ts rest first (mid, w, h) ends =
      keyword_turn keywords.Set _ at ts mid _ first w (rw (set_again r e mid rest h) refl)
  statement_again at (assert e) room ts rest first (mid, w, h) ends =
      keyword_turn keywords.Assert _ at ts mid _ first w (rw (assert_again e mid rest h) refl)
  statement_again at (if_then e b) room ts rest first (mid, w, h) ends =
      keyword_turn keywords.If _ at ts mid _ first w
      (rw (then_again e b (statements_again b) room mid rest h ends) refl)
  statement_again at (if_else e b c) room ts rest first (mid, w, h) ends =
      keyword_turn keywords.If _ at ts mid _ first w (rw (else_again e b c (statements_again b)
      (statements_again c) room mid rest h) refl)
  statement_again at (repeat n b) room ts rest first (mid, w, h) ends =
      keyword_turn keywords.Repeat _ at ts mid _ first w
      (rw (repeat_again n b (statements_again b) room mid rest h) refl)
  statement_again at leave room ts rest first (mid, w, h) ends =
      keyword_turn keywords.Leave _ at ts mid _ first w
      (rw (symbol_again symbols.End mid rest h) refl)

  statements_again : (b : Block) → Again b
  statements_again nothing room n ts mid rest h close lt =
      end_again (block_from room) n ts rest (subst (λ us. IsToken (symbol symbols.Close) us rest)
      (sym h) close) lt
  statements_again (next at s b) room n ts mid rest h close lt =
      next_again (turn_from (block_from room)) (record { at = at; statement = s })
      (statements_of b) n ts h.0 rest
      (statement_again at s room ts h.0 h.1.0 h.1.1
      (statements_end b room h.0 mid rest h.2 close)) (statement_shorter s room ts h.0 h.1.1) lt
      (λ m more. statements_again b room m h.0 mid rest h.2 close more)

pub block_again : (b : Block) (room : ℕ) (ts rest : List Token) → IsBlock b room ts rest
    → block_from room ts ≡ Some (b, rest)
block_again b room ts rest h = block_again_by b (statements_again b) room ts rest h
