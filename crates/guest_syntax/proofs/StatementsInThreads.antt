-- Each statement is in the text of its thread.
use Rattle.std.proofs.Common.{◌≡◌, ℕ, suc, ◌<◌, List, [], ◌∷◌, ◌++◌, length, All, refl, ap, subst, arith}
use Rattle.std.proofs.lemmas.List.Elements.{All-nil, All-cons}
use Rattle.guest_syntax.specs.Forms.{BeginsAt, each}
use Rattle.guest_syntax.specs.Grammar.{IsStatement, AreStatements, IsBlock, IsDeclaration, IsThread, Spells}
use Rattle.guest_syntax.specs.Place.{start, Before}
use Rattle.guest_syntax.specs.StatementPlaces.{Inside, EachPlace, IsInThread, AreInThreads}
use Rattle.guest_syntax.specs.Tokens.{Token}
use Rattle.guest_syntax.specs.Tree.{Stmt, if_then, if_else, repeat, Block, nothing, next, Thread, Tree}
use Rattle.guest_syntax.specs.declared.{limits.TheConstants.DEPTH, place.Pos.Pos}
use Rattle.guest_syntax.proofs.NoBadTokens.{Clean, Adds, adds_none, adds_then, token_c, expr_c, times_c, block_c, statement_c, statements_c, declaration_c, each_c}
use Rattle.guest_syntax.proofs.TakesTokens.{statement_shorter}
use Rattle.guest_syntax.proofs.TokenOrder.{EachToken, InOrder, in_order, each_further, order_further}

-- tokens in order, all of them after this place
abbrev After : Pos → List Token → Type 0
After q ts = EachToken (Before q) ts × InOrder ts

further : (q : Pos) → {ts rest : List Token} → Adds ts rest → After q ts → After q rest
further q a h = (each_further (Before q) a h.0, order_further a h.1)

-- what is after at least one token is after the first
tail_by : (t : Token) (us rest front : List Token) → t ∷ us ≡ front ++ rest → Clean front
    → length rest < length (t ∷ us) → Adds us rest
tail_by t us rest [] is clean lt = absurd (omega (arith, ap length is))
tail_by t us rest (f ∷ front) is clean lt =
    let tail : us ≡ front ++ rest = cc in
    record { front = front; is = tail; clean = clean.1 }

-- the place of a statement that begins these tokens
at_first : (q at : Pos) (ts mid last : List Token) → BeginsAt at ts → After q ts → Adds ts mid
    → length mid < length ts → Adds mid last → Before q at × EachToken (Before at) last
at_first q at [] mid last first h a lt r = absurd first
at_first q at (t ∷ us) mid last first h a lt r = (
  subst (Before q) first h.0.0,
  each_further (Before at) (adds_then (tail_by t us mid a.front a.is a.clean lt) r)
      (subst (λ p. EachToken (Before p) us) first h.1.0),
)

-- Q holds of the places between a place and the last of the tokens
abbrev Between : (Pos → Type 0) → Pos → List Token → Type 0
Between Q q last = (p : Pos) → Before q p → EachToken (Before p) last → Q p

-- the statements of a block are such places, where all after them is known to end with the last
abbrev Places : (Pos → Type 0) → Pos → List Token → Block → Type 0
Places Q q last b = (room : ℕ) (ts rest : List Token) → AreStatements b room ts rest
    → Adds rest last → After q ts → EachPlace Q b

in_block_by : (Q : Pos → Type 0) (q : Pos) (last : List Token) (b : Block) → Places Q q last b
    → (room : ℕ) (ts rest : List Token) → IsBlock b room ts rest → Adds rest last → After q ts
    → EachPlace Q b
in_block_by Q q last b places room ts rest (less, is, (t1, brace, (t2, inner, close))) r h =
    places less t1 t2 inner (adds_then (token_c _ refl t2 rest close) r)
    (further q (token_c _ refl ts t1 brace) h)

mutual
  inside : (Q : Pos → Type 0) (q : Pos) (last : List Token) → Between Q q last
      → (s : Stmt) (room : ℕ) (ts rest : List Token) → IsStatement s room ts rest → Adds rest last
      → After q ts → Inside Q s
  inside Q q last f (if_then e b) room ts rest (t1, w, (t2, he, hb)) r h =
      in_block_by Q q last b (each_place Q q last f b) room t2 rest hb r
      (further q (adds_then (token_c _ refl ts t1 w) (expr_c e t1 t2 he)) h)
  inside Q q last f (if_else e b c) room ts rest (t1, w, (t2, he, (t3, hb, (t4, v, hc)))) r h =
      let h2 = further q (adds_then (token_c _ refl ts t1 w) (expr_c e t1 t2 he)) h in
      let word = token_c _ refl t3 t4 v in (
        in_block_by Q q last b (each_place Q q last f b) room t2 t3 hb
            (adds_then word (adds_then (block_c c room t4 rest hc) r)) h2,
        in_block_by Q q last c (each_place Q q last f c) room t4 rest hc r
            (further q (adds_then (block_c b room t2 t3 hb) word) h2),
      )
  inside Q q last f (repeat n b) room ts rest (t1, w, (t2, hn, hb)) r h =
      in_block_by Q q last b (each_place Q q last f b) room t2 rest hb r
      (further q (adds_then (token_c _ refl ts t1 w) (times_c n t1 t2 hn)) h)
  inside Q q last f _ room ts rest is r h = tt

  each_place : (Q : Pos → Type 0) (q : Pos) (last : List Token) → Between Q q last → (b : Block)
      → Places Q q last b
  each_place Q q last f nothing room ts rest is r h = tt
  each_place Q q last f (next at s b) room ts rest (mid, (first, hs), hb) r h =
      let one = statement_c s room ts mid hs in
      let more = adds_then (statements_c b room mid rest hb) r in
      let shorter = statement_shorter s room ts mid hs in
      let here = at_first q at ts mid last first h one shorter more in (
        f at here.0 here.1,
        inside Q q last f s room ts mid hs more h,
        each_place Q q last f b room mid rest hb r (further q one h),
      )

-- ---- threads

-- the names of threads are among their tokens
names_of : (P : Pos → Type 0) (us : List Thread) (ts : List Token) → each IsThread us ts []
    → EachToken P ts → All (λ u. P u.name.at) us
names_of P [] ts is h = All-nil (λ (u : Thread). P u.name.at)
names_of P (u ∷ us) ts (mid, (t1, w, (t2, n, b)), more) h =
    let named = subst (EachToken P) n (each_further P (token_c _ refl ts t1 w) h) in
    All-cons (λ (u : Thread). P u.name.at) u us named.0
    (names_of P us mid more (each_further P (block_c u.body (suc DEPTH) t2 mid b) named.1))

threads_in : (us : List Thread) (ts : List Token) → each IsThread us ts [] → InOrder ts
    → AreInThreads us
threads_in [] ts is h = tt
threads_in (u ∷ us) ts (mid, (t1, w, (t2, n, b)), more) h =
    let named = subst InOrder n (order_further (token_c _ refl ts t1 w) h) in (
      in_block_by (IsInThread u us) u.name.at mid u.body
          (each_place (IsInThread u us) u.name.at mid
          (λ p after later. (after, names_of (Before p) us mid more later)) u.body) (suc DEPTH) t2
          mid b (adds_none mid mid refl) named,
      threads_in us mid more (order_further (block_c u.body (suc DEPTH) t2 mid b) named.1),
    )

pub are_in_threads : (text : List ℕ) (t : Tree) → Spells text t → AreInThreads t.threads
are_in_threads text t s =
    let mid = s.tree.0 in
    threads_in t.threads mid s.tree.2
    (order_further (each_c IsDeclaration declaration_c t.declarations s.tokens mid s.tree.1)
    (in_order start text s.tokens s.spelt).1)
