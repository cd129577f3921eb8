-- Whole texts: what was read is spelled so, and what is spelled so is read.
use Rattle.std.specs.Prelude.{pos}
use Rattle.std.proofs.Common.{◌≡◌, ℕ, zero, suc, ◌<◌, false, inl, inr, List, [], ◌∷◌, length, Option, Some, None, refl, sym, ap, subst, ◌∙◌, arith}
use Rattle.guest_syntax.specs.Forms.{IsLiteral, IsNumber, IsSymbol, Form, ◌then◌, IsToken, IsName, IsEnd, each}
use Rattle.guest_syntax.specs.Grammar.{IsObject, IsDeclaration, IsThread, IsTree}
use Rattle.guest_syntax.specs.Tokens.{TokenKind, keyword, symbol, Token}
use Rattle.guest_syntax.specs.Tree.{Name, Declaration, Thread, Tree}
use Rattle.guest_syntax.specs.declared.{limits.TheConstants.{DEPTH, COUNT}, token.Keyword.Keyword}
use Rattle.guest_syntax.specs.{declared.tree.Object.Object, reader.Expressions.literal_from}
use Rattle.guest_syntax.specs.reader.{Items.{Turn, many_by, many, all_from}, Reads.Read}
use Rattle.guest_syntax.specs.reader.SingleTokens.{is_bad, next_at, token_at, symbol_from, name_from, number_from}
use Rattle.guest_syntax.specs.reader.Statements.{one_name_from, block_from}
use Rattle.guest_syntax.specs.reader.Trees.{variable_by, variable_from, plain_from, semaphore_from, declaration_by, declaration_next, declaration_turn, thread_from, thread_by, thread_next, thread_turn, tree_from}
use Rattle.guest_syntax.proofs.ExpressionReaders.{literal_takes, literal_again}
use Rattle.guest_syntax.proofs.OptionCases.{bind_some, some_is, cond_no}
use Rattle.guest_syntax.proofs.StatementReaders.{last_takes, one_name_takes, one_name_again, block_takes, block_again, next_again}
use Rattle.guest_syntax.proofs.TakesTokens.{object_shorter, thread_shorter}
use Rattle.guest_syntax.proofs.TokenReaders.{kind_again, kind_takes, symbol_takes, symbol_again, name_takes, name_again, number_takes, number_again}
use Rattle.guest_syntax.specs.declared.token.Keyword.TheVariants as keywords
use Rattle.guest_syntax.specs.declared.token.Symbol.TheVariants as symbols
use Rattle.guest_syntax.specs.declared.tree.Object.TheVariants as objects

-- ---- items in turn

abbrev IsGiven : {A : Type 0} → (A → Form) → Form → Option A → Form
IsGiven F E None = E
IsGiven F E (Some a) = F a

-- what a turn gives is spelled so
abbrev TurnTakes : {A : Type 0} → (A → Form) → Form → Turn A → Type 0
TurnTakes {A} F E turn = (ts : List Token) (x : Option A × List Token) → turn ts ≡ Some x
    → IsGiven F E x.0 ts x.1

many_by_takes : {A : Type 0} (F : A → Form) (E : Form) (more : List Token → Read (List A))
    → ((ts : List Token) (x : List A × List Token) → more ts ≡ Some x → (each F x.0 then E) ts x.1)
    → (o : Option A) (before ts : List Token) (x : List A × List Token) → IsGiven F E o before ts
    → many_by more o ts ≡ Some x → (each F x.0 then E) before x.1
many_by_takes {A = A} F E more ih None before ts x t h =
    subst (λ (y : List A × List Token). (each F y.0 then E) before y.1) (some_is ([], ts) x h)
    (before, refl, t)
many_by_takes {A = A} F E more ih (Some s) before ts x t h =
    let m = bind_some (more ts) _ _ h in
    let r = ih ts m.0 m.1 in
    subst (λ (y : List A × List Token). (each F y.0 then E) before y.1)
    (some_is (s ∷ m.0.0, m.0.1) x m.2) (r.0, (ts, t, r.1), r.2)

many_takes : {A : Type 0} (F : A → Form) (E : Form) (turn : Turn A) → TurnTakes F E turn
    → (n : ℕ) (ts : List Token) (x : List A × List Token) → many turn n ts ≡ Some x
    → (each F x.0 then E) ts x.1
unfolding many
many_takes F E turn ih zero ts x h = absurd cc
many_takes F E turn ih (suc n) ts x h =
    let t = bind_some (turn ts) _ _ h in
    many_by_takes F E (many turn n) (many_takes F E turn ih n) t.0.0 ts t.0.1 x (ih ts t.0 t.1) t.2

all_takes : {A : Type 0} (F : A → Form) (E : Form) (turn : Turn A) → TurnTakes F E turn
    → (ts : List Token) (x : List A × List Token) → all_from turn ts ≡ Some x
    → (each F x.0 then E) ts x.1
unfolding all_from
all_takes F E turn ih ts x h = many_takes F E turn ih (suc (length ts)) ts x h

-- what is spelled so a turn gives
abbrev TurnAgain : {A : Type 0} → (A → Form) → Turn A → Type 0
TurnAgain {A} F turn = (a : A) (ts rest : List Token) → F a ts rest
    → (turn ts ≡ Some (Some a, rest)) × (length rest < length ts)

end_again : {A : Type 0} (turn : Turn A) (n : ℕ) (ts rest : List Token)
    → turn ts ≡ Some (None, rest) → length ts < n → many turn n ts ≡ Some ([], rest)
unfolding many
end_again turn zero ts rest h lt = absurd (omega arith)
end_again turn (suc n) ts rest h lt = rw h refl

each_again : {A : Type 0} (F : A → Form) (turn : Turn A) → TurnAgain F turn
    → (xs : List A) (n : ℕ) (ts mid rest : List Token) → each F xs ts mid
    → turn mid ≡ Some (None, rest) → length ts < n → many turn n ts ≡ Some (xs, rest)
each_again F turn again [] n ts mid rest h e lt = end_again turn n ts rest (ap turn h ∙ e) lt
each_again F turn again (x ∷ xs) n ts mid rest h e lt =
    let one = again x ts h.0 h.1 in
    next_again turn x xs n ts h.0 rest one.0 one.1 lt
    (λ m more. each_again F turn again xs m h.0 mid rest h.2 e more)

all_again : {A : Type 0} (F : A → Form) (turn : Turn A) → TurnAgain F turn
    → (xs : List A) (ts mid rest : List Token) → each F xs ts mid → turn mid ≡ Some (None, rest)
    → all_from turn ts ≡ Some (xs, rest)
unfolding all_from
all_again F turn again xs ts mid rest h e =
    each_again F turn again xs (suc (length ts)) ts mid rest h e (omega arith)

-- ---- declarations

variable_by_takes : (v : Name) (k : TokenKind) (before t1 t2 ts : List Token)
    (x : Declaration × List Token) → IsToken (keyword keywords.Var) before t1 → IsName v t1 t2
    → IsToken k t2 ts → variable_by v k ts ≡ Some x → IsDeclaration x.0 before x.1
variable_by_takes v (symbol symbols.Assign) before t1 t2 ts x w n h e =
    let z = last_takes literal_from IsLiteral literal_takes
    (λ z. record { name = v; object = objects.Variable z }) ts x e in
    subst (λ d. IsDeclaration d before x.1) z.1 (inr (t1, w, (t2, n, (ts, h, z.2))))
variable_by_takes v (symbol symbols.End) before t1 t2 ts x w n h e =
    subst (λ (y : Declaration × List Token). IsDeclaration y.0 before y.1)
    (some_is (record { name = v; object = objects.Variable (pos 0) }, ts) x e)
    (inl (refl, (t1, w, (t2, n, h))))
variable_by_takes v k before t1 t2 ts x w n h e = absurd cc

variable_takes : (before ts : List Token) (x : Declaration × List Token)
    → IsToken (keyword keywords.Var) before ts → variable_from ts ≡ Some x
    → IsDeclaration x.0 before x.1
unfolding variable_from
variable_takes before ts x w e =
    let n = bind_some (name_from ts) _ _ e in
    let t = bind_some (token_at n.0.1) _ _ n.2 in
    variable_by_takes n.0.0 t.0.0.kind before ts n.0.1 t.0.1 x w (name_takes ts n.0 n.1)
    (kind_takes t.0.0.kind n.0.1 t.0 t.1 refl) t.2

plain_takes : (w : Keyword) (o : Object)
    → ((n : Name) (ts rest : List Token) → (IsToken (keyword w) then IsName n then IsEnd) ts rest
    → IsObject n o ts rest)
    → (before ts : List Token) (x : Declaration × List Token) → IsToken (keyword w) before ts
    → plain_from o ts ≡ Some x → IsDeclaration x.0 before x.1
unfolding plain_from
plain_takes w o is before ts x h e =
    let n = bind_some (one_name_from ts) _ _ e in
    subst (λ (y : Declaration × List Token). IsDeclaration y.0 before y.1)
    (some_is (record { name = n.0.0; object = o }, n.0.1) x n.2)
    (is n.0.0 before n.0.1 (ts, h, one_name_takes ts n.0 n.1))

semaphore_takes : (before ts : List Token) (x : Declaration × List Token)
    → IsToken (keyword keywords.Sem) before ts → semaphore_from ts ≡ Some x
    → IsDeclaration x.0 before x.1
unfolding semaphore_from
semaphore_takes before ts x w e =
    let v = bind_some (name_from ts) _ _ e in
    let a = bind_some (symbol_from symbols.Assign v.0.1) _ _ v.2 in
    let n = last_takes (number_from COUNT) (IsNumber COUNT) (number_takes COUNT)
    (λ n. record { name = v.0.0; object = objects.Semaphore n }) a.0 x a.2 in
    let counted : (IsSymbol symbols.Assign then IsNumber COUNT n.0 then IsEnd) v.0.1 x.1 =
    (a.0, symbol_takes symbols.Assign v.0.1 a.0 a.1, n.2) in
    subst (λ d. IsDeclaration d before x.1) n.1 (ts, w, (v.0.1, name_takes ts v.0 v.1, counted))

-- nothing
abbrev Same : Form
Same ts rest = ts ≡ rest

-- the token, or the end
abbrev IsNext : Option Token → Form
IsNext None ts rest = (ts ≡ []) × (rest ≡ [])
IsNext (Some t) ts rest = (is_bad t.kind ≡ false) × (ts ≡ t ∷ rest)

next_takes : (ts : List Token) (x : Option Token × List Token) → next_at ts ≡ Some x
    → IsNext x.0 ts x.1
unfolding next_at
next_takes [] x e = subst (λ (y : Option Token × List Token). IsNext y.0 [] y.1)
    (some_is (None, []) x e) (refl, refl)
next_takes (t ∷ ts) x e =
    let g = cond_no (is_bad t.kind) (Some (Some t, ts)) x e in
    subst (λ (y : Option Token × List Token). IsNext y.0 (t ∷ ts) y.1) (some_is (Some t, ts) x g.1)
    (g.0, refl)

next_kind : (k : TokenKind) (ts rest : List Token) (h : IsToken k ts rest) → is_bad k ≡ false
    → next_at ts ≡ Some (Some (record { kind = k; at = h.0 }), rest)
unfolding next_at
next_kind k ts rest h e = ap next_at h.1 ∙ rw e refl

declaration_by_takes : (k : TokenKind) (before following : List Token)
    (x : Option Declaration × List Token) → IsToken k before following
    → declaration_by k before following ≡ Some x → IsGiven IsDeclaration Same x.0 before x.1
declaration_by_takes (keyword keywords.Var) before following x h e =
    let v = bind_some (variable_from following) _ _ e in
    subst (λ (y : Option Declaration × List Token). IsGiven IsDeclaration Same y.0 before y.1)
    (some_is (Some v.0.0, v.0.1) x v.2) (variable_takes before following v.0 h v.1)
declaration_by_takes (keyword keywords.Mutex) before following x h e =
    let v = bind_some (plain_from objects.Mutex following) _ _ e in
    subst (λ (y : Option Declaration × List Token). IsGiven IsDeclaration Same y.0 before y.1)
    (some_is (Some v.0.0, v.0.1) x v.2) (plain_takes keywords.Mutex objects.Mutex
    (λ n ts rest h. h) before following v.0 h v.1)
declaration_by_takes (keyword keywords.Cond) before following x h e =
    let v = bind_some (plain_from objects.Condition following) _ _ e in
    subst (λ (y : Option Declaration × List Token). IsGiven IsDeclaration Same y.0 before y.1)
    (some_is (Some v.0.0, v.0.1) x v.2) (plain_takes keywords.Cond objects.Condition
    (λ n ts rest h. h) before following v.0 h v.1)
declaration_by_takes (keyword keywords.Sem) before following x h e =
    let v = bind_some (semaphore_from following) _ _ e in
    subst (λ (y : Option Declaration × List Token). IsGiven IsDeclaration Same y.0 before y.1)
    (some_is (Some v.0.0, v.0.1) x v.2) (semaphore_takes before following v.0 h v.1)
declaration_by_takes k before following x h e =
    subst (λ (y : Option Declaration × List Token). IsGiven IsDeclaration Same y.0 before y.1)
    (some_is (None, before) x e) refl

declaration_next_takes : (o : Option Token) (before following : List Token)
    (x : Option Declaration × List Token) → IsNext o before following
    → declaration_next o before following ≡ Some x → IsGiven IsDeclaration Same x.0 before x.1
declaration_next_takes None before following x n e =
    subst (λ (y : Option Declaration × List Token). IsGiven IsDeclaration Same y.0 before y.1)
    (some_is (None, before) x e) refl
declaration_next_takes (Some t) before following x n e =
    declaration_by_takes t.kind before following x (t.at, n.1) e

declaration_turn_takes : TurnTakes IsDeclaration Same declaration_turn
unfolding declaration_turn
declaration_turn_takes ts x e =
    let t = bind_some (next_at ts) _ _ e in
    declaration_next_takes t.0.0 ts t.0.1 x (next_takes ts t.0 t.1) t.2

object_again : (n : Name) (o : Object) (ts rest : List Token) → IsObject n o ts rest
    → declaration_turn ts ≡ Some (Some (record { name = n; object = o }), rest)
unfolding declaration_turn variable_from plain_from semaphore_from
object_again n (objects.Variable z) ts rest (inl (is, (a, w, (b, h, e)))) =
    rw (
      next_kind (keyword keywords.Var) ts a w refl,
      name_again n a b h,
      kind_again (symbol symbols.End) b rest e refl,
      is,
    ) refl
object_again n (objects.Variable z) ts rest (inr (a, w, (b, h, (c, s, (d, l, e))))) =
    rw (
      next_kind (keyword keywords.Var) ts a w refl,
      name_again n a b h,
      kind_again (symbol symbols.Assign) b c s refl,
      literal_again z c d l,
      symbol_again symbols.End d rest e,
    ) refl
object_again n objects.Mutex ts rest (a, w, h) =
    rw (next_kind (keyword keywords.Mutex) ts a w refl, one_name_again n a rest h) refl
object_again n objects.Condition ts rest (a, w, h) =
    rw (next_kind (keyword keywords.Cond) ts a w refl, one_name_again n a rest h) refl
object_again n (objects.Semaphore k) ts rest (a, w, (b, h, (c, s, (d, l, e)))) =
    rw (
      next_kind (keyword keywords.Sem) ts a w refl,
      name_again n a b h,
      symbol_again symbols.Assign b c s,
      number_again COUNT k c d l,
      symbol_again symbols.End d rest e,
    ) refl

declaration_again : TurnAgain IsDeclaration declaration_turn
declaration_again d ts rest h = (
  object_again d.name d.object ts rest h,
  object_shorter d.name d.object ts rest h,
)

-- ---- threads

thread_takes : (before ts : List Token) (x : Thread × List Token)
    → IsToken (keyword keywords.Thread) before ts → thread_from ts ≡ Some x
    → IsThread x.0 before x.1
unfolding thread_from
thread_takes before ts x w e =
    let n = bind_some (name_from ts) _ _ e in
    let b = bind_some (block_from (suc DEPTH) n.0.1) _ _ n.2 in
    subst (λ (y : Thread × List Token). IsThread y.0 before y.1)
    (some_is (record { name = n.0.0; body = b.0.0 }, b.0.1) x b.2)
    (ts, w, (n.0.1, name_takes ts n.0 n.1, block_takes (suc DEPTH) n.0.1 b.0 b.1))

thread_by_takes : (k : TokenKind) (before following : List Token) (x : Option Thread × List Token)
    → IsToken k before following → thread_by k following ≡ Some x
    → IsGiven IsThread (IsNext None) x.0 before x.1
thread_by_takes (keyword keywords.Thread) before following x h e =
    let v = bind_some (thread_from following) _ _ e in
    subst (λ (y : Option Thread × List Token). IsGiven IsThread (IsNext None) y.0 before y.1)
    (some_is (Some v.0.0, v.0.1) x v.2) (thread_takes before following v.0 h v.1)
thread_by_takes k before following x h e = absurd cc

thread_next_takes : (o : Option Token) (before following : List Token)
    (x : Option Thread × List Token) → IsNext o before following → thread_next o following ≡ Some x
    → IsGiven IsThread (IsNext None) x.0 before x.1
thread_next_takes None before following x n e =
    subst (λ (y : Option Thread × List Token). IsGiven IsThread (IsNext None) y.0 before y.1)
    (some_is (None, following) x e) n
thread_next_takes (Some t) before following x n e =
    thread_by_takes t.kind before following x (t.at, n.1) e

thread_turn_takes : TurnTakes IsThread (IsNext None) thread_turn
unfolding thread_turn
thread_turn_takes ts x e =
    let t = bind_some (next_at ts) _ _ e in
    thread_next_takes t.0.0 ts t.0.1 x (next_takes ts t.0 t.1) t.2

thread_read : (t : Thread) (ts rest : List Token) → IsThread t ts rest
    → thread_turn ts ≡ Some (Some t, rest)
unfolding thread_turn thread_from
thread_read t ts rest (a, w, (b, n, h)) =
    rw (
      next_kind (keyword keywords.Thread) ts a w refl,
      name_again t.name a b n,
      block_again t.body (suc DEPTH) b rest h,
    ) refl

thread_again : TurnAgain IsThread thread_turn
thread_again t ts rest h = (thread_read t ts rest h, thread_shorter t ts rest h)

-- ---- the tree

no_declaration_end : declaration_turn [] ≡ Some (None, [])
unfolding declaration_turn next_at
no_declaration_end = refl

-- after the declarations comes a thread or nothing
no_declaration : (xs : List Thread) (ts : List Token) → each IsThread xs ts []
    → declaration_turn ts ≡ Some (None, ts)
unfolding declaration_turn
no_declaration [] ts h = ap declaration_turn h ∙
    (no_declaration_end ∙ ap (λ (us : List Token). Some (None, us)) (sym h))
no_declaration (x ∷ xs) ts (mid, (a, w, h), more) =
    rw (next_kind (keyword keywords.Thread) ts a w refl) refl

no_thread : thread_turn [] ≡ Some (None, [])
unfolding thread_turn next_at
no_thread = refl

pub tree_takes : (ts : List Token) (t : Tree) → tree_from ts ≡ Some t → IsTree t ts
unfolding tree_from
tree_takes ts t e =
    let ds = bind_some (all_from declaration_turn ts) _ _ e in
    let xs = bind_some (all_from thread_turn ds.0.1) _ _ ds.2 in
    let d = all_takes IsDeclaration Same declaration_turn declaration_turn_takes ts ds.0 ds.1 in
    let x = all_takes IsThread (IsNext None) thread_turn thread_turn_takes ds.0.1 xs.0 xs.1 in
    subst (λ t. IsTree t ts) (some_is (record { declarations = ds.0.0; threads = xs.0.0 }) t xs.2) (
      d.0,
      d.1,
      subst (λ us. each IsThread xs.0.0 us []) (sym d.2)
          (subst (λ us. each IsThread xs.0.0 ds.0.1 us) x.2.0 x.1),
    )

pub tree_again : (t : Tree) (ts : List Token) → IsTree t ts → tree_from ts ≡ Some t
unfolding tree_from
tree_again t ts (mid, d, x) =
    rw (
      all_again IsDeclaration declaration_turn declaration_again t.declarations ts mid mid d
          (no_declaration t.threads mid x),
      all_again IsThread thread_turn thread_again t.threads mid [] [] x no_thread,
    ) refl
