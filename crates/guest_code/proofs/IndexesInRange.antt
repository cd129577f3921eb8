-- Code of statements whose names are right has its numbers in range.
use Rattle.std.proofs.Common.{◌≡◌, ℕ, zero, suc, ◌+◌, ◌*◌, ◌<◌, ◌≤◌, Bool, true, false, ltb, List, [], ◌∷◌, ◌++◌, length, Option, Some, None, Ok, refl, sym, ap, ◌∙◌, arith, if◌then◌else◌, ◌||◌, length-append}
use Rattle.std.{specs.List.All, specs.Str.bytes_eq, proofs.lemmas.Bool.ltb-true}
use Rattle.std.proofs.lemmas.List.Elements.{All-append, All-cons, All-nil}
use Rattle.std.proofs.lemmas.Slice.Eq.{bytes_eq-Decides}
use Rattle.guest_syntax.specs.{Tree.{Name, Operand, Expr, Stmt, Block}, declared.place.Pos.Pos}
use Rattle.guest_syntax.specs.Tree as tree
use Rattle.guest_code.specs.Code.{Names, object_index, local_number, value_of, expression_of, stmt_code, block_code, unrolled}
use Rattle.guest_code.specs.Fault.{object_refusal, local_refusal}
use Rattle.guest_code.specs.Program.{Program, IsValidValue, IsValidExpression, IsValid, IsValueBelow, IsExpressionBelow, LocalsBelow}
use Rattle.guest_code.specs.Sizes.{block_size}
use Rattle.guest_code.specs.Uses.{Use, declares, object, local, outside, same, operand_uses, expr_uses, stmt_uses, block_uses, kind_in, knows, with_name, locals_from}
use Rattle.guest_code.specs.declared.{error.CheckError.CheckError, kinds.NameKind.NameKind}
use Rattle.guest_code.specs.declared.{limits.TheConstants.LOCALS, program.Instruction.Instruction}
use Rattle.guest_code.specs.declared.program.Instruction.TheVariants.{SkipIfZero, Skip}
use Rattle.guest_code.specs.inner.Walk.{Checked, passed, and_then, walk}
use Rattle.guest_code.proofs.{BodiesDeclareNothing.DeclaresNothing, CheckIsFault.walk_leaves}
use Rattle.guest_code.proofs.DeclarationCounts.{same_is, local_index-less}
use Rattle.guest_code.specs.declared.kinds.NameKind.TheVariants as kinds
use Rattle.guest_code.specs.declared.error.CheckError.TheVariants as errors

-- ---- names that are right

-- each name of these uses is declared as what must be there, with these locals
abbrev pub Right : List Use → List (List ℕ) → List Use → Type 0
Right all ns [] = Unit {0}
Right all ns (declares k n ∷ us) = Right all ns us
Right all ns (object k n ∷ us) = (kind_in all n.text ≡ Some k) × Right all ns us
Right all ns (local n ∷ us) = (knows ns n.text ≡ true) × Right all ns us
Right all ns (outside at ∷ us) = Right all ns us

pub right_front : (all : List Use) (ns : List (List ℕ)) (us vs : List Use)
    → Right all ns (us ++ vs) → Right all ns us
right_front all ns [] vs r = tt
right_front all ns (declares k n ∷ us) vs r = right_front all ns us vs r
right_front all ns (object k n ∷ us) vs r = (r.0, right_front all ns us vs r.1)
right_front all ns (local n ∷ us) vs r = (r.0, right_front all ns us vs r.1)
right_front all ns (outside at ∷ us) vs r = right_front all ns us vs r

pub right_back : (all : List Use) (ns : List (List ℕ)) (us vs : List Use)
    → Right all ns (us ++ vs) → Right all ns vs
right_back all ns [] vs r = r
right_back all ns (declares k n ∷ us) vs r = right_back all ns us vs r
right_back all ns (object k n ∷ us) vs r = right_back all ns us vs r.1
right_back all ns (local n ∷ us) vs r = right_back all ns us vs r.1
right_back all ns (outside at ∷ us) vs r = right_back all ns us vs r

-- ---- what a walk with no refusal leaves

-- a name that is known stays known
or_true : (a : Bool) → (a || true) ≡ true
or_true true = refl
or_true false = refl

knows_front : (ns : List (List ℕ)) (m name : List ℕ) → knows ns name ≡ true
    → knows (ns ++ m ∷ []) name ≡ true
knows_front [] m name e = absurd cc
knows_front (n ∷ ns) m name e = go (bytes_eq n name) (knows ns name) (knows (ns ++ m ∷ []) name) e
    (knows_front ns m name)
  where
    go : (a b c : Bool) → (a || b) ≡ true → (b ≡ true → c ≡ true) → (a || c) ≡ true
    go true b c e h = refl
    go false b c e h = h e

knows_last : (ns : List (List ℕ)) (name : List ℕ) → knows (ns ++ name ∷ []) name ≡ true
knows_last [] name = let itself : bytes_eq name name ≡ true = (bytes_eq-Decides name name).1
    refl in rw itself refl
knows_last (n ∷ ns) name = rw (knows_last ns name) (or_true (bytes_eq n name))

with_more : (ns : List (List ℕ)) (m name : List ℕ) → knows ns name ≡ true
    → knows (with_name ns m) name ≡ true
with_more ns m name e = go (knows ns m)
  where
    go : (b : Bool) → knows (if b then ns else ns ++ m ∷ []) name ≡ true
    go true = e
    go false = knows_front ns m name e

with_itself : (ns : List (List ℕ)) (name : List ℕ) → knows (with_name ns name) name ≡ true
with_itself ns name = go (knows ns name) refl
  where
    go : (b : Bool) → knows ns name ≡ b → knows (if b then ns else ns ++ name ∷ []) name ≡ true
    go true e = e
    go false e = knows_last ns name

stays : (us : List Use) (ns : List (List ℕ)) (name : List ℕ) → DeclaresNothing us
    → knows ns name ≡ true → knows (locals_from ns us) name ≡ true
stays [] ns name p e = e
stays (declares k n ∷ us) ns name p e = absurd p
stays (object k n ∷ us) ns name p e = stays us ns name p e
stays (local n ∷ us) ns name p e = stays us (with_name ns n.text) name p
    (with_more ns n.text name e)
stays (outside at ∷ us) ns name p e = stays us ns name p e

-- what passed had no refusal
passed_then : (o : Option CheckError) (ns ms : List (List ℕ)) (f : List (List ℕ) → Checked)
    → and_then (passed o ns) f ≡ Ok ms → (o ≡ None) × (f ns ≡ Ok ms)
passed_then None ns ms f e = (refl, e)
passed_then (Some d) ns ms f e = absurd cc

object_right : (k : NameKind) (n : Name) (o : Option NameKind) → object_refusal k n o ≡ None → o ≡ Some k
object_right k n None e = absurd cc
object_right k n (Some j) e = ap (λ (i : NameKind). Some i) (same_is j k (go (same j k) e))
  where
    go : (b : Bool) → (if b then None else Some (errors.WrongKind n.at)) ≡ None → b ≡ true
    go true e = refl
    go false e = absurd cc

pub walk_right : (all us : List Use) (ns ms : List (List ℕ)) → DeclaresNothing us
    → walk all ns us ≡ Ok ms → Right all ms us
walk_right all [] ns ms p e = tt
walk_right all (declares k n ∷ us) ns ms p e = absurd p
walk_right all (object k n ∷ us) ns ms p e =
    let h = passed_then (object_refusal k n (kind_in all n.text)) ns ms (λ q. walk all q us) e in
    (object_right k n (kind_in all n.text) h.0, walk_right all us ns ms p h.1)
walk_right all (local n ∷ us) ns ms p e =
    let h = passed_then (local_refusal n (kind_in all n.text) ns) (with_name ns n.text) ms
    (λ q. walk all q us) e in
    let left : locals_from (with_name ns n.text) us ≡ ms = walk_leaves all us
    (with_name ns n.text) ms p h.1 in (
      ap (λ (l : List (List ℕ)). knows l n.text) (sym left)
          ∙ stays us (with_name ns n.text) n.text p (with_itself ns n.text),
      walk_right all us
          (with_name ns n.text) ms p h.1,
    )
walk_right all (outside at ∷ us) ns ms p e = absurd cc

-- no more locals than the limit
with_few : (n : Name) (o : Option NameKind) (ns : List (List ℕ)) → local_refusal n o ns ≡ None
    → length ns ≤ LOCALS → length (with_name ns n.text) ≤ LOCALS
with_few n (Some j) ns e le = absurd cc
with_few n None ns e le = go (knows ns n.text) e
  where
    small : (b : Bool) → (if b then None else Some (errors.TooMany n.at)) ≡ None → b ≡ true
    small true e = refl
    small false e = absurd cc

    go : (b : Bool)
        → (if b then None else if ltb (length ns) LOCALS then None else Some
        (errors.TooMany n.at)) ≡ None → length (if b then ns else ns ++ n.text ∷ []) ≤ LOCALS
    go true e = le
    go false e = omega (
      arith,
      ltb-true (length ns) LOCALS (small (ltb (length ns) LOCALS) e),
      length-append ns (n.text ∷ []),
    )

pub walk_few : (all us : List Use) (ns ms : List (List ℕ)) → DeclaresNothing us
    → walk all ns us ≡ Ok ms → length ns ≤ LOCALS → length ms ≤ LOCALS
walk_few all [] ns ms p e le = let is : ns ≡ ms = cc in rw (← is) le
walk_few all (declares k n ∷ us) ns ms p e le = absurd p
walk_few all (object k n ∷ us) ns ms p e le = walk_few all us ns ms p
    (passed_then (object_refusal k n (kind_in all n.text)) ns ms (λ q. walk all q us) e).1 le
walk_few all (local n ∷ us) ns ms p e le =
    let h = passed_then (local_refusal n (kind_in all n.text) ns) (with_name ns n.text) ms
    (λ q. walk all q us) e in
    walk_few all us (with_name ns n.text) ms p h.1 (with_few n (kind_in all n.text) ns h.0 le)
walk_few all (outside at ∷ us) ns ms p e le = absurd cc

-- ---- code

-- the names of a thread have numbers in the range of the program
pub record NamesInRange (p : Program) (ns : Names) (all : List Use) : Type 0 where
  pub locals : length ns.locals ≤ LOCALS
  pub variable : (name : List ℕ) → kind_in all name ≡ Some kinds.Variable
      → object_index kinds.Variable ns.declarations name < length p.variables
  pub mutex : (name : List ℕ) → kind_in all name ≡ Some kinds.Mutex
      → object_index kinds.Mutex ns.declarations name < length p.mutexes
  pub condition : (name : List ℕ) → kind_in all name ≡ Some kinds.Condition
      → object_index kinds.Condition ns.declarations name < length p.conditions
  pub semaphore : (name : List ℕ) → kind_in all name ≡ Some kinds.Semaphore
      → object_index kinds.Semaphore ns.declarations name < length p.semaphores

-- an instruction is valid in a program, and names only locals below a number
abbrev pub IsInRange : Program → ℕ → Instruction → Type 0
IsInRange p n i = IsValid p i × LocalsBelow n i

local_in_range : (p : Program) (ns : Names) (all : List Use) (g : NamesInRange p ns all)
    (r : Name) → knows ns.locals r.text ≡ true
    → (local_number ns r < LOCALS) × (local_number ns r < length ns.locals)
local_in_range p ns all g r e = let less = local_index-less ns.locals r.text e in
    (omega (arith, less, g.locals), less)

value_in_range : (p : Program) (ns : Names) (all : List Use) (g : NamesInRange p ns all)
    (a : Operand) → Right all ns.locals (operand_uses a)
    → IsValidValue (value_of ns a) × IsValueBelow (length ns.locals) (value_of ns a)
value_in_range p ns all g (tree.local n) r = local_in_range p ns all g n r.0
value_in_range p ns all g (tree.literal z) r = (tt, tt)

expression_in_range : (p : Program) (ns : Names) (all : List Use) (g : NamesInRange p ns all)
    (e : Expr) → Right all ns.locals (expr_uses e) → IsValidExpression (expression_of ns e)
    × IsExpressionBelow (length ns.locals) (expression_of ns e)
expression_in_range p ns all g (tree.single a) r = value_in_range p ns all g a r
expression_in_range p ns all g (tree.both a op b) r =
    let u = value_in_range p ns all g a
    (right_front all ns.locals (operand_uses a) (operand_uses b) r) in
    let v = value_in_range p ns all g b
    (right_back all ns.locals (operand_uses a) (operand_uses b) r) in
    ((u.0, v.0), (u.1, v.1))

only : (p : Program) (n : ℕ) (i : Instruction) → IsInRange p n i → All (IsInRange p n) (i ∷ [])
only p n i f = All-cons (IsInRange p n) i [] f (All-nil (IsInRange p n))

unrolled_in_range : (p : Program) (m : ℕ) (body : ℕ → List Instruction) (len n : ℕ)
    → ((k : ℕ) → All (IsInRange p m) (body k)) → All (IsInRange p m) (unrolled body len n)
unrolled_in_range p m body len zero h = All-nil (IsInRange p m)
unrolled_in_range p m body len (suc n) h = All-append (IsInRange p m) (body (n * len))
    (unrolled body len n) (h (n * len)) (unrolled_in_range p m body len n h)

mutual
  pub stmt_in_range : (p : Program) (ns : Names) (all : List Use) (g : NamesInRange p ns all)
      (inside : Bool) (at : Pos) (s : Stmt) (exit : ℕ)
      → Right all ns.locals (stmt_uses inside at s)
      → All (IsInRange p (length ns.locals)) (stmt_code ns s exit)
  stmt_in_range p ns all g inside at (tree.load r x) exit h =
      let l = local_in_range p ns all g r h.0 in
      only p _ _ ((l.0, g.variable x.text h.1.0), l.1)
  stmt_in_range p ns all g inside at (tree.store x a) exit h =
      let v = value_in_range p ns all g a h.1 in
      only p _ _ ((g.variable x.text h.0, v.0), v.1)
  stmt_in_range p ns all g inside at (tree.add r x a) exit h =
      let l = local_in_range p ns all g r h.0 in
      let v = value_in_range p ns all g a h.1.1 in
      only p _ _ ((l.0, g.variable x.text h.1.0, v.0), (l.1, v.1))
  stmt_in_range p ns all g inside at (tree.cas r x a b) exit h =
      let l = local_in_range p ns all g r h.0 in
      let u = value_in_range p ns all g a
      (right_front all ns.locals (operand_uses a) (operand_uses b) h.1.1) in
      let v = value_in_range p ns all g b
      (right_back all ns.locals (operand_uses a) (operand_uses b) h.1.1) in
      only p _ _ ((l.0, g.variable x.text h.1.0, u.0, v.0), (l.1, u.1, v.1))
  stmt_in_range p ns all g inside at (tree.lock m) exit h = only p _ _ (g.mutex m.text h.0, tt)
  stmt_in_range p ns all g inside at (tree.unlock m) exit h = only p _ _ (g.mutex m.text h.0, tt)
  stmt_in_range p ns all g inside at (tree.wait c m) exit h = only p _ _
      ((g.condition c.text h.0, g.mutex m.text h.1.0), tt)
  stmt_in_range p ns all g inside at (tree.signal c) exit h = only p _ _
      (g.condition c.text h.0, tt)
  stmt_in_range p ns all g inside at (tree.broadcast c) exit h = only p _ _
      (g.condition c.text h.0, tt)
  stmt_in_range p ns all g inside at (tree.acquire s) exit h = only p _ _
      (g.semaphore s.text h.0, tt)
  stmt_in_range p ns all g inside at (tree.release s) exit h = only p _ _
      (g.semaphore s.text h.0, tt)
  stmt_in_range p ns all g inside at (tree.set r e) exit h =
      let l = local_in_range p ns all g r h.0 in
      let v = expression_in_range p ns all g e h.1 in
      only p _ _ ((l.0, v.0), (l.1, v.1))
  stmt_in_range p ns all g inside at (tree.assert e) exit h = only p _ _
      (expression_in_range p ns all g e h)
  stmt_in_range p ns all g inside at (tree.if_then e b) exit h =
      let test = expression_in_range p ns all g e
      (right_front all ns.locals (expr_uses e) (block_uses inside b) h) in
      let body = block_in_range p ns all g inside b exit
      (right_back all ns.locals (expr_uses e) (block_uses inside b) h) in
      All-cons (IsInRange p (length ns.locals)) (SkipIfZero (expression_of ns e) (block_size b))
      (block_code ns b exit) test body
  stmt_in_range p ns all g inside at (tree.if_else e b c) exit h =
      let test = expression_in_range p ns all g e
      (right_front all ns.locals (expr_uses e) (block_uses inside b ++ block_uses inside c)
      h) in
      let bodies = right_back all ns.locals (expr_uses e)
      (block_uses inside b ++ block_uses inside c) h in
      let yes = block_in_range p ns all g inside b (exit + 1 + block_size c)
      (right_front all ns.locals (block_uses inside b) (block_uses inside c) bodies) in
      let other = block_in_range p ns all g inside c exit
      (right_back all ns.locals (block_uses inside b) (block_uses inside c) bodies) in
      let rest = All-cons (IsInRange p (length ns.locals)) (Skip (block_size c))
      (block_code ns c exit) (tt, tt) other in
      All-cons (IsInRange p (length ns.locals))
      (SkipIfZero (expression_of ns e) (block_size b + 1))
      (block_code ns b (exit + 1 + block_size c)
      ++ (Skip (block_size c) ∷ block_code ns c exit)) test
      (All-append (IsInRange p (length ns.locals)) (block_code ns b (exit + 1 + block_size c))
      (Skip (block_size c) ∷ block_code ns c exit) yes rest)
  stmt_in_range p ns all g inside at (tree.repeat n b) exit h = unrolled_in_range p _
      (block_code ns b) (block_size b) n (λ k. block_in_range p ns all g true b k h)
  stmt_in_range p ns all g inside at tree.leave exit h = only p _ (Skip exit) (tt, tt)

  pub block_in_range : (p : Program) (ns : Names) (all : List Use) (g : NamesInRange p ns all)
      (inside : Bool) (b : Block) (exit : ℕ) → Right all ns.locals (block_uses inside b)
      → All (IsInRange p (length ns.locals)) (block_code ns b exit)
  block_in_range p ns all g inside tree.nothing exit h = All-nil (IsInRange p (length ns.locals))
  block_in_range p ns all g inside (tree.next at s b) exit h =
      All-append (IsInRange p (length ns.locals)) (stmt_code ns s (exit + block_size b))
      (block_code ns b exit)
      (stmt_in_range p ns all g inside at s (exit + block_size b)
      (right_front all ns.locals (stmt_uses inside at s) (block_uses inside b) h))
      (block_in_range p ns all g inside b exit
      (right_back all ns.locals (stmt_uses inside at s) (block_uses inside b) h))
