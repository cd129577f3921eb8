-- How many of each kind a text without a fault declares, and which numbers they have.
use Rattle.std.proofs.Common.{◌≡◌, ℕ, suc, ◌+◌, ◌<◌, ◌≤◌, Bool, true, false, ltb, List, [], ◌∷◌, ◌++◌, length, Option, Some, None, refl, sym, ap, ◌∙◌, arith, append_assoc, if◌then◌else◌, ◌||◌}
use Rattle.std.specs.{List.cons_option, Option.option_or, Str.bytes_eq}
use Rattle.std.proofs.lemmas.{Bool.ltb-true, List.append-nil}
use Rattle.guest_syntax.specs.{Tree.{Name, Declaration, Thread}, declared.tree.Object.Object}
use Rattle.guest_syntax.specs.declared.tree.Object.TheVariants as objects
use Rattle.guest_code.specs.Code.{object_index, local_index, objects_by, variable_of, mutex_of, condition_of, semaphore_of}
use Rattle.guest_code.specs.Fault.{limit_of, declares_refusal, refusal, first}
use Rattle.guest_code.specs.Uses.{Use, declares, object, local, outside, kind_of, same, block_uses, declarations_uses, threads_uses, uses, kind_in, how_many, knows}
use Rattle.guest_code.specs.declared.{error.CheckError.CheckError, kinds.NameKind.NameKind}
use Rattle.guest_code.proofs.BodiesDeclareNothing.{block_declares_nothing, kind_skips}
use Rattle.guest_code.specs.declared.kinds.NameKind.TheVariants as kinds
use Rattle.guest_code.specs.declared.error.CheckError.TheVariants as errors

-- ---- no refusal

pub or_none : (o p : Option CheckError) → option_or o p ≡ None → (o ≡ None) × (p ≡ None)
or_none None p e = (refl, e)
or_none (Some d) p e = absurd cc

pub same_is : (j k : NameKind) → same j k ≡ true → j ≡ k
same_is kinds.Variable kinds.Variable e = refl
same_is kinds.Mutex kinds.Mutex e = refl
same_is kinds.Condition kinds.Condition e = refl
same_is kinds.Semaphore kinds.Semaphore e = refl
same_is kinds.Thread kinds.Thread e = refl
same_is _ _ e = absurd cc

-- ---- how many of each kind

pub many_append : (k : NameKind) (us vs : List Use) → how_many k (us ++ vs) ≡ how_many k us + how_many
    k vs
many_append k [] vs = omega arith
many_append k (declares j n ∷ us) vs = many_cons (same j k) (how_many k (us ++ vs))
    (how_many k us) (how_many k vs) (many_append k us vs)
  where
    many_cons : (b : Bool) (x y z : ℕ) → x ≡ y + z
        → (if b then suc x else x) ≡ (if b then suc y else y) + z
    many_cons true x y z e = omega (arith, e)
    many_cons false x y z e = e
many_append k (object j n ∷ us) vs = many_append k us vs
many_append k (local n ∷ us) vs = many_append k us vs
many_append k (outside at ∷ us) vs = many_append k us vs

-- a name that may be declared is not one too many
room : (k : NameKind) (n : Name) (o : Option NameKind) (count : ℕ) → declares_refusal k n o count ≡ None
    → count < limit_of k
room k n None count e = ltb-true count (limit_of k) (test (ltb count (limit_of k)) e)
  where
    test : (b : Bool) → (if b then None else Some (errors.TooMany n.at)) ≡ None → b ≡ true
    test true e = refl
    test false e = absurd cc
room k n (Some j) count e = absurd cc

-- one more of kind j
one_more : (j k : NameKind) (n : Name) (before : List Use) → how_many j before < limit_of j
    → how_many k before ≤ limit_of k → how_many k (before ++ declares j n ∷ []) ≤ limit_of k
one_more j k n before lt le = more (same j k) refl
  where
    more : (b : Bool) → same j k ≡ b → how_many k (before ++ declares j n ∷ []) ≤ limit_of k
    more true e = let is : j ≡ k = same_is j k e in
        rw (many_append k before (declares j n ∷ []), e, ← is) (omega (arith, lt))
    more false e = rw (many_append k before (declares j n ∷ []), e) (omega (arith, le))

pub few : (all before us : List Use) (k : NameKind) → first all before us ≡ None
    → how_many k before ≤ limit_of k → how_many k (before ++ us) ≤ limit_of k
few all before [] k e le = rw (append-nil before) le
few all before (u ∷ us) k e le =
    let free = or_none (refusal all before u) (first all (before ++ u ∷ []) us) e in
    rw (← append_assoc before (u ∷ []) us) (few all (before ++ u ∷ []) us k free.1 (one u free.0))
  where
    one : (v : Use) → refusal all before v ≡ None → how_many k (before ++ v ∷ []) ≤ limit_of k
    one (declares j n) r = one_more j k n before
        (room j n (kind_in before n.text) (how_many j before) r) le
    one (object j n) r = omega (arith, le, many_append k before (object j n ∷ []))
    one (local n) r = omega (arith, le, many_append k before (local n ∷ []))
    one (outside at) r = absurd cc

-- ---- as many objects as declarations of their kind

-- one object more of this kind is one more of what it stands for
abbrev CountsOne : {X : Type 0} → (List ℕ → Object → Option X) → NameKind → Type 0
CountsOne {X} of k = (name : List ℕ) (o : Object) (xs : List X) → length
    (cons_option (of name o) xs) ≡ (if same (kind_of o) k then suc (length xs) else length xs)

-- and so they are as many
abbrev CountsAll : {X : Type 0} → (List ℕ → Object → Option X) → NameKind → Type 0
CountsAll of k =
    (ds : List Declaration) → length (objects_by of ds) ≡ how_many k (declarations_uses ds)

objects_many : {X : Type 0} (of : List ℕ → Object → Option X) (k : NameKind) → CountsOne of k
    → CountsAll of k
objects_many of k h [] = refl
objects_many of k h (d ∷ ds) = h d.name.text d.object (objects_by of ds)
    ∙ ap (λ (n : ℕ). if same (kind_of d.object) k then suc n else n) (objects_many of k h ds)

one_variable : CountsOne variable_of kinds.Variable
one_variable name (objects.Variable z) xs = refl
one_variable name o xs = refl

one_mutex : CountsOne mutex_of kinds.Mutex
one_mutex name objects.Mutex xs = refl
one_mutex name o xs = refl

one_condition : CountsOne condition_of kinds.Condition
one_condition name objects.Condition xs = refl
one_condition name o xs = refl

one_semaphore : CountsOne semaphore_of kinds.Semaphore
one_semaphore name (objects.Semaphore n) xs = refl
one_semaphore name o xs = refl

pub many_variables : CountsAll variable_of kinds.Variable
many_variables = objects_many variable_of kinds.Variable one_variable

pub many_mutexes : CountsAll mutex_of kinds.Mutex
many_mutexes = objects_many mutex_of kinds.Mutex one_mutex

pub many_conditions : CountsAll condition_of kinds.Condition
many_conditions = objects_many condition_of kinds.Condition one_condition

pub many_semaphores : CountsAll semaphore_of kinds.Semaphore
many_semaphores = objects_many semaphore_of kinds.Semaphore one_semaphore

-- ---- numbers in range

same_self : (k : NameKind) → same k k ≡ true
same_self kinds.Variable = refl
same_self k = refl

-- threads declare nothing but threads
thread_hit : (hit : Bool) (k : NameKind) (o : Option NameKind) → (if hit then Some kinds.Thread else o)
    ≡ Some k → (o ≡ Some k → k ≡ kinds.Thread) → k ≡ kinds.Thread
thread_hit true k o e h = cc
thread_hit false k o e h = h e

thread_kind : (ts : List Thread) (name : List ℕ) (k : NameKind)
    → kind_in (threads_uses ts) name ≡ Some k → k ≡ kinds.Thread
thread_kind [] name k e = absurd cc
thread_kind (t ∷ ts) name k e =
    thread_hit (bytes_eq t.name.text name) k
    (kind_in (block_uses false t.body ++ threads_uses ts) name) e
    (λ h. thread_kind ts name k
    (sym (kind_skips (block_uses false t.body) (threads_uses ts) name
    (block_declares_nothing false t.body)) ∙ h))

one_object : (hit mine : Bool) (j k : NameKind) (s m : ℕ) (o : Option NameKind) → same j k ≡ mine
    → (if hit then Some j else o) ≡ Some k → (o ≡ Some k → s < m)
    → (if hit then 0 else if mine then suc s else s) < (if mine then suc m else m)
one_object true true j k s m o e f h = omega arith
one_object true false j k s m o e f h = let is : j ≡ k = cc in let t : same k k ≡ true = same_self
    k in absurd cc
one_object false true j k s m o e f h = omega (arith, h f)
one_object false false j k s m o e f h = h f

pub object_index-less : (k : NameKind) (ds : List Declaration) (ts : List Thread) (name : List ℕ)
    → same kinds.Thread k ≡ false → kind_in (uses ds ts) name ≡ Some k
    → object_index k ds name < how_many k (declarations_uses ds)
object_index-less k [] ts name other e = let is : k ≡ kinds.Thread = thread_kind ts name k e in
    let t : same k k ≡ true = same_self k in absurd cc
object_index-less k (d ∷ ds) ts name other e = one_object (bytes_eq d.name.text name)
    (same (kind_of d.object) k) (kind_of d.object) k (object_index k ds name)
    (how_many k (declarations_uses ds)) (kind_in (uses ds ts) name) refl e
    (object_index-less k ds ts name other)

one_local : (hit : Bool) (b : Bool) (p n : ℕ) → (hit || b) ≡ true → (b ≡ true → p < n)
    → (if hit then 0 else suc p) < suc n
one_local true b p n e h = omega arith
one_local false b p n e h = omega (arith, h e)

pub local_index-less : (ns : List (List ℕ)) (name : List ℕ) → knows ns name ≡ true
    → local_index ns name < length ns
local_index-less [] name e = absurd cc
local_index-less (n ∷ ns) name e = one_local (bytes_eq n name) (knows ns name)
    (local_index ns name) (length ns) e (local_index-less ns name)
