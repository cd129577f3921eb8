-- What each end of the check answers.
use Rattle.std.proofs.Common.{◌≡◌, ℕ, ◌+◌, ◌<◌, Bool, true, false, List, [], ◌∷◌, ◌++◌, length, get_or, take, drop, map, Option, Some, None, Ok, Err, Vec, Global, refl, sym, ap, ◌∙◌, arith, add-one, ltb, if◌then◌else◌}
use Rattle.std.{specs.Option.option_or, proofs.Math.Seq.take-suc, proofs.lemmas.Bool.ltb-true}
use Rattle.std.proofs.lemmas.List.{map-append, nil_from_length}
use Rattle.guest_syntax.specs.Tree.{declaration_view, thread_view, tree_view, name_view, block_view}
use Rattle.guest_syntax.specs.declared.tree.{Declaration.Declaration, Thread.Thread}
use Rattle.guest_syntax.specs.declared.tree.Tree as code-tree
use Rattle.guest_syntax.specs.Tree as tree
use Rattle.guest_code.specs.Fault.{declares_refusal, first, too_long, no_threads, fault, Refuses}
use Rattle.guest_code.specs.Program.{locals_view}
use Rattle.guest_code.specs.Uses.{Use, kind_of, block_uses, declarations_uses, threads_uses, uses, kind_in, how_many, thread_locals}
use Rattle.guest_code.specs.declared.{error.CheckError.CheckError, kinds.NameKind.NameKind}
use Rattle.guest_code.specs.declared.limits.TheConstants.{THREADS}
use Rattle.guest_code.specs.inner.Walk.{Checked, all_uses, passed, walk, fault_of}
use Rattle.guest_code.proofs.UsesOneByOne.{passed_ok, passed_err, declaration_step, thread_step, threads_left, threads_not, body_leaves}
use Rattle.guest_code.specs.declared.kinds.NameKind.TheVariants as kinds
use Rattle.guest_code.specs.declared.error.CheckError.TheVariants as errors

refuses_same : (d : CheckError) (o : Option CheckError) → o ≡ Some d → Refuses d o
refuses_same errors.OutOfMemory o e = tt
refuses_same _ o e = e

option_or-some : (d : CheckError) (o p : Option CheckError) → o ≡ Some d → option_or o p ≡ Some d
option_or-some d o p e = rw e refl

refuses_or : (d : CheckError) (o p : Option CheckError) → Refuses d o → Refuses d (option_or o p)
refuses_or errors.OutOfMemory o p e = tt
refuses_or d o p e = option_or-some d o p e

option_or-none : (o p : Option CheckError) → o ≡ None → option_or o p ≡ p
option_or-none o p e = rw e refl

-- ---- declarations

pub declaration_goes : (all : List Use) (ds : List Declaration) (i : ℕ) (x : Declaration)
    (k : NameKind) (count : ℕ) (u : Unit {0}) (whole : Option CheckError) → i < length ds
    → x ≡ get_or ds i x
    → k ≡ kind_of x.object → count ≡ how_many k (uses (map declaration_view (take i ds)) [])
    → Ok u ≡ passed
    (declares_refusal k (name_view x.name)
    (kind_in (uses (map declaration_view (take i ds)) []) x.name.text.items) count) u
    → first all (declarations_uses (map declaration_view (take i ds)))
    (declarations_uses (map declaration_view (drop i ds))) ≡ whole
    → first all (declarations_uses (map declaration_view (take (i + 1) ds)))
    (declarations_uses (map declaration_view (drop (i + 1) ds))) ≡ whole
declaration_goes all ds i x k count u whole lt is ke ce ok h =
    let free = passed_ok (declares_refusal (kind_of x.object) (name_view x.name)
    (kind_in (uses (map declaration_view (take i ds)) []) x.name.text.items)
    (how_many (kind_of x.object) (uses (map declaration_view (take i ds)) []))) u
    (rw (ce, ke) at ok) in
    sym (declaration_step all ds i x lt is ∙ option_or-none _ _ free) ∙ h

-- ---- threads

pub names_not : (t : code-tree.Tree) (ds : List tree.Declaration) (u : Unit {0}) (d : CheckError)
    → ds ≡ (tree_view t).declarations
    → Err d ≡ passed (first (all_uses t) [] (declarations_uses ds)) u
    → Refuses d (first (all_uses t) [] (all_uses t))
unfolding all_uses
names_not t ds u d same e = refuses_same d _ (threads_not (all_uses t) (tree_view t).declarations
    (threads_uses (tree_view t).threads) d (passed_err _ u d (rw same at e)))

pub names_begin : (t : code-tree.Tree) (ds : List tree.Declaration) {ts : List tree.Thread}
    (u : Unit {0}) → ds ≡ (tree_view t).declarations → ts ≡ (tree_view t).threads
    → Ok u ≡ passed (first (all_uses t) [] (declarations_uses ds)) u
    → first (all_uses t) (uses ds []) (threads_uses ts) ≡ first (all_uses t) [] (all_uses t)
unfolding all_uses
names_begin t ds u same also e = rw (same, also)
    (sym (threads_left (all_uses t) (tree_view t).declarations
    (threads_uses (tree_view t).threads) (passed_ok _ u (rw same at e))))

-- the refusal of a thread's name, if there is one
abbrev refusal_at : List tree.Declaration → List Thread → ℕ → Thread → Option CheckError
refusal_at ds ts i x = declares_refusal kinds.Thread (name_view x.name)
    (kind_in (uses ds (map thread_view (take i ts))) x.name.text.items) i

-- what the walk of a thread's body comes to
abbrev walked : List Use → Thread → Checked
walked all x = walk all [] (block_uses false (block_view x.body.items))

-- the first refusal from a thread on
abbrev first_from : List Use → List tree.Declaration → List Thread → ℕ → Option CheckError
first_from all ds ts i = first all (uses ds (map thread_view (take i ts)))
    (threads_uses (map thread_view (drop i ts)))

pub thread_not : (all : List Use) (ds : List tree.Declaration) (ts : List Thread) (i : ℕ)
    (x : Thread) (u : Unit {0}) (d : CheckError) (whole : Option CheckError) → i < length ts
    → x ≡ get_or ts i x → Err d ≡ passed (refusal_at ds ts i x) u → first_from all ds ts i ≡ whole
    → Refuses d whole
thread_not all ds ts i x u d whole lt is err h =
    refuses_same d whole
    (sym h ∙ (thread_step all ds ts i x lt is ∙ option_or-some d _ _ (passed_err _ u d err)))

pub body_not : (all : List Use) (ds : List tree.Declaration) (ts : List Thread) (i : ℕ)
    (x : Thread) (u : Unit {0}) (d : CheckError) (whole : Option CheckError) → i < length ts
    → x ≡ get_or ts i x → Ok u ≡ passed (refusal_at ds ts i x) u
    → Refuses d (fault_of (walked all x)) → first_from all ds ts i ≡ whole → Refuses d whole
body_not all ds ts i x u d whole lt is ok err h =
    let same : whole ≡ option_or (fault_of (walked all x)) (first_from all ds ts (i + 1)) = sym h
    ∙ (thread_step all ds ts i x lt is ∙ option_or-none _ _ (passed_ok _ u ok)) in
    rw same (refuses_or d (fault_of (walked all x)) (first_from all ds ts (i + 1)) err)

pub thread_goes : (all : List Use) (ds : List tree.Declaration) (ts : List Thread) (i : ℕ)
    (x : Thread) (u : Unit {0}) (ns : List (List ℕ)) (whole : Option CheckError) → i < length ts
    → x ≡ get_or ts i x → Ok u ≡ passed (refusal_at ds ts i x) u → walked all x ≡ Ok ns
    → first_from all ds ts i ≡ whole → first_from all ds ts (i + 1) ≡ whole
thread_goes all ds ts i x u ns whole lt is ok body h =
    sym (thread_step all ds ts i x lt is
    ∙ (option_or-none _ _ (passed_ok _ u ok) ∙ option_or-none _ _ (ap fault_of body))) ∙ h

pub locals_go : (all : List Use) (vs new : List (Vec (Vec ℕ Global) Global))
    (v : Vec (Vec ℕ Global) Global) (ts : List Thread) (i : ℕ) (x : Thread) → i < length ts
    → x ≡ get_or ts i x → new ≡ vs ++ v ∷ [] → walked all x ≡ Ok (locals_view v)
    → map locals_view vs ≡ map thread_locals (map thread_view (take i ts))
    → map locals_view new ≡ map thread_locals (map thread_view (take (i + 1) ts))
locals_go all vs new v ts i x lt is e body h =
    let here : locals_view v ≡ thread_locals (thread_view x) = body_leaves all (thread_view x)
    (locals_view v) body in
    let mine : map locals_view new ≡ map locals_view vs ++ locals_view v ∷ [] = rw e
    (map-append locals_view vs (v ∷ [])) in
    let takes : map thread_view (take (i + 1) ts) ≡ map thread_view (take i ts) ++ thread_view
    x ∷ [] = rw (add-one, take-suc ts i x, ← is)
    (map-append thread_view (take i ts) (x ∷ [])) in
    mine ∙ (ap (λ (xs : List (List (List ℕ))). xs ++ locals_view v ∷ []) h
    ∙ (ap (λ (y : List (List ℕ)). map thread_locals (map thread_view (take i ts)) ++ y ∷ [])
    here
    ∙ sym (ap (map thread_locals) takes ∙ map-append thread_locals (map thread_view (take i ts))
    (thread_view x ∷ []))))

few_test : (b : Bool) (d : CheckError) → (if b then None else Some d) ≡ None → b ≡ true
few_test true d e = refl
few_test false d e = absurd cc

few_refusal : (n : tree.Name) (o : Option NameKind) (i : ℕ)
    → declares_refusal kinds.Thread n o i ≡ None → i < THREADS
few_refusal n None i e = ltb-true i THREADS (few_test (ltb i THREADS) (errors.TooMany n.at) e)
few_refusal n (Some k) i e = absurd cc

pub few_go : (n : tree.Name) (o : Option NameKind) (i : ℕ) (u : Unit {0})
    → Ok u ≡ passed (declares_refusal kinds.Thread n o i) u → i < THREADS
few_go n o i u e = few_refusal n o i (passed_ok _ u e)

-- ---- the whole tree

pub all_not : (t : code-tree.Tree) (d : CheckError)
    → Refuses d (first (all_uses t) [] (all_uses t)) → Refuses d (fault (tree_view t))
unfolding all_uses
all_not t d e = refuses_or d (first (all_uses t) [] (all_uses t))
    (option_or (no_threads ((tree_view t).threads)) (too_long 0 ((tree_view t).threads))) e

pub none_there : (t : code-tree.Tree) (ts : List Thread)
    → map thread_view ts ≡ (tree_view t).threads → first (all_uses t) [] (all_uses t) ≡ None
    → length ts ≡ 0 → fault (tree_view t) ≡ Some errors.NoThreads
unfolding all_uses
none_there t ts same e l =
    let nil : ts ≡ [] = nil_from_length ts l in
    option_or-none _ _ e ∙ rw (← same, nil) refl

some_there : (ts : List Thread) → 0 < length ts → no_threads (map thread_view ts) ≡ None
some_there [] lt = absurd (omega arith)
some_there (t ∷ ts) lt = refl

pub fault_is : (t : code-tree.Tree) (ts : List Thread)
    → map thread_view ts ≡ (tree_view t).threads → first (all_uses t) [] (all_uses t) ≡ None
    → 0 < length ts → fault (tree_view t) ≡ too_long 0 (map thread_view ts)
unfolding all_uses
fault_is t ts same e lt =
    let some : no_threads (tree_view t).threads ≡ None = ap no_threads (sym same)
    ∙ some_there ts lt in
    option_or-none _ _ e ∙ (option_or-none _ _ some ∙ ap (too_long 0) (sym same))

pub long_not : (t : code-tree.Tree) (ts : List Thread) (u : Unit {0}) (d : CheckError)
    → map thread_view ts ≡ (tree_view t).threads → first (all_uses t) [] (all_uses t) ≡ None
    → 0 < length ts → Err d ≡ passed (too_long 0 (map thread_view ts)) u
    → Refuses d (fault (tree_view t))
long_not t ts u d same e lt err = refuses_same d _ (fault_is t ts same e lt ∙ passed_err _ u d err)

pub all_right : (t : code-tree.Tree) (ts : List Thread) (u : Unit {0})
    → map thread_view ts ≡ (tree_view t).threads → first (all_uses t) [] (all_uses t) ≡ None
    → 0 < length ts → Ok u ≡ passed (too_long 0 (map thread_view ts)) u → fault (tree_view t) ≡ None
all_right t ts u same e lt ok = fault_is t ts same e lt ∙ passed_ok _ u ok
