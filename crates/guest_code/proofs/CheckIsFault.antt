-- The walk along the uses finds the first refusal in text order.
use Rattle.std.proofs.Common.{◌≡◌, ℕ, ◌+◌, ◌<◌, Bool, List, [], ◌∷◌, ◌++◌, length, get_or, drop, Option, Some, None, Ok, Err, refl, sym, ap, subst, ◌∙◌, append_assoc, add-one, drop-cons}
use Rattle.std.{specs.Option.option_or, proofs.lemmas.List.append-nil}
use Rattle.guest_syntax.specs.{Tree.{stmt_view, block_view}, declared.tree.Placed.Placed}
use Rattle.guest_syntax.proofs.StatementView.{view-placed}
use Rattle.guest_code.specs.Fault.{object_refusal, local_refusal, refusal, first, Refuses}
use Rattle.guest_code.specs.Uses.{Use, declares, object, local, outside, stmt_uses, block_uses, kind_in, with_name, locals_from}
use Rattle.guest_code.specs.declared.error.CheckError.{CheckError, TheVariants.OutOfMemory}
use Rattle.guest_code.specs.inner.Walk.{Checked, passed, and_then, walk, fault_of}
use Rattle.guest_code.proofs.BodiesDeclareNothing.{DeclaresNothing}

-- ---- one part of a walk after the other

-- `and_then` twice
twice : (r : Checked) (f g h : List (List ℕ) → Checked)
    → ((ns : List (List ℕ)) → h ns ≡ and_then (f ns) g) → and_then r h ≡ and_then (and_then r f) g
twice (Ok ns) f g h e = e ns
twice (Err d) f g h e = refl

pub walk_append : (all : List Use) (us vs : List Use) (ns : List (List ℕ))
    → walk all ns (us ++ vs) ≡ and_then (walk all ns us) (λ ms. walk all ms vs)
walk_append all [] vs ns = refl
walk_append all (declares k n ∷ us) vs ns = walk_append all us vs ns
walk_append all (object k n ∷ us) vs ns = twice
    (passed (object_refusal k n (kind_in all n.text)) ns) (λ ms. walk all ms us)
    (λ ms. walk all ms vs) (λ ms. walk all ms (us ++ vs)) (walk_append all us vs)
walk_append all (local n ∷ us) vs ns = twice
    (passed (local_refusal n (kind_in all n.text) ns) (with_name ns n.text))
    (λ ms. walk all ms us) (λ ms. walk all ms vs) (λ ms. walk all ms (us ++ vs))
    (walk_append all us vs)
walk_append all (outside at ∷ us) vs ns = refl

-- a part with no refusal, and then another
pub walk_goes : (all us vs : List Use) (ns ms : List (List ℕ)) → walk all ns us ≡ Ok ms
    → walk all ns (us ++ vs) ≡ walk all ms vs
walk_goes all us vs ns ms e = walk_append all us vs ns
    ∙ ap (λ (r : Checked). and_then r (λ qs. walk all qs vs)) e

-- a part with a refusal
fault_then : (r : Checked) (f : List (List ℕ) → Checked) (d : CheckError) → Refuses d (fault_of r)
    → Refuses d (fault_of (and_then r f))
fault_then (Ok ns) f OutOfMemory h = tt
fault_then (Ok ns) f _ h = absurd cc
fault_then (Err e) f d h = h

pub walk_stops : (all us vs : List Use) (ns : List (List ℕ)) (d : CheckError)
    → Refuses d (fault_of (walk all ns us)) → Refuses d (fault_of (walk all ns (us ++ vs)))
walk_stops all us vs ns d h = rw (walk_append all us vs ns)
    (fault_then (walk all ns us) (λ qs. walk all qs vs) d h)

-- ---- the walk along a list finds the first refusal

pub locals_append : (ns : List (List ℕ)) (us vs : List Use)
    → locals_from ns (us ++ vs) ≡ locals_from (locals_from ns us) vs
locals_append ns [] vs = refl
locals_append ns (declares k n ∷ us) vs = locals_append [] us vs
locals_append ns (object k n ∷ us) vs = locals_append ns us vs
locals_append ns (local n ∷ us) vs = locals_append (with_name ns n.text) us vs
locals_append ns (outside at ∷ us) vs = locals_append ns us vs

option_or-assoc : (o p q : Option CheckError) → option_or o (option_or p q) ≡ option_or
    (option_or o p) q
option_or-assoc (Some e) p q = refl
option_or-assoc None p q = refl

-- one refusal, and then a walk
one_then : (o : Option CheckError) (ms : List (List ℕ)) (f : List (List ℕ) → Checked)
    → option_or o (fault_of (f ms)) ≡ fault_of (and_then (passed o ms) f)
one_then None ms f = refl
one_then (Some e) ms f = refl

pub first_walks : (all before us : List Use) → DeclaresNothing us → first all before us ≡ fault_of
    (walk all (locals_from [] before) us)
first_walks all before [] p = refl
first_walks all before (declares k n ∷ us) p = absurd p
first_walks all before (object k n ∷ us) p =
    ap (option_or (object_refusal k n (kind_in all n.text)))
    (first_walks all (before ++ object k n ∷ []) us p
    ∙ ap (λ (ns : List (List ℕ)). fault_of (walk all ns us))
    (locals_append [] before (object k n ∷ [])))
    ∙ one_then (object_refusal k n (kind_in all n.text)) (locals_from [] before)
    (λ ms. walk all ms us)
first_walks all before (local n ∷ us) p =
    ap (option_or (local_refusal n (kind_in all n.text) (locals_from [] before)))
    (first_walks all (before ++ local n ∷ []) us p
    ∙ ap (λ (ns : List (List ℕ)). fault_of (walk all ns us))
    (locals_append [] before (local n ∷ [])))
    ∙ one_then (local_refusal n (kind_in all n.text) (locals_from [] before))
    (with_name (locals_from [] before) n.text) (λ ms. walk all ms us)
first_walks all before (outside at ∷ us) p = refl

pub first_append : (all before us vs : List Use) → first all before (us ++ vs) ≡ option_or
    (first all before us) (first all (before ++ us) vs)
first_append all before [] vs = rw (append-nil before) refl
first_append all before (u ∷ us) vs =
    ap (option_or (refusal all before u)) (first_append all (before ++ u ∷ []) us vs
    ∙ ap (λ (b : List Use). option_or (first all (before ++ u ∷ []) us) (first all b vs))
    (append_assoc before (u ∷ []) us))
    ∙ option_or-assoc (refusal all before u) (first all (before ++ u ∷ []) us)
    (first all (before ++ (u ∷ us)) vs)

-- the locals that a walk leaves are those of its uses
one_leaves : (o : Option CheckError) (ns ms : List (List ℕ)) (f : List (List ℕ) → Checked)
    → and_then (passed o ns) f ≡ Ok ms → f ns ≡ Ok ms
one_leaves None ns ms f e = e
one_leaves (Some d) ns ms f e = absurd cc

pub walk_leaves : (all us : List Use) (ns ms : List (List ℕ)) → DeclaresNothing us
    → walk all ns us ≡ Ok ms → locals_from ns us ≡ ms
walk_leaves all [] ns ms p e = cc
walk_leaves all (declares k n ∷ us) ns ms p e = absurd p
walk_leaves all (object k n ∷ us) ns ms p e = walk_leaves all us ns ms p
    (one_leaves (object_refusal k n (kind_in all n.text)) ns ms (λ q. walk all q us) e)
walk_leaves all (local n ∷ us) ns ms p e = walk_leaves all us (with_name ns n.text) ms p
    (one_leaves (local_refusal n (kind_in all n.text) ns) (with_name ns n.text) ms
    (λ q. walk all q us) e)
walk_leaves all (outside at ∷ us) ns ms p e = absurd cc

-- ---- blocks

-- the uses of a block from one of its statements on
block_uses_at : (inside : Bool) (ss : List Placed) (i : ℕ) (x : Placed) → i < length ss
    → x ≡ get_or ss i x
    → block_uses inside (block_view (drop i ss))
    ≡ stmt_uses inside x.at (stmt_view x.statement)
    ++ block_uses inside (block_view (drop (i + 1) ss))
block_uses_at inside ss i x lt is = rw (add-one, drop-cons ss i x, ← is, view-placed x) refl

pub block_goes : (all : List Use) (inside : Bool) (ss : List Placed) (i : ℕ) (x : Placed)
    (ns ms : List (List ℕ)) (whole : Checked) → i < length ss → x ≡ get_or ss i x
    → walk all ns (stmt_uses inside x.at (stmt_view x.statement)) ≡ Ok ms
    → walk all ns (block_uses inside (block_view (drop i ss))) ≡ whole
    → walk all ms (block_uses inside (block_view (drop (i + 1) ss))) ≡ whole
block_goes all inside ss i x ns ms whole lt is e h =
    sym (walk_goes all (stmt_uses inside x.at (stmt_view x.statement))
    (block_uses inside (block_view (drop (i + 1) ss))) ns ms e)
    ∙ (ap (walk all ns) (sym (block_uses_at inside ss i x lt is)) ∙ h)

pub block_stops : (all : List Use) (inside : Bool) (ss : List Placed) (i : ℕ) (x : Placed)
    (ns : List (List ℕ)) (d : CheckError) (whole : Checked) → i < length ss → x ≡ get_or ss i x
    → Refuses d (fault_of (walk all ns (stmt_uses inside x.at (stmt_view x.statement))))
    → walk all ns (block_uses inside (block_view (drop i ss))) ≡ whole
    → Refuses d (fault_of whole)
block_stops all inside ss i x ns d whole lt is e h =
    let rest = block_uses inside (block_view (drop (i + 1) ss)) in
    let same : walk all ns (stmt_uses inside x.at (stmt_view x.statement) ++ rest) ≡ whole =
    ap (walk all ns) (sym (block_uses_at inside ss i x lt is)) ∙ h in
    subst (λ (r : Checked). Refuses d (fault_of r)) same
    (walk_stops all (stmt_uses inside x.at (stmt_view x.statement)) rest ns d e)
