-- What is so of the parts of a prefix, as a map has them.
use Rattle.std.proofs.Common.{◌≡◌, ◌<◌, ◌+◌, ◌∙◌, ◌++◌, ◌∷◌, ℕ, Bool, true, false, cond, List, []}
use Rattle.std.proofs.Common.{length, get_or, take, map, refl, ap, sym, subst, bytes_eq, Option}
use Rattle.std.proofs.Common.{Some, Vec, Global}
use Rattle.std.specs.{BTreeMap.{BTreeMap, get_by}, Cmp.Lexicographic.slice_cmp}
use Rattle.std.specs.{List.{All, Contains}, Option.option_map_or, Ordering.nat_cmp}
use Rattle.std.proofs.lemmas.List.{append-nil}
use Rattle.std.proofs.lemmas.List.Elements.{All-contains, All-map, Contains-get_or, filter_more}
use Rattle.std.proofs.lemmas.Slice.Eq.{bytes_eq-Decides}
use denote.Ref.{Bor}
use Rattle.semantics.specs.Waiters.{In}
use Rattle.semantics.proofs.ListMembers.{in_contains, contains_in, in_filter, from_filter, in_map, at_in}
use Rattle.runner_parts.specs.declared.part.Part.{Part}
use Rattle.runner_joining.specs.{Parts.{Tells, Differ}, inner.Lines.{AreByPrefix, parts_under}}

-- the parts that were found of a prefix
abbrev pub lines_of : Option (Vec (Bor Part) Global) → List Part
lines_of o = map (λ x. x.now) (option_map_or (λ g. g.items) o [])

-- what the map has of a prefix
pub lines_are : (parts : List Part) (m : BTreeMap (Bor (List ℕ)) (Vec (Bor Part) Global))
    (q : List ℕ) (o : Option (Vec (Bor Part) Global)) → AreByPrefix parts m →
    o ≡ get_by (λ k. slice_cmp nat_cmp q k.now) m →
    lines_of o ≡ parts_under parts q
lines_are parts m q o h e = ap lines_of e ∙ h q

-- each of them is a part
pub line_in : (parts : List Part) (q : List ℕ) (lines : List (Bor Part)) (k : ℕ) (d : Bor Part) →
    map (λ x. x.now) lines ≡ parts_under parts q → k < length lines →
    Contains parts (get_or lines k d).now
line_in parts q lines k d e l =
    in_contains parts (get_or lines k d).now
    (from_filter (λ (x : Part). bytes_eq x.under.items q) parts (get_or lines k d).now
    (subst (λ xs. In xs (get_or lines k d).now) e
    (in_map (λ (x : Bor Part). x.now) lines (get_or lines k d) (at_in lines k d l)))).0

-- what is so of all of them is so of each part that is under the prefix
pub of_all_lines : (P : Part → Type 0) (parts : List Part) (q : List ℕ)
    (lines : List (Bor Part)) → map (λ x. x.now) lines ≡ parts_under parts q →
    All (λ (x : Bor Part). P x.now) lines → (x : Part) → Contains parts x → x.under.items ≡ q → P x
of_all_lines P parts q lines e h x m at =
    All-contains P (parts_under parts q) x
    (subst (All P) e (All-map P (λ (y : Bor Part). y.now) lines h))
    (in_contains (parts_under parts q) x
    (in_filter (λ (y : Part). bytes_eq y.under.items q) parts x (contains_in parts x m)
    ((bytes_eq-Decides x.under.items q).1 at)))

pub none_tells : (parts : List Part) (q : List ℕ) (bound : Option ℕ) (lines : List (Bor Part)) →
    map (λ x. x.now) lines ≡ parts_under parts q →
    All (λ (x : Bor Part). Tells q bound x.now → ⊥) lines → All (λ x. Tells q bound x → ⊥) parts
none_tells parts q bound lines e h k d l t =
    of_all_lines (λ x. Tells q bound x → ⊥) parts q lines e h (get_or parts k d)
    (Contains-get_or parts k d l) t.under t

pub none_differs : (parts : List Part) (one : Part) (lines : List (Bor Part)) →
    map (λ x. x.now) lines ≡ parts_under parts one.under.items →
    All (λ (x : Bor Part). Differ one x.now → ⊥) lines →
    (x : Part) → Contains parts x → Differ one x → ⊥
none_differs parts one lines e h x m d =
    of_all_lines (λ y. Differ one y → ⊥) parts one.under.items lines e h x m (sym d.under) d

-- one part more, which the map puts to the others of its prefix

under_more : (parts : List Part) (i : ℕ) (x : Part) (key q : List ℕ) → i < length parts →
    x ≡ get_or parts i x → key ≡ x.under.items →
    parts_under (take (i + 1) parts) q
    ≡ parts_under (take i parts) q ++ cond (bytes_eq key q) (x ∷ []) []
under_more parts i x key q l is e =
    filter_more (λ (y : Part). bytes_eq y.under.items q) parts i x l
    ∙ (ap (λ (y : Part).
    parts_under (take i parts) q ++ cond (bytes_eq y.under.items q) (y ∷ []) []) (sym is)
    ∙ ap (λ u. parts_under (take i parts) q ++ cond (bytes_eq u q) (x ∷ []) []) (sym e))

pub lines_more : (parts : List Part) (i : ℕ) (x : Part) (key : List ℕ)
    (m n : BTreeMap (Bor (List ℕ)) (Vec (Bor Part) Global)) (w : Vec (Bor Part) Global) →
    i < length parts → x ≡ get_or parts i x → key ≡ x.under.items → AreByPrefix (take i parts) m →
    ((q : List ℕ) → get_by (λ k. slice_cmp nat_cmp q k.now) n
    ≡ cond (bytes_eq key q) (Some w) (get_by (λ k. slice_cmp nat_cmp q k.now) m)) →
    lines_of (Some w) ≡ lines_of (get_by (λ k. slice_cmp nat_cmp key k.now) m) ++ x ∷ [] →
    AreByPrefix (take (i + 1) parts) n
lines_more parts i x key m n w l is e before sets grown q =
    ap lines_of (sets q) ∙ (go (bytes_eq key q) refl ∙ sym (under_more parts i x key q l is e))
  where
    at : List ℕ → Option (Vec (Bor Part) Global)
    at u = get_by (λ k. slice_cmp nat_cmp u k.now) m

    go : (b : Bool) → bytes_eq key q ≡ b → lines_of (cond b (Some w) (at q))
        ≡ parts_under (take i parts) q ++ cond b (x ∷ []) []
    go true h =
        grown ∙ (ap (λ u. lines_of (at u) ++ x ∷ []) ((bytes_eq-Decides key q).0 h)
        ∙ ap (λ (ys : List Part). ys ++ x ∷ []) (before q))
    go false h = before q ∙ sym (append-nil (parts_under (take i parts) q))
