-- End views, sorted by their order, each once.
use Rattle.std.specs.Prelude.{IsTrue}
use Rattle.std.proofs.Common.{◌≡◌, true≢false, subst, ◌↔◌, ◌⊎◌, inl, inr, ℕ, zero, suc, Bool, true, false, cond, ◌||◌, List, [], ◌∷◌, ◌++◌, length, map, Option, Some, None, is_some, refl, ap, ◌∙◌, sym, arith, ◌+◌, ◌<◌, take, get_or}
use Rattle.std.specs.Cmp.{IsTotalOrder, then_total, on_total, nat_cmp_total, int_cmp_total}
use Rattle.std.specs.Cmp.Lexicographic.{slice_cmp, lists_total}
use Rattle.std.specs.FinMap.{entries, from_entries, get, find, put, entries-insert, get-from_entries, same_map, len-entries, len-empty, empty}
use Rattle.std.specs.FinMap.Entries.{is_some-find, by_order}
use Rattle.std.specs.FinSet.{IsAntisymmetric, slice_cmp-IsAntisymmetric, int_cmp-IsAntisymmetric, nat_cmp-IsAntisymmetric}
use Rattle.std.specs.List.{list_any, Any, Contains, AllByRecursion, AllAdjacentBelow, IsAllAdjacentAnswer}
use Rattle.std.specs.List.Sorted.{IsStrictlySortedBy}
use Rattle.std.specs.Ordering.{nat_cmp, int_cmp, is_eq, is_lt, eq_by_cmp, ordering_then, ordering_reverse}
use Rattle.std.specs.declared.cmp.Ordering.{Ordering, TheVariants.{Less, Equal, Greater}}
use Rattle.std.proofs.{Math.Bool.{or_comm, or_assoc, or-false}, lemmas.Cmp.tied_itself}
use Rattle.std.proofs.lemmas.List.{append_assoc, append-nil, take_more}
use Rattle.std.proofs.lemmas.List.Elements.{Contains-append_left, Contains-append_right, Contains-append_cases}
use Rattle.std.proofs.lemmas.List.Folds.{list_any-append, Any-from_list_any, list_any-from_Any}
use Rattle.semantics.specs.{View.{View, view_cmp, kind_rank}, declared.view.Kind.Kind}
use Rattle.semantics.specs.declared.view.Kind.TheVariants.{Done, Failed, Stuck}
use Rattle.walk_summary.specs.Summaries.{with_view, sorted_views}

pub view_total : IsTotalOrder view_cmp
view_total = then_total (on_total (λ (v : View). kind_rank v.kind) nat_cmp_total)
    (on_total (λ (v : View). v.vars) (lists_total int_cmp_total))

kind_from : ℕ → Kind
kind_from zero = Done
kind_from (suc zero) = Failed
kind_from (suc (suc n)) = Stuck

kind_from-rank : (k : Kind) → kind_from (kind_rank k) ≡ k
unfolding kind_from
kind_from-rank Done = refl
kind_from-rank Failed = refl
kind_from-rank Stuck = refl

then_equal : (a b : Ordering) → ordering_then a b ≡ Equal → (a ≡ Equal) × (b ≡ Equal)
then_equal Less b h = cc
then_equal Equal b h = (refl, h)
then_equal Greater b h = cc

-- views that compare alike are one
pub view_same : IsAntisymmetric view_cmp
view_same v w h =
    let both = then_equal (nat_cmp (kind_rank v.kind) (kind_rank w.kind))
    (slice_cmp int_cmp v.vars w.vars) h in
    let rank : kind_rank v.kind ≡ kind_rank w.kind = nat_cmp-IsAntisymmetric _ _ both.0 in
    let kind : v.kind ≡ w.kind = sym (kind_from-rank v.kind)
    ∙ (ap kind_from rank ∙ kind_from-rank w.kind) in
    let vars : v.vars ≡ w.vars =
    slice_cmp-IsAntisymmetric int_cmp-IsAntisymmetric v.vars w.vars both.1 in
    λ i. record { kind = kind i; vars = vars i }

-- strictly sorted lists

-- each of these is after x
unfoldable pub After : View → List View → Type 0
After x vs = AllByRecursion (λ y. view_cmp x y ≡ Less) vs

after_later : (x y : View) (vs : List View) → view_cmp x y ≡ Less → After y vs → After x vs
unfolding After
after_later x y [] h k = tt
after_later x y (v ∷ vs) h k = (view_total.trans x y v h k.0, after_later x y vs h k.1)

after-with_view : (x v : View) (vs : List View) → view_cmp x v ≡ Less → After x vs →
    After x (with_view v vs)
unfolding After
after-with_view x v [] h k = (h, tt)
after-with_view x v (w ∷ ws) h k =
    elim (view_cmp v w) as (λ o. After x (by_order o (v ∷ w ∷ ws) (w ∷ ws) (w ∷ with_view v ws))) [
      | Less ↦ (h, k)
      | Equal ↦ k
      | Greater ↦ (k.0, after-with_view x v ws h k.1)
    ]

pub with_view-sorted : (v : View) (vs : List View) →
    IsStrictlySortedBy view_cmp vs → IsStrictlySortedBy view_cmp (with_view v vs)
unfolding IsStrictlySortedBy After
with_view-sorted v [] h = (tt, tt)
with_view-sorted v (w ∷ ws) h = go (view_cmp v w) refl (with_view-sorted v ws h.1)
  where
    go : (o : Ordering) → view_cmp v w ≡ o → IsStrictlySortedBy view_cmp (with_view v ws) →
        IsStrictlySortedBy view_cmp (by_order o (v ∷ w ∷ ws) (w ∷ ws) (w ∷ with_view v ws))
    go Less e r = ((e, after_later v w ws e h.0), h)
    go Equal e r = h
    go Greater e r =
        (after-with_view w v ws (view_total.antisymm w v ∙ ap ordering_reverse e) h.0, r)

pub sorted_views-sorted : (vs : List View) → IsStrictlySortedBy view_cmp (sorted_views vs)
unfolding IsStrictlySortedBy
sorted_views-sorted [] = tt
sorted_views-sorted (v ∷ vs) = with_view-sorted v (sorted_views vs) (sorted_views-sorted vs)

-- where each view comes before the next
pub sorted_from_neighbours : (vs : List View)
    → AllAdjacentBelow (λ v w. view_cmp v w ≡ Less) vs (length vs) → IsStrictlySortedBy view_cmp vs
unfolding IsStrictlySortedBy After
sorted_from_neighbours [] h = tt
sorted_from_neighbours (v ∷ []) h = (tt, tt)
sorted_from_neighbours (v ∷ w ∷ ws) h =
    let rest = sorted_from_neighbours (w ∷ ws) (λ k d lt.
    let next : suc k + 1 ≡ suc (k + 1) = omega arith in
    subst (λ n. view_cmp (get_or (w ∷ ws) k d) (get_or (v ∷ w ∷ ws) n d) ≡ Less) next
    (h (suc k) d (omega arith))) in
    let first : view_cmp v w ≡ Less = h 0 v (omega arith) in
    ((first, after_later v w ws first rest.0), rest)

pub neighbours_of_sorted : (vs : List View) → IsStrictlySortedBy view_cmp vs
    → AllAdjacentBelow (λ v w. view_cmp v w ≡ Less) vs (length vs)
unfolding IsStrictlySortedBy
neighbours_of_sorted [] h k d lt = absurd (omega arith)
neighbours_of_sorted (v ∷ []) h k d lt = absurd (omega arith)
neighbours_of_sorted (v ∷ w ∷ ws) h zero d lt = h.0.0
neighbours_of_sorted (v ∷ w ∷ ws) h (suc k) d lt =
    let next : suc (k + 1) ≡ suc k + 1 = omega arith in
    subst (λ n. view_cmp (get_or (w ∷ ws) k d) (get_or (v ∷ w ∷ ws) n d) ≡ Less) next
    (neighbours_of_sorted (w ∷ ws) h.1 k d (omega arith))

is_less : (o : Ordering) → is_lt o ≡ true → o ≡ Less
is_less Less h = refl
is_less Equal h = cc
is_less Greater h = cc

-- what `is_sorted_by` answers
pub sorted_answer : (vs : List View) (sorted : Bool)
    → IsAllAdjacentAnswer (λ v w b. b ≡ is_lt (view_cmp v w)) vs sorted
    → IsTrue sorted ↔ IsStrictlySortedBy view_cmp vs
sorted_answer vs true h =
    (λ yes. sorted_from_neighbours vs (λ k d lt. is_less _ (sym (h k d lt))), λ s. refl)
sorted_answer vs false h =
    let none : View = record { kind = Done; vars = [] } in (
      λ no. absurd (true≢false (sym no)),
      λ s.
          absurd (true≢false (sym (ap is_lt (neighbours_of_sorted vs s h.0 none h.1))
          ∙ sym (h.2 none))),
    )

-- a sorted list is what sorting makes of it
pub sorted_already : (vs : List View) → IsStrictlySortedBy view_cmp vs → sorted_views vs ≡ vs
unfolding IsStrictlySortedBy
sorted_already [] h = refl
sorted_already (v ∷ vs) h = ap (with_view v) (sorted_already vs h.1) ∙ first vs h.0
  where
    first : (vs : List View) → AllByRecursion (λ y. view_cmp v y ≡ Less) vs →
        with_view v vs ≡ v ∷ vs
    first [] k = refl
    first (w ∷ ws) k = rw (k.0) refl

-- the views as the entries of a finite map
entered : List View → List (View × Unit {0})
entered vs = map (λ v. (v, tt)) vs

entered-with_view : (v : View) (ws : List View) →
    entered (with_view v ws) ≡ put view_cmp v tt (entered ws)
unfolding entered
entered-with_view v [] = refl
entered-with_view v (w ∷ ws) =
    elim (view_cmp v w) as
    (λ o. entered (by_order o (v ∷ w ∷ ws) (w ∷ ws) (w ∷ with_view v ws))
    ≡ by_order o ((v, tt) ∷ (w, tt) ∷ entered ws) ((w, tt) ∷ entered ws)
    ((w, tt) ∷ put view_cmp v tt (entered ws))) [
      | Less ↦ refl
      | Equal ↦ refl
      | Greater ↦ ap (λ es. (w, tt) ∷ es) (entered-with_view v ws)
    ]

no_entries : {A : Type 0} (es : List A) → length es ≡ 0 → es ≡ []
no_entries [] h = refl
no_entries (e ∷ es) h = absurd (omega arith)

entered-sorted_views : (vs : List View) →
    entered (sorted_views vs) ≡ entries (from_entries {R = view_cmp} (entered vs))
unfolding entered
entered-sorted_views [] =
    sym (no_entries (entries (empty {R = view_cmp}))
    (sym (len-entries (empty {R = view_cmp})) ∙ len-empty view_cmp (Unit {0})))
entered-sorted_views (v ∷ vs) =
    entered-with_view v (sorted_views vs)
    ∙ (ap (put view_cmp v tt) (entered-sorted_views vs)
    ∙ sym (entries-insert view_total (from_entries (entered vs)) v tt))

views : List (View × Unit {0}) → List View
views es = map (λ e. e.0) es

views-entered : (vs : List View) → views (entered vs) ≡ vs
unfolding views entered
views-entered [] = refl
views-entered (v ∷ vs) = ap (λ ws. v ∷ ws) (views-entered vs)

marks : (o : Option (Unit {0})) → o ≡ cond (is_some o) (Some tt) None
marks None = refl
marks (Some u) = refl

-- whether a list has a view
abbrev is_member : View → List View → Bool
is_member q vs = list_any (eq_by_cmp view_cmp q) vs

-- lists with the same members are one when they are sorted
same_members : (xs ys : List View) → ((q : View) → is_member q xs ≡ is_member q ys) →
    sorted_views xs ≡ sorted_views ys
unfolding views
same_members xs ys h =
    let found : (zs : List View) (q : View) →
    get (from_entries {R = view_cmp} (entered zs)) q ≡ cond (is_member q zs) (Some tt) None =
    λ zs q.
    get-from_entries view_total (entered zs) q
    ∙ (marks (find view_cmp q (entered zs))
    ∙ ap (λ b. cond b (Some tt) None)
    (is_some-find view_cmp q (entered zs) ∙ ap (is_member q) (views-entered zs))) in
    let maps =
    same_map view_total view_same (from_entries {R = view_cmp} (entered xs))
    (from_entries (entered ys)) (λ q.
    found xs q ∙ (ap (λ b. cond b (Some tt) None) (h q) ∙ sym (found ys q))) in
    sym (views-entered (sorted_views xs))
    ∙ (ap views (entered-sorted_views xs ∙ (ap entries maps ∙ sym (entered-sorted_views ys)))
    ∙ views-entered (sorted_views ys))

-- members

or_swap : (a b c : Bool) → (a || (b || c)) ≡ (b || (a || c))
or_swap true true c = refl
or_swap true false c = refl
or_swap false b c = refl

or_twice : (a b : Bool) → (a || (a || b)) ≡ (a || b)
or_twice true b = refl
or_twice false b = refl

any-with_view : (test : View → Bool) (v : View) (ws : List View) →
    list_any test (with_view v ws) ≡ (test v || list_any test ws)
any-with_view test v [] = refl
any-with_view test v (w ∷ ws) =
    elim (view_cmp v w) as
    (λ o. view_cmp v w ≡ o →
    list_any test (by_order o (v ∷ w ∷ ws) (w ∷ ws) (w ∷ with_view v ws))
    ≡ (test v || (test w || list_any test ws))) [
      | Less ↦ λ e. refl
      | Equal ↦ λ e. sym
          (ap (λ b. b || (test w || list_any test ws)) (ap test (view_same v w e))
          ∙ or_twice (test w) (list_any test ws))
      | Greater ↦ λ e. ap (λ b. test w || b) (any-with_view test v ws)
          ∙ or_swap (test w) (test v) (list_any test ws)
    ] refl

any-sorted_views : (test : View → Bool) (vs : List View) →
    list_any test (sorted_views vs) ≡ list_any test vs
any-sorted_views test [] = refl
any-sorted_views test (v ∷ vs) = any-with_view test v (sorted_views vs)
    ∙ ap (λ b. test v || b) (any-sorted_views test vs)

ties : (q v : View) → q ≡ v → eq_by_cmp view_cmp q v ≡ true
ties q v e = ap is_eq (ap (view_cmp q) (sym e) ∙ tied_itself view_total q)

tied : (q v : View) → eq_by_cmp view_cmp q v ≡ true → q ≡ v
tied q v h = go (view_cmp q v) refl h
  where
    go : (o : Ordering) → view_cmp q v ≡ o → is_eq o ≡ true → q ≡ v
    go Less e k = cc
    go Equal e k = view_same q v e
    go Greater e k = cc

member : (vs : List View) (q : View) → Contains vs q → is_member q vs ≡ true
member vs q c = list_any-from_Any (eq_by_cmp view_cmp q) vs (c.0, q, c.1, c.2, ties q q refl)

from_member : (vs : List View) (q : View) → is_member q vs ≡ true → Contains vs q
from_member vs q h =
    let a : Any (λ x. eq_by_cmp view_cmp q x ≡ true) vs =
    Any-from_list_any (eq_by_cmp view_cmp q) vs h in
    let e : q ≡ a.1 = tied q a.1 a.4 in
    (a.0, a.2, ap (get_or vs a.0) e ∙ (a.3 ∙ sym e))

-- sorting keeps the members
pub sorted_views-members : (vs : List View) (q : View) →
    Contains (sorted_views vs) q ↔ Contains vs q
sorted_views-members vs q = (
  λ c. from_member vs q
      (sym (any-sorted_views (eq_by_cmp view_cmp q) vs) ∙ member (sorted_views vs) q c),
  λ c. from_member (sorted_views vs) q (any-sorted_views (eq_by_cmp view_cmp q) vs ∙ member vs q c),
)

-- two lists sorted as one have the members of either
pub sorted_views-either : (K L : List View) (q : View) →
    Contains (sorted_views (K ++ L)) q ↔ (Contains K q ⊎ Contains L q)
sorted_views-either K L q = (
  λ c. Contains-append_cases K L q ((sorted_views-members (K ++ L) q).0 c),
  λ c. (sorted_views-members (K ++ L) q).1 (go c),
)
  where
    go : Contains K q ⊎ Contains L q → Contains (K ++ L) q
    go (inl a) = Contains-append_left K L q a
    go (inr b) = Contains-append_right K L q b

-- two lists sorted as one

pub sorted_views-append : (K L : List View) →
    sorted_views (K ++ L) ≡ sorted_views (sorted_views K ++ sorted_views L)
sorted_views-append K L = same_members (K ++ L) (sorted_views K ++ sorted_views L) (λ q.
    let test : View → Bool = eq_by_cmp view_cmp q in
    list_any-append test K L
    ∙ ((λ i. sym (any-sorted_views test K) i || sym (any-sorted_views test L) i)
    ∙ sym (list_any-append test (sorted_views K) (sorted_views L))))

-- one more view at the end
pub sorted_views-push : (vs : List View) (v : View) →
    sorted_views (vs ++ v ∷ []) ≡ with_view v (sorted_views vs)
sorted_views-push vs v = same_members (vs ++ v ∷ []) (v ∷ vs) (λ q.
    let test : View → Bool = eq_by_cmp view_cmp q in
    list_any-append test vs (v ∷ [])
    ∙ (ap (λ b. list_any test vs || b) (or-false (test v)) ∙ or_comm (list_any test vs) (test v)))

pub sorted_views-comm : (K L : List View) → sorted_views (K ++ L) ≡ sorted_views (L ++ K)
sorted_views-comm K L = same_members (K ++ L) (L ++ K) (λ q.
    let test : View → Bool = eq_by_cmp view_cmp q in
    list_any-append test K L
    ∙ (or_comm (list_any test K) (list_any test L) ∙ sym (list_any-append test L K)))

pub sorted_views-assoc : (K L M : List View) →
    sorted_views (sorted_views (K ++ L) ++ M) ≡ sorted_views (K ++ sorted_views (L ++ M))
sorted_views-assoc K L M =
    same_members (sorted_views (K ++ L) ++ M) (K ++ sorted_views (L ++ M)) (λ q.
    let test : View → Bool = eq_by_cmp view_cmp q in
    list_any-append test (sorted_views (K ++ L)) M
    ∙ (ap (λ b. b || list_any test M) (any-sorted_views test (K ++ L) ∙ list_any-append test K L)
    ∙ (or_assoc (list_any test K) (list_any test L) (list_any test M)
    ∙ (ap (λ b. list_any test K || b)
    (sym (any-sorted_views test (L ++ M) ∙ list_any-append test L M))
    ∙ sym (list_any-append test K (sorted_views (L ++ M)))))))

-- one more view of the second list
pub sorted_views-more : (first second : List View) (i : ℕ) (v : View) → i < length second →
    with_view (get_or second i v) (sorted_views (first ++ take i second))
    ≡ sorted_views (first ++ take (i + 1) second)
sorted_views-more first second i v h =
    sym (sorted_views-push (first ++ take i second) (get_or second i v))
    ∙ ap sorted_views
    (append_assoc first (take i second) (get_or second i v ∷ [])
    ∙ ap (λ vs. first ++ vs) (sym (take_more second i v h)))

any_has : (test : View → Bool) (vs : List View) (i : ℕ) (d : View) → i < length vs →
    (test (get_or vs i d) || list_any test vs) ≡ list_any test vs
any_has test [] i d h = absurd (omega arith)
any_has test (v ∷ vs) zero d h = or_twice (test v) (list_any test vs)
any_has test (v ∷ vs) (suc i) d h =
    or_swap (test (get_or vs i d)) (test v) (list_any test vs)
    ∙ ap (λ b. test v || b) (any_has test vs i d (omega arith))

-- a view that is there changes nothing
pub with_view_there : (v : View) (vs : List View) (i : ℕ) (d : View) →
    IsStrictlySortedBy view_cmp vs → i < length vs → v ≡ get_or vs i d → with_view v vs ≡ vs
with_view_there v vs i d sorted h e =
    ap (with_view v) (sym (sorted_already vs sorted))
    ∙ (same_members (v ∷ vs) vs (λ q.
    ap (λ w. eq_by_cmp view_cmp q w || list_any (eq_by_cmp view_cmp q) vs) e
    ∙ any_has (eq_by_cmp view_cmp q) vs i d h)
    ∙ sorted_already vs sorted)

or_moved : (a b c : Bool) → ((a || b) || c) ≡ (b || (c || (a || false)))
or_moved true true c = refl
or_moved true false true = refl
or_moved true false false = refl
or_moved false true c = refl
or_moved false false true = refl
or_moved false false false = refl

-- a view that goes from the end of one list into the other
pub sorted_views-moved : (v : View) (K L : List View) →
    sorted_views (with_view v K ++ L) ≡ sorted_views (K ++ (L ++ v ∷ []))
sorted_views-moved v K L = same_members (with_view v K ++ L) (K ++ (L ++ v ∷ [])) (λ q.
    let test : View → Bool = eq_by_cmp view_cmp q in
    list_any-append test (with_view v K) L
    ∙ (ap (λ b. b || list_any test L) (any-with_view test v K)
    ∙ (or_moved (test v) (list_any test K) (list_any test L)
    ∙ (ap (λ b. list_any test K || b) (sym (list_any-append test L (v ∷ [])))
    ∙ sym (list_any-append test K (L ++ v ∷ []))))))

-- one more view of the second list that the first one has
pub sorted_views-had : (first second : List View) (i : ℕ) (v : View) → i < length second →
    with_view (get_or second i v) first ≡ first → sorted_views (first ++ take i second) ≡ first →
    sorted_views (first ++ take (i + 1) second) ≡ first
sorted_views-had first second i v h e f =
    sym (sorted_views-more first second i v h) ∙ ap (with_view (get_or second i v)) f ∙ e

-- none of a second list
pub sorted_views-alone : (first : List View) → IsStrictlySortedBy view_cmp first →
    sorted_views (first ++ []) ≡ first
sorted_views-alone first h = ap sorted_views (append-nil first) ∙ sorted_already first h

-- lists of which the same tests hold are sorted as one
pub sorted_views-alike : (xs ys : List View)
    → ((test : View → Bool) → list_any test xs ≡ list_any test ys)
    → sorted_views xs ≡ sorted_views ys
unfolding is_member
sorted_views-alike xs ys h = same_members xs ys (λ q. h (eq_by_cmp view_cmp q))
