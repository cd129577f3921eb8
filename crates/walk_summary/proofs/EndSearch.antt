-- Where an end view stands in a sorted list.
use Rattle.std.specs.Prelude.{insert}
use Rattle.std.proofs.Common.{◌≡◌, ℕ, zero, suc, ◌<◌, ◌≤◌, List, [], ◌∷◌, length, get_or, Result, Ok, Err, refl, ap, ◌∙◌, arith}
use Rattle.std.specs.FinMap.Entries.{by_order}
use Rattle.std.specs.List.Sorted.{IsStrictlySortedBy, IsBinarySearchResult, IsNonDecreasingBy, IsSearchInRange}
use Rattle.std.specs.{Ordering.{ordering_index, ordering_reverse}, declared.cmp.Ordering.Ordering}
use Rattle.std.specs.declared.cmp.Ordering.TheVariants.{Less, Equal, Greater}
use Rattle.semantics.specs.View.{View, view_cmp}
use Rattle.walk_summary.specs.{Summaries.with_view, inner.EndPlaces.IsPlaceOf}
use Rattle.walk_summary.proofs.SortedViews.{After, view_total, view_same, with_view_there}

-- how a view of a list compares with the one that is looked for
abbrev pub seen_from : View → View → Ordering
seen_from v w = ordering_reverse (view_cmp v w)

-- a later one compares no lower
rises : (v w x : View) → view_cmp w x ≡ Less
    → ordering_index (seen_from v w) ≤ ordering_index (seen_from v x)
rises v w x before = go (view_cmp v w) refl
  where
    go : (o : Ordering) → view_cmp v w ≡ o
        → ordering_index (ordering_reverse (view_cmp v w)) ≤ ordering_index
        (ordering_reverse (view_cmp v x))
    go Less e = let f : view_cmp v x ≡ Less =
        view_total.trans v w x e before in rw (e, f) (omega arith)
    go Equal e =
        let f : view_cmp v x ≡ Less = ap (λ u. view_cmp u x) (view_same v w e) ∙ before in
        rw (e, f) (omega arith)
    go Greater e = rw e (omega arith)

rises_along : (v w : View) (ws : List View) (j : ℕ) (d : View) → After w ws → j < length ws
    → ordering_index (seen_from v w) ≤ ordering_index (seen_from v (get_or ws j d))
unfolding After
rises_along v w [] j d h in_range = absurd (omega arith)
rises_along v w (x ∷ ws) zero d h in_range = rises v w x h.0
rises_along v w (x ∷ ws) (suc j) d h in_range = rises_along v w ws j d h.1 (omega arith)

pub comparisons_rise : (v : View) (ends : List View) → IsStrictlySortedBy view_cmp ends
    → IsNonDecreasingBy (λ w. ordering_index (seen_from v w)) ends
unfolding IsStrictlySortedBy After
comparisons_rise v [] h i j d le in_range = absurd (omega arith)
comparisons_rise v (w ∷ ws) h zero zero d le in_range = omega arith
comparisons_rise v (w ∷ ws) h zero (suc j) d le in_range = rises_along v w ws j d h.0 (omega arith)
comparisons_rise v (w ∷ ws) h (suc i) zero d le in_range = absurd (omega arith)
comparisons_rise v (w ∷ ws) h (suc i) (suc j) d le in_range =
    comparisons_rise v ws h.1 i j d (omega arith) (omega arith)

was_greater : (o : Ordering) → ordering_reverse o ≡ Less → o ≡ Greater
was_greater Less h = cc
was_greater Equal h = cc
was_greater Greater h = refl

was_less : (o : Ordering) → ordering_reverse o ≡ Greater → o ≡ Less
was_less Less h = refl
was_less Equal h = cc
was_less Greater h = cc

was_equal : (o : Ordering) → ordering_reverse o ≡ Equal → o ≡ Equal
was_equal Less h = cc
was_equal Equal h = refl
was_equal Greater h = cc

-- a view between those before it and those after it
gap : (v : View) (ends : List View) (at : ℕ) → at ≤ length ends
    → ((k : ℕ) (d : View) → k < at → seen_from v (get_or ends k d) ≡ Less)
    → ((k : ℕ) (d : View) → at ≤ k → k < length ends → seen_from v (get_or ends k d) ≡ Greater)
    → with_view v ends ≡ insert ends at v
gap v [] zero le before after = refl
gap v [] (suc at) le before after = absurd (omega arith)
gap v (w ∷ ws) zero le before after =
    ap (λ o. by_order o (v ∷ w ∷ ws) (w ∷ ws) (w ∷ with_view v ws))
    (was_less (view_cmp v w) (after 0 w (omega arith) (omega arith)))
gap v (w ∷ ws) (suc at) le before after =
    ap (λ o. by_order o (v ∷ w ∷ ws) (w ∷ ws) (w ∷ with_view v ws))
    (was_greater (view_cmp v w) (before 0 w (omega arith)))
    ∙ ap (λ vs. w ∷ vs) (gap v ws at (omega arith)
    (λ k d lt. before (suc k) d (omega arith))
    (λ k d lt more. after (suc k) d (omega arith) (omega arith)))

-- a view that is there
pub found : (v : View) (ends : List View) (i : ℕ) (d : View) → IsStrictlySortedBy view_cmp ends
    → i < length ends → view_cmp v (get_or ends i d) ≡ Equal → with_view v ends ≡ ends
found v ends i d sorted in_range e =
    with_view_there v ends i d sorted in_range (view_same v (get_or ends i d) e)

-- what a binary search for a view answers
pub searched : (v : View) (ends : List View) (place : Result ℕ ℕ) → IsStrictlySortedBy view_cmp ends
    → IsSearchInRange place (length ends) → IsBinarySearchResult (seen_from v) ends place
    → IsPlaceOf v ends place
searched v ends (Ok i) sorted in_range equal =
    (in_range, found v ends i v sorted in_range (was_equal _ (equal v)))
searched v ends (Err i) sorted in_range parted =
    let parts = parted (comparisons_rise v ends sorted) in
    (in_range, gap v ends i in_range (λ k d lt. parts.0 k d (omega arith) lt) parts.1)
