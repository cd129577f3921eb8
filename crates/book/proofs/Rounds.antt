-- The items of a round, walked one after another where they stand.
use Rattle.std.proofs.Common.{◌≡◌, ℕ, zero, suc, ◌+◌, ◌-◌, ◌<◌, ◌≤◌, min, Bool, true, false, not, ◌&&◌, List, [], ◌∷◌, ◌++◌, length, take, drop, Some, slice_get, ap, ◌∙◌, sym, arith, subst, refl, append_assoc, replicate, All, length-drop}
use Rattle.std.proofs.lemmas.List.{take-append-drop, length-take-le}
use Rattle.std.proofs.lemmas.List.Elements.{All-nil, All-cons, All-head, All-tail}
use Rattle.walk_summary.specs.Summaries.{SummaryView, nothing, join}
use Rattle.walk_items.specs.{Items.ItemView, Walks.WalkView}
use Rattle.walk.specs.{Founds.HasAdded, declared.found.Found.Found}
use Rattle.book.specs.Books.{BookView, Keeps, IsOpenAt, AreOpenAt, AreWithin, AreWalksAt, HaveFound, IsWithinQuota, HasWalkedRound, places_from, remove_each, taken_in}
use Rattle.book.specs.declared.limits.TheConstants.{ROUND}
use Rattle.book.proofs.Gathered.{none_found, one_more_found, settled_together}
use Rattle.book.proofs.{Lists.{at_front, open_within}, OpenItems.{open_of, open_own}}

-- walks of n open items from a place on, each up to a quota, found this
pub record IsFoundFrom (b : BookView) (first n quota : ℕ) (f : Found) : Type 0 where
  pub found : HaveFound b.of.program b.mode b.open_items (places_from first n) f
  pub within : All (IsWithinQuota quota) found.walks

one_place_more : (first n : ℕ) → places_from first n ++ (first + n) ∷ [] ≡ places_from first (suc n)
one_place_more first zero = λ k. (let e : first + 0 ≡ first = omega arith in e) k ∷ []
one_place_more first (suc n) =
    ap (λ ks. first ∷ ks)
    ((λ k. places_from (suc first) n
    ++ (let e : first + suc n ≡ suc first + n = omega arith in e) k ∷ [])
    ∙ one_place_more (suc first) n)

within_more : (quota : ℕ) (ws : List WalkView) (w : WalkView) → All (IsWithinQuota quota) ws →
    IsWithinQuota quota w → All (IsWithinQuota quota) (ws ++ w ∷ [])
within_more quota [] w h l = All-cons (IsWithinQuota quota) w [] l (All-nil (IsWithinQuota quota))
within_more quota (x ∷ ws) w h l =
    All-cons (IsWithinQuota quota) x (ws ++ w ∷ []) (All-head (IsWithinQuota quota) x ws h)
    (within_more quota ws w (All-tail (IsWithinQuota quota) x ws h) l)

pub round_begins : (b : BookView) (first n quota : ℕ) (f : Found) → n ≡ 0 → f.part ≡ nothing →
    f.rest.items ≡ [] → f.deferred ≡ [] → IsFoundFrom b first n quota f
round_begins b first (suc n) quota f none part rest deferred = absurd (omega (arith, none))
round_begins b first zero quota f none part rest deferred = record {
  found = none_found b.of.program b.mode b.open_items f part rest deferred;
  within = All-nil (IsWithinQuota quota);
}

pub round_goes_on : (b : BookView) (i : ItemView) (first place quota : ℕ) (f g : Found) →
    first ≤ place → IsOpenAt b i place → b.of.program ≡ i.program → HasAdded b.mode i quota f g →
    IsFoundFrom b first (place - first) quota f → IsFoundFrom b first (place + 1 - first) quota g
round_goes_on b i first place quota f g from at of h before =
    let there : first + (place - first) ≡ place = omega (arith, from) in
    let count : suc (place - first) ≡ place + 1 - first = omega (arith, from) in
    let more = one_more_found b.of.program b.mode b.open_items (places_from first (place - first))
    (first + (place - first)) quota i f g before.found
    (ap (slice_get b.open_items) there ∙ at.1) (sym of) h in
    let at_all = found_at (one_place_more first (place - first)) more
    (within_more quota before.found.walks h.walk before.within
    (record { tried = h.few; rest = h.all })) in
    subst (λ n. IsFoundFrom b first n quota g) count
    (record { found = at_all.0; within = at_all.1 })
  where
    found_at : {ks js : List ℕ} → ks ≡ js → (h : HaveFound b.of.program b.mode b.open_items ks g) →
        All (IsWithinQuota quota) h.walks →
        (h : HaveFound b.of.program b.mode b.open_items js g) × All (IsWithinQuota quota) h.walks
    found_at {ks} {js} e h a = subst (λ js. (h : HaveFound b.of.program b.mode b.open_items js g)
        × All (IsWithinQuota quota) h.walks) e (h, a)

-- an item of a list that is the open items is an open one, of the book's program
pub open_at : (b : BookView) (items : List ItemView) (end place : ℕ) (i : ItemView) → Keeps b →
    items ≡ b.open_items → end ≡ length b.open_items → place < end →
    slice_get items place ≡ Some i → IsOpenAt b i place × (b.of.program ≡ i.program)
open_at b items end place i h same count lt at =
    let inside : place < length b.open_items = omega (arith, count, lt) in
    let there : slice_get b.open_items place ≡ Some i =
    ap (λ is. slice_get is place) (sym same) ∙ at in
    ((inside, there), open_own b h place i inside there)

-- a round goes from its first place to the end
pub at_end : (first place end : ℕ) → first ≡ end - ROUND → (first ≤ end → place ≤ end) →
    end ≤ place → place ≡ end
at_end first place end start most over =
    let m = most (omega (arith, start)) in omega (arith, m, over)

-- the items from a place on stand there one after another, each at that place without those before
pub open_from : (whole front ys : List ItemView) (n k first : ℕ) → k ≡ length whole →
    first ≡ length front → n ≤ length ys →
    AreOpenAt (front ++ ys) (whole ++ ys) (places_from k n) (replicate n first)
open_from whole front ys zero k first e f few = tt
open_from whole front [] (suc n) k first e f few = absurd (omega (arith, few))
open_from whole front (y ∷ ys) (suc n) k first e f few =
    let here = at_front front ys y first f in
    let there = at_front whole ys y k e in
    let longer : suc k ≡ length (whole ++ y ∷ []) = longer_by whole y k e in
    let later = open_from (whole ++ y ∷ []) front ys n (suc k) first longer f
    (omega (arith, few)) in (
      here.0,
      there.1 ∙ sym here.1,
      subst (λ xs. AreOpenAt xs (whole ++ y ∷ ys) (places_from (suc k) n) (replicate n first))
          (sym here.2)
          (subst (λ xs. AreOpenAt (front ++ ys) xs (places_from (suc k) n) (replicate n first))
          (append_assoc whole (y ∷ []) ys) later),
    )
  where
    longer_by : (xs : List ItemView) (x : ItemView) (n : ℕ) → n ≡ length xs →
        suc n ≡ length (xs ++ x ∷ [])
    longer_by [] x n e = omega (arith, e)
    longer_by (z ∷ xs) x zero e = absurd (omega (arith, e))
    longer_by (z ∷ xs) x (suc n) e = let l = longer_by xs x n (omega (arith, e)) in omega (arith, l)

taken_of : (n most k : ℕ) → n ≤ most → take n (replicate most k) ≡ replicate n k
taken_of zero most k h = refl
taken_of (suc n) zero k h = absurd (omega (arith, h))
taken_of (suc n) (suc most) k h = ap (λ ks. k ∷ ks) (taken_of n most k (omega (arith, h)))

pub round_stands : (xs : List ItemView) (first end : ℕ) → first ≡ end - ROUND → end ≡ length xs →
    AreOpenAt xs xs (places_from first (end - first)) (take (end - first) (replicate ROUND first))
round_stands xs first end start count =
    let n = length-take-le first xs (omega (arith, start, count)) in
    let l = length-drop first xs in
    subst (λ ys. AreOpenAt ys ys (places_from first (end - first))
    (take (end - first) (replicate ROUND first))) (take-append-drop first xs)
    (subst (AreOpenAt (take first xs ++ drop first xs) (take first xs ++ drop first xs)
    (places_from first (end - first)))
    (sym (taken_of (end - first) ROUND first (omega (arith, start))))
    (open_from (take first xs) (take first xs) (drop first xs) (end - first) first first
    (sym n) (sym n) (omega (arith, l, count))))

both_list : (lists listed : Bool) → listed ≡ lists → (lists && not listed) ≡ false
both_list true listed e = ap not e
both_list false listed e = refl

-- where its last item was walked, all is settled at once
pub round_settles : (b : BookView) (first end place quota : ℕ) (f : Found) → Keeps b →
    first ≡ end - ROUND → end ≡ length b.open_items → place ≡ end → f.lists ≡ b.lists →
    IsFoundFrom b first (place - first) quota f →
    AreWithin b.open_items (take (end - first) (replicate ROUND first))
    × Keeps (taken_in b (remove_each b.open_items (take (end - first) (replicate ROUND first))) f)
    × HasWalkedRound b quota
    (taken_in b (remove_each b.open_items (take (end - first) (replicate ROUND first))) f)
round_settles b first end place quota f h start all over lists found =
    let few : end - (end - 64) ≡ min end 64 = grind arith in
    let count : place - first ≡ min (length b.open_items) ROUND =
    (let e : place - first ≡ min end ROUND = omega (arith, few, start, over) in e)
    ∙ ap (λ n. min n ROUND) all in
    let from : first ≡ length b.open_items - ROUND = start ∙ ap (λ n. n - ROUND) all in
    let ks : List ℕ = places_from first (end - first) in
    let qs : List ℕ = take (end - first) (replicate ROUND first) in
    let walked : IsFoundFrom b first (end - first) quota f =
    subst (λ n. IsFoundFrom b first (n - first) quota f) over found in
    let stand : AreOpenAt b.open_items b.open_items ks qs =
    round_stands b.open_items first end start all in
    let r = settled_together b.open_items ks qs f b (open_of b h) h stand
    (both_list b.lists f.lists lists) walked.found in (
      open_within b.open_items b.open_items ks qs stand,
      r.1,
      record {
        walks = walked.found.walks;
        of = subst (λ js. AreWalksAt b.mode b.open_items js walked.found.walks)
            ((λ k. places_from (from k) ((ap (λ n. n - first) (sym over) ∙ count) k)))
            walked.found.of;
        within = walked.within;
        settled = r.0;
      },
    )

-- at most the quota was tried more than before
pub added_tried : (mode : _) (i : ItemView) (quota : ℕ) (f g : Found) → HasAdded mode i quota f g →
    g.part.tried ≤ f.part.tried + quota
unfolding join
added_tried mode i quota f g h =
    let few = h.few in
    subst (λ (s : SummaryView). s.tried ≤ f.part.tried + quota) (sym h.part)
    (least (f.part.tried + h.walk.part.tried) _ (f.part.tried + quota) (omega (arith, few)))
  where
    least : (a g n : ℕ) → a ≤ n → min a g ≤ n
    least a g n h = grind (arith, h)
