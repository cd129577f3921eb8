-- A settled walk leaves less to walk.
use Rattle.std.proofs.Common.{◌≡◌, ℕ, zero, suc, min, Bool, true, false, cond, not, ◌||◌, ◌+◌, ◌-◌, ◌*◌, ◌^◌, ◌<◌, ◌≤◌, ◌⊎◌, inl, inr, ⊎_elim, List, [], ◌∷◌, ◌++◌, length, get_or, take, drop, refl, ap, sym, ◌∙◌, subst, arith, Ok, Some, slice_get, length-append, length-drop}
use Rattle.std.{specs.List.{All, remove, filter, list_any}, proofs.lemmas.Bool.cases_lt}
use Rattle.std.proofs.lemmas.List.{get_or-drop, nil_from_length}
use Rattle.std.proofs.lemmas.List.Elements.{All-nil, All-cons, All-head, All-tail, All-weaker}
use mathlib.Core.Logic.{dite}
use native.Mathlib.Decide.{ℕ_discrete}
use Rattle.walk_items.specs.Items.{ItemView, schedule_count, schedules_of}
use Rattle.walk_items.specs.{Walks.{WalkView, IsWalked, tried_by}, declared.mode.Mode.Mode}
use Rattle.walk_items.proofs.WalkedItems.{walked_counts, walked_count}
use Rattle.walk_summary.specs.Summaries.{cut, nothing}
use Rattle.walk.specs.{Founds.HasAdded, declared.found.Found.Found}
use Rattle.book.specs.Books.{BookView, Settles, AreWalksAt, HaveFound, HaveSettled, StandInOrder}
use Rattle.book.specs.Books.{IsWithinQuota, HasWalkedRound, places_from, drops, thinned}
use Rattle.book.{specs.declared.limits.TheConstants.ROUND, proofs.DroppedCounts.nothing_dropped}
use Rattle.book.proofs.{Gathered.{none_found, one_more_found}, Lists.parted}
use Rattle.runner.specs.inner.Shrinking.{IsSmaller, HasLess, Went, Goes}

count-append : (mode : Mode) (l r : List ItemView)
    → schedule_count mode (l ++ r) ≡ schedule_count mode l + schedule_count mode r
count-append mode [] r = omega arith
count-append mode (i ∷ is) r = let e = count-append mode is r in omega (arith, e)

smaller : (mode : Mode) (a b rest : List ItemView) (i : ItemView) (tried : ℕ)
    → length (schedules_of mode i) ≡ tried + schedule_count mode rest → (rest ≡ []) ⊎ (0 < tried)
    → IsSmaller mode ((a ++ b) ++ rest) (a ++ i ∷ b)
smaller mode a b rest i tried e ends =
    let x = count-append mode (a ++ b) rest in
    let y = count-append mode a b in
    let z = count-append mode a (i ∷ b) in
    let lx = length-append (a ++ b) rest in
    let ly = length-append a b in
    let lz = length-append a (i ∷ b) in
    dite (ℕ_discrete tried 0)
    (λ t. inr (omega (arith, x, y, z, e, t), fewer ends t lx ly lz))
    (λ n. inl (omega (arith, x, y, z, e, n)))
  where
    fewer : (rest ≡ []) ⊎ (0 < tried) → tried ≡ 0
        → length ((a ++ b) ++ rest) ≡ length (a ++ b) + length rest
        → length (a ++ b) ≡ length a + length b
        → length (a ++ i ∷ b) ≡ length a + length (i ∷ b)
        → length ((a ++ b) ++ rest) < length (a ++ i ∷ b)
    fewer (inl none) t lx ly lz =
        let len : length rest ≡ 0 = ap (length {A = ItemView}) none in
        omega (arith, len, lx, ly, lz)
    fewer (inr some) t lx ly lz = absurd (omega (arith, some, t))

-- a walk with a quota leaves no rest where it tried fewer
walk_ends : (w : WalkView) (quota : ℕ) → 1 ≤ quota → IsWalked w
    → (w.part.tried < quota → w.rest ≡ []) → (w.rest ≡ []) ⊎ (0 < length (tried_by w))
walk_ends w quota some h ends = elim (cases_lt 0 w.part.tried) [
  | inl l ↦ inr (let t = walked_count w h in tried_some (length (tried_by w)) w.part.tried l t)
  | inr g ↦ inl (ends (omega (arith, g, some)))
]
  where
    tried_some : (n tried : ℕ) → 0 < tried → tried ≡ cut n → 0 < n
    tried_some n tried l e = omega (arith, l, e)

settled_less : (old new : BookView) (w : WalkView) → Settles old w new → IsWalked w
    → (w.rest ≡ []) ⊎ (0 < length (tried_by w)) → HasLess old new
settled_less old new w s walk ends =
    let is = parted old.open_items s.place w.item s.is_open.0 s.is_open.1 in
    let before = take s.place old.open_items in
    let after = drop (suc s.place) old.open_items in
    let left = remove old.open_items s.place ++ w.rest in
    record {
      of = ap (λ (b : BookView). b.of) s.book;
      mode = ap (λ (b : BookView). b.mode) s.book;
      quick = ap (λ (b : BookView). b.quick) s.book;
      lists = ap (λ (b : BookView). b.lists) s.book;
      less = subst (λ (z : List ItemView). IsSmaller old.mode z old.open_items)
          (sym (ap (λ (b : BookView). b.open_items) s.book))
          (subst (λ (z : List ItemView). IsSmaller old.mode left z) (sym is)
          (subst (λ (m : Mode). IsSmaller m left (before ++ w.item ∷ after)) (sym s.of.0)
          (smaller w.mode before after w.rest w.item (length (tried_by w))
          (walked_counts w walk) ends)));
    }

smaller_again : (mode : Mode) (a b c : List ItemView) → IsSmaller mode b a → IsSmaller mode c b
    → IsSmaller mode c a
smaller_again mode a b c x y =
    ⊎_elim (λ p. ⊎_elim (λ q. inl (omega arith)) (λ q. inl (omega arith)) y)
    (λ p. ⊎_elim (λ q. inl (omega arith)) (λ q. inr (omega arith, omega arith)) y) x

less_again : (a b c : BookView) → HasLess a b → HasLess b c → HasLess a c
less_again a b c x y = record {
  of = y.of ∙ x.of;
  mode = y.mode ∙ x.mode;
  quick = y.quick ∙ x.quick;
  lists = y.lists ∙ x.lists;
  less = smaller_again a.mode a.open_items b.open_items c.open_items x.less
      (subst (λ (m : Mode). IsSmaller m c.open_items b.open_items) x.mode y.less);
}

-- one more item of a round; the first one is open
pub round_less : (old book new : BookView) (item : ItemView) (j : ℕ) → (j ≡ 0 → book ≡ old)
    → (0 < j → HasLess old book) → Went book item (Ok tt) new
    → (k : ℕ) → k < length old.open_items → get_or old.open_items k item ≡ item → HasLess old new
round_less old book new item j start less went k inside at = dite (ℕ_discrete j 0)
    (λ e. ⊎_elim (λ l. subst (λ (b : BookView). HasLess b new) (start e) l)
    (λ t. absurd (t.none k item
    (subst (λ (b : BookView). k < length b.open_items) (sym (start e)) inside)
    (ap (λ (b : BookView). get_or b.open_items k item) (start e) ∙ at))) went)
    (λ n. let l : HasLess old book = less (omega arith) in
    ⊎_elim (λ q. less_again old book new l q) (λ t. subst (HasLess old) (sym t.book) l) went)

-- walks up to a quota were settled
walks_less : (mode : Mode) (items : List ItemView) (ks : List ℕ) (ws : List WalkView) (quota : ℕ)
    (old new : BookView) → 1 ≤ quota → AreWalksAt mode items ks ws
    → All (IsWithinQuota quota) ws → HaveSettled old ws new
    → HasLess old new ⊎ ((new ≡ old) × (ks ≡ []))
walks_less mode items [] [] quota old new some of all h = inr (h, refl)
walks_less mode items [] (w ∷ ws) quota old new some of all h = absurd of
walks_less mode items (k ∷ ks) [] quota old new some of all h = absurd of
walks_less mode items (k ∷ ks) (w ∷ ws) quota old new some of all (between, settles, h) =
    let within = All-head (IsWithinQuota quota) w ws all in
    let first : HasLess old between =
    settled_less old between w settles of.2 (walk_ends w quota some of.2 within.rest) in
    ⊎_elim (λ l. inl (less_again old between new first l))
    (λ e. inl (subst (HasLess old) (sym e.0) first))
    (walks_less mode items ks ws quota between new some of.3
    (All-tail (IsWithinQuota quota) w ws all) h)

-- all items of a round were walked
pub round_walked : (old new : BookView) (quota : ℕ) → 1 ≤ quota → HasWalkedRound old quota new
    → Goes old new
round_walked old new quota some h =
    let n : ℕ = length old.open_items in
    ⊎_elim (λ l. inl l)
    (λ e. inr (e.0, nil_from_length old.open_items (none n (no_places (n - ROUND) (min n ROUND) e.1))))
    (walks_less old.mode old.open_items (places_from (n - ROUND) (min n ROUND)) h.walks quota old new
    some h.of h.within h.settled)
  where
    no_places : (first n : ℕ) → places_from first n ≡ [] → n ≡ 0
    no_places first zero e = refl
    no_places first (suc n) e = cc

    none : (k : ℕ) → min k 64 ≡ 0 → k ≡ 0
    none k e = grind (arith, e)

-- one walk found this
pub one_found : (b : BookView) (item : ItemView) (items : List ItemView) (quota : ℕ) (f g : Found)
    → item.program ≡ b.of.program → items ≡ item ∷ [] → f.part ≡ nothing → f.rest.items ≡ []
    → f.deferred ≡ [] → HasAdded b.mode item quota f g
    → (h : HaveFound b.of.program b.mode items (0 ∷ []) g) × All (IsWithinQuota quota) h.walks
one_found b item items quota f g of is part rest deferred added =
    subst (λ (xs : List ItemView). (h : HaveFound b.of.program b.mode xs (0 ∷ []) g)
    × All (IsWithinQuota quota) h.walks) (sym is) (
      one_more_found b.of.program b.mode (item ∷ []) [] 0 quota item f g
          (none_found b.of.program b.mode (item ∷ []) f part rest deferred) refl of added,
      All-cons (IsWithinQuota quota) added.walk []
          (record { tried = added.few; rest = added.all }) (All-nil (IsWithinQuota quota)),
    )

-- and was settled
pub one_settled : (old new : BookView) (items : List ItemView) (quota : ℕ) (g : Found)
    → 1 ≤ quota → (h : HaveFound old.of.program old.mode items (0 ∷ []) g)
    → All (IsWithinQuota quota) h.walks → HaveSettled old h.walks new → HasLess old new
one_settled old new items quota g some h within settled =
    ⊎_elim (λ l. l) (λ e. absurd (some_place 0 [] e.1))
    (walks_less old.mode items (0 ∷ []) h.walks quota old new some h.of within settled)
  where
    some_place : (k : ℕ) (ks : List ℕ) → k ∷ ks ≡ [] → ⊥
    some_place k ks e = cc

none_stand : (xs items : List ItemView) → StandInOrder xs items []
none_stand [] items = tt
none_stand (x ∷ xs) items = tt

-- or its item isn't open
pub not_open : (xs items : List ItemView) (item : ItemView) → items ≡ item ∷ []
    → (StandInOrder xs items (0 ∷ []) → ⊥) → All (λ i. i ≡ item → ⊥) xs
not_open [] items item is never = All-nil (λ i. i ≡ item → ⊥)
not_open (x ∷ xs) items item is never =
    All-cons (λ i. i ≡ item → ⊥) x xs
    (λ e. never (inl (ap (λ ys. slice_get ys 0) is ∙ ap (λ i. Some i) (sym e), none_stand xs items)))
    (not_open xs items item is (λ s. never (inr s)))

-- an item of the last ones is at a place among all
pub last_at : (open_items items : List ItemView) (first j : ℕ) (item : ItemView)
    → items ≡ drop first open_items → j < length items → item ≡ get_or items j item
    → (first + j < length open_items) × (get_or open_items (first + j) item ≡ item)
last_at open_items items first j item is lt at =
    let len = ap (length {A = ItemView}) is in
    let n = length-drop first open_items in
    let g = get_or-drop first open_items j item in
    (omega arith, sym (at ∙ ap (λ (l : List ItemView). get_or l j item) is ∙ g))

-- items are dropped

fewer_schedules : (mode : Mode) (f : ItemView → Bool) (xs : List ItemView)
    → schedule_count mode (filter f xs) ≤ schedule_count mode xs
fewer_schedules mode f [] = omega arith
fewer_schedules mode f (x ∷ xs) = go (f x) (fewer_schedules mode f xs)
  where
    go : (b : Bool) → schedule_count mode (filter f xs) ≤ schedule_count mode xs
        → schedule_count mode (cond b (x ∷ filter f xs) (filter f xs))
        ≤ length (schedules_of mode x) + schedule_count mode xs
    go true r = omega (arith, r)
    go false r = omega (arith, r)

fewer_items : (f : ItemView → Bool) (xs : List ItemView) → length (filter f xs) ≤ length xs
fewer_items f [] = omega arith
fewer_items f (x ∷ xs) = go (f x) (fewer_items f xs)
  where
    go : (b : Bool) → length (filter f xs) ≤ length xs
        → length (cond b (x ∷ filter f xs) (filter f xs)) ≤ suc (length xs)
    go true r = omega (arith, r)
    go false r = omega (arith, r)

one_fewer : (f : ItemView → Bool) (xs : List ItemView) → list_any f xs ≡ true
    → length (filter (λ i. not (f i)) xs) < length xs
one_fewer f [] h = cc
one_fewer f (x ∷ xs) h =
    go (f x) h (λ k. one_fewer f xs k) (fewer_items (λ i. not (f i)) xs)
  where
    go : (b : Bool) → (b || list_any f xs) ≡ true
        → (list_any f xs ≡ true → length (filter (λ i. not (f i)) xs) < length xs)
        → length (filter (λ i. not (f i)) xs) ≤ length xs
        → length (cond (not b) (x ∷ filter (λ i. not (f i)) xs) (filter (λ i. not (f i)) xs))
        < suc (length xs)
    go true h k r = omega (arith, r)
    go false h k r =
        let l : length (filter (λ i. not (f i)) xs) < length xs = k h in omega (arith, l)

-- the items that a book keeps
abbrev kept_items : BookView → List ItemView
kept_items b = filter (λ i. not (drops b i)) b.open_items

pub thinned_less : (old b : BookView) → HasLess old b → HasLess old (thinned b)
thinned_less old b l = record {
  of = l.of;
  mode = l.mode;
  quick = l.quick;
  lists = l.lists;
  less = ⊎_elim (λ x. inl (omega (arith, x, a)))
      (λ x. dite (ℕ_discrete (schedule_count old.mode (kept_items b))
      (schedule_count old.mode b.open_items))
      (λ e. inr (let y = x.0 in let z = x.1 in (omega (arith, e, y), omega (arith, z, n))))
      (λ d. inl (let y = x.0 in omega (arith, d, y, a)))) l.less;
}
  where
    a : schedule_count old.mode (kept_items b) ≤ schedule_count old.mode b.open_items
    a = fewer_schedules old.mode (λ i. not (drops b i)) b.open_items

    n : length (kept_items b) ≤ length b.open_items
    n = fewer_items (λ i. not (drops b i)) b.open_items

none_is : (f : ItemView → Bool) (xs : List ItemView) → list_any f xs ≡ false
    → All (λ i. f i ≡ false) xs
none_is f [] h = All-nil (λ i. f i ≡ false)
none_is f (x ∷ xs) h = go (f x) refl h (λ k. none_is f xs k)
  where
    go : (b : Bool) → f x ≡ b → (b || list_any f xs) ≡ false
        → (list_any f xs ≡ false → All (λ i. f i ≡ false) xs) → All (λ i. f i ≡ false) (x ∷ xs)
    go true e h k = cc
    go false e h k = All-cons (λ i. f i ≡ false) x xs e (k h)

-- an item that is dropped is passed over
pub thinned_went : (b : BookView) (item : ItemView) → drops b item ≡ true
    → Went b item (Ok tt) (thinned b)
thinned_went b item d = go (list_any (drops b) b.open_items) refl
  where
    go : (y : Bool) → list_any (drops b) b.open_items ≡ y → Went b item (Ok tt) (thinned b)
    go true e =
        let a = fewer_schedules b.mode (λ i. not (drops b i)) b.open_items in
        let n = one_fewer (drops b) b.open_items e in
        inl (record {
          of = refl;
          mode = refl;
          quick = refl;
          lists = refl;
          less = dite (ℕ_discrete (schedule_count b.mode (kept_items b))
              (schedule_count b.mode b.open_items))
              (λ same. inr (same, n)) (λ d. inl (omega (arith, d, a)));
        })
    go false e = inr (record {
      book = sym (nothing_dropped b e);
      none = All-weaker (λ (i : ItemView). drops b i ≡ false) (λ (i : ItemView). i ≡ item → ⊥)
          (λ i f s. let t : drops b i ≡ true = ap (drops b) s ∙ d in
          let c : true ≡ false = sym t ∙ f in cc) b.open_items
          (none_is (drops b) b.open_items e);
    })

-- a round that leaves an item open lessens the measure of the rounds

pub round_shrinks : (mode : Mode) (old new : BookView) → old.mode ≡ mode → Goes old new
    → (new.open_items ≡ [] → ⊥) → length new.open_items < 2 ^ 64
    → schedule_count mode new.open_items * 18446744073709551616 + length new.open_items
    < schedule_count mode old.open_items * 18446744073709551616 + length old.open_items
round_shrinks mode old new same (inl l) some fits =
    go (subst (λ (m : Mode). IsSmaller m new.open_items old.open_items) same l.less)
  where
    go : IsSmaller mode new.open_items old.open_items
        → schedule_count mode new.open_items * 18446744073709551616 + length new.open_items
        < schedule_count mode old.open_items * 18446744073709551616 + length old.open_items
    go (inl fewer) = omega (arith, fewer, fits)
    go (inr both) = let e = both.0 in let f = both.1 in omega (arith, e, f)
round_shrinks mode old new same (inr none) some fits =
    absurd (some (ap (λ (b : BookView). b.open_items) none.0 ∙ none.1))
