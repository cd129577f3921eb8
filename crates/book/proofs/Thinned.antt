-- What a quick book keeps where items are dropped, and where a walk is settled after that.
use Rattle.std.proofs.Common.{◌≡◌, ℕ, suc, Bool, true, false, cond, ◌&&◌, ◌||◌, not, List, [], ◌∷◌, ◌++◌, take, drop, Some, refl, ap, ◌∙◌, sym, subst, append_assoc}
use Rattle.std.specs.List.{filter, list_any, All}
use Rattle.std.proofs.lemmas.List.Elements.{All-nil, All-cons, All-append, All-weaker}
use Rattle.std.proofs.lemmas.List.Sorted.{IsPermutation-append_right, IsPermutation-filter_both}
use Rattle.semantics_schedules.specs.Order.{precedes, lesser}
use Rattle.walk_items.specs.{Items.ItemView, Walks.{WalkView, IsWalked, IsSplit, listed_if}}
use Rattle.walk_items.{specs.declared.mode.Mode.Mode, proofs.Listed.listed_both}
use Rattle.walk_items.proofs.Splits.{split_further, split_permuted}
use Rattle.walk_summary.{specs.Summaries.join, proofs.SumsJoin.join_first_bad}
use Rattle.book.specs.Books.{BookView, ComeAfter, IsThinned, Keeps, KeepsWhere, with_deferred, IsWalkOf, IsOpenAt, settled, cannot_hold, drops, thinned}
use Rattle.book.proofs.{Keeping.settles, Later.{later_precedes, lesser_some}, Lists.parted}

-- these are the open items of the book, besides its other parts
abbrev pub IsBookWith : BookView → List ItemView → Type 0
IsBookWith b items = IsSplit b.mode b.of b.finished items b.deferred

-- the items that stay
abbrev pub kept_items : BookView → List ItemView
kept_items b = filter (λ i. not (drops b i)) b.open_items

-- the items that go
abbrev pub dropped_items : BookView → List ItemView
dropped_items b = filter (drops b) b.open_items

pub all_kept : (f : ItemView → Bool) (xs : List ItemView) → list_any f xs ≡ false →
    filter (λ i. not (f i)) xs ≡ xs
all_kept f [] h = refl
all_kept f (x ∷ xs) h = go (f x) h (λ k. all_kept f xs k)
  where
    go : (b : Bool) → (b || list_any f xs) ≡ false →
        (list_any f xs ≡ false → filter (λ i. not (f i)) xs ≡ xs) →
        cond (not b) (x ∷ filter (λ i. not (f i)) xs) (filter (λ i. not (f i)) xs) ≡ x ∷ xs
    go true h k = cc
    go false h k = ap (λ ys. x ∷ ys) (k h)

filter_true : (P : ItemView → Type 0) (f : ItemView → Bool) (xs : List ItemView) →
    ((i : ItemView) → f i ≡ true → P i) → All P (filter f xs)
filter_true P f [] h = All-nil P
filter_true P f (x ∷ xs) h = go (f x) refl (filter_true P f xs h)
  where
    go : (b : Bool) → f x ≡ b → All P (filter f xs) → All P (cond b (x ∷ filter f xs) (filter f xs))
    go true e r = All-cons P x (filter f xs) (h x e) r
    go false e r = r

-- dropping keeps what a book's type keeps

thins_split : (b : BookView) (first : List ℕ) → b.quick ≡ true →
    b.finished.first_bad ≡ Some first → KeepsWhere b.dropped b →
    KeepsWhere (b.dropped || list_any (drops b) b.open_items) (thinned b)
thins_split b first q found h = go b.dropped refl (list_any (drops b) b.open_items) refl h
  where
    later : ComeAfter first (dropped_items b)
    later = filter_true (λ i. precedes first i.prefix ≡ true) (drops b) b.open_items
        (λ i e. later_precedes first i.prefix (sym (λ k. q k && cannot_hold (found k) i) ∙ e))

    more : (gone : List ItemView) → IsBookWith b (gone ++ b.open_items) →
        IsBookWith b ((gone ++ dropped_items b) ++ kept_items b)
    more gone s =
        subst (IsBookWith b) (sym (append_assoc gone (dropped_items b) (kept_items b)))
        (split_permuted b.mode b.of b.finished (gone ++ b.open_items)
        (gone ++ (dropped_items b ++ kept_items b)) b.deferred
        (IsPermutation-append_right gone _ _
        (IsPermutation-filter_both (drops b) (λ i. not (drops b i)) (λ i. refl) b.open_items)) s)

    go : (d : Bool) → b.dropped ≡ d → (y : Bool) → list_any (drops b) b.open_items ≡ y →
        KeepsWhere d b → KeepsWhere (d || y) (thinned b)
    go true e y m t =
        let one : Some t.first ≡ Some first = sym t.found ∙ found in
        let same : t.first ≡ first = cc in
        record {
          quick = q;
          gone = t.gone ++ dropped_items b;
          split = record { within = t.split.within; split = more t.gone t.split.split };
          first = first;
          found = found;
          later = All-append (λ i. precedes first i.prefix ≡ true) t.gone (dropped_items b)
              (subst (λ (w : List ℕ). ComeAfter w t.gone) same t.later) later;
        }
    go false e true m s = record {
      quick = q;
      gone = dropped_items b;
      split = record { within = s.within; split = more [] s.split };
      first = first;
      found = found;
      later = later;
    }
    go false e false m s = record {
      within = s.within;
      split = subst (IsBookWith b) (sym (all_kept (drops b) b.open_items m)) s.split;
    }

pub thins : (b : BookView) (first : List ℕ) → b.quick ≡ true → b.finished.first_bad ≡ Some first →
    Keeps b → Keeps (thinned b)
thins b first q found h = record {
  put = h.put;
  listed = h.listed;
  split = thins_split (with_deferred b h.put) first q found h.split;
}

-- so does settling a walk

settles_thinned : (b : BookView) (w : WalkView) (place : ℕ) → IsThinned b → IsWalked w →
    IsWalkOf b w → IsOpenAt b w.item place →
    IsThinned (with_deferred (settled b w place) (b.deferred ++ w.deferred))
settles_thinned b w place t walk of at =
    let l = lesser_some t.first w.part.first_bad in
    record {
      quick = t.quick;
      gone = t.gone;
      split = record {
        within = t.split.within;
        split = subst
            (λ is. IsSplit b.mode b.of (join b.finished w.part) is (b.deferred ++ w.deferred))
            after
            (split_further b.mode b.of w.item b.finished w.part
            (t.gone ++ left) right b.deferred w.rest w.deferred
            (subst (IsBookWith b) before t.split.split)
            (subst (λ (m : Mode). IsSplit m w.item w.part w.rest w.deferred) (sym of.0)
            walk.split));
      };
      first = l.0;
      found = join_first_bad b.finished w.part
          ∙ (ap (λ o. lesser o w.part.first_bad) t.found ∙ l.1);
      later = All-weaker (λ (i : ItemView). precedes t.first i.prefix ≡ true)
          (λ (i : ItemView). precedes l.0 i.prefix ≡ true) (λ i h. l.2 i.prefix h) t.gone t.later;
    }
  where
    left : List ItemView
    left = take place b.open_items

    right : List ItemView
    right = drop (suc place) b.open_items

    before : t.gone ++ b.open_items ≡ (t.gone ++ left) ++ w.item ∷ right
    before =
        ap (λ is. t.gone ++ is) (parted b.open_items place w.item at.0 at.1)
        ∙ sym (append_assoc t.gone left (w.item ∷ right))

    after : ((t.gone ++ left) ++ right) ++ w.rest ≡ t.gone ++ ((left ++ right) ++ w.rest)
    after =
        ap (λ is. is ++ w.rest) (append_assoc t.gone left right)
        ∙ append_assoc t.gone (left ++ right) w.rest

pub settles_any : (b : BookView) (w : WalkView) (place : ℕ) → Keeps b → IsWalked w →
    IsWalkOf b w → IsOpenAt b w.item place → Keeps (settled b w place)
settles_any b w place h walk of at = record {
  put = h.put ++ w.deferred;
  listed = ap (λ ds. ds ++ listed_if b.lists w.deferred) h.listed
      ∙ listed_both b.lists h.put w.deferred;
  split = go b.dropped h.split;
}
  where
    go : (d : Bool) → KeepsWhere d (with_deferred b h.put) →
        KeepsWhere d (with_deferred (settled b w place) (h.put ++ w.deferred))
    go true t = settles_thinned (with_deferred b h.put) w place t walk of at
    go false s = settles (with_deferred b h.put) w place s walk of at
