-- What the call that drops items does: which it drops, and how many.
use Rattle.std.proofs.Common.{◌≡◌, ℕ, ◌+◌, Bool, true, false, cond, ◌&&◌, ◌||◌, not, nat_lt, List, [], ◌∷◌, Some, None, refl, ap, ◌∙◌, sym, subst, arith}
use Rattle.std.{specs.List.{filter, list_any, count_by}, proofs.lemmas.Bool.Decides.nat_tests}
use Rattle.walk_items.specs.Items.{ItemView}
use Rattle.walk_prefixes.{specs.PrefixLists.is_later, proofs.Later.count_first}
use Rattle.book.specs.Books.{BookView, Keeps, cannot_hold, drops, thinned}
use Rattle.book.proofs.Thinned.{all_kept, thins}

pub count_none : (f : ItemView → Bool) (xs : List ItemView) → list_any f xs ≡ false →
    count_by f xs ≡ 0
count_none f [] h = refl
count_none f (x ∷ xs) h = count_first f x xs ∙ go (f x) h (λ k. count_none f xs k)
  where
    go : (b : Bool) → (b || list_any f xs) ≡ false → (list_any f xs ≡ false → count_by f xs ≡ 0) →
        (0 + cond b 1 0) + count_by f xs ≡ 0
    go true h k = cc
    go false h k = let z : count_by f xs ≡ 0 = k h in omega (arith, z)

some_counted : {A : Type 0} (f : A → Bool) (xs : List A) →
    list_any f xs ≡ nat_lt 0 (count_by f xs)
some_counted f [] = refl
some_counted f (x ∷ xs) = go (f x) (some_counted f xs) ∙ ap (nat_lt 0) (sym (count_first f x xs))
  where
    go : (b : Bool) → list_any f xs ≡ nat_lt 0 (count_by f xs) →
        (b || list_any f xs) ≡ nat_lt 0 ((0 + cond b 1 0) + count_by f xs)
    go true r = let l : nat_lt 0 ((0 + 1) + count_by f xs) ≡ true =
        grind (arith, nat_tests) in sym l
    go false r = let e : (0 + 0) + count_by f xs ≡ count_by f xs =
        omega arith in r ∙ ap (nat_lt 0) (sym e)

-- where no item is dropped

any_none : (f : ItemView → Bool) (xs : List ItemView) → ((i : ItemView) → f i ≡ false) →
    list_any f xs ≡ false
any_none f [] h = refl
any_none f (x ∷ xs) h = (λ k. h x k || list_any f xs) ∙ any_none f xs h

or_false : (b : Bool) → (b || false) ≡ b
or_false true = refl
or_false false = refl

pub nothing_dropped : (b : BookView) → list_any (drops b) b.open_items ≡ false → b ≡ thinned b
nothing_dropped b h = sym (λ k. record b {
  open_items = all_kept (drops b) b.open_items h k;
  dropped = (ap (λ z. b.dropped || z) h ∙ or_false b.dropped) k;
})

pub same_as_thinned : (b : BookView) → ((i : ItemView) → drops b i ≡ false) → b ≡ thinned b
same_as_thinned b h = nothing_dropped b (any_none (drops b) b.open_items h)

pub no_count : (b : BookView) → ((i : ItemView) → drops b i ≡ false) →
    0 ≡ count_by (drops b) b.open_items
no_count b h = sym (count_none (drops b) b.open_items (any_none (drops b) b.open_items h))

pub drops_not_quick : (b : BookView) → b.quick ≡ false → (i : ItemView) → drops b i ≡ false
drops_not_quick b q i = λ k. q k && cannot_hold b.finished.first_bad i

pub drops_not_bad : (b : BookView) → b.finished.first_bad ≡ None → (i : ItemView) →
    drops b i ≡ false
drops_not_bad b e i = (λ k. b.quick && cannot_hold (e k) i) ∙ none b.quick
  where
    none : (x : Bool) → (x && false) ≡ false
    none true = refl
    none false = refl

-- where those are dropped that come after this schedule

-- what is left of the open items and the number of those that were dropped
pub record IsDropped (b : BookView) (first : List ℕ) (items : List ItemView) (number : ℕ) :
    Type 0 where
  pub quick : b.quick ≡ true
  pub found : b.finished.first_bad ≡ Some first
  pub left : items ≡ filter (λ i. not (is_later first i.prefix)) b.open_items
  pub counted : number ≡ count_by (λ i. is_later first i.prefix) b.open_items

-- the book with these open items, after this number of others was dropped
abbrev pub after_drop : BookView → List ItemView → ℕ → BookView
after_drop b items number = record b { open_items = items; dropped = b.dropped || nat_lt 0 number }

later_are_dropped : (b : BookView) (first : List ℕ) → b.quick ≡ true →
    b.finished.first_bad ≡ Some first → (λ i. is_later first i.prefix) ≡ drops b
later_are_dropped b first q found = λ k i. sym q k && cannot_hold (sym found k) i

pub thinned_is : (b : BookView) (first : List ℕ) (items : List ItemView) (number : ℕ) →
    IsDropped b first items number → after_drop b items number ≡ thinned b
thinned_is b first items number h =
    λ k. record b {
      open_items = (h.left ∙ ap (λ (g : ItemView → Bool). filter (λ i. not (g i)) b.open_items) f)
          k;
      dropped = ap (λ z. b.dropped || z) (ap (nat_lt 0) (count_is h) ∙ sym any) k;
    }
  where
    f : (λ i. is_later first i.prefix) ≡ drops b
    f = later_are_dropped b first h.quick h.found

    any : list_any (drops b) b.open_items ≡ nat_lt 0 (count_by (drops b) b.open_items)
    any = some_counted (drops b) b.open_items

    count_is : IsDropped b first items number → number ≡ count_by (drops b) b.open_items
    count_is h = h.counted ∙ ap (λ (g : ItemView → Bool). count_by g b.open_items) f

pub drop_keeps : (b : BookView) (first : List ℕ) (items : List ItemView) (number : ℕ) →
    IsDropped b first items number → Keeps b → Keeps (after_drop b items number)
drop_keeps b first items number h k =
    subst Keeps (sym (thinned_is b first items number h)) (thins b first h.quick h.found k)
