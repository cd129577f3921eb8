-- Members that pass a test.
use Rattle.std.proofs.Common.{◌≡◌, Bool, true, false, cond, ◌&&◌, ◌||◌, List, [], ◌∷◌, map}
use Rattle.std.proofs.Common.{refl, ap, ◌∙◌, sym, inl, inr}
use Rattle.std.specs.List.{filter, flat_map, list_any}
use Rattle.std.proofs.lemmas.List.Folds.{list_any-append}
use Rattle.semantics.specs.Waiters.{In}

pub filter_same : {A : Type 0} (f g : A → Bool) (L : List A) → ((x : A) → In L x → f x ≡ g x) →
    filter f L ≡ filter g L
filter_same f g [] h = refl
filter_same f g (x ∷ L) h =
    λ i. cond (h x (inl refl) i) (x ∷ filter_same f g L (λ y m. h y (inr m)) i)
    (filter_same f g L (λ y m. h y (inr m)) i)

pub filter_all : {A : Type 0} (L : List A) → filter (λ x. true) L ≡ L
filter_all [] = refl
filter_all (x ∷ L) = ap (λ ys. x ∷ ys) (filter_all L)

pub filter_none : {A : Type 0} (L : List A) → filter (λ x. false) L ≡ []
filter_none [] = refl
filter_none (x ∷ L) = filter_none L

pub filter_twice : {A : Type 0} (f g : A → Bool) (L : List A) →
    filter f (filter g L) ≡ filter (λ x. g x && f x) L
filter_twice f g [] = refl
filter_twice {A} f g (x ∷ L) = go (g x) (filter_twice f g L)
  where
    go : (b : Bool) → filter f (filter g L) ≡ filter (λ y. g y && f y) L →
        filter f (cond b (x ∷ filter g L) (filter g L)) ≡ cond (b && f x)
        (x ∷ filter (λ y. g y && f y) L) (filter (λ y. g y && f y) L)
    go true r = λ i. cond (f x) (x ∷ r i) (r i)
    go false r = r

-- of two tests, the second holds only where the first does
pub filter_longer : {A : Type 0} (f g : A → Bool) (L : List A) →
    ((x : A) → g x ≡ true → f x ≡ true) → filter g (filter f L) ≡ filter g L
filter_longer f g [] h = refl
filter_longer {A} f g (x ∷ L) h = go (f x) (g x) refl refl (filter_longer f g L h)
  where
    go : (a b : Bool) → f x ≡ a → g x ≡ b → filter g (filter f L) ≡ filter g L →
        filter g (cond a (x ∷ filter f L) (filter f L)) ≡ cond b (x ∷ filter g L) (filter g L)
    go true b e k r = λ i. cond (k i) (x ∷ r i) (r i)
    go false true e k r = (let m : f x ≡ true = h x k in cc)
    go false false e k r = r

-- a test that all members pass
pub filter_whole : {A : Type 0} (test : A → Bool) (L : List A) →
    ((x : A) → In L x → test x ≡ true) → L ≡ filter test L
filter_whole test L h =
    sym (filter_same test (λ x. true) L h ∙ filter_all L)

pub list_any-map : {A X : Type 0} (test : A → Bool) (f : X → A) (xs : List X) →
    list_any test (map f xs) ≡ list_any (λ x. test (f x)) xs
list_any-map test f [] = refl
list_any-map test f (x ∷ xs) = ap (λ b. test (f x) || b) (list_any-map test f xs)

pub list_any-flat_map : {A X : Type 0} (test : A → Bool) (f : X → List A) (xs : List X) →
    list_any test (flat_map f xs) ≡ list_any (λ x. list_any test (f x)) xs
list_any-flat_map test f [] = refl
list_any-flat_map test f (x ∷ xs) = list_any-append test (f x) (flat_map f xs)
    ∙ ap (λ b. list_any test (f x) || b) (list_any-flat_map test f xs)
