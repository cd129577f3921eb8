-- Prefixes in a list and in a set, and who begins with whom.
use Rattle.std.proofs.Common.{◌≡◌, ◌⊎◌, inl, inr, ℕ, Bool, true, false, ◌&&◌, nat_eq, List, [], ◌∷◌}
use Rattle.std.proofs.Common.{◌++◌, ◌||◌, map, refl, ap, ◌∙◌, sym, Some, None, unwrap_or, cond}
use Rattle.std.specs.BTreeSet.{BTreeSet, IsFromIterResult, contains_by}
use Rattle.std.specs.Cmp.Lexicographic.{slice_cmp, bytes_decides, texts_ties}
use Rattle.std.specs.{List.{All, list_any, find, starts_with}, Ordering.{is_eq, nat_cmp}}
use Rattle.std.proofs.lemmas.{Bool.{and_parts, and_from}, List.Elements.{All-contains, All-map}}
use denote.Ref.{Bor}
use Rattle.semantics.{specs.Waiters.In, proofs.ListMembers.{in_contains, at_in}}
use Rattle.semantics_schedules.{specs.Schedules.begins_with, proofs.ReducedSchedules.eq_of}

pub starts : (v u : List ℕ) → starts_with nat_eq v u ≡ begins_with u v
starts v [] = refl
starts [] (x ∷ u) = refl
starts (y ∷ v) (x ∷ u) = ap (λ b. nat_eq x y && b) (starts v u)

-- all of a list, by its members

pub all_in : {A : Type 0} (P : A → Type 0) (xs : List A) (x : A) → All P xs → In xs x → P x
all_in P xs x h m = All-contains P xs x h (in_contains xs x m)

pub in_all : {A : Type 0} (P : A → Type 0) (xs : List A) → ((x : A) → In xs x → P x) → All P xs
in_all P xs h k d l = h _ (at_in xs k d l)

pub all_off : {A : Type 0} (test : A → Bool) (xs : List A) → list_any test xs ≡ false →
    (x : A) → In xs x → test x ≡ false
all_off test [] e x m = absurd m
all_off test (y ∷ ys) e x m = go (test y) refl e m (λ k n. all_off test ys k x n)
  where
    go : (b : Bool) → test y ≡ b → (b || list_any test ys) ≡ false → In (y ∷ ys) x →
        (list_any test ys ≡ false → In ys x → test x ≡ false) → test x ≡ false
    go true h k n rest = cc
    go false h k (inl i) rest = ap test (sym i) ∙ h
    go false h k (inr n) rest = rest k n

-- what a search of a list finds

pub found_in : {A : Type 0} (test : A → Bool) (xs : List A) (x : A) → find test xs ≡ Some x →
    In xs x × (test x ≡ true)
found_in test [] x e = cc
found_in test (y ∷ ys) x e = go (test y) refl e (found_in test ys x)
  where
    go : (b : Bool) → test y ≡ b → cond b (Some y) (find test ys) ≡ Some x →
        (find test ys ≡ Some x → In ys x × (test x ≡ true)) → In (y ∷ ys) x × (test x ≡ true)
    go true h k rest =
        let same : y ≡ x = ap (λ o. unwrap_or o y) k in (inl same, ap test (sym same) ∙ h)
    go false h k rest = let more = rest k in (inr more.0, more.1)

pub none_found : {A : Type 0} (test : A → Bool) (xs : List A) → find test xs ≡ None →
    (x : A) → In xs x → test x ≡ false
none_found test [] e x m = absurd m
none_found test (y ∷ ys) e x m = go (test y) refl e m (λ k n. none_found test ys k x n)
  where
    go : (b : Bool) → test y ≡ b → cond b (Some y) (find test ys) ≡ None → In (y ∷ ys) x →
        (find test ys ≡ None → In ys x → test x ≡ false) → test x ≡ false
    go true h k n rest = cc
    go false h k (inl i) rest = ap test (sym i) ∙ h
    go false h k (inr n) rest = rest k n

-- prefixes by what they are

pub all_values : (P : List ℕ → Type 0) (xs : List (Bor (List ℕ))) →
    ((x : Bor (List ℕ)) → In xs x → P x.now) → All P (map (λ x. x.now) xs)
all_values P xs h =
    All-map P (λ (x : Bor (List ℕ)). x.now) xs (in_all (λ (x : Bor (List ℕ)). P x.now) xs h)

-- the set of a list's prefixes

-- whether a prefix is a key
abbrev pub is_key : Bor (List ℕ) → List (Bor (List ℕ)) → Bool
is_key q xs = list_any (λ k. is_eq (slice_cmp nat_cmp q.now k.now)) xs

-- what a set of them contains
pub set_keys : (q : Bor (List ℕ)) (xs : List (Bor (List ℕ))) (n : BTreeSet (Bor (List ℕ)))
    (b : Bool) → IsFromIterResult (λ x y. slice_cmp nat_cmp x.now y.now) xs n →
    b ≡ contains_by (λ k. slice_cmp nat_cmp q.now k.now) n → b ≡ is_key q xs
set_keys q xs n b h e = e ∙ h.0 q

pub key_listed : (q : Bor (List ℕ)) (xs : List (Bor (List ℕ))) → is_key q xs ≡ true →
    In (map (λ x. x.now) xs) q.now
key_listed q [] h = cc
key_listed q (x ∷ xs) h = go (is_eq (slice_cmp nat_cmp q.now x.now)) refl h (key_listed q xs)
  where
    go : (b : Bool) → is_eq (slice_cmp nat_cmp q.now x.now) ≡ b → (b || is_key q xs) ≡ true →
        (is_key q xs ≡ true → In (map (λ y. y.now) xs) q.now) →
        In (map (λ y. y.now) (x ∷ xs)) q.now
    go true e k rest = inl (sym ((bytes_decides q.now x.now).0 (texts_ties q.now x.now ∙ e)))
    go false e k rest = inr (rest k)

pub key_off : (q : Bor (List ℕ)) (xs : List (Bor (List ℕ))) → is_key q xs ≡ false →
    In (map (λ x. x.now) xs) q.now → ⊥
key_off q [] h m = m
key_off q (x ∷ xs) h m = go (is_eq (slice_cmp nat_cmp q.now x.now)) refl h m (key_off q xs)
  where
    go : (b : Bool) → is_eq (slice_cmp nat_cmp q.now x.now) ≡ b → (b || is_key q xs) ≡ false →
        In (map (λ y. y.now) (x ∷ xs)) q.now →
        (is_key q xs ≡ false → In (map (λ y. y.now) xs) q.now → ⊥) → ⊥
    go true e k n rest = (let f : true ≡ false = k in absurd (cc))
    go false e k (inl i) rest =
        let f = (bytes_decides q.now x.now).1 (sym i) in
        let g : true ≡ false = sym f ∙ (texts_ties q.now x.now ∙ e) in absurd (cc)
    go false e k (inr n) rest = rest k n

-- what begins a prefix of one more step is that prefix, or begins the shorter one
pub begins_push : (x u : List ℕ) (t : ℕ) → begins_with x (u ++ t ∷ []) ≡ true →
    (x ≡ u ++ t ∷ []) ⊎ (begins_with x u ≡ true)
begins_push [] u t h = inr refl
begins_push (y ∷ []) [] t h =
    inl (ap (λ z. z ∷ []) (eq_of y t (and_parts (nat_eq y t) true h).0))
begins_push (y ∷ z ∷ x) [] t h =
    (let e = (and_parts (nat_eq y t) false h).1 in absurd (cc))
begins_push (y ∷ x) (z ∷ u) t h =
    let a = and_parts (nat_eq y z) (begins_with x (u ++ t ∷ [])) h in
    elim (begins_push x u t a.1) [
      | inl e ↦ inl (λ k. eq_of y z a.0 k ∷ e k)
      | inr b ↦ inr (and_from (nat_eq y z) _ a.0 b)
    ]
