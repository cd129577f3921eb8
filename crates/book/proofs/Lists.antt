-- Lists: elements taken out, and the last ones taken one by one.
use Rattle.std.proofs.Common.{◌≡◌, ℕ, zero, suc, ◌+◌, ◌-◌, ◌<◌, ◌≤◌, List, [], ◌∷◌, ◌++◌, length, get_or, take, drop, refl, ap, sym, ◌∙◌, subst, arith, Option, Some, None, OnSome, IsSome, IfNone, ◌↔◌, ⊎_elim, slice_get, length-drop, length-append, append_assoc}
use Rattle.std.{specs.List.{All, remove, remove_range}, proofs.Math.Seq.take-suc}
use Rattle.std.proofs.lemmas.Bool.{cases_lt}
use Rattle.std.proofs.lemmas.List.{get_or-drop, take-append-drop, drop-drop, length-take-le}
use Rattle.std.proofs.lemmas.List.Edits.{remove-append_left, length-remove}
use Rattle.std.proofs.lemmas.List.Elements.{All-head, All-tail}
use Rattle.walk_items.specs.Items.{ItemView}
use Rattle.book.specs.Books.{remove_each, AreWithin, AreOpenAt}

pub parted : {A : Type 0} (l : List A) (k : ℕ) (i : A) → k < length l → slice_get l k ≡ Some i →
    l ≡ take k l ++ i ∷ drop (suc k) l
parted [] k i h e = absurd (omega arith)
parted (x ∷ xs) zero i h e = λ j. (let f : x ≡ i = cc in f) j ∷ xs
parted (x ∷ xs) (suc k) i h e = ap (λ l. x ∷ l) (parted xs k i (omega arith) e)

pub one_more : {X : Type 0} (xs : List X) (first k : ℕ) (x : X) → first ≤ k → k < length xs →
    x ≡ get_or xs k x →
    take (k - first) (drop first xs) ++ x ∷ [] ≡ take (k + 1 - first) (drop first xs)
one_more xs first k x lo hi is =
    let n : length (drop first xs) ≡ length xs - first = length-drop first xs in
    let e : k + 1 - first ≡ suc (k - first) = omega arith in
    let same : first + (k - first) ≡ k = omega arith in
    sym (ap (λ j. take j (drop first xs)) e
    ∙ take-suc (drop first xs) (k - first) x (omega arith)
    ∙ ap (λ y. take (k - first) (drop first xs) ++ y ∷ [])
    (get_or-drop first xs (k - first) x ∙ ap (λ j. get_or xs j x) same ∙ sym is))

pub no_items : {X : Type 0} (xs : List X) → length xs ≡ 0 → xs ≡ []
no_items [] e = refl
no_items (x ∷ xs) e = absurd (omega arith)

-- an element after the first ones of a list: where it is, and the list without it

pub dropped_at : {X : Type 0} (xs : List X) (k : ℕ) (x : X) → k < length xs →
    slice_get xs k ≡ Some x → drop k xs ≡ x ∷ drop (suc k) xs
dropped_at [] k x h e = absurd (omega arith)
dropped_at (y ∷ ys) zero x h e = λ j. (let f : y ≡ x = cc in f) j ∷ ys
dropped_at (y ∷ ys) (suc k) x h e = dropped_at ys k x (omega arith) e

-- a range taken out of a list that more elements precede
pub range_right : {X : Type 0} (xs ys : List X) (first end : ℕ) → length xs ≤ first → first ≤ end →
    xs ++ remove_range ys (first - length xs) (end - length xs)
    ≡ remove_range (xs ++ ys) first end
range_right [] ys first end h k =
    λ i. remove_range ys ((let e : first - 0 ≡ first = omega arith in e) i)
    ((let e : end - 0 ≡ end = omega arith in e) i)
range_right (x ∷ xs) ys zero end h k = absurd (omega arith)
range_right (x ∷ xs) ys (suc first) zero h k = absurd (omega arith)
range_right (x ∷ xs) ys (suc first) (suc end) h k =
    ap (λ zs. x ∷ zs)
    ((λ i. xs ++ remove_range ys
    ((let e : suc first - suc (length xs) ≡ first - length xs = omega arith in e) i)
    ((let e : suc end - suc (length xs) ≡ end - length xs = omega arith in e) i))
    ∙ range_right xs ys first end (omega arith) (omega arith))

pub none_out : {X : Type 0} (xs : List X) (k : ℕ) → remove_range xs k k ≡ xs
none_out [] zero = refl
none_out [] (suc k) = refl
none_out (x ∷ xs) zero = refl
none_out (x ∷ xs) (suc k) = ap (λ zs. x ∷ zs) (none_out xs k)

pub none_beyond : {X : Type 0} (xs : List X) (k : ℕ) → length xs ≤ k → remove xs k ≡ xs
none_beyond [] zero h = refl
none_beyond [] (suc k) h = refl
none_beyond (x ∷ xs) zero h = absurd (omega arith)
none_beyond (x ∷ xs) (suc k) h = ap (λ zs. x ∷ zs) (none_beyond xs k (omega arith))

none_some : (X P : Type 0) → IsSome {T = X} None → P
none_some X P e = cc

-- an element taken out, if there is one
pub removed_any : {X : Type 0} (o : Option X) (old new : List X) (k n : ℕ) →
    OnSome o (new ≡ remove old k) → (IsSome o ↔ (k < n)) → n ≡ length old → IfNone o (new ≡ old) →
    new ≡ remove old k
removed_any (Some x) old new k n h v e u = h
removed_any {X} None old new k n h v e u =
    u ∙ sym (none_beyond old k
    (let g : n ≤ k = ⊎_elim (λ (l : k < n). none_some X (n ≤ k) (v.1 l)) (λ (g : n ≤ k). g)
    (cases_lt k n) in
    omega (arith, g, e)))

-- elements taken out one by one, each place counted without those before it

pub each_left : {X : Type 0} (xs ys : List X) (ks : List ℕ) → AreWithin xs ks →
    remove_each (xs ++ ys) ks ≡ remove_each xs ks ++ ys
each_left xs ys [] h = refl
each_left xs ys (k ∷ ks) h =
    ap (λ zs. remove_each zs ks) (remove-append_left xs ys k h.0)
    ∙ each_left (remove xs k) ys ks h.1

pub each_more : {X : Type 0} (xs : List X) (ks : List ℕ) (k : ℕ) →
    remove_each xs (ks ++ k ∷ []) ≡ remove (remove_each xs ks) k
each_more xs [] k = refl
each_more xs (j ∷ ks) k = each_more (remove xs j) ks k

out_again : {X : Type 0} (xs : List X) (first end : ℕ) → first < length xs → first ≤ end →
    remove_range (remove xs first) first end ≡ remove_range xs first (suc end)
out_again [] first end h k = absurd (omega arith)
out_again (x ∷ xs) zero end h k = refl
out_again (x ∷ xs) (suc first) zero h k = absurd (omega arith)
out_again (x ∷ xs) (suc first) (suc end) h k =
    ap (λ zs. x ∷ zs) (out_again xs first end (omega arith) (omega arith))

pub within_more : {X : Type 0} (xs ys : List X) (ks : List ℕ) → AreWithin xs ks →
    AreWithin (xs ++ ys) ks
within_more xs ys [] h = tt
within_more xs ys (k ∷ ks) h =
    let l = h.0 in
    let n = length-append xs ys in (
      omega (arith, l, n),
      subst (λ zs. AreWithin zs ks) (sym (remove-append_left xs ys k h.0))
          (within_more (remove xs k) ys ks h.1),
    )

pub within_same : {X : Type 0} (xs : List X) (first : ℕ) (ks : List ℕ) → All (λ k. k ≡ first) ks →
    0 < length ks → AreWithin xs ks → first + length ks ≤ length xs
within_same xs first [] a some h = absurd (omega (arith, some))
within_same xs first (k ∷ []) a some h =
    let at : k ≡ first = All-head (λ j. j ≡ first) k [] a in
    let l = h.0 in omega (arith, at, l)
within_same xs first (k ∷ j ∷ ks) a some h =
    let less = length-remove xs k h.0 in
    let r = within_same (remove xs k) first (j ∷ ks) (All-tail (λ i. i ≡ first) k (j ∷ ks) a)
    (omega arith) h.1 in
    omega (arith, less, r)

-- all at one place: a range
pub each_same : {X : Type 0} (xs : List X) (first : ℕ) (ks : List ℕ) → All (λ k. k ≡ first) ks →
    first + length ks ≤ length xs →
    AreWithin xs ks × (remove_each xs ks ≡ remove_range xs first (first + length ks))
each_same xs first [] a h =
    let e : first ≡ first + 0 = omega arith in
    (tt, sym (none_out xs first) ∙ ap (remove_range xs first) e)
each_same {X} xs first (k ∷ ks) a h =
    let at : k ≡ first = All-head (λ j. j ≡ first) k ks a in
    let lt : k < length xs = omega (arith, at, h) in
    let less = length-remove xs k lt in
    let r = each_same (remove xs k) first ks (All-tail (λ j. j ≡ first) k ks a)
    (omega (arith, less, h)) in
    let e : suc (first + length ks) ≡ first + suc (length ks) = omega arith in (
      (lt, r.0),
      r.1 ∙ (ap (λ j. remove_range (remove xs j) first (first + length ks)) at
          ∙ (out_again xs first (first + length ks) (omega (arith, at, lt)) (omega arith)
          ∙ ap (remove_range xs first) e)),
    )

-- what is left begins with some elements, and goes on as the list does after the last place
pub record IsBehind {X : Type 0} (xs left : List X) (least behind count : ℕ) : Type 0 where
  pub front : List X
  pub is : left ≡ front ++ drop behind xs
  pub out : length front + count ≡ behind
  pub from : least ≤ length front

pub behind_first : {X : Type 0} (xs : List X) (least behind : ℕ) → behind ≤ length xs →
    least ≤ behind → IsBehind xs xs least behind 0
behind_first xs least behind h l =
    let n = length-take-le behind xs h in
    record {
      front = take behind xs;
      is = sym (take-append-drop behind xs);
      out = omega (arith, n);
      from = omega (arith, n, l);
    }

pub at_front : {X : Type 0} (front ys : List X) (x : X) (k : ℕ) → k ≡ length front →
    (k < length (front ++ x ∷ ys)) × (slice_get (front ++ x ∷ ys) k ≡ Some x)
    × (remove (front ++ x ∷ ys) k ≡ front ++ ys)
at_front [] ys x zero e = (omega arith, refl, refl)
at_front [] ys x (suc k) e = absurd (omega (arith, e))
at_front (z ∷ front) ys x zero e = absurd (omega (arith, e))
at_front (z ∷ front) ys x (suc k) e =
    let r = at_front front ys x k (omega (arith, e)) in
    let l = r.0 in (omega (arith, l), r.1, ap (λ zs. z ∷ zs) r.2)

-- the next one
pub behind_next : {X : Type 0} (xs left : List X) (least behind count place : ℕ) (x : X) →
    IsBehind xs left least behind count → behind ≤ place → place < length xs →
    slice_get xs place ≡ Some x →
    (least ≤ place - count) × (place - count < length left)
    × (slice_get left (place - count) ≡ Some x)
    × IsBehind xs (remove left (place - count)) least (place + 1) (count + 1)
behind_next {X} xs left least behind count place x h from to at = (
  let a = h.out in let b = h.from in omega (arith, a, b, from),
  subst (λ (zs : List X). place - count < length zs) (sym parts) r.0,
  ap (λ zs. slice_get zs (place - count)) parts ∙ r.1,
  record {
    front = before;
    is = ap (λ zs. remove zs (place - count)) parts
        ∙ (r.2 ∙ ap (λ n. before ++ drop n xs) (let e : suc place ≡ place + 1 = omega arith in e));
    out = let a = h.out in omega (arith, len, a, from);
    from = let b = h.from in omega (arith, len, b);
  },
)
  where
    rest : List X
    rest = drop behind xs

    n : ℕ
    n = place - behind

    before : List X
    before = h.front ++ take n rest

    len : length before ≡ length h.front + n
    len = length-append h.front (take n rest)
        ∙ ap (λ m. length h.front + m)
        (length-take-le n rest (let l = length-drop behind xs in omega (arith, l, from, to)))

    parts : left ≡ before ++ x ∷ drop (suc place) xs
    parts = h.is ∙ (ap (λ zs. h.front ++ zs) (sym (take-append-drop n rest)
        ∙ ap (λ zs. take n rest ++ zs)
        (drop-drop n behind xs
        ∙ (ap (λ m. drop m xs) (let e : behind + n ≡ place = omega (arith, from) in e)
        ∙ dropped_at xs place x to at)))
        ∙ sym (append_assoc h.front (take n rest) (x ∷ drop (suc place) xs)))

    r : (place - count < length (before ++ x ∷ drop (suc place) xs))
        × (slice_get (before ++ x ∷ drop (suc place) xs) (place - count) ≡ Some x)
        × (remove (before ++ x ∷ drop (suc place) xs) (place - count)
        ≡ before ++ drop (suc place) xs)
    r = at_front before (drop (suc place) xs) x (place - count)
        (let a = h.out in omega (arith, len, a, from))

-- one more item of a round is found
pub open_more : (xs items : List ItemView) (ks qs : List ℕ) (k q : ℕ) → AreOpenAt xs items ks qs →
    q < length (remove_each xs qs) → slice_get items k ≡ slice_get (remove_each xs qs) q →
    AreOpenAt xs items (ks ++ k ∷ []) (qs ++ q ∷ [])
open_more xs items [] [] k q h lt at = (lt, at, tt)
open_more xs items [] (p ∷ qs) k q h lt at = absurd h
open_more xs items (j ∷ ks) [] k q h lt at = absurd h
open_more xs items (j ∷ ks) (p ∷ qs) k q h lt at =
    (h.0, h.1, open_more (remove xs p) items ks qs k q h.2 lt at)

pub open_within : (xs items : List ItemView) (ks qs : List ℕ) → AreOpenAt xs items ks qs →
    AreWithin xs qs
open_within xs items [] [] h = tt
open_within xs items [] (q ∷ qs) h = absurd h
open_within xs items (k ∷ ks) [] h = absurd h
open_within xs items (k ∷ ks) (q ∷ qs) h = (h.0, open_within (remove xs q) items ks qs h.2)
