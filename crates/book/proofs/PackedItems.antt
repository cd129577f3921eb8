-- Items of packed prefixes, read from the last on.
use Rattle.std.proofs.Common.{◌≡◌, ℕ, zero, suc, Bool, true, false, cond, not, Option, Some, None, Result, Ok, Err, IfSome, IfNone, IfOk, slice_get, ◌+◌, ◌-◌, ◌<◌, ◌≤◌, List, [], ◌∷◌, ◌++◌, length, get_or, take, drop, map, min, refl, ap, sym, ◌∙◌, subst, arith, length-append, length-take, ⊎_elim}
use Rattle.std.{specs.List.{All, filter}, proofs.lemmas.Bool.cases_lt}
use Rattle.std.proofs.lemmas.List.{drop-map, take_all, drop_at, drop_all, drop-drop, drop-append-le, length-map, take-append-drop, get_or-take}
use Rattle.std.proofs.lemmas.List.Elements.{All-nil, All-cons, All-append, All-head, All-tail, All-weaker}
use Rattle.guest_code.specs.Program.{Program}
use Rattle.semantics.specs.Mask.{no_threads}
use Rattle.walk_items.specs.{Items.{ItemView, AreOf, IsItem, item_at}, Walks.{IsBelow, items_at}}
use Rattle.walk_items.proofs.{LastItems.items_of_both, ListParts.{all_left, all_right}}
use Rattle.walk_prefixes.specs.PrefixLists.{last_of, is_later}
use Rattle.book.specs.ItemLists.{ListView, all_of}

-- items that lie under another run
pub below_run : (above : ItemView) (items : List ItemView) → All (IsBelow above) items →
    All IsItem items
below_run above items h = All-weaker (IsBelow above) IsItem (λ i b. b.item) items h

pub length-all : (p : Program) (l : ListView) →
    length (all_of p l) ≡ length l.packed + length l.unpacked
length-all p l =
    omega (arith, length-append (items_at p l.packed) l.unpacked, length-map l.packed (item_at p))

pub got-right : {X : Type 0} (xs ys : List X) (k : ℕ) → length xs ≤ k →
    slice_get (xs ++ ys) k ≡ slice_get ys (k - length xs)
got-right [] ys k h = let e : k ≡ k - 0 = omega arith in ap (slice_get ys) e
got-right (x ∷ xs) ys zero h = absurd (omega arith)
got-right (x ∷ xs) ys (suc k) h =
    let e : k - length xs ≡ suc k - suc (length xs) = omega arith in
    got-right xs ys k (omega arith) ∙ ap (slice_get ys) e

pub got-left : {X : Type 0} (xs ys : List X) (k : ℕ) → k < length xs →
    slice_get (xs ++ ys) k ≡ slice_get xs k
got-left [] ys k h = absurd (omega arith)
got-left (x ∷ xs) ys zero h = refl
got-left (x ∷ xs) ys (suc k) h = got-left xs ys k (omega arith)

pub got-map : {X Y : Type 0} (f : X → Y) (xs : List X) (k : ℕ) (x : X) →
    slice_get xs k ≡ Some x → slice_get (map f xs) k ≡ Some (f x)
got-map f [] k x e = cc
got-map f (y ∷ ys) zero x e = let h : y ≡ x = cc in ap (λ z. Some (f z)) h
got-map f (y ∷ ys) (suc k) x e = got-map f ys k x e

-- an item that isn't packed
pub got-unpacked : (p : Program) (l : ListView) (k : ℕ) (i : ItemView) → length l.packed ≤ k →
    slice_get l.unpacked (k - length l.packed) ≡ Some i → slice_get (all_of p l) k ≡ Some i
got-unpacked p l k i h e =
    let n = length-map l.packed (item_at p) in
    got-right (items_at p l.packed) l.unpacked k (omega (arith, n, h))
    ∙ (ap (λ m. slice_get l.unpacked (k - m)) n ∙ e)

-- an item that is packed
pub got-packed : (p : Program) (l : ListView) (k : ℕ) (w : List ℕ) → k < length l.packed →
    slice_get l.packed k ≡ Some w → slice_get (all_of p l) k ≡ Some (item_at p w)
got-packed p l k w h e =
    let n = length-map l.packed (item_at p) in
    got-left (items_at p l.packed) l.unpacked k (omega (arith, n, h))
    ∙ got-map (item_at p) l.packed k w e

-- the last items, some of them packed
pub last_of_both : {X : Type 0} (xs ys : List X) (n most count : ℕ) → n ≡ length xs →
    count ≡ min (most - length ys) n →
    drop (n - count) xs ++ drop (length ys - most) ys
    ≡ drop (length (xs ++ ys) - most) (xs ++ ys)
last_of_both xs ys n most count e f =
    let l = length-append xs ys in
    ⊎_elim
    (λ (h : most < length ys).
    let a : length xs ≤ n - count = omega (arith, e, f, h) in
    let b : length (xs ++ ys) - most ≡ length xs + (length ys - most) = omega (arith, l, h) in
    ap (λ zs. zs ++ drop (length ys - most) ys) (drop_all (n - count) xs a)
    ∙ sym (ap (λ m. drop m (xs ++ ys)) b
    ∙ (sym (drop-drop (length ys - most) (length xs) (xs ++ ys))
    ∙ ap (drop (length ys - most)) (drop_at xs ys (length xs) refl))))
    (λ (h : length ys ≤ most).
    let a : length ys - most ≡ 0 = omega (arith, h) in
    let b : length (xs ++ ys) - most ≡ n - count = omega (arith, l, e, f, h) in
    ap (λ m. drop (n - count) xs ++ drop m ys) a
    ∙ (sym (drop-append-le (n - count) xs ys (omega (arith, e)))
    ∙ ap (λ m. drop m (xs ++ ys)) (sym b)))
    (cases_lt most (length ys))

pub cut-both : (p : Program) (packed : List (List ℕ)) (unpacked : List ItemView) (n : ℕ) →
    items_at p (take n packed) ++ take (n - length packed) unpacked
    ≡ take n (items_at p packed ++ unpacked)
cut-both p [] unpacked zero = let e : 0 - 0 ≡ 0 = omega arith in ap (λ m. take m unpacked) e
cut-both p [] unpacked (suc n) = let e : suc n - 0 ≡ suc n = omega arith in ap (λ m. take m unpacked) e
cut-both p (w ∷ ws) unpacked zero =
    let e : 0 - suc (length ws) ≡ 0 = omega arith in ap (λ m. take m unpacked) e
cut-both p (w ∷ ws) unpacked (suc n) =
    let e : suc n - suc (length ws) ≡ n - length ws = omega arith in
    ap (λ is. item_at p w ∷ is)
    (ap (λ m. items_at p (take n ws) ++ take m unpacked) e ∙ cut-both p ws unpacked n)

-- a list without its last items, and these, where they aren't packed
pub kept_unpacked : (p : Program) (l : ListView) (most : ℕ) → most ≤ length l.unpacked →
    items_at p l.packed ++ take (length l.unpacked - most) l.unpacked
    ≡ take (length (all_of p l) - most) (all_of p l)
kept_unpacked p l most h =
    let n = length-all p l in
    let m : ℕ = length (all_of p l) - most in
    let e : length l.unpacked - most ≡ m - length l.packed = omega (arith, n, h) in
    ap (λ i. items_at p l.packed ++ take i l.unpacked) e
    ∙ (sym (ap (λ ws. items_at p ws ++ take (m - length l.packed) l.unpacked)
    (take_all m l.packed (omega (arith, n, h)))) ∙ cut-both p l.packed l.unpacked m)

pub moved_unpacked : (p : Program) (l : ListView) (most : ℕ) → most ≤ length l.unpacked →
    drop (length l.unpacked - most) l.unpacked
    ≡ drop (length (all_of p l) - most) (all_of p l)
moved_unpacked p l most h =
    let packed : List ItemView = items_at p l.packed in
    let n = length-append packed l.unpacked in
    let e : length packed + (length l.unpacked - most) ≡ length (all_of p l) - most =
    omega (arith, n, h) in
    sym (ap (drop (length l.unpacked - most)) (drop_at packed l.unpacked (length packed) refl))
    ∙ (drop-drop (length l.unpacked - most) (length packed) (all_of p l)
    ∙ ap (λ i. drop i (all_of p l)) e)

-- and where some are packed, and all that aren't are among them
pub kept_packed : (p : Program) (l : ListView) (most : ℕ) → length l.unpacked ≤ most →
    items_at p (take (length l.packed - (most - length l.unpacked)) l.packed) ++ []
    ≡ take (length (all_of p l) - most) (all_of p l)
kept_packed p l most h =
    let n = length-all p l in
    let m : ℕ = length (all_of p l) - most in
    let e : length l.packed - (most - length l.unpacked) ≡ m = omega (arith, n, h) in
    let none : 0 ≡ m - length l.packed = omega (arith, n, h) in
    (λ k. items_at p (take (e k) l.packed) ++ take (none k) l.unpacked)
    ∙ cut-both p l.packed l.unpacked m

pub moved_packed : (p : Program) (l : ListView) (most : ℕ) → length l.unpacked ≤ most →
    items_at p (drop (length l.packed - (most - length l.unpacked)) l.packed) ++ l.unpacked
    ≡ drop (length (all_of p l) - most) (all_of p l)
moved_packed p l most h =
    let n = length-all p l in
    let packed : List ItemView = items_at p l.packed in
    let m = length-map l.packed (item_at p) in
    let j : ℕ = length l.packed - (most - length l.unpacked) in
    let e : j ≡ length (all_of p l) - most = omega (arith, n, h) in
    ap (λ is. is ++ l.unpacked) (sym (drop-map (item_at p) j l.packed))
    ∙ (sym (drop-append-le j packed l.unpacked (omega (arith, m)))
    ∙ ap (λ i. drop i (all_of p l)) e)

pub got-or : {X : Type 0} (xs : List X) (k : ℕ) (d : X) → k < length xs →
    slice_get xs k ≡ Some (get_or xs k d)
got-or [] k d h = absurd (omega arith)
got-or (x ∷ xs) zero d h = refl
got-or (x ∷ xs) (suc k) d h = got-or xs k d (omega arith)

-- the last of the first prefixes
pub got-last : (ws : List (List ℕ)) (k : ℕ) → k < length ws →
    slice_get ws k ≡ Some (last_of (take (k + 1) ws))
got-last ws k h =
    let n : length (take (k + 1) ws) - 1 ≡ k = omega (arith, length-take (k + 1) ws, h) in
    got-or ws k [] h
    ∙ ap (λ w. Some w)
    (sym (ap (λ j. get_or (take (k + 1) ws) j []) n ∙ get_or-take (k + 1) ws k [] (omega arith)))

-- the first of prefixes that run
pub first_run : (p : Program) (ws : List (List ℕ)) (n : ℕ) → All IsItem (items_at p ws) →
    All IsItem (items_at p (take n ws))
first_run p ws n h =
    all_left IsItem (items_at p (take n ws)) (items_at p (drop n ws))
    (subst (All IsItem)
    (sym (sym (items_of_both p (take n ws) (drop n ws)) ∙ ap (items_at p) (take-append-drop n ws)))
    h)

-- none of the items from one place to another is this one
pub record NotBetween (first end : ℕ) (items : List ItemView) (item : ItemView) : Type 0 where
  pub none : (j : ℕ) (d : ItemView) → first ≤ j → j < end → get_or items j d ≡ item → ⊥

-- the item is none of these

pub none_packed : (p : Program) (ws : List (List ℕ)) (item : ItemView) →
    All (λ w. w ≡ item.prefix → ⊥) ws → All (λ i. i ≡ item → ⊥) (items_at p ws)
none_packed p [] item h = All-nil (λ (i : ItemView). i ≡ item → ⊥)
none_packed p (w ∷ ws) item h =
    All-cons (λ (i : ItemView). i ≡ item → ⊥) (item_at p w) (items_at p ws)
    (λ e. All-head (λ (v : List ℕ). v ≡ item.prefix → ⊥) w ws h (ap (λ i. i.prefix) e))
    (none_packed p ws item (All-tail (λ (v : List ℕ). v ≡ item.prefix → ⊥) w ws h))

pub none_masked : (p : Program) (ws : List (List ℕ)) (item : ItemView) →
    (item.mask ≡ no_threads → ⊥) → All (λ i. i ≡ item → ⊥) (items_at p ws)
none_masked p [] item h = All-nil (λ (i : ItemView). i ≡ item → ⊥)
none_masked p (w ∷ ws) item h =
    All-cons (λ (i : ItemView). i ≡ item → ⊥) (item_at p w) (items_at p ws)
    (λ e. h (sym (ap (λ i. i.mask) e))) (none_masked p ws item h)

pub if_none : {X : Type 0} (o : Option X) (P Q : Type 0) → (P → Q) → IfNone o P → IfNone o Q
if_none None P Q f h = f h
if_none (Some x) P Q f h = tt

pub if_some : {X : Type 0} (o : Option X) (P Q : X → Type 0) → ((x : X) → P x → Q x) →
    IfSome o P → IfSome o Q
if_some None P Q f h = tt
if_some (Some x) P Q f h = f x h

pub if_ok : {X Y : Type 0} (r : Result X Y) (P Q : X → Type 0) → ((x : X) → P x → Q x) →
    IfOk r P → IfOk r Q
if_ok (Ok x) P Q f h = f x h
if_ok (Err e) P Q f h = tt

-- a prefix that is packed is the item of the prefix
pub packed_there : (item : ItemView) (ws : List (List ℕ)) (k : ℕ) (w : List ℕ) →
    w ≡ item.prefix → item.mask ≡ no_threads → slice_get ws k ≡ Some w →
    slice_get (items_at item.program ws) k ≡ Some item
packed_there item ws k w e m h =
    got-map (item_at item.program) ws k w h
    ∙ (λ j. Some (record { program = item.program; prefix = e j; mask = sym m j }))

-- the items of prefixes are of their program
items_own : (p : Program) (ws : List (List ℕ)) → AreOf p (items_at p ws)
items_own p [] = All-nil (λ (i : ItemView). i.program ≡ p)
items_own p (w ∷ ws) =
    All-cons (λ (i : ItemView). i.program ≡ p) (item_at p w) (items_at p ws) refl (items_own p ws)

-- a list with the items of another of this program is of this program, too
pub still_own : (p : Program) (old new : ListView) → all_of p new ≡ all_of p old →
    AreOf p old.unpacked → AreOf p new.unpacked
still_own p old new same own =
    all_right (λ (i : ItemView). i.program ≡ p) (items_at p new.packed) new.unpacked
    (subst (AreOf p) (sym same)
    (All-append (λ (i : ItemView). i.program ≡ p) (items_at p old.packed) old.unpacked
    (items_own p old.packed) own))

-- the items of the prefixes that don't come after a schedule
pub items_left : (p : Program) (s : List ℕ) (ws : List (List ℕ)) →
    items_at p (filter (λ w. not (is_later s w)) ws)
    ≡ filter (λ i. not (is_later s i.prefix)) (items_at p ws)
items_left p s [] = refl
items_left p s (w ∷ ws) = go (not (is_later s w)) (items_left p s ws)
  where
    go : (b : Bool) → items_at p (filter (λ v. not (is_later s v)) ws)
        ≡ filter (λ i. not (is_later s i.prefix)) (items_at p ws) →
        items_at p (cond b (w ∷ filter (λ v. not (is_later s v)) ws)
        (filter (λ v. not (is_later s v)) ws))
        ≡ cond b (item_at p w ∷ filter (λ i. not (is_later s i.prefix)) (items_at p ws))
        (filter (λ i. not (is_later s i.prefix)) (items_at p ws))
    go true e = ap (λ is. item_at p w ∷ is) e
    go false e = e
