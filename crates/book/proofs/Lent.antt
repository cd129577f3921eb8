-- Items that are lent, and those that come back: the book keeps what it keeps.
use Rattle.std.proofs.Common.{◌≡◌, ℕ, zero, suc, ◌+◌, ◌-◌, ◌<◌, Bool, false, not, ◌&&◌, List, [], ◌∷◌, ◌++◌, length, get_or, take, drop, set, map, replicate, Some, slice_get, refl, ap, sym, ◌∙◌, subst, arith, append_assoc, length-append, IsPermutation}
use Rattle.std.specs.List.{All, remove}
use Rattle.std.proofs.lemmas.List.{take-append-drop, take_more, set_split, map-append}
use Rattle.std.proofs.lemmas.List.{Concat.flat_map-append, Edits.remove-append_left}
use Rattle.std.proofs.lemmas.List.Sorted.{IsPermutation-refl, IsPermutation-append_right, IsPermutation-append_comm, IsPermutation-trans}
use Rattle.guest_code.specs.Program.{Program}
use Rattle.walk_summary.specs.Summaries.{join}
use Rattle.walk_items.specs.{Items.{ItemView, AreOf, IsItem}, Walks.{IsBelow, items_at, listed_if}}
use Rattle.walk_items.proofs.{ListParts.{all_left, all_right}, Splits.split_permuted}
use Rattle.walk.specs.declared.found.Found.{Found}
use Rattle.book.specs.Books.{BookView, Keeps, KeepsWhere, AreOpenAt, HaveFound, HaveSettled, with_deferred, places_from, remove_each, taken_in}
use Rattle.book.specs.ItemLists.{ListView, all_of}
use Rattle.book.specs.Lending.{LendingView, Reorders, IsLoanOf, Has, as_book, all_lent, lent_to}
use Rattle.book.proofs.{Gathered.settled_together, Kept.{kept_whole, kept_within}}
use Rattle.book.proofs.{Lists.{parted, at_front}, OpenItems.{left_below, open_of}}
use Rattle.book.proofs.{PackedItems.{below_run, got-left, got-map, got-or}, Rounds.open_from}

-- elements of a list by their places

pub within : {X : Type 0} (xs : List X) (k : ℕ) (x : X) → slice_get xs k ≡ Some x → k < length xs
within [] k x e = cc
within (y ∷ ys) zero x e = omega arith
within (y ∷ ys) (suc k) x e = let h = within ys k x e in omega (arith, h)

pub set_same : {X : Type 0} (xs : List X) (k : ℕ) (x : X) → slice_get xs k ≡ Some x →
    set xs k x ≡ xs
set_same [] k x e = cc
set_same (y ∷ ys) zero x e = λ i. (let f : x ≡ y = cc in f) i ∷ ys
set_same (y ∷ ys) (suc k) x e = ap (λ zs. y ∷ zs) (set_same ys k x e)

pub got_set : {X : Type 0} (xs : List X) (k : ℕ) (x : X) → k < length xs →
    slice_get (set xs k x) k ≡ Some x
got_set [] k x h = absurd (omega arith)
got_set (y ∷ ys) zero x h = refl
got_set (y ∷ ys) (suc k) x h = got_set ys k x (omega arith)

-- what a worker has, of a book that keeps it in lists
pub lent_at : (p : Program) (lent : List ListView) (k : ℕ) (l : ListView) → k < length lent →
    l ≡ get_or lent k l → slice_get (map (all_of p) lent) k ≡ Some (all_of p l)
lent_at p lent k l h e =
    got-map (all_of p) lent k l (got-or lent k l h ∙ ap (λ x. Some x) (sym e))

-- where a worker's items stand among what all have
pub lent_parts : (lent : List (List ItemView)) (k : ℕ) (items : List ItemView) →
    slice_get lent k ≡ Some items →
    all_lent lent ≡ all_lent (take k lent) ++ (items ++ all_lent (drop (suc k) lent))
lent_parts lent k items e =
    ap all_lent (parted lent k items (within lent k items e) e)
    ∙ flat_map-append (λ is. is) (take k lent) (items ∷ drop (suc k) lent)

pub set_parts : (lent : List (List ItemView)) (k : ℕ) (items : List ItemView) → k < length lent →
    all_lent (set lent k items)
    ≡ all_lent (take k lent) ++ (items ++ all_lent (drop (suc k) lent))
set_parts lent k items h =
    ap all_lent (set_split lent k items h)
    ∙ flat_map-append (λ is. is) (take k lent) (items ∷ drop (suc k) lent)

pub none_lent : (n : ℕ) → all_lent (replicate n []) ≡ []
none_lent zero = refl
none_lent (suc n) = none_lent n

-- the last free items go to a worker
lent_permuted : (lent : List (List ItemView)) (k : ℕ) (t x : List ItemView) →
    slice_get lent k ≡ Some [] →
    IsPermutation (all_lent lent ++ (t ++ x)) (all_lent (set lent k x) ++ t)
lent_permuted lent k t x e =
    let a : List ItemView = all_lent (take k lent) in
    let b : List ItemView = all_lent (drop (suc k) lent) in
    let old : all_lent lent ++ (t ++ x) ≡ a ++ ((b ++ t) ++ x) =
    ap (λ is. is ++ (t ++ x)) (lent_parts lent k [] e)
    ∙ (append_assoc a b (t ++ x) ∙ ap (λ is. a ++ is) (sym (append_assoc b t x))) in
    let new : all_lent (set lent k x) ++ t ≡ a ++ (x ++ (b ++ t)) =
    ap (λ is. is ++ t) (set_parts lent k x (within lent k [] e))
    ∙ (append_assoc a (x ++ b) t ∙ ap (λ is. a ++ is) (append_assoc x b t)) in
    subst (λ is. IsPermutation is (all_lent (set lent k x) ++ t)) (sym old)
    (subst (IsPermutation (a ++ ((b ++ t) ++ x))) (sym new)
    (IsPermutation-append_right a ((b ++ t) ++ x) (x ++ (b ++ t))
    (IsPermutation-append_comm (b ++ t) x)))

-- what the last worker has is free again
pub back_permuted : (lent : List (List ItemView)) (x free : List ItemView) →
    IsPermutation (all_lent (lent ++ x ∷ []) ++ free) (all_lent lent ++ (free ++ x))
back_permuted lent x free =
    let a : List ItemView = all_lent lent in
    let old : all_lent (lent ++ x ∷ []) ++ free ≡ a ++ (x ++ free) =
    ap (λ is. is ++ free) (flat_map-append (λ is. is) lent (x ∷ []))
    ∙ (append_assoc a (x ++ []) free ∙ ap (λ is. a ++ is) (append_assoc x [] free)) in
    subst (λ is. IsPermutation is (a ++ (free ++ x))) (sym old)
    (IsPermutation-append_right a (x ++ free) (free ++ x) (IsPermutation-append_comm x free))

pub lists_back : (p : Program) (all : List ItemView) (lent left : List ListView)
    (l free : ListView) → lent ≡ left ++ l ∷ [] →
    IsPermutation all (all_lent (map (all_of p) lent) ++ all_of p free) →
    IsPermutation all (all_lent (map (all_of p) left) ++ (all_of p free ++ all_of p l))
lists_back p all lent left l free e h =
    let apart : map (all_of p) lent ≡ map (all_of p) left ++ all_of p l ∷ [] =
    ap (map (all_of p)) e ∙ map-append (all_of p) left (l ∷ []) in
    IsPermutation-trans all _ _
    (subst (λ ls. IsPermutation all (all_lent ls ++ all_of p free)) apart h)
    (back_permuted (map (all_of p) left) (all_of p l) (all_of p free))

pub all_back : (p : Program) (all : List ItemView) (lent : List ListView) (free : ListView) →
    length lent ≡ 0 → IsPermutation all (all_lent (map (all_of p) lent) ++ all_of p free) →
    IsPermutation all (all_of p free)
all_back p all [] free e h = h
all_back p all (l ∷ lent) free e h = absurd (omega (arith, e))

-- one worker's more are counted
pub counted_more : (lent : List (List ItemView)) (k : ℕ) (x free : List ItemView) →
    slice_get lent k ≡ Some x →
    length (all_lent (take (k + 1) lent) ++ free)
    ≡ length (all_lent (take k lent) ++ free) + length x
counted_more lent k x free e =
    let lt = within lent k x e in
    let there : Some (get_or lent k x) ≡ Some x = sym (got-or lent k x lt) ∙ e in
    let same : get_or lent k x ≡ x = cc in
    let more : all_lent (take (k + 1) lent) ≡ all_lent (take k lent) ++ (x ++ []) =
    ap all_lent (take_more lent k x lt ∙ ap (λ y. take k lent ++ y ∷ []) same)
    ∙ flat_map-append (λ is. is) (take k lent) (x ∷ []) in
    omega (
      arith,
      ap length more,
      length-append (all_lent (take k lent)) (x ++ []),
      length-append x [],
      length-append (all_lent (take (k + 1) lent)) free,
      length-append (all_lent (take k lent)) free,
    )

-- a book keeps what it keeps with its open items in another order
pub keeps_permuted : (b : BookView) (items : List ItemView) → b.dropped ≡ false →
    IsPermutation b.open_items items → Keeps b → Keeps (record b { open_items = items })
keeps_permuted b items whole moved h = record {
  put = h.put;
  listed = h.listed;
  split = subst (λ (d : Bool). KeepsWhere d (with_deferred (record b { open_items = items }) h.put))
      (sym whole)
      (record {
        within = kept_within b h;
        split = split_permuted b.mode b.of b.finished b.open_items items h.put moved
            (kept_whole b h whole).split;
      });
}

pub lends : (b : LendingView) (k most : ℕ) → Has b k [] →
    Reorders (as_book b) (as_book (lent_to b k most))
lends b k most idle = record {
  book = refl;
  same = subst (λ is. IsPermutation (all_lent b.lent ++ is) (as_book (lent_to b k most)).open_items)
      (take-append-drop (length b.free - most) b.free)
      (lent_permuted b.lent k _ _ idle);
}

pub reordered : (b : LendingView) (new : BookView) → Reorders (as_book b) new →
    Keeps (as_book b) → Keeps new
reordered b new r h =
    subst Keeps (sym r.book) (keeps_permuted (as_book b) new.open_items refl r.same h)

pub same_order : (b : BookView) → Reorders b b
same_order b = record { book = refl; same = IsPermutation-refl b.open_items }

pub open_runs : (b : LendingView) → Keeps (as_book b) → All IsItem (as_book b).open_items
open_runs b h =
    below_run b.of (as_book b).open_items
    (all_left (IsBelow b.of) (as_book b).open_items b.deferred
    (left_below (as_book b) h))

-- what a worker has is of the book's program, and runs
pub of_worker : (b : LendingView) (k : ℕ) (items : List ItemView) → Has b k items →
    Keeps (as_book b) → All IsItem items × AreOf b.of.program items
of_worker b k items has h = (
  part IsItem (open_runs b h),
  part (λ i. i.program ≡ b.of.program) (open_of (as_book b) h),
)
  where
    part : (P : ItemView → Type 0) → All P (as_book b).open_items → All P items
    part P all =
        all_left P items (all_lent (drop (suc k) b.lent))
        (all_right P (all_lent (take k b.lent)) _
        (subst (All P) (lent_parts b.lent k items has) (all_left P (all_lent b.lent) b.free all)))

pub is_loan : (p : Program) (l : ListView) → All IsItem (all_of p l) × AreOf p (all_of p l) →
    IsLoanOf p l
is_loan p l h = record {
  run = all_left IsItem (items_at p l.packed) l.unpacked h.0;
  own = all_right (λ i. i.program ≡ p) (items_at p l.packed) l.unpacked h.1;
}

pub same_loan : (p : Program) (l m : ListView) → m.packed ≡ l.packed → m.unpacked ≡ l.unpacked →
    IsLoanOf p l → IsLoanOf p m
same_loan p l m e f h = record {
  run = subst (λ ws. All IsItem (items_at p ws)) (sym e) h.run;
  own = subst (AreOf p) (sym f) h.own;
}

-- a worker's items leave the open ones, and what walks of them left is free
abbrev pub came_back : LendingView → ℕ → Found → LendingView
came_back b k found = record b {
  finished = join b.finished found.part;
  free = b.free ++ found.rest.items;
  lent = set b.lent k [];
  deferred = b.deferred ++ listed_if b.lists (items_at b.of.program found.deferred);
}

-- they stand among the open ones, one after another
open_more : (xs ys items : List ItemView) (ks qs : List ℕ) → AreOpenAt xs items ks qs →
    AreOpenAt (xs ++ ys) items ks qs
open_more xs ys items [] [] h = tt
open_more xs ys items [] (q ∷ qs) h = absurd h
open_more xs ys items (k ∷ ks) [] h = absurd h
open_more xs ys items (k ∷ ks) (q ∷ qs) h =
    let l = h.0 in
    let n = length-append xs ys in (
      omega (arith, l, n),
      h.1 ∙ sym (got-left xs ys q h.0),
      subst (λ zs. AreOpenAt zs items ks qs) (sym (remove-append_left xs ys q h.0))
          (open_more (remove xs q) ys items ks qs h.2),
    )

each_out : (front items back : List ItemView) →
    remove_each (front ++ (items ++ back)) (replicate (length items) (length front))
    ≡ front ++ back
each_out front [] back = refl
each_out front (i ∷ items) back =
    ap (λ xs. remove_each xs (replicate (length items) (length front)))
    (at_front front (items ++ back) i (length front) refl).2
    ∙ each_out front items back

-- so walks of all that a worker has settle them
pub settled_loan : (b : LendingView) (k : ℕ) (items : List ItemView) (found : Found) →
    Has b k items → Keeps (as_book b) → (b.lists && not found.lists) ≡ false →
    (f : HaveFound b.of.program b.mode items (places_from 0 (length items)) found) →
    HaveSettled (as_book b) f.walks (as_book (came_back b k found))
    × Keeps (as_book (came_back b k found))
settled_loan b k items found has h lists f =
    let a : List ItemView = all_lent (take k b.lent) in
    let c : List ItemView = all_lent (drop (suc k) b.lent) in
    let ks : List ℕ = places_from 0 (length items) in
    let qs : List ℕ = replicate (length items) (length a) in
    let open_items : List ItemView = (as_book b).open_items in
    let rest : List ItemView = found.rest.items in
    let parts : open_items ≡ a ++ (items ++ (c ++ b.free)) =
    ap (λ is. is ++ b.free) (lent_parts b.lent k items has)
    ∙ (append_assoc a (items ++ c) b.free
    ∙ ap (λ is. a ++ is) (append_assoc items c b.free)) in
    let stand : AreOpenAt open_items items ks qs =
    subst (λ xs. AreOpenAt xs items ks qs)
    (append_assoc a items (c ++ b.free) ∙ sym parts)
    (open_more (a ++ items) (c ++ b.free) items ks qs
    (open_from [] a items (length items) 0 (length a) refl refl (omega arith))) in
    let left : remove_each open_items qs ≡ a ++ (c ++ b.free) =
    ap (λ xs. remove_each xs qs) parts ∙ each_out a items (c ++ b.free) in
    let now : remove_each open_items qs ++ rest
    ≡ all_lent (set b.lent k []) ++ (b.free ++ rest) =
    ap (λ is. is ++ rest) (left ∙ sym (append_assoc a c b.free))
    ∙ (append_assoc (a ++ c) b.free rest
    ∙ ap (λ is. is ++ (b.free ++ rest))
    (sym (set_parts b.lent k [] (within b.lent k items has)))) in
    let r = settled_together items ks qs found (as_book b) (of_worker b k items has h).1 h stand
    lists f in
    let same : taken_in (as_book b) (remove_each open_items qs) found
    ≡ as_book (came_back b k found) =
    λ j. record (taken_in (as_book b) (remove_each open_items qs) found) {
      open_items = now j;
    } in
    (subst (HaveSettled (as_book b) f.walks) same r.0, subst Keeps same r.1)
