use Rattle.std.proofs.Common.{◌≡◌, ◌∙◌, ◌≤◌, ◌<◌, ◌-◌, ◌+◌, ◌++◌, ◌∷◌, List, ℕ, [], suc, ap, sym, subst, arith, length, get_or, take, drop, Some, slice_get, length-drop}
use Rattle.std.{specs.List.All, proofs.Math.Seq.take-suc}
use Rattle.std.proofs.lemmas.List.{get_or-drop, drop-drop, Elements.{All-nil, All-cons, All-append}}
use Rattle.guest_code.specs.Program.{Program}
use Rattle.walk_items.specs.Items.{ItemView}
use Rattle.book.specs.{Books.{remove_each, AreOpenAt, StandInOrder}, ItemLists.all_of}
use Rattle.book.proofs.InOrder.{none_stand, next_stand}
use Rattle.book.proofs.Lists.{IsBehind, behind_first, behind_next, each_more, open_more, dropped_at}
use Rattle.book.proofs.PackedItems.{length-all, got-or, got-unpacked}
use Rattle.book.proofs.item_list.ItemList.find_in_order.Goals as goal

-- a list from a place on, by the element there
rest_of : (places : List ℕ) (k : ℕ) → k < length places →
    drop k places ≡ get_or places k 0 ∷ drop (suc k) places
rest_of places k l = dropped_at places k (get_or places k 0) l (got-or places k 0 l)

pub loop-k-init : goal.loop-k-init
loop-k-init c =
    let v = c.args.self.now in
    let none = sym c.in_ok-found.ensures.items in
    record {
      there = λ p. subst (AreOpenAt (all_of p v) c.args.items.now []) none tt;
      behind = λ p. let all = length-all p v in
          subst (λ qs. IsBehind (all_of p v) (remove_each (all_of p v) qs) (length v.packed)
          (length v.packed + 0) 0) none
          (behind_first (all_of p v) (length v.packed) (length v.packed + 0)
          (omega (arith, all)) (omega arith));
      unpacked = subst (All (λ q. length v.packed ≤ q)) none (All-nil (λ q. length v.packed ≤ q));
      out = omega arith;
      in_order = λ h. h;
    }

pub loop-k-preserved : goal.loop-k-preserved
loop-k-preserved c =
    let v = c.args.self.now in
    let n = length v.packed in
    let items = c.args.items.now in
    let places = c.args.places.now in
    let k = c.loop-k.k in
    let at = get_or places k 0 in
    let x : ItemView = c.index-items-places.result in
    let place = c.in-Some.place in
    let found = c.loop-k.found.items in
    let q = n + place - k in
    let s = c.in-Some.ensures.some in
    let low = s.0 in
    let high = s.1 in
    let packed = c.len-packed.ensures.length in
    let view = ap (λ l. length l.packed) c.self.view_is in
    let inside = ap (λ l. l.unpacked) c.self.view_is in
    let wide = ap length inside in
    let item : slice_get items at ≡ Some x =
    got-or items at x (c.requires.places k 0 c.loop-k-test.true)
    ∙ ap (λ i. Some i) (sym c.index-items-places.is) in
    let pushed : found ++ q ∷ [] ≡ c.push.new.self.items =
    ap (λ m. found ++ m ∷ [])
    (let e : q ≡ c.len-packed.result + place - k = omega (arith, packed, view) in e)
    ∙ sym c.in_ok-push.ensures.items in
    let more : take k places ++ at ∷ [] ≡ take (k + 1) places =
    sym (take-suc places k 0 c.loop-k-test.true)
    ∙ ap (λ m. take m places) (let e : suc k ≡ k + 1 = omega arith in e) in
    let next = λ (p : Program).
    let all = length-all p v in
    behind_next (all_of p v) (remove_each (all_of p v) found) n (n + c.loop-k.start) k (n + place) x
    (c.loop-k.invariant.behind p) (omega (arith, low)) (omega (arith, all, high, wide))
    (got-unpacked p v (n + place) x (omega arith)
    (ap (slice_get v.unpacked) (let e : n + place - n ≡ place = omega arith in e)
    ∙ (ap (λ l. slice_get l.unpacked place) (sym c.self.view_is) ∙ s.2))) in
    record {
      there = λ p.
          let r = next p in
          subst (λ ks. AreOpenAt (all_of p v) items ks c.push.new.self.items) more
          (subst (AreOpenAt (all_of p v) items (take k places ++ at ∷ [])) pushed
          (open_more (all_of p v) items (take k places) found at q (c.loop-k.invariant.there p) r.1
          (item ∙ sym r.2)));
      behind = λ p.
          subst (λ m. IsBehind (all_of p v) (remove_each (all_of p v) c.push.new.self.items) n m
          (k + 1)) (let e : n + place + 1 ≡ n + (place + 1) = omega arith in e)
          (subst (λ zs. IsBehind (all_of p v) zs n (n + place + 1) (k + 1))
          (sym (each_more (all_of p v) found q) ∙ ap (remove_each (all_of p v)) pushed) (next p).3);
      unpacked = subst (All (λ m. n ≤ m)) pushed
          (All-append (λ m. n ≤ m) found (q ∷ []) c.loop-k.invariant.unpacked
          (All-cons (λ m. n ≤ m) q [] (next c.requires.program.0).0 (All-nil (λ m. n ≤ m))));
      out = let o = c.loop-k.invariant.out in omega (arith, o, low);
      in_order = λ h.
          let start = c.loop-k.start in
          let over : start + suc (place - start) ≡ place + 1 = omega (arith, low) in
          subst (λ zs. StandInOrder zs items (drop (k + 1) places))
          (drop-drop (suc (place - start)) start v.unpacked ∙ ap (λ m. drop m v.unpacked) over)
          (subst (λ ks. StandInOrder (drop (suc (place - start)) (drop start v.unpacked)) items ks)
          (ap (λ m. drop m places) (let e : suc k ≡ k + 1 = omega arith in e))
          (next_stand (drop start v.unpacked) items at (drop (suc k) places) x (place - start) item
          (λ j d l e. c.in-Some.ensures.first (start + j) d (omega arith) (omega (arith, l, low))
          (ap (λ zs. get_or zs (start + j) d) inside ∙ (sym (get_or-drop start v.unpacked j d) ∙ e)))
          (subst (StandInOrder (drop start v.unpacked) items) (rest_of places k c.loop-k-test.true)
          (c.loop-k.invariant.in_order h))));
    }

pub returns-in_default-clause-none : goal.returns-in_default-clause-none
returns-in_default-clause-none c = λ h.
    let v = c.args.self.now in
    let k = c.loop-k.k in
    let start = c.loop-k.start in
    let items = c.args.items.now in
    let places = c.args.places.now in
    let at = get_or places k 0 in
    let x : ItemView = c.index-items-places.result in
    let inside = ap (λ l. l.unpacked) c.self.view_is in
    let len = length-drop start v.unpacked in
    none_stand (drop start v.unpacked) items at (drop (suc k) places) x
    (got-or items at x (c.requires.places k 0 c.loop-k-test.true)
    ∙ ap (λ i. Some i) (sym c.index-items-places.is))
    (λ j d l e. c.in_default.ensures.none (start + j) d (omega arith)
    (let wide = ap length inside in omega (arith, l, len, wide))
    (ap (λ zs. get_or zs (start + j) d) inside ∙ (sym (get_or-drop start v.unpacked j d) ∙ e)))
    (subst (StandInOrder (drop start v.unpacked) items) (rest_of places k c.loop-k-test.true)
    (c.loop-k.invariant.in_order h))
