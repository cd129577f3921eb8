use Rattle.std.proofs.Common.{◌≡◌, ◌∙◌, ◌-◌, ◌+◌, ◌++◌, ◌∷◌, suc, ap, sym, arith, length, drop, get_or}
use Rattle.std.{specs.List.remove, proofs.Math.Seq.drop-cons, proofs.lemmas.List.length-map}
use Rattle.std.proofs.lemmas.List.Edits.{remove-append_right}
use Rattle.walk_items.specs.{Items.item_at, Walks.items_at}
use Rattle.book.specs.{Books.remove_each, ItemLists.{all_of, list_view}}
use Rattle.book.proofs.Lists.{removed_any, within_same, each_same}
use Rattle.book.proofs.PackedItems.{if_none, length-all}
use Rattle.book.proofs.item_list.ItemList.remove_each.Goals as goal

pub loop-k-preserved : goal.loop-k-preserved
loop-k-preserved c =
    let i = c.loop-k.self-inside in
    let k = c.loop-k.k in
    let places = c.args.places.now in
    let q = get_or places k 0 in
    let n = c.len-packed.result in
    let out = c.remove-item in
    let taken : out.new.self.items ≡ remove i.unpacked.items (q - n) =
    removed_any out.result i.unpacked.items out.new.self.items (q - n) i.unpacked.len
    out.ensures.items out.ensures.variant i.unpacked.ok.0
    (if_none out.result (out.new.self ≡ i.unpacked) (out.new.self.items ≡ i.unpacked.items)
    (λ e. ap (λ d. d.items) e) out.ensures.unchanged) in
    let same = c.len-packed.ensures.length in
    let view = ap (λ l. length l.packed) c.self.view_is in
    let kept = ap length c.loop-k.invariant.packed in
    let low = c.requires.unpacked k 0 c.loop-k-test.true in
    let next : drop k places ≡ q ∷ drop (k + 1) places =
    drop-cons places k 0 c.loop-k-test.true
    ∙ ap (λ m. q ∷ drop m places) (let e : suc k ≡ k + 1 = omega arith in e) in
    record {
      left = λ p.
          let all = all_of p (list_view i.packed i.unpacked) in
          let len = length-map i.packed (item_at p) in
          ap (λ xs. remove_each xs (drop (k + 1) places))
          (ap (λ xs. items_at p i.packed ++ xs) taken
          ∙ sym (remove-append_right (items_at p i.packed) i.unpacked.items n q
          (omega (arith, len, same, view, kept)) (omega (arith, low, same, view))))
          ∙ (ap (remove_each all) (sym next) ∙ c.loop-k.invariant.left p);
      packed = c.loop-k.invariant.packed;
    }

pub remove_range-requires-clause-end : goal.remove_range-requires-clause-end
remove_range-requires-clause-end c =
    let p = c.requires.within.0 in
    let all = length-all p c.args.self.now in
    let some = c.in-Some.ensures in
    let most = within_same (all_of p c.args.self.now) c.in-Some.first c.args.places.now some.1 some.0
    c.requires.within.1 in
    omega (arith, most, all)

pub overflow_add-first : goal.overflow_add-first
overflow_add-first c =
    let p = c.requires.within.0 in
    let all = c.len-length.ensures p in
    let fits = c.len-length.type_inv in
    let some = c.in-Some.ensures in
    let most = within_same (all_of p c.args.self.now) c.in-Some.first c.args.places.now some.1 some.0
    c.requires.within.1 in
    omega (arith, most, all, fits)

pub returns-in-Some-clause-items : goal.returns-in-Some-clause-items
returns-in-Some-clause-items c = λ p.
    let v = c.args.self.now in
    let all = length-all p v in
    let same = length-all c.requires.within.0 v in
    let some = c.in-Some.ensures in
    let most = within_same (all_of c.requires.within.0 v) c.in-Some.first c.args.places.now some.1
    some.0 c.requires.within.1 in
    c.remove_range.ensures.items p
    ∙ sym (each_same (all_of p v) c.in-Some.first c.args.places.now some.1
    (omega (arith, most, all, same))).1
