use Rattle.std.proofs.Common.{◌≡◌, ◌∙◌, ◌<◌, ap, sym, subst, refl, true, false, length, slice_get, Some, List, ℕ}
use Rattle.std.specs.List.{All}
use Rattle.semantics.specs.Mask.{no_threads}
use Rattle.book.proofs.PackedItems.{none_masked, none_packed, packed_there, if_none, if_some}
use Rattle.book.proofs.item_list.ItemList.packed_position.Goals as goal

pub returns-then-not-same_masks-clause-none : goal.returns-then-not-same_masks-clause-none
returns-then-not-same_masks-clause-none c =
    none_masked c.args.item.now.program c.args.self.now.packed c.args.item.now
    (λ e. let f : false ≡ true =
    c.if-not-same_masks.ensures.1 (c.mask.ensures ∙ (e ∙ sym c.empty.ensures)) in cc)

pub returns-clause-some : goal.returns-clause-some
returns-clause-some c =
    let i = c.self.inside in
    let item = c.args.item.now in
    let v : i.packed ≡ c.args.self.now.packed = ap (λ l. l.packed) c.self.view_is in
    let m : item.mask ≡ no_threads =
    sym c.mask.ensures ∙ ((c.if-not-same_masks.ensures.0 refl) ∙ c.empty.ensures) in
    if_some c.position.result
    (λ k. (k < length i.packed) × (slice_get i.packed k ≡ Some c.prefix.result.now)) _
    (λ k h. (
      subst (λ (ws : List (List ℕ)). k < length ws) v h.0,
      packed_there item c.args.self.now.packed k c.prefix.result.now c.prefix.ensures.prefix m
          (subst (λ (ws : List (List ℕ)). slice_get ws k ≡ Some c.prefix.result.now) v h.1),
    ))
    c.position.ensures.some

pub returns-clause-none : goal.returns-clause-none
returns-clause-none c =
    let i = c.self.inside in
    let item = c.args.item.now in
    let v : i.packed ≡ c.args.self.now.packed = ap (λ l. l.packed) c.self.view_is in
    if_none c.position.result (All (λ w. w ≡ c.prefix.result.now → ⊥) i.packed) _
    (λ h. none_packed item.program c.args.self.now.packed item
    (subst (λ (ws : List (List ℕ)). All (λ w. w ≡ item.prefix → ⊥) ws) v
    (subst (λ (x : List ℕ). All (λ w. w ≡ x → ⊥) i.packed) c.prefix.ensures.prefix h)))
    c.position.ensures.none
