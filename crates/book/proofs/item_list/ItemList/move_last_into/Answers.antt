use Rattle.std.proofs.Common.{◌≡◌, ◌-◌, ◌∙◌, ◌++◌, [], ap, arith, length, take, drop}
use Rattle.walk_items.specs.Walks.{items_at}
use Rattle.book.specs.ItemLists.{ListView, list_view, all_of}
use Rattle.book.proofs.PackedItems.{kept_unpacked, moved_unpacked, kept_packed, moved_packed}
use Rattle.book.proofs.item_list.ItemList.move_last_into.Goals as goal

pub returns-then-most-unpacked-clause-kept : goal.returns-then-most-unpacked-clause-kept
returns-then-most-unpacked-clause-kept c = λ p.
    let i = c.self.inside in
    let most = c.args.most in
    let e : c.len-unpacked.result - most ≡ length i.unpacked.items - most =
    omega (arith, c.len-unpacked.ensures, i.unpacked.ok.0) in
    ap (λ is. items_at p i.packed ++ is)
    (c.in_ok-other-inside.ensures.items ∙ ap (λ n. take n i.unpacked.items) e)
    ∙ (kept_unpacked p (list_view i.packed i.unpacked) most
    (omega (arith, c.len-unpacked.ensures, i.unpacked.ok.0, c.if-most-unpacked.true))
    ∙ ap (λ l. take (length (all_of p l) - most) (all_of p l)) c.self.view_is)

pub returns-then-most-unpacked-clause-moved : goal.returns-then-most-unpacked-clause-moved
returns-then-most-unpacked-clause-moved c = λ p.
    let i = c.self.inside in
    let most = c.args.most in
    let e : c.len-unpacked.result - most ≡ length i.unpacked.items - most =
    omega (arith, c.len-unpacked.ensures, i.unpacked.ok.0) in
    let none : c.other.inside.packed ≡ [] =
    ap (λ (l : ListView). l.packed) c.other.view_is ∙ c.clear.ensures.packed in
    (λ k. items_at p (none k)
    ++ (c.in_ok-other-inside.ensures.tail ∙ ap (λ n. drop n i.unpacked.items) e) k)
    ∙ (moved_unpacked p (list_view i.packed i.unpacked) most
    (omega (arith, c.len-unpacked.ensures, i.unpacked.ok.0, c.if-most-unpacked.true))
    ∙ ap (λ l. drop (length (all_of p l) - most) (all_of p l)) c.self.view_is)

pub returns-clause-kept : goal.returns-clause-kept
returns-clause-kept c = λ p.
    let i = c.self.inside in
    let most = c.args.most in
    let e : length i.packed - (most - c.len-unpacked.result)
    ≡ length i.packed - (most - length i.unpacked.items) =
    omega (arith, c.len-unpacked.ensures, i.unpacked.ok.0) in
    let none : c.swap.new.x.items ≡ [] =
    ap (λ q. q.items) c.swap.ensures.x_after
    ∙ (ap (λ (l : ListView). l.unpacked) c.other.view_is ∙ c.clear.ensures.unpacked) in
    (λ k. items_at p ((c.in_ok-split_last.ensures.kept ∙ ap (λ n. take n i.packed) e) k) ++ none k)
    ∙ (kept_packed p (list_view i.packed i.unpacked) most
    (omega (arith, c.len-unpacked.ensures, i.unpacked.ok.0, c.if-most-unpacked.false))
    ∙ ap (λ l. take (length (all_of p l) - most) (all_of p l)) c.self.view_is)

pub returns-clause-moved : goal.returns-clause-moved
returns-clause-moved c = λ p.
    let i = c.self.inside in
    let most = c.args.most in
    let e : length i.packed - (most - c.len-unpacked.result)
    ≡ length i.packed - (most - length i.unpacked.items) =
    omega (arith, c.len-unpacked.ensures, i.unpacked.ok.0) in
    (λ k. items_at p ((c.in_ok-split_last.ensures.moved ∙ ap (λ n. drop n i.packed) e) k)
    ++ ap (λ q. q.items) c.swap.ensures.y_after k)
    ∙ (moved_packed p (list_view i.packed i.unpacked) most
    (omega (arith, c.len-unpacked.ensures, i.unpacked.ok.0, c.if-most-unpacked.false))
    ∙ ap (λ l. drop (length (all_of p l) - most) (all_of p l)) c.self.view_is)
