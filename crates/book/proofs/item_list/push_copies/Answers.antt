use Rattle.std.proofs.Common.{rules, ◌≡◌, ◌-◌, ◌∙◌, ◌++◌, ◌∷◌, [], ap, subst, sym, arith, append_assoc, get_or, take, drop}
use Rattle.std.proofs.lemmas.List.Elements.{All-nil, All-cons, All-append, All-get_or}
use Rattle.walk_items.specs.Items.{ItemView, AreOf}
use Rattle.book.proofs.Lists.{one_more}
use Rattle.book.proofs.item_list.push_copies.Goals as goal

pub loop-place-preserved : goal.loop-place-preserved
loop-place-preserved c =
    let more = c.args.more.now.items in
    let before = c.args.items.now.items in
    let first = c.args.first in
    let k = c.loop-place.place in
    let x : ItemView = c.index.result.now in
    let at : x ≡ get_or more k x = search rules in
    let same : c.in_ok-try_clone.field-0 ≡ x = search rules in
    record {
      from = omega arith;
      items = c.in_ok-push.ensures.items
          ∙ ((λ j. c.loop-place.invariant.items j ++ same j ∷ [])
          ∙ (append_assoc before (take (k - first) (drop first more)) (x ∷ [])
          ∙ ap (λ is. before ++ is)
          (one_more more first k x c.loop-place.invariant.from (omega arith) at)));
      program = λ p of old.
          let own : x.program ≡ p =
          ap (λ (y : ItemView). y.program) at
          ∙ All-get_or (λ (y : ItemView). y.program ≡ p) more k x (omega arith) of in
          let mine : c.in_ok-try_clone.field-0.program ≡ p =
          ap (λ (y : ItemView). y.program) same ∙ own in
          subst (AreOf p) (sym c.in_ok-push.ensures.items)
          (All-append (λ (y : ItemView). y.program ≡ p) c.loop-place.items.items
          (c.in_ok-try_clone.field-0 ∷ []) (c.loop-place.invariant.program p of old)
          (All-cons (λ (y : ItemView). y.program ≡ p) c.in_ok-try_clone.field-0 [] mine
          (All-nil (λ (y : ItemView). y.program ≡ p))));
    }
