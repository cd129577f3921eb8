use Rattle.std.proofs.Common.{rules, ◌≡◌, ◌<◌, ◌^◌, ◌∙◌, ap, sym, subst, arith, length, Some, slice_get}
use Rattle.book.{specs.Books.HaveFound, proofs.Gathered.one_more_found, proofs.PackedItems.got-or}
use Rattle.book.proofs.Rounds.{added_tried}
use Rattle.runner_rounds.proofs.worker.Worker.walk_item.Goals as goal

pub returns-clause-kept : goal.returns-clause-kept
returns-clause-kept c =
    let old = c.args.self.now in
    let round = c.args.round.now in
    let items = round.items.items in
    let x = c.index-item.result.now in
    let found = c.walk_into.new.found in
    let len = round.items.ok.0 in
    let lt : c.args.place < length items = let l = c.requires.place in omega (arith, l, len) in
    let at : slice_get items c.args.place ≡ Some x =
    got-or items c.args.place x lt ∙ ap (λ i. Some i) (sym c.index-item.ensures) in
    let own : x.program ≡ old.walker =
    ap (λ i. i.program) c.index-item.ensures ∙ c.requires.round.items c.args.place x lt in
    let added = c.in_ok-walk_into.ensures.added in
    let more = added_tried round.mode x round.quota old.found found added in
    let few = c.requires.kept.few in
    let many = c.in_ok-push.ensures.len in
    let quota : round.quota < 2 ^ 32 = search rules in
    record {
      found = subst (λ q. HaveFound q round.mode items c.push.new.self.items found)
          (sym c.in_ok-walk_into.ensures.program)
          (subst (λ ks. HaveFound old.walker round.mode items ks found)
          (sym c.in_ok-push.ensures.items)
          (one_more_found old.walker round.mode items old.places.items c.args.place round.quota x
          old.found found c.requires.kept.found at own added));
      few = omega (arith, more, few, many, quota);
    }
