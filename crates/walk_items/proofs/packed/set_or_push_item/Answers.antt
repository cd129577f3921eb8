use Rattle.std.proofs.Common.{rules, arith, ◌≡◌, ◌∙◌, ◌<◌, ◌≤◌, ◌+◌, ◌++◌, ◌∷◌, [], List, ap, sym, take, length}
use Rattle.std.{specs.Arc.arc_value, proofs.lemmas.List.{take_all, take_more_set}}
use Rattle.std.proofs.lemmas.Result.{on_ok_weaker}
use Rattle.walk_items.{specs.Items.{ItemView, item_at}, proofs.LastItems.{last_is, last_item_runs}}
use Rattle.walk_items.proofs.packed.set_or_push_item.Goals as goal
use Rattle.walk_prefixes.specs.PrefixLists.{last_of}

pub returns-then-place-len-clause-items : goal.returns-then-place-len-clause-items
returns-then-place-len-clause-items c =
    let p = arc_value c.args.program.now in
    let items = c.args.items.now.items in
    let place = c.args.place in
    let old : ItemView = c.index_mut.result.now in
    let new : ItemView = c.set_prefix.new.self in
    let lt : place < length items = search rules in
    let own : old.program ≡ p =
    ap (λ (i : ItemView). i.program) c.index_mut.ensures.value ∙ c.requires.program place old lt in
    on_ok_weaker c.set_prefix.result
    (λ e. take_more_set items place new lt
    ∙ ap (λ (i : ItemView). take place items ++ i ∷ [])
    (e ∙ last_is p old.program c.args.reading.now c.in-Some.prefix.now own c.in-Some.ensures))
    c.set_prefix.ensures.item

pub at_known-requires : goal.at_known-requires
at_known-requires c = last_item_runs _ c.in_ok-try_clone.ensures c.in-Some.ensures c.requires.run

pub returns-in_ok-push-clause-items : goal.returns-in_ok-push-clause-items
returns-in_ok-push-clause-items c =
    let p = arc_value c.args.program.now in
    let made = c.in_ok-item.ensures
    ∙ last_is p _ c.args.reading.now c.in-Some.prefix.now c.in_ok-try_clone.ensures
    c.in-Some.ensures in
    let items = c.args.items.now.items in
    let new = c.in_ok-push.ensures.items in
    let as_many : length items ≤ c.args.place = search rules in
    let one_more : length c.push.new.self.items ≤ c.args.place + 1 =
    omega (arith, as_many, ap (λ (is : List ItemView). length is) new) in
    take_all (c.args.place + 1) c.push.new.self.items one_more ∙ new
    ∙ ap (λ (i : ItemView). items ++ i ∷ []) made
    ∙ ap (λ (is : List ItemView). is ++ item_at p (last_of c.args.reading.now) ∷ [])
    (sym (take_all c.args.place items as_many))
