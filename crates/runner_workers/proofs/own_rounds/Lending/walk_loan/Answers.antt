use Rattle.std.proofs.Common.{rules, refl, ◌≡◌, ◌<◌, ◌∙◌, ap, sym, subst, arith, List, length, Some, slice_get}
use Rattle.guest_code.specs.Program.{Program}
use Rattle.walk_items.specs.{Items.ItemView, declared.mode.Mode.Mode}
use Rattle.walk.specs.Founds.{HasAdded}
use Rattle.book.{specs.ItemLists.all_of, proofs.PackedItems.got-or}
use Rattle.runner_workers.proofs.Lent.{none_walked, one_more_walked}
use Rattle.runner_workers.proofs.own_rounds.Lending.walk_loan.Goals as goal

pub loop-place-init : goal.loop-place-init
loop-place-init g c =
    let p = g.N.SearchBrand.of.program in
    record {
      walker = c.clear.ensures.program ∙ c.requires.walker;
      walked = none_walked p g.N.SearchBrand.mode (all_of p c.args.loan.now) c.args.self.now.quota 0
          c.clear.new.found refl c.clear.ensures.part c.clear.ensures.rest c.clear.ensures.deferred;
    }

pub loop-place-preserved : goal.loop-place-preserved
loop-place-preserved g c =
    let p = g.N.SearchBrand.of.program in
    let of = c.args.self.now.of in
    let i = c.loop-place.invariant in
    let own = c.clone_items_into.new.items.items in
    let items = all_of p c.args.loan.now in
    let place = c.loop-place.place in
    let quota = c.args.self.now.quota in
    let x = c.index.result.now in
    let same : own ≡ items =
    subst (λ (q : Program). own ≡ all_of q c.args.loan.now) of.0 c.in_ok-clone_items_into.ensures.items in
    let end = c.loop-place-test.true in
    let len = c.len-place-end.ensures in
    let whole = c.clone_items_into.new.items.ok.0 in
    let within : place < length own = omega (arith, end, len, whole) in
    let at : slice_get own place ≡ Some x =
    got-or own place x within ∙ ap (λ y. Some y) (sym c.index.ensures) in
    record {
      walker = c.in_ok-walk_into.ensures.program ∙ i.walker;
      walked = one_more_walked p g.N.SearchBrand.mode items quota place x c.loop-place.worker.found
          c.walk_into.new.found (subst (λ (is : List ItemView). place < length is) same within)
          (subst (λ (is : List ItemView). slice_get is place ≡ Some x) same at)
          (ap (λ (y : ItemView). y.program) c.index.ensures
          ∙ (c.clone_items_into.ensures.program place x within ∙ of.0)) (search rules)
          (subst (λ (m : Mode). HasAdded m x quota c.loop-place.worker.found c.walk_into.new.found)
          of.1 c.in_ok-walk_into.ensures.added) i.walked;
    }
