use Rattle.std.proofs.Common.{◌≡◌, sym, arith}
use Rattle.std.proofs.lemmas.List.{append-nil}
use Rattle.guest_syntax.specs.Tree.{block_view}
use Rattle.guest_code.specs.{Sizes.block_size, SourceMap.block_places}
use Rattle.guest_code.proofs.SourcePlaces.{copies_none, copies_step}
use Rattle.guest_code.proofs.source_map.+places.Goals as goal

pub push_repeat_places-returns-then-size_of_block-eq0 :
    goal.push_repeat_places-returns-then-size_of_block-eq0
push_repeat_places-returns-then-size_of_block-eq0 t c =
    let empty : block_size (block_view c.args.body.now) ≡ 0 =
    omega (arith, c.size_of_block.ensures, c.if-size_of_block-eq0.true) in
    rw (copies_none (block_view c.args.body.now) c.args.times empty)
    (sym (append-nil c.args.places.now.items))

pub push_repeat_places-loop-left-preserved : goal.push_repeat_places-loop-left-preserved
push_repeat_places-loop-left-preserved t c =
    copies_step (block_places (block_view c.args.body.now)) c.loop-left.left
    c.loop-left.places.items c.push_block_places.new.places.items _ c.loop-left-test.true
    c.in_ok-push_block_places.ensures c.loop-left.invariant
