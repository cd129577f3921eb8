use Rattle.std.proofs.Common.{◌≡◌, refl, arith, take, length-take}
use Rattle.walk_prefixes.specs.inner.Packed.{before}
use Rattle.walk_prefixes.proofs.PackedPrefixes.{went_well}
use Rattle.walk_prefixes.proofs.GoingBack.{goes_none, goes_on, next_short}
use Rattle.walk_prefixes.proofs.prefixes.go_back.Goals as goal

pub loop-init : goal.loop-init
loop-init c = record {
  goes = λ w. goes_none c.args.deltas.now c.args.count _ _ _ w refl;
  room = omega arith;
}

pub loop-preserved : goal.loop-preserved
loop-preserved c =
    let ways = c.args.deltas.now in
    let given = c.requires in
    let g = c.loop.invariant.goes in
    let short = next_short given.ways ways _ _ c.loop.counter c.loop.at c.loop.last.items (g given)
    (omega (arith, given.more, c.loop-test.true)) in
    let last : c.restore_previous.new.last.items ≡ before (take c.loop.at ways) c.loop.last.items =
    went_well c.restore_previous.result _ _
    (c.restore_previous.ensures.succeeds (omega (arith, short, c.loop.invariant.room)))
    c.restore_previous.ensures.done in
    record {
      goes = λ w. goes_on w.ways ways _ _ c.loop.counter c.loop.at c.loop.last.items (g w)
          (omega (arith, w.more, c.loop-test.true)) _ _ c.last_delta-top.ensures.start last
          (omega (
            arith,
            c.last_delta-top.ensures.ordered,
            c.last_delta-top.ensures.within,
            length-take c.loop.at ways,
          ));
      room = omega (arith, c.loop.invariant.room, c.restore_previous.ensures.room);
    }

pub slice_bounds-last_delta-end : goal.slice_bounds-last_delta-end
slice_bounds-last_delta-end c = omega (
  arith,
  length-take c.loop.at c.args.deltas.now,
  (c.loop.invariant.goes c.requires).within,
)

pub slice_bounds-restore_previous-end : goal.slice_bounds-restore_previous-end
slice_bounds-restore_previous-end c = omega (
  arith,
  length-take c.loop.at c.args.deltas.now,
  (c.loop.invariant.goes c.requires).within,
)
