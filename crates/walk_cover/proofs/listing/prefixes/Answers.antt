use Rattle.std.proofs.Common.{inr, subst, sym, arith, All}
use Rattle.std.specs.Arc.{arc_value}
use Rattle.guest_code.specs.Program.{IsWellFormed}
use Rattle.walk_items.specs.Items.{root_of}
use Rattle.walk_cover.specs.{Covers.IsCover, Prefixes.IsComplete}
use Rattle.walk_cover.proofs.{Covers.prefixes_cover, Steps.{last_list, list_cover, all_complete}}
use Rattle.walk_cover.proofs.listing.prefixes.Goals as goal

pub returns-then-len-at_least-clause-cover : goal.returns-then-len-at_least-clause-cover
returns-then-len-at_least-clause-cover c =
    subst (IsCover c.args.mode (root_of (arc_value c.args.program))) (sym c.loop-n.invariant.all)
    (prefixes_cover c.args.mode (arc_value c.args.program) c.loop-n._n
    (subst IsWellFormed c.deref.ensures c.programs_are_well_formed.ensures))

pub returns-then-longer-clause-list : goal.returns-then-longer-clause-list
returns-then-longer-clause-list c =
    last_list c.args.mode (arc_value c.args.program) c.loop-n._n c.args.at_least
    c.loop-n.items.items c.as_slice.result.now c.in_ok-longer.longer.items.items
    c.loop-n.invariant.all c.loop-n.invariant.least c.as_slice.ensures.value
    c.in_ok-longer.ensures.items (c.in_ok-longer.ensures.last c.if-longer.true)

pub returns-then-longer-clause-cover : goal.returns-then-longer-clause-cover
returns-then-longer-clause-cover c =
    list_cover c.args.mode (arc_value c.args.program) c.args.at_least _
    (subst IsWellFormed c.deref.ensures c.programs_are_well_formed.ensures)
    (returns-then-longer-clause-list c)

pub returns-clause-list : goal.returns-clause-list
returns-clause-list c = record {
  steps = c.loop-n._n;
  all = c.loop-n.invariant.all;
  enough = inr (subst (All IsComplete) (sym c.loop-n.invariant.all)
      (all_complete c.args.mode (arc_value c.args.program) c.loop-n._n
      (subst IsWellFormed c.deref.ensures c.programs_are_well_formed.ensures)
      (omega (arith, c.loop-n-test.false))));
  least = c.loop-n.invariant.least;
}

pub returns-clause-cover : goal.returns-clause-cover
returns-clause-cover c =
    list_cover c.args.mode (arc_value c.args.program) c.args.at_least _
    (subst IsWellFormed c.deref.ensures c.programs_are_well_formed.ensures)
    (returns-clause-list c)
