use Rattle.std.proofs.Common.{sym, subst}
use Rattle.std.specs.List.{Contains}
use Rattle.walk_items.specs.Items.{ItemView}
use Rattle.runner_joining.{specs.Parts.prefixes_for, proofs.Sums.{told_none, told_more}}
use Rattle.runner_joining.proofs.joined.Joining.sum_at.Goals as goal

pub part_for-requires-clause-listed : goal.part_for-requires-clause-listed
part_for-requires-clause-listed c =
    subst (λ (i : ItemView). Contains
    (prefixes_for c.args.self.now.search c.args.self.now.parts.now.parts.now) i.prefix)
    (sym c.item-item.is)
    (c.requires.listed c.loop-item.item-index c.item-item.result c.loop-item-test.true)

pub loop-item-init : goal.loop-item-init
loop-item-init c =
    told_none c.args.self.now.parts.now.parts.now c.args.bound c.empty-sum.result
    c.empty-sum.ensures

pub loop-item-preserved : goal.loop-item-preserved
loop-item-preserved c =
    told_more c.args.self.now.parts.now.parts.now c.args.bound c.args.self.now.items.now
    c.loop-item.item-index c.item-item.result c.in_ok-part.part.now c.loop-item.sum c.in_ok-sum.sum
    c.loop-item-test.true c.item-item.is c.loop-item.invariant c.in_ok-part.ensures.part.0
    c.in_ok-part.ensures.part.1 c.in_ok-sum.ensures
