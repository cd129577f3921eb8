use Rattle.std.proofs.Common.{arith}
use Rattle.std.proofs.lemmas.Grind.{common_steps}
use Rattle.check_lint.specs.declared.warning.WarningKind.TheVariants.{NeverSet}
use Rattle.check_lint.proofs.WarningLists.{listed_none, listed_more}
use Rattle.check_lint.proofs.warnings.all_warnings.Goals as goal

pub loop-kind-init : goal.loop-kind-init
loop-kind-init c = listed_none c.args.program.now c.deref-kind-items.result.now
    c.new-all.result.items c.new-all.ensures.items

pub loop-kind-preserved : goal.loop-kind-preserved
loop-kind-preserved c = listed_more c.args.program.now c.deref-kind-items.result.now
    c.loop-kind.kind-index (NeverSet 0) c.loop-kind.all.items c.in_ok-some.some.items
    c.extend_from_slice.new.self.items c.loop-kind-test.true c.loop-kind.invariant
    c.in_ok-some.ensures (grind (arith, common_steps))
