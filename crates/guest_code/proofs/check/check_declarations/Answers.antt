use Rattle.guest_code.{specs.inner.Walk.all_uses, proofs.CheckAnswers.declaration_goes}
use Rattle.guest_code.proofs.check.check_declarations.Goals as goal

pub loop-i-preserved : goal.loop-i-preserved
loop-i-preserved c =
    declaration_goes (all_uses c.args.tree.now) c.args.declarations.now c.loop-i.i
    c.index-declarations-i.result c.kind_of-kind.result c.count_of_kind-count.result tt _
    c.loop-i-test.true c.index-declarations-i.is c.kind_of-kind.ensures c.count_of_kind-count.ensures
    c.in_ok-check_new_name.ensures c.loop-i.invariant
