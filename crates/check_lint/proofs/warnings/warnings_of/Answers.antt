use Rattle.std.proofs.Common.{rules, arith}
use Rattle.std.proofs.lemmas.Grind.{common_steps}
use Rattle.check_lint.proofs.WarningLists.{chosen_none, chosen_more, chosen_passed}
use Rattle.check_lint.proofs.warnings.warnings_of.Goals as goal
use Rattle.check_lint.proofs.warnings.warnings_of.Goals.{then-branch+in_ok-push, else-branch}

pub loop-number-init : goal.loop-number-init
loop-number-init c = chosen_none c.args.program.now c.args.kind c.new-all.result.items
    c.new-all.ensures.items

pub loop-number-preserved : goal.loop-number-preserved
loop-number-preserved c = elim c.if-branch.branch [
  | then-branch+in_ok-push w ↦ chosen_more c.args.program.now c.args.kind c.loop-number.number
      c.loop-number.all.items c.if-branch.all.items c.loop-number.invariant (search rules)
      (grind (arith, common_steps))
  | else-branch w ↦ chosen_passed c.args.program.now c.args.kind c.loop-number.number
      c.loop-number.all.items c.if-branch.all.items c.loop-number.invariant (search rules)
      (grind (arith, common_steps))
]
