use Rattle.std.proofs.Common.{◌≢◌}
use Rattle.guest_syntax.specs.Tree.{tree_view}
use Rattle.guest_code.specs.declared.error.CheckError.TheVariants.{OutOfMemory}
use Rattle.check_advice.proofs.Tellings.{told_fault}
use Rattle.check_advice.proofs.check_refusal.Goals as goal

pub returns-in_ok-diagnostic-in_default : goal.returns-in_ok-diagnostic-in_default
returns-in_ok-diagnostic-in_default c =
    let other : c.args.error ≢ OutOfMemory = c.in_default.not-OutOfMemory in
    told_fault c.args.text.now (tree_view c.args.tree.now) c.args.error
    c.in_ok-diagnostic-in_default.diagnostic c.requires.spelt other c.requires.refused
    c.in_ok-diagnostic-in_default.ensures
