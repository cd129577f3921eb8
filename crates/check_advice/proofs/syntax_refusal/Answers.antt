use Rattle.std.proofs.Common.{◌≢◌}
use Rattle.guest_syntax.specs.declared.error.SyntaxError.TheVariants.{OutOfMemory}
use Rattle.check_advice.proofs.Tellings.{told_none}
use Rattle.check_advice.proofs.syntax_refusal.Goals as goal

pub returns-in_ok-diagnostic-in_default : goal.returns-in_ok-diagnostic-in_default
returns-in_ok-diagnostic-in_default c =
    let other : c.args.error ≢ OutOfMemory = c.in_default.not-OutOfMemory in
    told_none c.args.text.now c.args.error c.in_ok-diagnostic-in_default.diagnostic
    (c.requires.refused other) c.requires.place c.in_ok-diagnostic-in_default.ensures
