use Rattle.std.proofs.Common.{ℕ, rules, below_more}
use Rattle.check_lint.specs.Warnings.{IsUnseen}
use Rattle.check_lint.proofs.warning.waits_without_recheck.Goals as goal

pub loop-local-preserved : goal.loop-local-preserved
loop-local-preserved c =
    let P : ℕ → Type 0 = λ r. IsUnseen c.args.code.now r c.args.at in
    below_more P c.loop-local.local c.loop-local.invariant
    (c.in_ok-may_go_untested.ensures.0 (search rules))
