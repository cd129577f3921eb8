use Rattle.std.proofs.Common.{rules, arith, ◌∙◌, ◌<◌, ◌≤◌, ◌^◌, sym}
use Rattle.std.proofs.lemmas.Bool.Decides.{nat_tests}
use Rattle.semantics.proofs.Masks.{has-above}
use Rattle.semantics.proofs.mask.Mask.has.Goals as goal

pub returns-else-thread-lt-THREADS : goal.returns-else-thread-lt-THREADS
returns-else-thread-lt-THREADS c =
    let fits : c.args.self.bits < 2 ^ 16 = search rules in
    let past : 16 ≤ c.args.thread = c.if-thread-lt-THREADS.false in
    sym (has-above c.args.self c.args.thread fits past ∙ grind (arith, nat_tests, past))
