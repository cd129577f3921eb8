use Rattle.std.proofs.Common.{sym, arith}
use Rattle.walk_prefixes.proofs.CommonSteps.{common_is}
use Rattle.walk_prefixes.proofs.bytes.shared_len.Goals as goal

pub returns-else-a-n-clause-all : goal.returns-else-a-n-clause-all
returns-else-a-n-clause-all c =
    sym (common_is c.loop-n.n c.args.a.now c.args.b.now
    (omega (arith, c.loop-n.invariant.within, c.min-most.ensures))
    (omega (arith, c.loop-n.invariant.within, c.min-most.ensures)) c.loop-n.invariant.alike
    (λ g h e. c.if-a-n.false e))

pub returns-after-loop-n-clause-all : goal.returns-after-loop-n-clause-all
returns-after-loop-n-clause-all c =
    sym (common_is c.loop-n.n c.args.a.now c.args.b.now
    (omega (arith, c.loop-n.invariant.within, c.min-most.ensures))
    (omega (arith, c.loop-n.invariant.within, c.min-most.ensures)) c.loop-n.invariant.alike
    (λ g h e. absurd (omega (arith, c.loop-n-test.false, c.min-most.ensures, g, h))))
