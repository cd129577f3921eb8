use Rattle.std.proofs.Common.{nat_lt, get_or, sym, ◌∙◌, arith}
use Rattle.walk_prefixes.proofs.Later.{later_at, never_later, never_past}
use Rattle.walk_prefixes.proofs.bytes.is_later.Goals as goal

pub returns-then-n-schedule : goal.returns-then-n-schedule
returns-then-n-schedule c =
    sym (never_later c.args.schedule.now c.args.prefix.now
    (omega (arith, c.shared_len-n.ensures.all, c.if-n-schedule.true)))

pub returns-then-n-prefix : goal.returns-then-n-prefix
returns-then-n-prefix c =
    sym (never_past c.args.schedule.now c.args.prefix.now
    (omega (arith, c.shared_len-n.ensures.all, c.if-n-prefix.true)))

pub returns : goal.returns
returns c =
    let n = c.shared_len-n in
    let s = c.args.schedule.now in
    let p = c.args.prefix.now in
    (λ i. nat_lt (get_or s (n.ensures.all i) 0) (get_or p (n.ensures.all i) 0))
    ∙ later_at s p
    (omega (arith, n.ensures.all, n.ensures.in_a, c.if-n-schedule.false))
    (omega (arith, n.ensures.all, n.ensures.in_b, c.if-n-prefix.false))
