use Rattle.std.proofs.Common.{rules, ◌<◌, ◌^◌, arith}
use Rattle.semantics.proofs.Masks.{members_past, no_more, next_one}
use Rattle.semantics.proofs.mask.Mask.first_from.Goals as goal

pub returns-then-least-ge-THREADS-clause-list : goal.returns-then-least-ge-THREADS-clause-list
returns-then-least-ge-THREADS-clause-list c =
    members_past c.args.self c.args.least c.if-least-ge-THREADS.true

pub returns-then-least-ge-THREADS-clause-member : goal.returns-then-least-ge-THREADS-clause-member
returns-then-least-ge-THREADS-clause-member c =
    members_past c.args.self c.args.least c.if-least-ge-THREADS.true

pub returns-then-least-ge-THREADS-clause-none : goal.returns-then-least-ge-THREADS-clause-none
returns-then-least-ge-THREADS-clause-none c =
    members_past c.args.self c.args.least c.if-least-ge-THREADS.true

pub returns-then-rest-eq0 : goal.returns-then-rest-eq0
returns-then-rest-eq0 c =
    let none = no_more c.args.self c.args.least c.if-least-ge-THREADS.false c.if-rest-eq0.true in
    record { list = none; member = none; none = none }

pub returns : goal.returns
returns c =
    let fits : c.args.self.bits < 2 ^ 16 = search rules in
    let n = next_one c.args.self c.args.least fits c.if-least-ge-THREADS.false c.if-rest-eq0.false
    in
    record { list = n.list; member = (n.on, omega arith, n.small); none = n.none }
