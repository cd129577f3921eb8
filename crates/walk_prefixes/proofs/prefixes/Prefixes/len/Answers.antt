use Rattle.std.proofs.Common.{arith}
use Rattle.walk_prefixes.proofs.ListFields.{counted_few, count_in}
use Rattle.walk_prefixes.proofs.prefixes.Prefixes.len.Goals as goal

pub returns-clause-length : goal.returns-clause-length
returns-clause-length c =
    omega (arith, count_in c.self.inside c.args.self.now c.self.invariant c.self.view_is)

pub returns-clause-few : goal.returns-clause-few
returns-clause-few c =
    let i = c.self.inside in
    omega (arith, i.bytes.ok.0, i.bytes.ok.1, i.bytes.small, counted_few i c.self.invariant)
