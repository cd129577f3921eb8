use Rattle.std.proofs.Common.{rules, ◌<◌, ◌^◌}
use Rattle.semantics.proofs.Masks.{minus_bits}
use Rattle.semantics.proofs.mask.Mask.difference.Goals as goal

pub returns : goal.returns
returns c =
    let first : c.args.self.bits < 2 ^ 16 = search rules in
    let second : c.args.other.bits < 2 ^ 16 = search rules in
    λ u. minus_bits c.args.self.bits c.args.other.bits u first second
