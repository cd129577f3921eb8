use Rattle.semantics.proofs.Masks.{union_bits}
use Rattle.semantics.proofs.mask.Mask.union.Goals as goal

pub returns : goal.returns
returns c = λ u. union_bits c.args.self.bits c.args.other.bits u
