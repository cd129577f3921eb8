use Rattle.std.proofs.Common.{refl, arith, false, length, ap, inl}
use Rattle.walk_prefixes.{specs.inner.Packed.listed, proofs.PackedPrefixes.listed_none}
use Rattle.walk_prefixes.proofs.prefixes.Prefixes.new.Goals as goal

pub invariant_of-result : goal.invariant_of-result
invariant_of-result c = (
  omega arith,
  inl refl,
  omega (arith, ap length (listed_none 0 c.new.result.items c.new-2.result.items false refl)),
)

pub returns : goal.returns
unfolding listed
returns c = refl
