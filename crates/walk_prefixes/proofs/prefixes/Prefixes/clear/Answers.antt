use Rattle.walk_prefixes.proofs.PackedPrefixes.{listed_none}
use Rattle.std.proofs.Common.{false, refl, inl, arith, ap, length, drop}
use Rattle.walk_prefixes.proofs.prefixes.Prefixes.clear.Goals as goal

pub returns : goal.returns
returns c = listed_none 0 _ _ false refl

pub invariant_of-self : goal.invariant_of-self
invariant_of-self c = (
  c.self.invariant.0,
  inl refl,
  omega (
    arith,
    ap length (listed_none 0 (drop c.self.inside.front c.self.inside.bytes.items)
        c.self.inside.last.items false refl),
  ),
)
