use Rattle.std.proofs.Common.{false, refl, arith}
use Rattle.walk_prefixes.proofs.PackedPrefixes.{listed_none, listed_last}
use Rattle.walk_prefixes.proofs.prefixes.Rev.prefix.Goals as goal

pub returns-then-self-eq0 : goal.returns-then-self-eq0
returns-then-self-eq0 c = rw (
  ← c.self.view_is,
  listed_none c.self.inside.count c.self.inside.bytes.now c.self.inside.last.items false
      c.if-self-eq0.true,
) refl

pub returns-else-self-eq0 : goal.returns-else-self-eq0
returns-else-self-eq0 c = rw (← c.self.view_is, c.as_slice.ensures.value)
    (listed_last c.self.inside.count c.self.inside.bytes.now c.self.inside.last.items (omega arith))
