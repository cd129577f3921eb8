use Rattle.std.proofs.Common.{drop, false, refl, arith}
use Rattle.walk_prefixes.proofs.PackedPrefixes.{listed_none, listed_last}
use Rattle.walk_prefixes.proofs.prefixes.Prefixes.last.Goals as goal

pub returns-then-self-eq0 : goal.returns-then-self-eq0
returns-then-self-eq0 c =
    let i = c.self.inside in
    rw (
      ← c.self.view_is,
      listed_none i.count (drop i.front i.bytes.items) i.last.items false c.if-self-eq0.true,
    ) refl

pub returns-else-self-eq0 : goal.returns-else-self-eq0
returns-else-self-eq0 c =
    let i = c.self.inside in
    rw (← c.self.view_is, c.as_slice.ensures.value)
    (listed_last i.count (drop i.front i.bytes.items) i.last.items (omega arith))
