use Rattle.std.proofs.Common.{length, sym, ◌∙◌, arith}
use Rattle.std.proofs.lemmas.{Bool.eqb-true, List.get_or_past}
use Rattle.walk_prefixes.specs.inner.Packed.{head_of}
use Rattle.walk_prefixes.proofs.bytes.last_byte.Goals as goal

pub returns-then-is_empty : goal.returns-then-is_empty
unfolding head_of
returns-then-is_empty c = sym (get_or_past c.args.bytes.now _ 0
    (omega (
      arith,
      eqb-true (length c.args.bytes.now) 0
          (sym c.is_empty.ensures ∙ c.if-is_empty.true),
    )))

pub returns-else-is_empty : goal.returns-else-is_empty
unfolding head_of
returns-else-is_empty c = c.from.ensures
