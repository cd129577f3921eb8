use Rattle.std.proofs.Common.{◌≡◌, map, take, All}
use Rattle.runner_joining.specs.{Parts.Tells, inner.Lines.parts_under}
use Rattle.runner_joining.proofs.by_prefix.PartsByPrefix.part_at.Given as goal

abbrev pub invariant-loop-part : goal.invariant-loop-part
invariant-loop-part l = record {
  are : map (λ x. x.now) l.part-items ≡ parts_under l.fn.self.parts.now l.fn.under;
  none : All (λ x. Tells l.fn.under l.bound x.now → ⊥) (take l.part-index l.part-items);
}
