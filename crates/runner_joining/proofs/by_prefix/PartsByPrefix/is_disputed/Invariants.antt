use Rattle.std.proofs.Common.{◌≡◌, map, take, All}
use Rattle.runner_joining.specs.{Parts.Differ, inner.Lines.parts_under}
use Rattle.runner_joining.proofs.by_prefix.PartsByPrefix.is_disputed.Given as goal

abbrev pub invariant-loop-other : goal.invariant-loop-other
invariant-loop-other l = record {
  are : map (λ x. x.now) l.other-items ≡ parts_under l.fn.self.parts.now l.fn.part.under.items;
  none : All (λ x. Differ l.fn.part x.now → ⊥) (take l.other-index l.other-items);
}
