use Rattle.std.proofs.Common.{take, All, Contains}
use Rattle.runner_parts.specs.declared.part.Part.{Part}
use Rattle.runner_joining.specs.Parts.{Differ}
use Rattle.runner_joining.proofs.by_prefix.PartsByPrefix.check_agreement.Given as goal

abbrev pub invariant-loop-part : goal.invariant-loop-part
invariant-loop-part l =
    All (λ y. ((x : Part) × Contains l.fn.self.parts.now x × Differ y x) → ⊥)
    (take l.part-index l.fn.self.parts.now)
