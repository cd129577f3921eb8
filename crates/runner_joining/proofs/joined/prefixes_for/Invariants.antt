use Rattle.std.proofs.Common.{◌≡◌, map, take}
use Rattle.runner_joining.specs.Parts.{prefixes_for}
use Rattle.runner_joining.proofs.joined.prefixes_for.Given as goal

abbrev pub invariant-loop-part : goal.invariant-loop-part
invariant-loop-part l =
    map (λ x. x.now) l.prefixes.items ≡ prefixes_for l.search (take l.part-index l.parts)
