-- The parts of each prefix.
use Rattle.std.specs.Prelude.{◌≡◌, ℕ, List, [], map, filter, bytes_eq}
use Rattle.std.proofs.Common.{Vec, Global}
use Rattle.std.specs.BTreeMap.{BTreeMap, get_by}
use Rattle.std.specs.{Cmp.Lexicographic.slice_cmp, Option.option_map_or, Ordering.nat_cmp}
use denote.Ref.{Bor}
use Rattle.runner_parts.specs.declared.part.Part.{Part}

-- the parts under a prefix
abbrev pub parts_under : List Part → List ℕ → List Part
parts_under parts prefix = filter (λ x. bytes_eq x.under.items prefix) parts

-- a map has the parts of each prefix
abbrev pub AreByPrefix : List Part → BTreeMap (Bor (List ℕ)) (Vec (Bor Part) Global) → Type 0
AreByPrefix parts m = (q : List ℕ) →
    map (λ x. x.now) (option_map_or (λ g. g.items) (get_by (λ k. slice_cmp nat_cmp q k.now) m) [])
    ≡ parts_under parts q
