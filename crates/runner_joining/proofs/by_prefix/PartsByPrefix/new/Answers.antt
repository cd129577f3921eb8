use Rattle.std.proofs.Common.{◌≡◌, ◌++◌, ◌∷◌, [], Some, map, arith}
use Rattle.std.specs.{BTreeMap.get_by, BTreeMap.Entry.map_with_value, Cmp.Lexicographic.slice_cmp}
use Rattle.std.{specs.Ordering.nat_cmp, proofs.lemmas.List.map-append}
use Rattle.std.proofs.lemmas.Map.Text.{btree_map_updates_str}
use denote.Ref.{Bor}
use Rattle.runner_parts.specs.declared.part.Part.{Part}
use Rattle.runner_joining.proofs.ByPrefix.{lines_of, lines_more}
use Rattle.runner_joining.proofs.by_prefix.PartsByPrefix.new.Goals as goal

pub loop-part-preserved : goal.loop-part-preserved
loop-part-preserved c = λ q.
    let w = c.push.new.self in
    let key = c.as_slice.result.now in
    let m = c.loop-part.by_prefix in
    let n = map_with_value c.in_ok-by_prefix.field-0 w in
    let sets =
    btree_map_updates_str key m n (Some w) (c.in_ok-by_prefix.ensures.update.0 w) in
    let had : map (λ (x : Bor Part). x.now) c.or_default.result.now.items
    ≡ lines_of (get_by (λ k. slice_cmp nat_cmp key k.now) m) = grind arith in
    let grown : lines_of (Some w)
    ≡ lines_of (get_by (λ k. slice_cmp nat_cmp key k.now) m) ++ c.part-item.result ∷ [] =
    grind (arith, map-append, had) in
    let more = lines_more c.args.parts.now c.loop-part.part-index c.part-item.result key m n w
    c.loop-part-test.true c.part-item.is c.as_slice.ensures.value c.loop-part.invariant sets
    grown q in
    grind (arith, more)
