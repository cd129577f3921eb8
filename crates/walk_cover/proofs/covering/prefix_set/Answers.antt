use Rattle.std.specs.{BTreeSet.IsFromIterResult, Cmp.Lexicographic.slice_cmp, Ordering.nat_cmp}
use Rattle.std.proofs.lemmas.Iterator.{YieldsList-from_slice, Adapters.fact_from_collect}
use Rattle.std.proofs.lemmas.Iterator.Consumers.{YieldsList-from_copied, YieldsList-at}
use Rattle.walk_cover.proofs.covering.prefix_set.Goals as goal

pub returns : goal.returns
returns c =
    fact_from_collect (IsFromIterResult (λ x y. slice_cmp nat_cmp x.now y.now)) c.collect.result
    c.collect.ensures.ran (YieldsList-from_copied (YieldsList-at c.copied.ensures.source
    (YieldsList-from_slice c.args.prefixes.now c.iter.ensures.rest)))
