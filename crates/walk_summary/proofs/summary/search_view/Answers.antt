use Rattle.std.proofs.Common.{rules}
use Rattle.std.proofs.lemmas.Fn.{always_returns_same}
use Rattle.walk_summary.{specs.Summaries.end_with, proofs.EndSearch.{searched, seen_from}}
use Rattle.walk_summary.proofs.summary.search_view.Goals as goal

pub returns : goal.returns
returns c =
    let facts = c.binary_search_by.ensures in
    let v = end_with c.args.kind c.args.values.now in
    let by_view = facts.position (seen_from v)
    (always_returns_same _ _ _ (λ a r g called. (search rules, search rules))) in
    searched v c.args.ends.now c.binary_search_by.result c.requires facts.bound by_view
