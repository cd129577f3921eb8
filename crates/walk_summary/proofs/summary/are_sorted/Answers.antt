use Rattle.std.proofs.Common.{rules}
use Rattle.std.{specs.Ordering.is_lt, proofs.lemmas.Fn.always_returns_same}
use Rattle.semantics.specs.View.{view_cmp}
use Rattle.walk_summary.proofs.SortedViews.{sorted_answer}
use Rattle.walk_summary.proofs.summary.are_sorted.Goals as goal

pub returns : goal.returns
returns c =
    sorted_answer c.args.ends.now c.is_sorted_by.result
    (c.is_sorted_by.ensures.cases (λ v w. is_lt (view_cmp v w))
    (always_returns_same _ _ _ (λ a r g called. (search rules, search rules))))
