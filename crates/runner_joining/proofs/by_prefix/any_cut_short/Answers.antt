use Rattle.std.proofs.Common.{◌≡◌, ◌∙◌, true, false, ap, sym, is_some}
use Rattle.runner_joining.proofs.by_prefix.any_cut_short.Goals as goal

pub returns-then-is_some : goal.returns-then-is_some
returns-then-is_some c = λ on. (
  c.part-item.result,
  (c.loop-part.part-index, c.loop-part-test.true, sym c.part-item.is),
  c.is_of_place.ensures c.if-is_of_place.true,
  λ e.
      let f : true ≡ false =
      sym c.if-is_some.true ∙ (c.is_some.ensures ∙ ap is_some e) in absurd (cc),
)
