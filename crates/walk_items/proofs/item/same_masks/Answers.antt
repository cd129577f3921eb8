use Rattle.std.proofs.Common.{◌≡◌, ◌∙◌, arith, ap, sym}
use Rattle.std.proofs.lemmas.Bool.Decides.{nat_tests}
use Rattle.semantics.specs.declared.mask.Mask.{Mask}
use Rattle.walk_items.proofs.item.same_masks.Goals as goal

pub returns : goal.returns
returns c = (same, λ e. grind (arith, nat_tests, c.eq.ensures, ap (λ (m : Mask). m.bits) e))
  where
    same : Rattle.std.specs.Bool.IsTrue c.eq.result → c.args.first ≡ c.args.second
    same t = let e : c.args.first.bits ≡ c.args.second.bits =
        grind (arith, nat_tests, sym c.eq.ensures ∙ t) in λ i. record { bits = e i }
