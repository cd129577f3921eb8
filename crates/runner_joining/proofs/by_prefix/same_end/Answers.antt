use Rattle.std.proofs.Common.{◌≡◌, ◌∙◌, refl, true, ap, sym}
use Rattle.std.specs.{Cmp.eq_by_cmp_equiv, Ordering.is_eq, declared.cmp.Ordering.Ordering}
use Rattle.std.specs.declared.cmp.Ordering.TheVariants.{Less, Equal, Greater}
use Rattle.semantics.specs.View.{view_cmp}
use Rattle.walk_summary.proofs.SortedViews.{view_total, view_same}
use Rattle.runner_joining.proofs.by_prefix.same_end.Goals as goal

equal : (o : Ordering) → is_eq o ≡ true → o ≡ Equal
equal Less h = cc
equal Equal h = refl
equal Greater h = cc

pub returns : goal.returns
returns c = (
  λ on. view_same c.args.first.now c.args.second.now
      (sym c.compare.ensures ∙ equal c.compare.result (sym c.is_eq.ensures ∙ on)),
  λ e.
      c.is_eq.ensures ∙ (ap is_eq c.compare.ensures
      ∙ (ap (λ v. is_eq (view_cmp v c.args.second.now)) e
      ∙ (eq_by_cmp_equiv view_total).refl c.args.second.now)),
)
