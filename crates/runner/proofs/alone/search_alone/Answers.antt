use Rattle.std.proofs.Common.{◌≡◌, ◌∙◌, sym, subst, refl, Option}
use Rattle.walk_items.specs.Items.{ItemView}
use Rattle.runner_report.specs.declared.error.ExploreError.TheVariants.{OutOfMemory}
use Rattle.runner.specs.{declared.judge.Ending.Ending, inner.Judging.{IsAt, ComesAfter}}
use Rattle.runner.proofs.{AfterRounds.kept_on, Errors.err_is}
use Rattle.runner.proofs.alone.search_alone.Goals as goal

pub returns-in_err-ending-clause-error : goal.returns-in_err-ending-clause-error
returns-in_err-ending-clause-error g c =
    err_is c.from_residual-in_err-ending.result _ (λ e. e ≡ OutOfMemory)
    (λ e p. p ∙ c.in_err-ending.ensures.error) c.from_residual-in_err-ending.ensures.1

pub returns-in_err-raise-in-None-clause-error : goal.returns-in_err-raise-in-None-clause-error
returns-in_err-raise-in-None-clause-error g c =
    err_is c.from_residual-in_err-raise-in-None.result _ (λ e. e ≡ OutOfMemory)
    (λ e p. p ∙ c.in_err-raise-in-None.ensures.error)
    c.from_residual-in_err-raise-in-None.ensures.1

pub returns-in-Some-clause-ended : goal.returns-in-Some-clause-ended
returns-in-Some-clause-ended g c =
    let i = c.args.course.book.of in
    let o = c.args.course.options in
    let h = c.loop-lone.invariant in
    let b = c.search_bound.new.book in
    let at = c.in_ok-ending.ensures.at in
    record {
      options = h.options;
      at = subst (λ (x : ItemView). IsAt x o b) h.at.is.of at.0;
      levels = λ keeps levels. kept_on keeps i i c.loop-lone.course.book.mode b.mode
          c.loop-lone.course.levels refl at.1 (h.levels keeps levels);
      ends = subst (λ (e : Option Ending). ComesAfter o b e) c.in-Some.is
          c.in_ok-ending.ensures.next;
    }

pub loop-lone-preserved : goal.loop-lone-preserved
loop-lone-preserved g c =
    let i = c.args.course.book.of in
    let o = c.args.course.options in
    let h = c.loop-lone.invariant in
    let b = c.search_bound.new.book in
    let new = c.raise.new.book in
    let at = c.in_ok-ending.ensures.at in
    let of : b.of ≡ i = at.0.is.of ∙ h.at.is.of in
    record {
      options = h.options;
      at = subst (λ (x : ItemView). IsAt x o new) of c.in_ok-raise-in-None.ensures.at;
      levels = λ keeps levels. kept_on keeps b.of i new.mode new.mode c.raise.new.levels
          (sym of) refl (c.in_ok-raise-in-None.ensures.levels keeps
          (kept_on keeps i b.of c.loop-lone.course.book.mode b.mode c.loop-lone.course.levels of
          at.1 (h.levels keeps levels)));
      walker = c.search_bound.ensures.walker ∙ h.walker;
    }
