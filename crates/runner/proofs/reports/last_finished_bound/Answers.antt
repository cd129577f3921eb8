use Rattle.std.proofs.Common.{◌≡◌, ◌∙◌, ap, sym, subst, None}
use Rattle.walk_items.specs.declared.mode.Mode.{Mode}
use Rattle.walk_summary.specs.Summaries.{SummaryView}
use Rattle.runner.specs.inner.Judging.{IsFinishedIn, IsBoundBelow}
use Rattle.runner.proofs.Judgments.{whole_is_finished, below_is_finished}
use Rattle.runner.proofs.reports.last_finished_bound.Goals as goal

pub returns-in-Some : goal.returns-in-Some
returns-in-Some c =
    let p = c.args.program.now in
    let sum = c.in-Some.field-0.now in
    let none : c.in-Some.field-0.now.first_bad ≡ None =
    ap (λ (s : SummaryView). s.first_bad) c.in-Some.ensures.some.0
    ∙ c.requires.none c.in-Some.ensures.some.1.0 in
    subst (λ (m : Mode). IsFinishedIn p m c.mode_bound.result) c.mode-mode.ensures
    (subst (IsFinishedIn p c.mode-mode.result) (sym c.mode_bound.ensures)
    (whole_is_finished c.args.book.now.quick p c.mode-mode.result sum c.in-Some.ensures.found none))

pub returns-in-None : goal.returns-in-None
returns-in-None c =
    below_is_finished c.args.program.now c.args.book.now.mode c.bound_below.result c.requires.passed
    (subst (λ (m : Mode). IsBoundBelow m c.bound_below.result) c.mode-mode.ensures
    c.bound_below.ensures)
