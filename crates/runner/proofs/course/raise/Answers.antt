use Rattle.std.proofs.Common.{◌∙◌, ap, sym, subst}
use Rattle.walk_items.specs.declared.mode.Mode.{Mode}
use Rattle.book.specs.Books.{BookView}
use Rattle.runner.{specs.inner.Judging.{AreKept, begun}, proofs.AfterRounds.{raised_at, level_kept}}
use Rattle.runner.proofs.course.raise.Goals as goal

pub returns-clause-at : goal.returns-clause-at
returns-clause-at c =
    raised_at c.args.book.now c.raise.new.self c.begin_bound.new.book c.args.options
    c.in_ok-keep_level.ensures.kept c.requires.at c.requires.closed c.requires.goes_on
    c.in-Ok.ensures.ok c.begin_bound.ensures

pub returns-clause-levels : goal.returns-clause-levels
returns-clause-levels c keeps levels =
    let b = c.args.book.now in
    let o = c.args.options in
    let is = c.begin_bound.ensures ∙ ap (begun o.search) c.in-Ok.ensures.ok.book in
    subst (λ (m : Mode). AreKept keeps b.of m c.keep_level.new.levels)
    (sym (ap (λ (x : BookView). x.mode) is))
    (level_kept keeps b o c.args.levels.now c.keep_level.new.levels c.in_ok-keep_level.ensures.kept
    c.requires.at c.requires.closed c.requires.goes_on c.in_ok-keep_level.ensures.levels levels)
