use Rattle.std.proofs.Common.{rules, ◌≡◌, ◌∙◌, ap, sym, subst, refl, false}
use Rattle.walk_items.specs.declared.mode.Mode.{Mode}
use Rattle.book.specs.Books.{BookView, opening_of}
use Rattle.runner_report.specs.Promises.{first_mode}
use Rattle.runner.specs.{Levels.{IsModeOf, AreBelow}, inner.Judging.{begun}}
use Rattle.runner.proofs.AfterRounds.{opened_at, first_passed}
use Rattle.runner.proofs.course.begin_search_under.Goals as goal

pub returns-clause-course : goal.returns-clause-course
returns-clause-course c =
    let o = c.args.options in
    let i = c.args.item in
    let mode = first_mode false o.search c.args.number in
    let runs = c.requires.runs in
    let of = subst (λ once. IsModeOf once o.search mode) (sym c.requires.symmetry) c.requires.mode in
    let opened : c.in_ok-book.book ≡ opening_of i mode o.quick = search rules in
    let is = c.begin_bound.ensures ∙ ap (begun o.search) opened in
    record {
      options = refl;
      at = opened_at i o mode c.in_ok-book.book c.begin_bound.new.book opened of
          (first_passed i o.search c.args.number runs c.requires.number) c.begin_bound.ensures;
      levels = (
        refl,
        subst (λ (m : Mode). AreBelow i m c.in_ok-levels.levels.items)
            (sym (ap (λ (b : BookView). b.mode) is))
            (c.in_ok-levels.ensures.levels i runs c.requires.number),
      );
    }
