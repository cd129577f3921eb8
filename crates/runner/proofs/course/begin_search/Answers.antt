use Rattle.std.proofs.Common.{rules, ◌≡◌, refl}
use Rattle.std.specs.Arc.{arc_value}
use Rattle.walk_items.specs.Items.{root_of}
use Rattle.book.specs.Books.{opening_of}
use Rattle.runner_report.specs.Promises.{first_mode}
use Rattle.runner.proofs.AfterRounds.{opened_at, first_of, none_passed}
use Rattle.runner.proofs.course.begin_search.Goals as goal

pub returns-clause-course : goal.returns-clause-course
returns-clause-course c =
    let o = c.args.options in
    let i = root_of (arc_value c.args.program.now) in
    let mode = first_mode o.symmetry o.search 0 in
    let opened : c.in_ok-book.book ≡ opening_of i mode o.quick = search rules in
    record {
      options = refl;
      at = opened_at i o mode c.in_ok-book.book c.begin_bound.new.book opened
          (first_of o.symmetry o.search) (none_passed o.symmetry i o.search) c.begin_bound.ensures;
      levels = refl;
    }
