use Rattle.std.proofs.Common.{Bool}
use Rattle.runner.specs.inner.Judging.{IsAt, AreKept}
use Rattle.runner_workers.specs.Teams.{IsTeam}
use Rattle.runner.proofs.together.search.Given as goal

abbrev pub invariant-loop : goal.invariant-loop
invariant-loop g l =
    (goal.iterator-loop g).can_next l.iterator' × (goal.iterator-loop g).is_finite l.iterator'
    × IsAt l.fn.course.book.of l.fn.course.options l.team.book
    × ((keeps : Bool) → AreKept keeps l.fn.course.book.of l.fn.course.book.mode l.fn.course.levels →
    AreKept keeps l.fn.course.book.of l.team.book.mode l.levels)
    × IsTeam l.fn.course.book.of.program l.team
