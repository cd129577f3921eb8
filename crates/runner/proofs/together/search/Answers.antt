use Rattle.std.proofs.Common.{◌≡◌, ◌∙◌, ap, sym, subst, refl, true, Option, IfSome}
use Rattle.walk_items.specs.Items.{ItemView}
use Rattle.runner.specs.{declared.judge.Ending.Ending, inner.Judging.{IsAt, Ends}}
use Rattle.runner.proofs.AfterRounds.{kept_on, ends_weaker}
use Rattle.runner.proofs.together.search.Goals as goal
use Rattle.runner_workers.proofs.Teams.{same_workers}

pub returns-in-Some-next-clause-ended : goal.returns-in-Some-next-clause-ended
returns-in-Some-next-clause-ended g c =
    let i = c.args.course.book.of in
    let o = c.args.course.options in
    let may = g.G.Gate.stops c.args.gate.now in
    let mid = c.in_ok-next.next.book in
    let new = c.judge_and_raise.new.book in
    let same = c.in_ok-next.ensures.book in
    let of : mid.of ≡ i = same.of ∙ c.loop.invariant.2.is.of in
    let stopped : c.in_ok-stopped.stopped ≡ true → may ≡ true =
    λ e. c.in_ok-next.ensures.stopped (c.in_ok-stopped.ensures.stopped e) in
    let ends = subst (λ (e : Option Ending). IfSome e (Ends c.in_ok-stopped.stopped o new))
    c.in-Some-next.is c.in_ok-next-2.ensures.ended in
    record {
      options = refl;
      at = subst (λ (x : ItemView). IsAt x o new) of c.in_ok-next-2.ensures.at;
      levels = λ keeps levels. kept_on keeps mid.of i new.mode new.mode c.judge_and_raise.new.levels
          (sym of) refl (c.in_ok-next-2.ensures.levels keeps
          (kept_on keeps i mid.of c.loop.team.book.mode mid.mode c.loop.levels of same.mode
          (c.loop.invariant.3 keeps levels)));
      ends = ends_weaker c.in_ok-stopped.stopped may o new c.in-Some-next.ending stopped ends;
    }

pub loop-preserved : goal.loop-preserved
loop-preserved g c =
    let i = c.args.course.book.of in
    let o = c.args.course.options in
    let mid = c.in_ok-next.next.book in
    let new = c.judge_and_raise.new.book in
    let same = c.in_ok-next.ensures.book in
    let of : mid.of ≡ i = same.of ∙ c.loop.invariant.2.is.of in (
      tt,
      tt,
      subst (λ (x : ItemView). IsAt x o new) of c.in_ok-next-2.ensures.at,
      λ keeps levels. kept_on keeps mid.of i new.mode new.mode c.judge_and_raise.new.levels (sym of)
          refl (c.in_ok-next-2.ensures.levels keeps
          (kept_on keeps i mid.of c.loop.team.book.mode mid.mode c.loop.levels of same.mode
          (c.loop.invariant.3 keeps levels))),
      same_workers c.loop.team.book.of.program i.program c.in_ok-next.next _ refl
          (ap (λ (x : ItemView). x.program) c.loop.invariant.2.is.of) c.in_ok-next.ensures.team,
    )
