use Rattle.std.proofs.Common.{◌∙◌, ℕ, ◌<◌, Bool, true, false, ◌||◌, ◌&&◌, length, ap, arith, get_or}
use Rattle.std.proofs.lemmas.List.{get_or_default, length-set}
use Rattle.guest_code.specs.declared.program.Instruction.TheVariants.{Load, Skip}
use Rattle.check_lint.specs.Paths.{mark_of, no_mark}
use Rattle.explain_waits.{specs.Ways.tests, proofs.OpenTests.opens_more}
use Rattle.explain_waits.proofs.ways.mark_open.Goals as goal

pub loop-at-preserved : goal.loop-at-preserved
loop-at-preserved c =
    let code = c.args.code.now in
    let ms = c.args.marks.now in
    let r = c.args.local in
    let n = c.loop-at.at in
    let old = c.loop-at.are_open in
    let adds : ℕ → Bool = λ k. mark_of (get_or ms k no_mark) true
    && tests r (get_or code k (Skip 0)) in
    let asked = c.tests.ensures
    ∙ ap (tests r) (get_or_default code n (Load 0 0) (Skip 0) c.loop-at-test.true) in
    let within : n < length old =
    omega (arith, c.loop-at.invariant.all, c.requires.tests, c.loop-at-test.true) in
    let both = opens_more c.args.are_open.now old adds n _ within
    (ap (λ b. get_or old n false || ((get_or ms n no_mark).may_hold && b)) asked)
    c.loop-at.invariant.done c.loop-at.invariant.rest in
    record {
      all = length-set old n _ ∙ c.loop-at.invariant.all;
      done = both.0;
      rest = both.1;
    }
