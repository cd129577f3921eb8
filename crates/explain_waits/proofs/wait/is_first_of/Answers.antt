use Rattle.std.proofs.Common.{◌∙◌, ◌&&◌, sym, ap}
use Rattle.std.proofs.Math.Bool.{and-false}
use Rattle.semantics.specs.Mask.{has}
use Rattle.explain_waits.proofs.CirclesTold.{some_below}
use Rattle.explain_waits.proofs.wait.is_first_of.Goals as goal

pub returns-then-has : goal.returns-then-has
returns-then-has c =
    let set = c.args.set in
    let t = c.args.thread in
    sym (ap (λ x. has set t && x)
    (some_below set t c.loop-u.u c.loop-u-test.true (sym c.has.ensures ∙ c.if-has.true))
    ∙ and-false (has set t))
