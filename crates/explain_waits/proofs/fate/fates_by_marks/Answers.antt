use Rattle.std.proofs.Common.{List, sym, subst, refl}
use Rattle.std.proofs.lemmas.List.{get_or_default}
use Rattle.guest_code.specs.declared.program.Instruction.TheVariants.{Load, Skip}
use Rattle.explain_waits.specs.{declared.fate.Fate.Fate, inner.Taking.ArePassed}
use Rattle.explain_waits.proofs.WaysAhead.{passed_none, passed_more}
use Rattle.explain_waits.proofs.fate.fates_by_marks.Goals as goal

pub loop-at-init : goal.loop-at-init
loop-at-init c =
    let P : List Fate → Type 0 = λ l. ArePassed c.args.settled.now c.args.marks.now 0 0 l in
    subst P (sym c.new-fates.ensures.items) (passed_none c.args.settled.now c.args.marks.now)

pub loop-at-preserved : goal.loop-at-preserved
loop-at-preserved c =
    let settled = c.args.settled.now in
    let n = c.loop-at.at in
    let l = c.loop-at-test.true in
    passed_more settled c.args.marks.now n c.loop-at.reach c.reach_after-reach.result
    c.loop-at.fates.items c.push.new.self.items c.by_ways.result _ _ l refl
    (get_or_default settled n (Load 0 0) (Skip 0) l) c.by_ways.ensures c.in_ok-push.ensures.items
    c.reach_after-reach.ensures c.loop-at.invariant
