use Rattle.std.proofs.Common.{◌∙◌, sym, ap}
use Rattle.guest_code.specs.declared.program.Instruction.TheVariants.{Load}
use Rattle.explain_waits.specs.declared.fate.Fate.TheVariants.{Taken}
use Rattle.explain_waits.proofs.EndersListed.{put_next, pass_next}
use Rattle.explain_waits.proofs.ending.put_unblocking_statements.Goals.{then-could_be_unblocked_by+in_ok-push, else-could_be_unblocked_by}
use Rattle.explain_waits.proofs.ending.put_unblocking_statements.Goals as goal

pub loop-at-preserved : goal.loop-at-preserved
loop-at-preserved c =
    let b = c.args.blocked in
    let u = c.args.other in
    let code = c.args.code.now in
    let fates = c.args.fates.now in
    let at = c.loop-at.at in
    let old = c.args.list.now.items in
    let mid = c.loop-at.list.items in
    let new = c.if-could_be_unblocked_by.list.items in
    let asked = sym c.could_be_unblocked_by.ensures in
    elim c.if-could_be_unblocked_by.branch [
      | then-could_be_unblocked_by+in_ok-push w ↦ put_next b u code fates at old mid new (Load 0 0)
          (Taken 0) c.loop-at-test.true c.requires (asked ∙ w.if-could_be_unblocked_by.true)
          c.loop-at.invariant
          (ap (λ v. v.items) w.list-is ∙ w.in_ok-push.ensures.items)
      | else-could_be_unblocked_by w ↦ pass_next b u code fates at old mid new (Load 0 0)
          c.loop-at-test.true (asked ∙ w.if-could_be_unblocked_by.false) c.loop-at.invariant
          (ap (λ v. v.items) w.list-is)
    ]
