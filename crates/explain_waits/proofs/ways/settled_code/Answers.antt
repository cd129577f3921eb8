use Rattle.std.specs.Prelude.{◌↔◌, IsTrue}
use Rattle.std.proofs.Common.{◌<◌, Bool, false, length, sym, subst, arith}
use Rattle.std.proofs.lemmas.List.{get_or_default, get_or_read}
use Rattle.guest_code.specs.declared.program.Instruction.TheVariants.{Load, Skip}
use Rattle.explain_run.proofs.Pushed.{one_longer}
use Rattle.explain_waits.{specs.Ways.IsOpen, proofs.OpenTests.{settled_at, settled_more}}
use Rattle.explain_waits.proofs.ways.settled_code.Goals as goal

pub loop-at-preserved : goal.loop-at-preserved
loop-at-preserved c =
    let code = c.args.code.now in
    let from = c.args.place in
    let locals = c.args.locals.now in
    let n = c.loop-at.at in
    let l = c.loop-at-test.true in
    let marks = c.in_ok-are_open.are_open.items in
    let old = c.loop-at.settled.items in
    let new = c.push.new.self.items in
    let pushed = c.in_ok-push.ensures.items in
    let within : n < length marks = omega (arith, c.in_ok-are_open.ensures.all, l) in
    let read = get_or_read marks n c.index.result.now within c.index.ensures false in
    let P : Bool → Type 0 = λ b. IsTrue b ↔ IsOpen code from n in
    let says = subst P (sym read) (c.in_ok-are_open.ensures.each n l) in
    let is = get_or_default code n (Load 0 0) (Skip 0) l in
    record {
      count = one_longer old new _ n pushed c.loop-at.invariant.count;
      each = settled_more code from locals n old new c.settled_instruction.result
          c.loop-at.invariant.count pushed c.loop-at.invariant.each
          (settled_at code from locals n c.index.result.now c.settled_instruction.result _ says is
          c.settled_instruction.ensures);
    }
