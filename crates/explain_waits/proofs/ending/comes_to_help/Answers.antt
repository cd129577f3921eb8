use Rattle.std.specs.Prelude.{IsTrue}
use Rattle.std.proofs.Common.{◌≡◌, ◌∙◌, ℕ, ◌<◌, not, ap, refl, arith, below_more, length, get_or}
use Rattle.std.proofs.lemmas.List.{get_or_default}
use Rattle.guest_code.specs.declared.program.Instruction.TheVariants.{Load, Skip}
use Rattle.explain_waits.specs.{Endings.{could_end, writes_one}, Fates.is_to_come}
use Rattle.explain_waits.specs.declared.fate.Fate.TheVariants.{Taken, Ahead, OutOfReach}
use Rattle.explain_waits.{specs.inner.Rows.FindsHelp, proofs.Helped.{help_none, help_more, not_all}}
use Rattle.explain_waits.proofs.ending.comes_to_help.Goals as goal

pub loop-at-init : goal.loop-at-init
loop-at-init c = record {
  helps = help_none c.args.code.now c.args.fates.now c.args.look.now
      (not c.args.look.now.sleeps) refl;
  none = λ k h. absurd (omega (arith, h));
}

pub loop-at-preserved : goal.loop-at-preserved
loop-at-preserved c =
    let code = c.args.code.now in
    let fates = c.args.fates.now in
    let look = c.args.look.now in
    let b = c.args.blocked in
    let u = c.args.other in
    let n = c.loop-at.at in
    let l = c.loop-at-test.true in
    let within : n < length fates = omega (arith, c.requires, l) in
    let ins = get_or_default code n (Load 0 0) (Skip 0) l in
    let fate = get_or_default fates n (Taken 0) OutOfReach within in
    let P : ℕ → Type 0 = λ k. IsTrue (could_end b u k (get_or code k (Skip 0)))
    → get_or fates k OutOfReach ≡ Ahead → ¬ FindsHelp code fates look k in
    record {
      helps = help_more code fates look n c.loop-at.helps _ c.may_come.result
          c.is_changed_by.result l refl (c.may_come.ensures ∙ ap is_to_come fate)
          (c.is_changed_by.ensures ∙ ap (writes_one look.variables.items) ins)
          c.loop-at.invariant.helps;
      none = below_more P n c.loop-at.invariant.none (λ could ahead helps.
          not_all c.could_be_unblocked_by.result c.is_ahead.result c.loop-at.helps
          c.if-ends-helps.false
          (c.could_be_unblocked_by.ensures ∙ (ap (could_end b u n) ins ∙ could))
          (c.is_ahead.ensures.1 (fate ∙ ahead)) (c.loop-at.invariant.helps.1 helps));
    }
