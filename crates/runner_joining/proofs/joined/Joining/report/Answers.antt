use Rattle.std.proofs.Common.{◌≡◌, ◌∙◌, Some, inl, inr, sym, subst, arith}
use Rattle.std.specs.Prelude.{IfNone}
use Rattle.std.proofs.lemmas.Bool.{cases_lt}
use Rattle.runner_joining.specs.Parts.{ComesTo, GoesOnAt}
use Rattle.runner_joining.proofs.joined.Joining.report.Goals.{in-Some+else-loop-bound-test, in_default}
use Rattle.runner_joining.proofs.joined.Joining.report.Goals as goal

pub loop-bound-preserved : goal.loop-bound-preserved
loop-bound-preserved c = λ a l. elim (cases_lt a c.loop-bound.bound) [
  | inl below ↦ c.loop-bound.invariant a below
  | inr past ↦
      let same : c.loop-bound.bound ≡ a = omega (arith, l, past) in
      subst (λ b. GoesOnAt c.args.self.now.program.now c.args.self.now.search
      c.args.self.now.parts.now.parts.now (Some b)) same
      (subst (λ o. IfNone o (GoesOnAt c.args.self.now.program.now c.args.self.now.search
      c.args.self.now.parts.now.parts.now (Some c.loop-bound.bound))) c.in_default-2.is
      c.in_ok-report.ensures.none)
]

pub report_at-requires-2-clause-comes : goal.report_at-requires-2-clause-comes
report_at-requires-2-clause-comes c = elim c.match-last.branch [
  | in-Some+else-loop-bound-test w ↦
      subst (ComesTo c.args.self.now.program.now c.args.self.now.search
      c.args.self.now.parts.now.parts.now) (sym w.last-is) (record {
        of = w.in-Some.ensures.of;
        on = λ a l. w.loop-bound.invariant a (omega (arith, l, w.loop-bound-test.false));
      })
  | in_default w ↦
      subst (ComesTo c.args.self.now.program.now c.args.self.now.search
      c.args.self.now.parts.now.parts.now) (sym (w.last-is ∙ w.in_default.is)) (record {
        of = w.in_default.ensures.of;
        on = tt;
      })
]
