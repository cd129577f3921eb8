use Rattle.std.proofs.Common.{◌≡◌, ◌∙◌, sym, subst, arith, false}
use Rattle.guest_code.specs.declared.limits.TheConstants.{THREADS}
use Rattle.explain_cause.specs.{Causes.any_below, inner.Keeping.is_missed_by_in}
use Rattle.explain_cause.proofs.Rows.{true_below}
use Rattle.explain_cause.proofs.backward_slice.BackwardSlice.interferes_with_some.Goals as goal

pub returns-then-interferes_with : goal.returns-then-interferes_with
returns-then-interferes_with c = sym (true_below (is_missed_by_in c.args.self.now c.args.thread
    c.args.variable) THREADS c.loop-other.other (omega arith)
    (sym c.interferes_with.ensures ∙ c.if-interferes_with.true))

pub returns : goal.returns
returns c = let e : c.loop-other.other ≡ THREADS = omega arith in
    subst (λ n. false ≡ any_below (is_missed_by_in c.args.self.now c.args.thread
    c.args.variable) n) e (sym c.loop-other.invariant)
