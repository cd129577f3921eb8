use Rattle.std.proofs.Common.{◌≡◌, ◌∙◌, sym, subst, arith, false}
use Rattle.guest_code.specs.declared.limits.TheConstants.{VARIABLES}
use Rattle.explain_cause.specs.{Causes.any_below, inner.Keeping.passes_in}
use Rattle.explain_cause.proofs.Rows.{true_below}
use Rattle.explain_cause.proofs.backward_slice.BackwardSlice.passes_read.Goals as goal

pub returns-then-passes_read_of : goal.returns-then-passes_read_of
returns-then-passes_read_of c = sym (true_below (passes_in c.args.program.now c.args.self.now
    c.args.event.now) VARIABLES c.loop-variable.variable (omega arith)
    (sym c.passes_read_of.ensures ∙ c.if-passes_read_of.true))

pub returns : goal.returns
returns c = let e : c.loop-variable.variable ≡ VARIABLES = omega arith in
    subst (λ n. false ≡ any_below (passes_in c.args.program.now c.args.self.now
    c.args.event.now) n) e (sym c.loop-variable.invariant)
