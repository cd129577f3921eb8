use Rattle.std.proofs.Common.{arith, sym, ◌∙◌}
use Rattle.semantics.proofs.TerminalStates.{is_terminal-some, is_terminal-none}
use Rattle.semantics.proofs.state.State.is_terminal.Goals as goal

pub returns-then-is_enabled : goal.returns-then-is_enabled
returns-then-is_enabled c = sym (is_terminal-some c.args.program.now c.args.self.now c.loop-t.t
    (sym c.is_enabled.ensures ∙ c.if-is_enabled.true))

pub returns : goal.returns
returns c = sym (is_terminal-none c.args.program.now c.args.self.now
    (λ k h. c.loop-t.invariant k (omega (arith, c.requires.threads))))
