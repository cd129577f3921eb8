use Rattle.std.proofs.Common.{◌≡◌}
use Rattle.explain_waits.specs.{Endings.statements_to, inner.Rows.lists}
use Rattle.explain_waits.proofs.ending.unblocking_statements.Given as goal

abbrev pub invariant-loop-u : goal.invariant-loop-u
invariant-loop-u l = l.list.items ≡ statements_to l.program (lists l.fates) l.blocked l.u
