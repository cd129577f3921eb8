use Rattle.std.proofs.Common.{ℕ, ◌<◌, [], get_or}
use Rattle.std.specs.Prelude.{◌↔◌, IsTrue}
use Rattle.guest_code.specs.Program.{code_of}
use Rattle.semantics.specs.Mask.{has}
use Rattle.explain_waits.specs.inner.Rows.{lists, FindsEdge}
use Rattle.explain_waits.proofs.wait.waited_for.Given as goal

abbrev pub invariant-loop-u : goal.invariant-loop-u
invariant-loop-u l = (v : ℕ) → IsTrue (has l.on v) ↔ ((v < l.u)
    × FindsEdge (code_of l.program v) (get_or (lists l.fates) v []) l.blocked l.look v)
