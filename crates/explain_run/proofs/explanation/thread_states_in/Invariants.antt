use Rattle.std.proofs.Common.{◌≡◌, ℕ, length, Some}
use Rattle.std.specs.List.{slice_get}
use Rattle.explain_run.specs.{Blocked.Stands, declared.thread_state.ThreadState.ThreadState}
use Rattle.explain_run.proofs.explanation.thread_states_in.Given as goal

abbrev pub invariant-loop-t : goal.invariant-loop-t
invariant-loop-t l = record {
  count : length l.thread_states.items ≡ l.t;
  each : (t : ℕ) (thread_state : ThreadState) →
      slice_get l.thread_states.items t ≡ Some thread_state →
      Stands l.program l.state t thread_state;
}
