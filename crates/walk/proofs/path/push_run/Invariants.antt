use Rattle.std.proofs.Common.{◌≡◌, ◌+◌, ◌≤◌, ◌++◌, replicate, vec_len, vec_capacity}
use Rattle.walk.proofs.path.push_run.Given as goal

abbrev pub invariant-loop : goal.invariant-loop
invariant-loop l = record {
  room : vec_len l.fn.steps + l.count ≤ vec_capacity l.steps;
  items : l.steps.items ≡ l.fn.steps.items ++ replicate l.counter l.thread;
}
