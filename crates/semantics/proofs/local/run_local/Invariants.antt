use Rattle.std.proofs.Common.{◌≡◌, ◌≤◌, ◌-◌, length}
use Rattle.semantics.specs.Machine.{run_from}
use Rattle.semantics.proofs.local.run_local.Given as goal

abbrev pub invariant-loop-next : goal.invariant-loop-next
invariant-loop-next l = record {
  within : l.at ≤ length l.code;
  same : run_from l.code (record { pc = l.at; locals = l.locals; status = l.status })
      ≡ run_from l.code (record { pc = l.fn.from; locals = l.fn.locals; status = l.fn.status });
}

abbrev pub decreases-loop-next : goal.decreases-loop-next
decreases-loop-next l = length l.code - l.at
