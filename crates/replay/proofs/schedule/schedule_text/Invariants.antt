use Rattle.std.proofs.Common.{◌≤◌, ◌+◌, drop}
use Rattle.replay.proofs.WrittenRuns.{IsWritten}
use Rattle.replay.proofs.schedule.schedule_text.Given as goal

-- the runs before this one are written
abbrev pub invariant-loop-thread : goal.invariant-loop-thread
invariant-loop-thread l = record {
  written : IsWritten l.schedule l.text.items l.run (drop l.thread-index l.others);
  count : l.run.count ≤ l.thread-index + 1;
}
