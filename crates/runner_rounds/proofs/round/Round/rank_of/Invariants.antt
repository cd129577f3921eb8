use Rattle.std.proofs.Common.{◌≡◌, ◌≤◌, take}
use Rattle.runner_rounds.specs.Rounds.{rank}
use Rattle.runner_rounds.proofs.round.Round.rank_of.Given as goal

abbrev pub invariant-loop-other : goal.invariant-loop-other
invariant-loop-other l = record {
  rank : l.before ≡ rank (take l.other-index l.self.items.items) l.item;
  few : l.before ≤ l.other-index;
}
