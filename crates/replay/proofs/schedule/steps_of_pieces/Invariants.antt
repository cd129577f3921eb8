use Rattle.std.proofs.Common.{map}
use Rattle.replay.specs.Spelling.{SpellEach}
use Rattle.replay.proofs.schedule.steps_of_pieces.Given as goal

-- the pieces so far spell the schedule so far
abbrev pub invariant-loop-piece : goal.invariant-loop-piece
invariant-loop-piece l = record {
  next : (goal.iterator-loop-piece).can_next l.piece-iterator;
  finite : (goal.iterator-loop-piece).is_finite l.piece-iterator;
  spelt : SpellEach (map (λ x. x.now) l.yielded) l.schedule.items;
}
