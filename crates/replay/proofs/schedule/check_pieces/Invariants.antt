use Rattle.std.proofs.Common.{◌≡◌, map}
use Rattle.replay.{specs.Spelling.length_with_commas, proofs.ReadPieces.IsRead}
use Rattle.replay.proofs.schedule.check_pieces.Given as goal

-- the pieces so far spell a schedule of `places` places, and the next one begins after their commas
abbrev pub invariant-loop-piece : goal.invariant-loop-piece
invariant-loop-piece l = record {
  next : (goal.iterator-loop-piece).can_next l.piece-iterator;
  finite : (goal.iterator-loop-piece).is_finite l.piece-iterator;
  read : IsRead (map (λ x. x.now) l.yielded) l.places;
  offset : l.at ≡ length_with_commas (map (λ x. x.now) l.yielded);
}
