use Rattle.std.proofs.Common.{◌≡◌, rules, tests, arith, length, map}
use Rattle.replay.proofs.ReadPieces.{IsNext, yields_cuts, cuts, bad_here, long_here, offset_fits, more_read, more_offset, readable_all}
use Rattle.replay.proofs.KnownItems.{turned, ended}
use Rattle.replay.proofs.schedule.check_pieces.Goals as goal
use Rattle.replay.proofs.schedule.check_pieces.Goals.{In-Some}

-- the piece of a turn
next_piece : (c : In-Some) → IsNext c.args.text.now c.loop-piece.yielded c.in-Some.piece
next_piece c = turned c.loop-piece.yielded _ c.loop-piece.yielded_by _ _ _ c.in-Some.is
    c.next.ensures.steps (yields_cuts _ c.into_iter-piece-iterator.ensures.into_iter_gives
    c.split-piece-items.ensures.rest c.split-piece-items.ensures.done
    c.split-piece-items.ensures.closure (λ x r q k. search (rules, tests)))

pub returns-in_default : goal.returns-in_default
returns-in_default c =
    let turn = next_piece (goal.at.returns-in_default c).In-Some in
    bad_here c.args.text.now (length c.loop-piece.yielded) c.loop-piece.at c.in-Some.piece.now
    c.loop-piece.places c.requires turn.1 turn.2 (rw turn.0 at c.loop-piece.invariant.read)
    (rw turn.0 at c.loop-piece.invariant.offset) c.in_default.ensures

pub returns-then-steps-places : goal.returns-then-steps-places
returns-then-steps-places c =
    let turn = next_piece (goal.at.returns-then-steps-places c).In-Some in
    long_here c.args.text.now (length c.loop-piece.yielded) c.loop-piece.at c.in-Some.piece.now
    c.in-Some-piece_of.steps c.loop-piece.places c.requires turn.1 turn.2
    (rw turn.0 at c.loop-piece.invariant.read) (rw turn.0 at c.loop-piece.invariant.offset)
    c.in-Some-piece_of.ensures c.if-steps-places.true

pub overflow_add-at-in-loop-piece : goal.overflow_add-at-in-loop-piece
overflow_add-at-in-loop-piece c =
    let turn = next_piece (goal.at.overflow_add-at-in-loop-piece c).In-Some in
    let fit = offset_fits c.args.text.now c.in-Some.piece.now (length c.loop-piece.yielded)
    c.loop-piece.at turn.1 turn.2 (rw turn.0 at c.loop-piece.invariant.offset) in
    omega (arith, fit)

pub loop-piece-preserved : goal.loop-piece-preserved
loop-piece-preserved c = record {
  next = search rules;
  finite = search rules;
  read = more_read (λ x. x.now) c.loop-piece.yielded c.in-Some.piece c.in-Some-piece_of.steps
      c.loop-piece.places c.loop-piece.invariant.read c.in-Some-piece_of.ensures
      c.if-steps-places.false;
  offset = more_offset (λ x. x.now) c.loop-piece.yielded c.in-Some.piece c.loop-piece.at
      c.loop-piece.invariant.offset;
}

-- all pieces
all_read : (c : goal.In-None) → map (λ x. x.now) c.loop-piece.yielded ≡ cuts c.args.text.now
all_read c = ended c.loop-piece.yielded _ c.loop-piece.yielded_by _ _ c.in-None.is
    c.next.ensures.steps (yields_cuts _ c.into_iter-piece-iterator.ensures.into_iter_gives
    c.split-piece-items.ensures.rest c.split-piece-items.ensures.done
    c.split-piece-items.ensures.closure (λ x r q k. search (rules, tests)))

pub returns : goal.returns
returns c =
    readable_all c.args.text.now c.loop-piece.places c.requires
    (rw (all_read c) at c.loop-piece.invariant.read)
