use Rattle.std.proofs.Common.{◌≡◌, rules, tests, length, map}
use Rattle.replay.proofs.ReadPieces.{IsNext, yields_cuts, cuts, is_piece_here, there_is_one, held_one, more_steps, steps_all, all_short}
use Rattle.replay.proofs.KnownItems.{turned, ended}
use Rattle.replay.proofs.schedule.steps_of_pieces.Goals as goal
use Rattle.replay.proofs.schedule.steps_of_pieces.Goals.{In-Some}

-- the piece of a turn
next_piece : (c : In-Some) → IsNext c.args.text.now c.loop-piece.yielded c.in-Some.piece
next_piece c = turned c.loop-piece.yielded _ c.loop-piece.yielded_by _ _ _ c.in-Some.is
    c.next.ensures.steps (yields_cuts _ c.into_iter-piece-iterator.ensures.into_iter_gives
    c.split-piece-items.ensures.rest c.split-piece-items.ensures.done
    c.split-piece-items.ensures.closure (λ x r q k. search (rules, tests)))

pub unwrap-requires : goal.unwrap-requires
unwrap-requires c =
    let turn = next_piece (goal.at.unwrap-requires c).In-Some in
    there_is_one c.piece_of.result c.in-Some.piece.now c.piece_of.ensures
    (is_piece_here c.args.text.now (length c.loop-piece.yielded) c.in-Some.piece.now
    c.requires.some turn.1 turn.2 c.requires.readable)

pub loop-piece-preserved : goal.loop-piece-preserved
loop-piece-preserved c =
    let turn = next_piece (goal.at.loop-piece-preserved c).In-Some in
    record {
      next = search rules;
      finite = search rules;
      spelt = more_steps (λ x. x.now) c.args.text.now c.loop-piece.yielded c.in-Some.piece
          c.loop-piece.schedule.items _ c.unwrap.result c.requires.some turn.0 turn.1 turn.2
          c.requires.readable c.loop-piece.invariant.spelt
          (held_one c.piece_of.result c.in-Some.piece.now c.unwrap.result c.piece_of.ensures
          c.unwrap.ensures) c.in_ok-push_steps.ensures;
    }

-- all pieces
all_read : (c : goal.In-None) → map (λ x. x.now) c.loop-piece.yielded ≡ cuts c.args.text.now
all_read c = ended c.loop-piece.yielded _ c.loop-piece.yielded_by _ _ c.in-None.is
    c.next.ensures.steps (yields_cuts _ c.into_iter-piece-iterator.ensures.into_iter_gives
    c.split-piece-items.ensures.rest c.split-piece-items.ensures.done
    c.split-piece-items.ensures.closure (λ x r q k. search (rules, tests)))

pub returns-clause-value : goal.returns-clause-value
returns-clause-value c =
    steps_all c.args.text.now c.loop-piece.schedule.items c.requires.some
    (rw (all_read c) at c.loop-piece.invariant.spelt)

pub returns-clause-short : goal.returns-clause-short
returns-clause-short c =
    all_short c.args.text.now c.loop-piece.schedule.items
    (steps_all c.args.text.now c.loop-piece.schedule.items c.requires.some
    (rw (all_read c) at c.loop-piece.invariant.spelt)) c.requires.readable
