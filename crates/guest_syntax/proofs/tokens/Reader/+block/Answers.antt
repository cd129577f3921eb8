use Rattle.std.proofs.Common.{arith, refl}
use Rattle.std.proofs.lemmas.Result.{err_from_is_err_and}
use Rattle.guest_syntax.specs.{Tree.placed_view, reader.Reads.rest_of}
use Rattle.guest_syntax.specs.reader.Statements.{turn_from, block_from, choice_from}
use Rattle.guest_syntax.proofs.ItemLoops.{begins, goes_on, is_done, stops}
use Rattle.guest_syntax.proofs.StatementView.{view-else}
use Rattle.guest_syntax.proofs.tokens.Reader.+block.Goals as goal

pub rest_of_block-items-init : goal.rest_of_block-items-init
rest_of_block-items-init t c = record {
  goes = rw c.new-all.ensures.items
      (begins (turn_from (block_from c.args.room)) (rest_of c.args.self.now));
  same = refl;
  shorter = omega arith;
}

pub rest_of_block-returns-in_err-next_statement-clause-gives :
    goal.rest_of_block-returns-in_err-next_statement-clause-gives
rest_of_block-returns-in_err-next_statement-clause-gives t c =
    let p = err_from_is_err_and c.from_residual.result c.from_residual.ensures.1 in
    rw (p.1, p.2) (stops _ c.items.invariant.goes c.in_err-next_statement.ensures.gives)

pub rest_of_block-returns-in-None-clause-gives : goal.rest_of_block-returns-in-None-clause-gives
rest_of_block-returns-in-None-clause-gives t c =
    is_done c.items.invariant.goes (rw c.in-None.is at c.in_ok-next_statement.ensures.gives)

pub rest_of_block-items-preserved : goal.rest_of_block-items-preserved
rest_of_block-items-preserved t c = record {
  goes = goes_on placed_view c.items.all.items c.items.invariant.goes
      c.in_ok-push-in-Some.ensures.items
      (rw c.in-Some.is at c.in_ok-next_statement.ensures.gives) c.in_ok-next_statement.ensures.shorter;
  same = rw c.in_ok-next_statement.ensures.within c.items.invariant.same;
  shorter = omega (arith, c.in_ok-next_statement.ensures.shorter, c.items.invariant.shorter);
}

pub if_statement-returns-then-is_else-clause-gives :
    goal.if_statement-returns-then-is_else-clause-gives
unfolding choice_from
if_statement-returns-then-is_else-clause-gives t c =
    rw (
      c.in_ok-test.ensures.gives,
      c.in_ok-then.ensures.gives,
      c.in_ok-token.ensures.gives,
      ← c.if-is_else.ensures,
      c.in_ok-otherwise.ensures.gives,
      view-else c.in_ok-test.test c.in_ok-then.then c.in_ok-otherwise.otherwise,
    ) refl
