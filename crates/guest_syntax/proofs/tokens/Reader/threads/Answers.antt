use Rattle.std.proofs.Common.{refl}
use Rattle.std.proofs.lemmas.Result.{err_from_is_err_and}
use Rattle.guest_syntax.specs.{Tree.thread_view, reader.Reads.rest_of, reader.Trees.thread_turn}
use Rattle.guest_syntax.proofs.ItemLoops.{begins, goes_on, is_done, stops}
use Rattle.guest_syntax.proofs.tokens.Reader.threads.Goals as goal

pub items-init : goal.items-init
items-init c = record {
  goes = rw c.new-all.ensures.items (begins thread_turn (rest_of c.args.self.now));
  same = refl;
}

pub returns-in_err-next_thread-clause-gives : goal.returns-in_err-next_thread-clause-gives
returns-in_err-next_thread-clause-gives c =
    let p = err_from_is_err_and c.from_residual.result c.from_residual.ensures.1 in
    rw (p.1, p.2) (stops _ c.items.invariant.goes c.in_err-next_thread.ensures.gives)

pub returns-in-None-clause-gives : goal.returns-in-None-clause-gives
returns-in-None-clause-gives c =
    is_done c.items.invariant.goes (rw c.in-None.is at c.in_ok-next_thread.ensures.gives)

pub items-preserved : goal.items-preserved
items-preserved c = record {
  goes = goes_on thread_view c.items.all.items c.items.invariant.goes
      c.in_ok-push-in-Some.ensures.items
      (rw c.in-Some.is at c.in_ok-next_thread.ensures.gives)
      (rw c.in-Some.is at c.in_ok-next_thread.ensures.shorter refl);
  same = rw c.in_ok-next_thread.ensures.within c.items.invariant.same;
}
