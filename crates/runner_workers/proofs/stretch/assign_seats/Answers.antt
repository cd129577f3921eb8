use Rattle.std.proofs.Common.{◌≡◌, ap, sym, subst, length, arith, Option, IfSome}
use Rattle.std.proofs.lemmas.List.Elements.{All-push, All-same, All-rest, All-head, All-pop}
use Rattle.board.specs.Board.{SeatView}
use Rattle.runner_rounds.specs.declared.worker.Worker.{Worker}
use Rattle.runner_workers.specs.inner.Rounds.{IsOn}
use Rattle.runner_workers.proofs.stretch.assign_seats.Goals as goal

pub loop-seat-preserved : goal.loop-seat-preserved
loop-seat-preserved c =
    let i = c.loop-seat.invariant in
    let e = c.in-Some.ensures.steps.0 in
    let board = c.args.board.now.id in
    let p = c.args.program.now in
    let S : SeatView → Type 0 = λ s. s.board ≡ board in
    let B : Worker → Type 0 = λ b. b.walker ≡ p in
    let left = ap (length {A = SeatView}) e in
    let popped = All-pop B _ _ _ c.pop.ensures.items i.workers in
    record {
      left = All-rest S _ _ _ e i.left;
      workers = popped.0;
      as_many = let n = i.as_many in let l = c.in-Some-pop.ensures.len in omega (arith, left, n, l);
      done = All-same (IsOn board p) _ _ c.in_ok-push.ensures.items
          (All-push (IsOn board p) _ _ i.done (record {
            seat = All-head S _ _ (All-same S _ _ (sym e) i.left);
            walker = subst (λ (r : Option Worker). IfSome r B) c.in-Some-pop.is popped.1;
          }));
      many = let m = i.many in let n = c.in_ok-push.ensures.len in omega (arith, left, m, n);
    }
