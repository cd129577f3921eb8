use Rattle.std.proofs.Common.{◌≡◌, ap, sym, length, arith}
use Rattle.std.proofs.lemmas.List.Elements.{All-push, All-same, All-rest, All-head}
use Rattle.board.specs.Board.{SeatView}
use Rattle.runner_workers.specs.declared.seated_worker.SeatedWorker.{SeatedWorker}
use Rattle.runner_rounds.specs.declared.worker.Worker.{Worker}
use Rattle.runner_workers.specs.inner.Rounds.{IsOn}
use Rattle.runner_workers.proofs.stretch.unseat_workers.Goals as goal

pub loop-one-preserved : goal.loop-one-preserved
loop-one-preserved g c =
    let i = c.loop-one.invariant in
    let e = c.in-Some.ensures.steps.0 in
    let board = c.args.board.now.id in
    let p = g.N.SearchBrand.of.program in
    let S : SeatView → Type 0 = λ s. s.board ≡ board in
    let B : Worker → Type 0 = λ b. b.walker ≡ p in
    let left = ap (length {A = SeatedWorker}) e in
    let on = All-head (IsOn board p) _ _ (All-same (IsOn board p) _ _ (sym e) i.left) in
    record {
      left = All-rest (IsOn board p) _ _ _ e i.left;
      seats = All-same S _ _ c.in_ok-push.ensures.items (All-push S _ _ i.seats on.seat);
      workers = All-same B _ _ c.in_ok-push-2.ensures.items (All-push B _ _ i.workers on.walker);
      many = let m = i.many in let n = c.in_ok-push.ensures.len in omega (arith, left, m, n);
      kept = let m = i.kept in let n = c.in_ok-push-2.ensures.len in omega (arith, left, m, n);
    }
