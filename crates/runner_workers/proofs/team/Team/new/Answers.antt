use Rattle.std.proofs.Common.{rules, ◌≡◌, arith}
use Rattle.std.proofs.lemmas.List.Elements.{All-push, All-same}
use Rattle.runner_rounds.specs.declared.worker.Worker.{Worker}
use Rattle.runner_workers.proofs.team.Team.new.Goals as goal

pub loop-number-preserved : goal.loop-number-preserved
loop-number-preserved c =
    let i = c.loop-number.invariant in
    let B : Worker → Type 0 = λ b. b.walker ≡ c.args.book.of.program in
    record {
      of = All-same B _ _ c.in_ok-push.ensures.items (All-push B _ _ i.of (search rules));
      many = let m = i.many in let n = c.in_ok-push.ensures.len in omega (arith, m, n);
    }
