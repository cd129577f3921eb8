use Rattle.runner.proofs.Shrinks.{round_walked}
use Rattle.runner.proofs.alone.Lone.walk_and_settle_round.Goals as goal

pub returns-in_ok-walk_round-clause-book : goal.returns-in_ok-walk_round-clause-book
returns-in_ok-walk_round-clause-book c =
    round_walked c.args.book.now c.walk_round.new.self c.args.quota c.requires.quota
    c.in_ok-walk_round.ensures.ok
