use Rattle.std.proofs.Common.{◌≡◌, ◌++◌}
use Rattle.explain_waits.proofs.EndersListed.{listed}
use Rattle.explain_waits.proofs.ending.put_unblocking_statements.Given as goal

abbrev pub invariant-loop-at : goal.invariant-loop-at
invariant-loop-at l =
    l.list.items ≡ l.fn.list.items ++ listed l.blocked l.other l.code l.fates l.at
