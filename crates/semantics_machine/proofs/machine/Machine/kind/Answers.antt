use Rattle.semantics_machine.proofs.EndKinds.{fails, is_done, gets_stuck}
use Rattle.semantics_machine.proofs.machine.Machine.kind.Goals as goal

pub returns-then-not-is_empty : goal.returns-then-not-is_empty
returns-then-not-is_empty c = λ p s shows.
    let some = c.is_empty.ensures.some c.if-not-is_empty.true in
    fails p c.args.self.now.control s shows.state.control some.0 some.1

pub returns-then-is_empty : goal.returns-then-is_empty
returns-then-is_empty c = λ p s shows. is_done p c.args.self.now.control s shows.state.control
    (c.is_empty.ensures.none c.if-not-is_empty.false)
    (c.is_empty-else-not-is_empty.ensures.none c.if-is_empty.true)

pub returns-else-is_empty : goal.returns-else-is_empty
returns-else-is_empty c = λ p s shows.
    let some = c.is_empty-else-not-is_empty.ensures.some c.if-is_empty.false in
    gets_stuck p c.args.self.now.control s shows.state.control some.0
    (c.is_empty.ensures.none c.if-not-is_empty.false) some.1
