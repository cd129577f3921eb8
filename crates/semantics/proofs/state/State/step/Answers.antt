use Rattle.std.proofs.Common.{rules, ap}
use Rattle.semantics.{specs.Machine.Snapshot, proofs.Undone.step_taken}
use Rattle.semantics.proofs.state.State.step.Goals as goal

pub returns : goal.returns
returns c =
    let taken = step_taken c.args.program.now c.args.self.now c.perform.new.self c.in-Some.action
    (record {
      thread = c.args.thread;
      before = c.index-before.result.now;
      objects = c.before-objects.result;
    }) c.self.inside.threads.items c.requires.of c.requires.enabled c.in-Some.ensures.value
    c.in-Some.ensures.fine c.perform.ensures (ap (λ (s : Snapshot). s.threads) c.self.view_is)
    c.index-before.ensures c.before-objects.ensures in
    record { value = search rules; of = taken.of; «record» = taken.record_of; back = taken.back }
