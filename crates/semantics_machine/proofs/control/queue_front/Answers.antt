use Rattle.std.proofs.Common.{◌∙◌, ap, rules}
use Rattle.std.{specs.Int.{cast_unsigned, w64}, proofs.lemmas.Int.to_z-of_z}
use Rattle.semantics_machine.proofs.Queues.{queued_first}
use Rattle.semantics_machine.proofs.control.queue_front.Goals as goal

pub returns-clause-first : goal.returns-clause-first
returns-clause-first c = queued_first c.args.length c.cast_unsigned.result c.args.queue
    c.requires.some (c.cast_unsigned.ensures ∙ ap (cast_unsigned w64) (to_z-of_z w64 c.args.queue (search rules)))
