use Rattle.std.proofs.Common.{◌∙◌, ap, rules}
use Rattle.std.{specs.Int.{cast_unsigned, w64}, proofs.lemmas.Int.to_z-of_z}
use Rattle.semantics_machine.proofs.Queues.{queued_joined}
use Rattle.semantics_machine.proofs.control.queue_with.Goals as goal

pub returns : goal.returns
returns c = queued_joined c.cast_unsigned.result c.args.thread c.requires.thread c.args._length
    c.args.queue c.cast_signed.result c.requires.room (c.cast_unsigned.ensures ∙ ap (cast_unsigned w64) (to_z-of_z w64 c.args.queue (search rules))) c.cast_signed.ensures
