use Rattle.std.proofs.Common.{arith, ◌≡◌, ◌<◌, ◌+◌, ◌∙◌, length-set}
use Rattle.semantics.specs.Mask.{no_threads}
use Rattle.semantics_machine.specs.Refinement.{HasSameCode}
use Rattle.semantics_machine.proofs.Lists.{by_place}
use Rattle.semantics_machine.proofs.equal.same_code.Goals as goal

pub loop-thread-preserved : goal.loop-thread-preserved
loop-thread-preserved c = record {
  each = by_place (λ t m. t < c.loop-thread.thread + 1 → HasSameCode c.args.program.now t m)
      c.loop-thread.lower c.loop-thread.thread c.lower_with_code_of.result no_threads
      (omega (arith, c.loop-thread.invariant.long)) (λ l. c.lower_with_code_of.ensures)
      (λ k ne l. c.loop-thread.invariant.each k (omega (arith, l, ne)));
  long = length-set c.loop-thread.lower c.loop-thread.thread c.lower_with_code_of.result
      ∙ c.loop-thread.invariant.long;
}
