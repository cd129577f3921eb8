use Rattle.std.proofs.Common.{arith, ◌<◌, ◌∙◌, length, length-set}
use Rattle.semantics.specs.Machine.{start}
use Rattle.semantics_machine.proofs.Openings.{one_count, count_at, count_inside}
use Rattle.semantics_machine.proofs.control.initial_counts.Goals as goal

pub loop-k-preserved : goal.loop-k-preserved
loop-k-preserved c =
    let p = c.args.program.now in
    let here : c.loop-k.k < length c.args.program.now.semaphores = omega arith in
    let room : c.loop-k.k < length c.loop-k.counts =
    omega (arith, c.loop-k.invariant.long, c.semaphores-k-end.ensures.few) in
    record {
      same = one_count c.loop-k.counts (start p).counts c.loop-k.k c.initial_count.result
          c.loop-k.invariant.same room
          (count_inside p c.loop-k.k here)
          (c.initial_count.ensures.count ∙ count_at p c.loop-k.k here);
      long = length-set c.loop-k.counts c.loop-k.k c.initial_count.result ∙ c.loop-k.invariant.long;
    }
