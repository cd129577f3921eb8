use Rattle.std.proofs.Common.{arith, ◌≡◌, ◌<◌, ◌+◌, ◌∙◌, nat_lt, length-set}
use Rattle.semantics.specs.Mask.{has, no_threads}
use Rattle.semantics_machine.proofs.Lists.{by_place}
use Rattle.semantics_machine.proofs.touch.threads_before.Goals as goal

pub loop-t-preserved : goal.loop-t-preserved
loop-t-preserved c = record {
  each = λ t u. by_place (λ t m. t < c.loop-t.t + 1 → has m u ≡ nat_lt u t) c.loop-t.before
      c.loop-t.t c.threads_below.result no_threads (omega (arith, c.loop-t.invariant.long))
      (λ l. c.threads_below.ensures u)
      (λ k ne l. c.loop-t.invariant.each k u (omega (arith, l, ne))) t;
  long = length-set c.loop-t.before c.loop-t.t c.threads_below.result ∙ c.loop-t.invariant.long;
}
