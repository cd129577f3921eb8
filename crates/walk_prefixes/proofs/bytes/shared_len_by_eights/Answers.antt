use Rattle.std.proofs.Common.{arith, ◌∙◌, ◌++◌, refl, sym}
use Rattle.std.proofs.Math.Seq.{take-add}
use Rattle.walk_prefixes.proofs.bytes.shared_len_by_eights.Goals as goal

pub loop-n-preserved : goal.loop-n-preserved
loop-n-preserved c = record {
  within = omega (arith, c.loop-n-test.true, c.loop-n.invariant.within);
  alike = take-add c.loop-n.n 8 c.args.a.now
      ∙ ((λ i. c.loop-n.invariant.alike i ++ c.if-have_same_eight.ensures refl i)
      ∙ sym (take-add c.loop-n.n 8 c.args.b.now));
}
