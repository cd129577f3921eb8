use Rattle.std.proofs.Common.{◌∙◌, ◌-◌, ap, arith, length, sym, take}
use Rattle.std.proofs.lemmas.List.{take-take, take_all}
use Rattle.walk_prefixes.proofs.prefixes.Prefixes.truncate.Goals as goal

pub loop-self-preserved : goal.loop-self-preserved
loop-self-preserved c =
    record {
      first = ap (take c.args.length) c.pop.ensures
          ∙ take-take c.args.length (length c.loop-self.self - 1) c.loop-self.self
          (omega (arith, c.loop-self-test.true, c.len.ensures)) ∙
          c.loop-self.invariant.first;
    }

pub returns : goal.returns
returns c =
    sym (take_all c.args.length c.loop-self.self
    (omega (arith, c.loop-self-test.false, c.len.ensures)))
    ∙ c.loop-self.invariant.first
