use Rattle.std.proofs.Common.{rules}
use Rattle.walk_prefixes.proofs.CommonSteps.{same_eight}
use Rattle.walk_prefixes.proofs.bytes.have_same_eight.Goals as goal

pub returns : goal.returns
returns c = λ e. same_eight c.args.at c.args.a.now c.args.b.now (search rules) (search rules)
    (search rules) (search rules) (search rules)
