use Rattle.std.proofs.Common.{◌∙◌, sym}
use Rattle.semantics.proofs.FinalKindMeans.{done_means, ended_all}
use Rattle.semantics.proofs.state.final_kind.Goals as goal

pub returns-then-all_ended : goal.returns-then-all_ended
returns-then-all_ended c = sym ((done_means c.args.threads.now).1
    (ended_all c.args.threads.now (sym c.all_ended.ensures ∙ c.if-all_ended.true)))
