use Rattle.std.proofs.Common.{◌∙◌, sym}
use Rattle.std.proofs.lemmas.List.{nil_from_length}
use Rattle.walk_cover.proofs.Asleep.{none_under}
use Rattle.walk_cover.proofs.under.with_sleepers.Goals as goal

pub returns-in-None : goal.returns-in-None
returns-in-None c =
    none_under c.args.item (sym c.prefix-2.ensures.prefix
    ∙ nil_from_length c.prefix-2.result.now c.in-None.ensures.cases) c.requires
