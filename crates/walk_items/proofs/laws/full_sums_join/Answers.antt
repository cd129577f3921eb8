use Rattle.walk_items.proofs.{Splits.split_full}
use Rattle.walk_items.proofs.laws.full_sums_join.Goals as goal

pub returns : goal.returns
returns c = λ w h fits. split_full w.mode w.item w.part w.rest w.deferred h.split fits
