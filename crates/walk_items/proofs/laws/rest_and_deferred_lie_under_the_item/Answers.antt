use Rattle.walk_items.proofs.laws.rest_and_deferred_lie_under_the_item.Goals as goal

pub returns : goal.returns
returns c = λ w h. h.split.below
