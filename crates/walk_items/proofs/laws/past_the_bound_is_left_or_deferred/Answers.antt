use Rattle.std.proofs.Common.{subst}
use Rattle.walk_items.specs.{Walks.IsSplit, declared.mode.Mode.Mode}
use Rattle.walk_items.proofs.Splits.{cut_at, split_past}
use Rattle.walk_items.proofs.laws.past_the_bound_is_left_or_deferred.Goals as goal

pub returns-clause-all : goal.returns-clause-all
returns-clause-all c = λ w once bound h e.
    split_past once bound w.item w.part w.rest w.deferred
    (subst (λ (m : Mode). IsSplit m w.item w.part w.rest w.deferred) e h.split)

pub returns-clause-within : goal.returns-clause-within
returns-clause-within c = λ w once bound h e.
    (cut_at w.mode once bound w.item w.rest w.deferred e h.split.cut).within

pub returns-clause-past : goal.returns-clause-past
returns-clause-past c = λ w once bound h e.
    (cut_at w.mode once bound w.item w.rest w.deferred e h.split.cut).past
