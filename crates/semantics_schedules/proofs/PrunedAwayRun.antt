-- The schedules of the program that loses its failure to sleep sets within a bound, by computing
-- them.
use Rattle.std.proofs.Common.{◌≡◌, [], ◌∷◌, map, filter, nat_le, refl}
use Rattle.std.specs.Int.{int_wrap}
use Rattle.semantics.specs.{Ends.{enabled, is_terminal}, Machine.start, Work.work}
use Rattle.semantics.specs.declared.view.Kind.TheVariants.{Done, Failed}
use Rattle.semantics_schedules.specs.Order.{end_of}
use Rattle.semantics_schedules.specs.PrunedAway.{pruned_away, last, between, three_schedules}
use Rattle.semantics_schedules.specs.Schedules.{complete_schedules, preemptions}
use Rattle.semantics_schedules.specs.Sleep.{reduced_schedules, independent, none_asleep}

pub three_complete : complete_schedules pruned_away (start pruned_away) ≡ three_schedules
unfolding complete_schedules work enabled int_wrap
three_complete = refl

pub their_preemptions : map (preemptions pruned_away) three_schedules ≡ 0 ∷ 1 ∷ 0 ∷ []
unfolding int_wrap
their_preemptions = refl

pub their_kinds : map (λ w. (end_of pruned_away w).kind) three_schedules
    ≡ Done ∷ Failed ∷ Failed ∷ []
unfolding int_wrap
their_kinds = refl

pub two_kept : reduced_schedules pruned_away (start pruned_away) none_asleep ≡ last ∷ between ∷ []
unfolding reduced_schedules complete_schedules work enabled is_terminal independent int_wrap
two_kept = refl

pub one_within : filter (λ w. nat_le (preemptions pruned_away w) 0)
    (reduced_schedules pruned_away (start pruned_away) none_asleep) ≡ last ∷ []
unfolding reduced_schedules complete_schedules work enabled is_terminal independent int_wrap
one_within = refl
