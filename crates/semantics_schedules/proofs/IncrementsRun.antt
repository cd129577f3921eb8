-- The schedules of two threads that each load a variable, add 1 and store the sum, by computing
-- them.
use Rattle.std.proofs.Common.{◌≡◌, pos, [], ◌∷◌, map, filter, take, None, refl}
use Rattle.std.specs.Int.{int_wrap}
use Rattle.semantics.specs.{Ends.{enabled, is_terminal}, Machine.start, Work.work}
use Rattle.semantics_schedules.specs.EqualThreads.{are_equal, is_hidden, is_unhidden, hides_equal, complete_once}
use Rattle.semantics_schedules.specs.Increments.{increments, six_schedules, four_schedules, done_with}
use Rattle.semantics_schedules.specs.{Order.end_of, Schedules.{complete_schedules, preemptions}}
use Rattle.semantics_schedules.specs.Sleep.{reduced_schedules, independent, none_asleep}

pub six_complete : complete_schedules increments (start increments) ≡ six_schedules
unfolding complete_schedules work enabled int_wrap
six_complete = refl

pub their_preemptions : map (preemptions increments) six_schedules ≡ 0 ∷ 2 ∷ 1 ∷ 1 ∷ 2 ∷ 0 ∷ []
unfolding int_wrap
their_preemptions = refl

pub their_ends : map (end_of increments) six_schedules
    ≡ done_with (pos 2) ∷ done_with (pos 1) ∷ done_with (pos 1) ∷ done_with (pos 1)
    ∷ done_with (pos 1) ∷ done_with (pos 2) ∷ []
unfolding int_wrap
their_ends = refl

pub four_kept : reduced_schedules increments (start increments) none_asleep ≡ four_schedules
unfolding reduced_schedules complete_schedules work enabled is_terminal independent int_wrap
four_kept = refl

pub three_once : complete_once increments (start increments) None ≡ take 3 six_schedules
unfolding complete_once complete_schedules is_hidden are_equal work enabled int_wrap
three_once = refl

pub two_once : filter (is_unhidden (hides_equal increments) increments (start increments) None)
    (complete_schedules increments (start increments)) ≡ take 2 six_schedules
unfolding complete_schedules is_hidden are_equal work enabled int_wrap
two_once = refl
