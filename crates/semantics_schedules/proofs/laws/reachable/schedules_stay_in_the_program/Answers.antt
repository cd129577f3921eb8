use Rattle.std.proofs.Common.{◌≤◌}
use Rattle.std.proofs.lemmas.List.Elements.{All-map}
use Rattle.guest_code.specs.declared.limits.TheConstants.{COUNT}
use Rattle.semantics.{specs.Machine.start, proofs.StepsKeepStates.start_is_of}
use Rattle.semantics_schedules.proofs.RunsKeepStates.{run_is_of}
use Rattle.semantics_schedules.proofs.laws.reachable.schedules_stay_in_the_program.Goals as goal

pub returns : goal.returns
returns c p w fine h = run_is_of p (start p) w
    (start_is_of p fine.threads (All-map (λ n. n ≤ COUNT) (λ k. k.count) p.semaphores fine.counts))
    h
