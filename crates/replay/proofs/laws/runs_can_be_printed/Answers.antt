use Rattle.std.proofs.Common.{◌≤◌}
use Rattle.std.proofs.lemmas.List.Elements.{All-map}
use Rattle.guest_code.specs.declared.limits.TheConstants.{COUNT}
use Rattle.semantics.{specs.Machine.start, proofs.StepsKeepStates.start_is_of}
use Rattle.semantics_schedules.proofs.RunsKeepStates.{run_is_of}
use Rattle.replay.proofs.RunsAreValid.{valid_run}
use Rattle.replay.proofs.laws.runs_can_be_printed.Goals as goal

pub returns : goal.returns
returns c p w r fine is =
    let opened =
    start_is_of p fine.threads
    (All-map (λ n. n ≤ COUNT) (λ k. k.count) p.semaphores fine.counts) in
    valid_run p w r fine opened (run_is_of p (start p) w opened is.legal) is
