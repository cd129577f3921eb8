-- A team is known by its workers alone.
use Rattle.std.proofs.Common.{◌≡◌, ◌<◌, ◌≤◌, subst, Vec, Global, vec_len}
use Rattle.std.specs.List.{All}
use Rattle.guest_code.specs.Program.{Program}
use Rattle.runner_workers.specs.{Teams.IsTeam, declared.limits.TheConstants.WORKERS}
use Rattle.runner_workers.specs.declared.team.Team.{Team}
use Rattle.runner_rounds.specs.declared.worker.Worker.{Worker}

pub same_workers : (p q : Program) (old new : Team) → old.workers ≡ new.workers → p ≡ q
    → IsTeam p old → IsTeam q new
same_workers p q old new workers same team = record {
  some = subst (λ (v : Vec Worker Global). 0 < vec_len v) workers team.some;
  few = subst (λ (v : Vec Worker Global). vec_len v ≤ WORKERS) workers team.few;
  of = subst (λ (v : Vec Worker Global). All (λ b. b.walker ≡ q) v.items) workers
      (subst (λ (x : Program). All (λ b. b.walker ≡ x) old.workers.items) same team.of);
}
