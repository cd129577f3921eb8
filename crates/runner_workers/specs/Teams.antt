-- What a team of workers keeps from one stretch of rounds to the next.
use Rattle.std.specs.Prelude.{◌≡◌, ◌≤◌, ◌<◌, All, vec_len}
use Rattle.guest_code.specs.Program.{Program}
use Rattle.runner_workers.specs.declared.{limits.TheConstants.WORKERS, team.Team.Team}

-- as many workers as a search may have, each with a walker of the program
pub record IsTeam (p : Program) (t : Team) : Type 0 where
  pub some : 0 < vec_len t.workers
  pub few : vec_len t.workers ≤ WORKERS
  pub of : All (λ b. b.walker ≡ p) t.workers.items
