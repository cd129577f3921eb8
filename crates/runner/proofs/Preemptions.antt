-- The preemptions of a schedule that runs fit 32 bits.
use Rattle.std.proofs.Common.{◌≡◌, ℕ, ◌<◌, ◌^◌, List, true, arith}
use Rattle.guest_code.specs.Program.{Program, IsWellFormed}
use Rattle.semantics.specs.Machine.{start}
use Rattle.semantics_schedules.specs.Schedules.{runs, preemptions}
use Rattle.walk_items.proofs.Turns.{preemptions_limit}

pub preemptions_fit : (p : Program) (w : List ℕ) → IsWellFormed p
    → runs p (start p) w ≡ true → preemptions p w < 2 ^ 32
preemptions_fit p w well h =
    let few = preemptions_limit p w well h in
    omega (arith, few)
