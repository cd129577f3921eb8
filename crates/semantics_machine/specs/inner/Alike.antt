-- Threads that are about to do something.
use Rattle.std.specs.Prelude.{◌≡◌, ℕ, Some}
use Rattle.guest_code.specs.Program.{Program}
use Rattle.semantics.specs.{Machine.{Snapshot, next_of}, declared.state.Action.Action}

-- thread t is about to do something, whether the objects let it or not
abbrev pub IsAbout : Program → Snapshot → ℕ → Type 0
IsAbout p s t = (a : Action) × (next_of p s t ≡ Some a)
