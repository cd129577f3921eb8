-- The same state, its threads under other numbers.
use Rattle.std.specs.Prelude.{◌≡◌, ℕ, nat_eq, map, option_map, if◌then◌else◌}
use Rattle.guest_code.specs.Program.{Program, code_of}
use Rattle.semantics.specs.Machine.{Snapshot, thread_at}

-- the other one of two numbers; any other number as it is
abbrev pub swapped : ℕ → ℕ → ℕ → ℕ
swapped t u v = if nat_eq v t then u else (if nat_eq v u then t else v)

-- each thread gets the number of one with the same code, and its own again if this is done twice
pub record IsRenaming (p : Program) (f : ℕ → ℕ) : Type 0 where
  pub back : (t : ℕ) → f (f t) ≡ t
  pub code : (t : ℕ) → code_of p (f t) ≡ code_of p t

-- the second state is the first one, where thread t has the number f t
pub record Renamed (f : ℕ → ℕ) (s r : Snapshot) : Type 0 where
  pub vars : r.vars ≡ s.vars
  pub owners : r.owners ≡ map (option_map f) s.owners
  pub queues : r.queues ≡ map (map f) s.queues
  pub counts : r.counts ≡ s.counts
  pub threads : (t : ℕ) → thread_at r (f t) ≡ thread_at s t
