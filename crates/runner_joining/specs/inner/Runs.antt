-- Runs that end badly within a bound.
use Rattle.std.specs.Prelude.{◌&&◌, ℕ, Bool, true, false, nat_le, Option, Some, None}
use Rattle.semantics.specs.{View.is_bad, declared.view.Kind.Kind}
use Rattle.replay.specs.Run.{Run}

-- a run ends in a failure or a deadlock, and is within the bound, if there is one
abbrev pub is_bad_end : Option Kind → Bool
is_bad_end None = false
is_bad_end (Some kind) = is_bad kind

abbrev pub is_within_bound : Option ℕ → ℕ → Bool
is_within_bound None preemptions = true
is_within_bound (Some bound) preemptions = nat_le preemptions bound

abbrev pub is_bad_run : Run → Option ℕ → Bool
is_bad_run r bound = is_bad_end r.kind && is_within_bound bound r.preemptions
