-- What the steps of a program touch, as numbers: a bit for each object.
use Rattle.std.specs.Prelude.{◌≡◌, ℕ, ◌+◌, ◌*◌, ◌^◌, ◌<◌, Bool, true, false, nat_lt, List, [], ◌∷◌, map, slice_index_or, Option, Some, None}
use Rattle.std.specs.{Int.Bits.bit_or, List.filter}
use Rattle.guest_code.specs.{Program.Program, declared.limits.TheConstants.THREADS}
use Rattle.guest_code.specs.declared.program.Instruction.{Instruction}
use Rattle.semantics.specs.Accesses.{Access, accesses}
use Rattle.semantics.specs.Accesses.Access.{reads_var, writes_var, writes_mutex, writes_condition, writes_semaphore}
use Rattle.semantics.specs.{Actions.action_at, Mask.{has, no_threads}, declared.mask.Mask.Mask}
use Rattle.semantics.specs.declared.state.{Action.Action, Status.TheVariants.{Running, Woken}}
use Rattle.semantics_machine.specs.declared.touch.{Touch.Touch, Touches.Touches}

-- the number of an object's bit
abbrev pub bit_of : Access → ℕ
bit_of (reads_var x) = 4 * x
bit_of (writes_var x) = 4 * x
bit_of (writes_mutex m) = 4 * m + 1
bit_of (writes_condition c) = 4 * c + 2
bit_of (writes_semaphore k) = 4 * k + 3

-- the object is written
abbrev pub is_write : Access → Bool
is_write (reads_var x) = false
is_write (writes_var x) = true
is_write (writes_mutex m) = true
is_write (writes_condition c) = true
is_write (writes_semaphore k) = true

-- the bits of the objects
abbrev pub bits_of : List Access → ℕ
bits_of [] = 0
bits_of (a ∷ as_) = bit_or (2 ^ bit_of a) (bits_of as_)

-- all objects that a step touches, and those that it writes
abbrev pub touch_of : Option Action → Touch
touch_of None = record { all = 0; written = 0 }
touch_of (Some a) = record {
  all = bits_of (accesses a);
  written = bits_of (filter is_write (accesses a));
}

-- what a step touches at an instruction, where the thread runs and where it was woken
abbrev pub touches_at : Instruction → List Touch
touches_at i = touch_of (action_at Running (Some i)) ∷ touch_of (action_at Woken (Some i)) ∷ []

-- for each thread the threads of lower numbers
abbrev pub AreBefore : List Mask → Type 0
AreBefore sets = (t u : ℕ) → t < THREADS → has (slice_index_or sets t no_threads) u ≡ nat_lt u t

-- they are those of the program's threads
pub record AreTouches (p : Program) (touches : Touches) : Type 0 where
  pub before : AreBefore touches.before
  pub threads : map (λ v. v.items) touches.threads.items
      ≡ map (λ th. map touches_at th.code) p.threads
