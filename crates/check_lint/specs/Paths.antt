-- Paths through the code of a thread: from an instruction to one that may be next, what is so after
-- them, and marks of instructions, which say it.
use Rattle.std.specs.Prelude.{◌≡◌, ℕ, ◌+◌, ◌<◌, ◌⊎◌, Bool, true, false, ◌&&◌, ◌||◌, nat_eq, if◌then◌else◌, IsTrue, List, length, slice_index_or, Option, Some, None}
use Rattle.guest_code.specs.{Program.skip_of, declared.program.Instruction.Instruction}
use Rattle.guest_code.specs.declared.program.Instruction.TheVariants.{Store, Add, Cas, Lock, Unlock, Wait, Signal, Broadcast, Acquire, Release, SkipIfZero, Skip}
use Rattle.check_lint.specs.{Uses.{expression_reads, sets}, declared.paths.Mark.Mark}
use Rattle.check_lint.specs.declared.paths.Watch.{Watch}
use Rattle.check_lint.specs.declared.paths.Watch.TheVariants as watches

-- an instruction that may go on with the next one or pass over some
abbrev pub is_test : Instruction → Bool
is_test (SkipIfZero e n) = true
is_test _ = false

-- after instruction k, which is this one, instruction j may be next
abbrev pub Goes : Instruction → ℕ → ℕ → Type 0
Goes i k j = (j ≡ k + 1 + skip_of i) ⊎ (IsTrue (is_test i) × (j ≡ k + 1))

-- after instruction k of a code instruction j may be next, or the end
abbrev pub Next : List Instruction → ℕ → ℕ → Type 0
Next code k j = (k < length code) × Goes (slice_index_or code k (Skip 0)) k j

-- Whether a thread owns a mutex after an instruction, where it did before it or not. It doesn't get
-- past the lock of a mutex that it owns.
abbrev pub owned_after : ℕ → Instruction → Bool → Option Bool
owned_after m (Lock n) b = if nat_eq n m then (if b then None else Some true) else Some b
owned_after m (Unlock n) b = if nat_eq n m then Some false else Some b
owned_after m _ b = Some b

-- a statement that does something to what other threads see, whatever it finds; an `unlock` doesn't
-- count, nor a `cas`, which looks first
abbrev pub acts : Instruction → Bool
acts (Store x a) = true
acts (Add r x a) = true
acts (Lock m) = true
acts (Wait c m) = true
acts (Signal c) = true
acts (Broadcast c) = true
acts (Acquire s) = true
acts (Release s) = true
acts _ = false

-- Whether local r got a value, where it has not been looked at since: by a test of it. A `cas` looks
-- by itself, and what comes after a statement that acts isn't followed.
abbrev pub unseen_after : ℕ → Instruction → Bool → Option Bool
unseen_after r (SkipIfZero e n) b = if b && expression_reads r e then None else Some b
unseen_after r (Cas q x a c) b = None
unseen_after r i b = if acts i then None else Some (b || sets r i)

-- what is so after an instruction, where it was so before it or not; none where no path goes on
abbrev pub after : Watch → Instruction → Bool → Option Bool
after watches.Nothing i b = Some b
after (watches.Owns m) i b = owned_after m i b
after (watches.Untested r) i b = unseen_after r i b
after (watches.IsSet r) i b = Some (b || sets r i)

-- Some path through a code leads from instruction `k` to another one. Where what is watched is so at
-- its beginning or not, as `b` says, it is so at its end or not, as the last one says.
pub data Comes (code : List Instruction) (w : Watch) (k : ℕ) (b : Bool) : ℕ → Bool → Type 0 where
  here : Comes code w k b k b
  on : {i j : ℕ} {c d : Bool} → Comes code w k b i c → Next code i j
      → after w (slice_index_or code i (Skip 0)) c ≡ Some d → Comes code w k b j d

-- some path from the beginning leads to an instruction, or to the end
abbrev pub IsReached : List Instruction → ℕ → Type 0
IsReached code k = (b : Bool) × Comes code watches.Nothing 0 false k b

-- an instruction that acts, or the end
abbrev pub ActsAt : List Instruction → ℕ → Type 0
ActsAt code k = IsTrue (acts (slice_index_or code k (Skip 0))) ⊎ (k ≡ length code)

abbrev pub no_mark : Mark
no_mark = record { may_hold = false; may_not_hold = false }

abbrev pub mark_of : Mark → Bool → Bool
mark_of x true = x.may_hold
mark_of x false = x.may_not_hold

-- the mark of instruction j for this way
abbrev pub Marked : List Mark → ℕ → Bool → Type 0
Marked ms j b = IsTrue (mark_of (slice_index_or ms j no_mark) b)

-- the marks are the ways in which some path leads there
pub record Marks (ms : List Mark) (code : List Instruction) (w : Watch) (k : ℕ) (b : Bool)
    : Type 0 where
  pub sound : (j : ℕ) (c : Bool) → Marked ms j c → Comes code w k b j c
  pub complete : (j : ℕ) (c : Bool) → Comes code w k b j c → Marked ms j c
