-- One instruction after the other, as far as a thread does it by itself, over its locals alone.
use Rattle.std.specs.Prelude.{◌≡◌, ℕ, ◌+◌, ◌<◌, ◌≤◌, ℤ, min, List, [], ◌∷◌, length, drop, slice_set, if◌then◌else◌}
use Rattle.guest_code.specs.{Program.IsValueBelow, declared.program.Instruction.Instruction}
use Rattle.guest_code.specs.declared.program.Instruction.TheVariants.{Lock, Acquire, Set, Assert, SkipIfZero, Skip}
use Rattle.semantics.specs.Expressions.{value_of_expression, is_zero}
use Rattle.semantics.specs.declared.local.{Landing.Landing, Turn.Turn}
use Rattle.semantics.specs.declared.local.Turn.TheVariants.{Runs, Fails, Takes, Visible, Ends}
use Rattle.semantics.specs.declared.state.{Status.Status, Thread.Thread}
use Rattle.semantics.specs.declared.state.VariableAction.{VariableAction}
use Rattle.semantics.specs.declared.state.VariableAction.TheVariants.{Load as Loads, Store as Stores, Add as Adds, Cas as Swaps}

-- the thread at this place, with these locals
abbrev pub own_thread : Landing → List ℤ → Thread
own_thread at locals = record { pc = at.pc; locals = locals; status = at.status }

-- the local that the step writes, and those that it reads, are below this number
abbrev pub IsAccessBelow : ℕ → VariableAction → Type 0
IsAccessBelow n (Loads r) = r < n
IsAccessBelow n (Stores a) = IsValueBelow n a
IsAccessBelow n (Adds r a) = (r < n) × IsValueBelow n a
IsAccessBelow n (Swaps r a b) = (r < n) × IsValueBelow n a × IsValueBelow n b

-- the instruction after number `at` and `skip` more of those that follow it, or after the last
abbrev pub passed : ℕ → ℕ → List Instruction → ℕ
passed at skip rest = at + 1 + min skip (length rest)

-- what comes of the first of these instructions, which is number `at`
abbrev pub turn_of : ℕ → List ℤ → List Instruction → Turn
turn_of at locals [] = Ends
turn_of at locals (Set r e ∷ is) = Runs (at + 1)
turn_of at locals (Assert e ∷ is) =
    if is_zero (value_of_expression locals e) then Fails else Runs (at + 1)
turn_of at locals (SkipIfZero e n ∷ is) =
    Runs (passed at (if is_zero (value_of_expression locals e) then n else 0) is)
turn_of at locals (Skip n ∷ is) = Runs (passed at n is)
turn_of at locals (Lock m ∷ is) = Takes
turn_of at locals (Acquire k ∷ is) = Takes
turn_of at locals (_ ∷ is) = Visible

-- the locals after it
abbrev pub locals_after : List ℤ → List Instruction → List ℤ
locals_after locals (Set r e ∷ is) = slice_set locals r (value_of_expression locals e)
locals_after locals _ = locals

-- a thread that goes on comes to a later instruction, or to the end of its code of this length
abbrev pub IsFurther : ℕ → ℕ → Turn → Type 0
IsFurther at size (Runs next) = (at < next) × (next ≤ size)
IsFurther at size _ = Unit {0}

-- the thread has come to a visible statement that never waits, and keeps this status
pub record IsFree (code : List Instruction) (at : Landing) (kept : Status) : Type 0 where
  pub status : at.status ≡ kept
  pub locals : List ℤ
  pub turn : turn_of at.pc locals (drop at.pc code) ≡ Visible
