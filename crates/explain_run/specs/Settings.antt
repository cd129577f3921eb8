-- The locals that a thread sets by itself, one after the other.
use Rattle.std.specs.Prelude.{ℕ, zero, suc, ◌+◌, nat_eq, ℤ, List, [], ◌∷◌, ◌++◌, drop, slice_set, slice_index_or, Option, Some, None, is_some, if◌then◌else◌}
use Rattle.guest_code.specs.declared.program.Instruction.{Instruction}
use Rattle.guest_code.specs.declared.program.Instruction.TheVariants.{Load, Store, Add, Cas, Lock, Unlock, Wait, Signal, Broadcast, Acquire, Release, Set, Assert, SkipIfZero, Skip}
use Rattle.semantics.specs.Expressions.{value_of_expression, is_zero, one_or_zero}
use Rattle.replay.specs.declared.run.Act.{Act}
use Rattle.replay.specs.declared.run.Act.TheVariants.{Load as Loads, Add as Adds, Cas as Swaps}
use Rattle.explain_run.specs.declared.assignments.Assignment.{Assignment}

-- what a local run sets before these instructions, of which the first is number `at` and the first
-- `skip` are jumped over, where the locals have these values
abbrev pub settings_in : List Instruction → ℕ → ℕ → List ℤ → List Assignment
settings_in [] at skip locals = []
settings_in (i ∷ is) at (suc skip) locals = settings_in is (at + 1) skip locals
settings_in (Set r e ∷ is) at zero locals =
    record { instruction = at; local = r; value = value_of_expression locals e }
    ∷ settings_in is (at + 1) 0 (slice_set locals r (value_of_expression locals e))
settings_in (Assert e ∷ is) at zero locals =
    if is_zero (value_of_expression locals e) then [] else settings_in is (at + 1) 0 locals
settings_in (SkipIfZero e n ∷ is) at zero locals = settings_in is (at + 1)
    (if is_zero (value_of_expression locals e) then n else 0) locals
settings_in (Skip n ∷ is) at zero locals = settings_in is (at + 1) n locals
settings_in (Load r x ∷ is) at zero locals = []
settings_in (Store x a ∷ is) at zero locals = []
settings_in (Add r x a ∷ is) at zero locals = []
settings_in (Cas r x a b ∷ is) at zero locals = []
settings_in (Lock m ∷ is) at zero locals = []
settings_in (Unlock m ∷ is) at zero locals = []
settings_in (Wait c m ∷ is) at zero locals = []
settings_in (Signal c ∷ is) at zero locals = []
settings_in (Broadcast c ∷ is) at zero locals = []
settings_in (Acquire k ∷ is) at zero locals = []
settings_in (Release k ∷ is) at zero locals = []

-- the local that a visible statement sets, the instruction of this number, where its step did this
abbrev pub setting_by : ℕ → Instruction → Act → Option Assignment
setting_by at (Load r x) (Loads y v) =
    Some (record { instruction = at; local = r; value = v })
setting_by at (Add r x a) (Adds y v w) =
    Some (record { instruction = at; local = r; value = v })
setting_by at (Cas r x a b) (Swaps y v hit) =
    Some (record { instruction = at; local = r; value = one_or_zero (is_some hit) })
setting_by at _ _ = None

-- that local as a list, if one is set
abbrev pub listed : Option Assignment → List Assignment
listed None = []
listed (Some assignment) = assignment ∷ []

-- the locals after it
abbrev pub locals_with : List ℤ → Option Assignment → List ℤ
locals_with locals None = locals
locals_with locals (Some assignment) = slice_set locals assignment.local assignment.value

-- what a thread sets in a step of the instruction `from` that did this, and, where it came further,
-- by itself after it
abbrev pub settings_by : List Instruction → ℕ → ℕ → List ℤ → Act → List Assignment
settings_by code from to locals act =
    let first = setting_by from (slice_index_or code from (Skip 0)) act in
    listed first ++ (if nat_eq to from then [] else
    settings_in (drop (from + 1) code) (from + 1) 0 (locals_with locals first))
