-- Dependent steps, in plain words: there is an object that both access, and one of them writes it.
use Rattle.std.specs.Prelude.{◌≡◌, ◌⊎◌, List, Option, Some, option_map}
use Rattle.std.specs.List.{Any}
use Rattle.guest_code.specs.declared.program.Instruction.{Instruction}
use Rattle.semantics.specs.Accesses.{Access, accesses, Object, Writes}
use Rattle.semantics.specs.Accesses.Access.{reads_var, writes_var, writes_mutex, writes_condition, writes_semaphore}
use Rattle.semantics.specs.Accesses.Object.{variable, mutex, condition, semaphore}
use Rattle.semantics.specs.{Machine.action_at, declared.state.Action.Action}
use Rattle.semantics.specs.declared.state.Status.{Status}

-- the object that is accessed
abbrev pub object_of : Access → Object
object_of (reads_var x) = variable x
object_of (writes_var x) = variable x
object_of (writes_mutex m) = mutex m
object_of (writes_condition c) = condition c
object_of (writes_semaphore k) = semaphore k

-- the action reads or writes the object
abbrev pub Accesses : Action → Object → Type 0
Accesses a o = Any (λ x. object_of x ≡ o) (accesses a)

-- both actions access the object, and at least one of them writes it
abbrev pub ConflictOn : Action → Action → Object → Type 0
ConflictOn a b o = Accesses a o × Accesses b o × (Writes a o ⊎ Writes b o)

-- what the step of a thread of this status at this instruction accesses; none where it has no step
abbrev pub accesses_at : Status → Instruction → Option (List Access)
accesses_at status i = option_map accesses (action_at status (Some i))
