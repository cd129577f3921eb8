-- The objects of a program, what is to be seen of them in a state.
use Rattle.std.specs.Prelude.{◌<◌, length}
use Rattle.guest_code.specs.Program.{Program}
use Rattle.semantics.specs.declared.state.Action.{Action}
use Rattle.semantics.specs.declared.state.Action.TheVariants.{OnVariable, OnMutex, Wait as Waits, OnCondition, OnSemaphore}
use Rattle.semantics.specs.Machine.{Snapshot, value_of, owner_of, queue_of, count_of}
use Rattle.explain_run.specs.declared.object.Object.{Object}
use Rattle.explain_run.specs.declared.object.Object.TheVariants.{Variable, Mutex, Condition, Semaphore}
use Rattle.explain_run.specs.declared.object.ObjectState.{ObjectState}
use Rattle.explain_run.specs.declared.object.ObjectState.TheVariants.{Value, Owner, Waiting, Count}

-- the object that an action is on: of a `wait` its condition
abbrev pub object_of : Action → Object
object_of (OnVariable x d) = Variable x
object_of (OnMutex m d) = Mutex m
object_of (Waits c m) = Condition c
object_of (OnCondition c d) = Condition c
object_of (OnSemaphore k d) = Semaphore k

-- what an object is in a state
abbrev pub reading_of : Snapshot → Object → ObjectState
reading_of s (Variable x) = Value (value_of s x)
reading_of s (Mutex m) = Owner (owner_of s m)
reading_of s (Condition c) = Waiting (length (queue_of s c))
reading_of s (Semaphore k) = Count (count_of s k)

-- it is an object of the program
abbrev pub IsObjectOf : Program → Object → Type 0
IsObjectOf p (Variable x) = x < length p.variables
IsObjectOf p (Mutex m) = m < length p.mutexes
IsObjectOf p (Condition c) = c < length p.conditions
IsObjectOf p (Semaphore k) = k < length p.semaphores
