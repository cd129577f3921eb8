-- What a step does with the objects that it touches.
use Rattle.std.specs.Prelude.{ℕ, List, [], ◌∷◌, Contains}
use Rattle.semantics.specs.declared.state.VariableAction.{VariableAction}
use Rattle.semantics.specs.declared.state.VariableAction.TheVariants.{Load as Loads, Store as Stores, Add as Adds, Cas as Swaps}
use Rattle.semantics.specs.declared.state.Action.{Action}
use Rattle.semantics.specs.declared.state.Action.TheVariants.{OnVariable, OnMutex, Wait as Waits, OnCondition, OnSemaphore}

-- what a step does with an object that it touches: a load reads its variable; all other steps
-- write, a `cas` also where it misses
pub data Access : Type 0 where
  reads_var : ℕ → Access
  writes_var : ℕ → Access
  writes_mutex : ℕ → Access
  writes_condition : ℕ → Access
  writes_semaphore : ℕ → Access

-- what a step on variable x does with it
abbrev pub access_of : VariableAction → ℕ → Access
access_of (Loads r) x = reads_var x
access_of (Stores a) x = writes_var x
access_of (Adds r a) x = writes_var x
access_of (Swaps r a b) x = writes_var x

-- the objects that a step touches
abbrev pub accesses : Action → List Access
accesses (OnVariable x d) = access_of d x ∷ []
accesses (OnMutex m d) = writes_mutex m ∷ []
accesses (Waits c m) = writes_condition c ∷ writes_mutex m ∷ []
accesses (OnCondition c d) = writes_condition c ∷ []
accesses (OnSemaphore k d) = writes_semaphore k ∷ []

-- an object of a program, by its kind and its number
pub data Object : Type 0 where
  variable : ℕ → Object
  mutex : ℕ → Object
  condition : ℕ → Object
  semaphore : ℕ → Object

-- the access that writes an object
abbrev pub write_of : Object → Access
write_of (variable x) = writes_var x
write_of (mutex m) = writes_mutex m
write_of (condition c) = writes_condition c
write_of (semaphore k) = writes_semaphore k

-- the action writes the object
abbrev pub Writes : Action → Object → Type 0
Writes a o = Contains (accesses a) (write_of o)
