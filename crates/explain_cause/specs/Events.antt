-- What is to be seen of one thing that happens in a run.
use Rattle.std.specs.Prelude.{ℕ, ◌-◌, nat_eq, nat_lt, nat_le, ℤ, pos, Bool, true, false, ◌||◌, ◌&&◌, Option, Some, None, is_some, if◌then◌else◌}
use Rattle.guest_code.specs.declared.program.Instruction.{Instruction}
use Rattle.guest_code.specs.declared.program.Instruction.TheVariants.{Store, Add, Cas, Assert, SkipIfZero, Skip}
use Rattle.semantics.specs.{Expressions.{is_zero, one_or_zero}, declared.state.Stop.Stop}
use Rattle.semantics.specs.declared.state.Stop.TheVariants.{Assert as FailedAssert}
use Rattle.replay.specs.declared.run.Act.TheVariants.{Load as Loads, Add as Adds, Cas as Swaps}
use Rattle.check_lint.specs.Uses.{is, local_set, variable_read, variable_used, reads as reads_local}
use Rattle.explain_cause.specs.declared.event.Deed.{Deed, TheVariants.{Stepped, Ran, Blocked}}
use Rattle.explain_cause.specs.declared.event.Event.{Event}

-- the variable that a statement writes, where this happens: a `cas` that misses writes none
abbrev pub written_by : Instruction → Deed → Option ℕ
written_by (Store x a) d = Some x
written_by (Add r x a) d = Some x
written_by (Cas r x a b) (Stepped (Swaps y v (Some w)) stop) = Some x
written_by _ d = None

-- the value that its local gets, or that its expression has; 0 where it has neither
abbrev pub value_by : Deed → ℤ
value_by (Stepped (Loads x v) stop) = v
value_by (Stepped (Adds x v w) stop) = v
value_by (Stepped (Swaps x v hit) stop) = one_or_zero (is_some hit)
value_by (Ran v) = v
value_by _ = pos 0

-- why the thread stops
abbrev pub stop_by : Instruction → Deed → Option Stop
stop_by i (Stepped act stop) = stop
stop_by (Assert e) (Ran v) = if is_zero v then Some FailedAssert else None
stop_by i _ = None

-- how many of the next instructions are passed over
abbrev pub jump_by : Instruction → Deed → ℕ
jump_by (SkipIfZero e n) (Ran v) = if is_zero v then n else 0
jump_by (Skip n) d = n
jump_by i d = 0

-- it passes over instruction i of its thread
abbrev pub jumps_over : Event → ℕ → Bool
jumps_over e i =
    nat_lt e.instruction i && nat_le (i - e.instruction) (jump_by e.statement e.deed)

-- it is the step of a visible statement
abbrev pub is_step : Deed → Bool
is_step (Stepped act stop) = true
is_step (Ran v) = false
is_step (Blocked reason holder) = false

-- the thread can't go on
abbrev pub is_blocked : Deed → Bool
is_blocked (Blocked reason holder) = true
is_blocked (Stepped act stop) = false
is_blocked (Ran v) = false

-- an end of the run: the thread stops, or can't go on
abbrev pub is_end : Event → Bool
is_end e = is_some (stop_by e.statement e.deed) || is_blocked e.deed

-- the event reads variable x, writes it, or does one of the two
abbrev pub reads : ℕ → Event → Bool
reads x e = is x (variable_read e.statement)

abbrev pub writes : ℕ → Event → Bool
writes x e = is x (written_by e.statement e.deed)

-- it is of thread t, and reads or writes variable x
abbrev pub is_use : ℕ → ℕ → Event → Bool
is_use t x e = nat_eq e.thread t && is x (variable_used e.statement)

-- it is of thread t, and sets local r, or uses it
abbrev pub sets_local : ℕ → ℕ → Event → Bool
sets_local t r e = nat_eq e.thread t && is r (local_set e.statement)

abbrev pub uses_local : ℕ → ℕ → Event → Bool
uses_local t r e = nat_eq e.thread t && reads_local r e.statement

-- it is of thread t, and passes over instruction i
abbrev pub is_jump_over : ℕ → ℕ → Event → Bool
is_jump_over t i e = nat_eq e.thread t && jumps_over e i
