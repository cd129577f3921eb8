-- What a thread does by itself, after one of its instructions.
use Rattle.std.specs.Prelude.{ℕ, ℤ, List, [], Option, Some, None}
use Rattle.guest_code.specs.declared.program.Instruction.{Instruction}
use Rattle.explain_cause.specs.{Course.{local_events, locals_after}, declared.event.Event.Event}

-- what it does from here on, where `skip` instructions are passed over first, or it stays
abbrev pub events_on :
    ℕ → Option ℕ → Option ℕ → List Instruction → ℕ → List ℤ → List Event
events_on t step (Some skip) rest at locals = local_events t step rest at skip locals
events_on t step None rest at locals = []

-- its locals then
abbrev pub locals_on :
    ℕ → Option ℕ → Option ℕ → List Instruction → ℕ → List ℤ → List ℤ
locals_on t step next rest at locals = locals_after locals (events_on t step next rest at locals)
