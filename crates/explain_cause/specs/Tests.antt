-- What a test passes over, and how far that leads. All jumps go forwards.
use Rattle.std.specs.Prelude.{ℕ, ◌+◌, max, nat_lt, Bool, ◌&&◌, List, [], ◌∷◌, drop, take, length, if◌then◌else◌}
use Rattle.std.specs.List.{list_any}
use Rattle.guest_code.specs.Program.{Program, code_of, skip_of}
use Rattle.guest_code.specs.declared.program.Instruction.{Instruction}
use Rattle.check_lint.specs.{Paths.is_test, Uses.does}
use Rattle.check_lint.specs.declared.uses.Use.TheVariants as uses
use Rattle.explain_cause.specs.{Events.jump_by, declared.event.Event.Event}

-- the number of the first instruction after all that is passed over, where that is up to here
-- `reach`, and these instructions follow, the first of number `at`: a jump among what is passed
-- over may lead further
abbrev pub merge_point_from : List Instruction → ℕ → ℕ → ℕ
merge_point_from [] at reach = reach
merge_point_from (i ∷ is) at reach = if nat_lt at reach
    then merge_point_from is (at + 1) (max reach (at + 1 + skip_of i)) else reach

-- the number of the first instruction after all that the jump at an instruction passes over,
-- together with what the jumps among that pass over
abbrev pub merge_point : List Instruction → ℕ → ℕ
merge_point code at = merge_point_from (drop at code) at (at + 1)

-- thread t comes to an instruction or not by its jump at instruction k: that comes before the point
-- to which both ways lead
abbrev pub is_decided : Program → ℕ → ℕ → ℕ → Bool
is_decided p t k at = nat_lt t (length p.threads)
    && (nat_lt k (length (code_of p t)) && nat_lt at (merge_point (code_of p t) k))

-- an event is a test that passes a statement by which writes variable x, or may
abbrev pub passes_write : Program → ℕ → Event → Bool
passes_write p x e = is_test e.statement && list_any (does uses.Stores x)
    (take (jump_by e.statement e.deed) (drop (e.instruction + 1) (code_of p e.thread)))
