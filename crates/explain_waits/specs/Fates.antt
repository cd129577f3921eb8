-- What came of an instruction of a thread: carried out, ahead of the thread, or neither.
use Rattle.std.specs.Prelude.{◌≡◌, ℕ, ◌<◌, ℤ, pos, Bool, true, false, List, length, replicate, Option, Some, None, slice_get, slice_index_or, IsSomeAnd}
use Rattle.guest_code.specs.{Program.{Program, code_of}, declared.limits.TheConstants.LOCALS}
use Rattle.guest_code.specs.declared.program.Instruction.{Instruction}
use Rattle.explain_run.specs.declared.{explanation.Explanation.Explanation, step.Step.Step}
use Rattle.explain_run.specs.declared.thread_state.ThreadState.{ThreadState}
use Rattle.explain_waits.specs.{Ways.{Way, WayPast}, declared.fate.Fate.Fate}
use Rattle.explain_waits.specs.declared.fate.Fate.TheVariants.{Taken, Ahead, Perhaps, OutOfReach}

-- the number of the instruction at which a thread of which this is told stands, and its locals
abbrev pub stands_at : Option ThreadState → ℕ
stands_at None = 0
stands_at (Some told) = told.instruction

abbrev pub locals_in : Option ThreadState → List ℤ
locals_in None = replicate LOCALS (pos 0)
locals_in (Some told) = told.locals

-- the number of the instruction at which thread t stands at the end, and its locals there
abbrev pub place_of : Explanation → ℕ → ℕ
place_of told t = stands_at (slice_get told.thread_states.items t)

abbrev pub locals_of : Explanation → ℕ → List ℤ
locals_of told t = locals_in (slice_get told.thread_states.items t)

-- the step at place k carried out instruction i of thread t
abbrev pub CarriesOut : List Step → ℕ → ℕ → ℕ → Type 0
CarriesOut steps t i k =
    IsSomeAnd (slice_get steps k) (λ step. (step.line.thread ≡ t) × (step.instruction ≡ i))

-- no step before place n did
abbrev pub IsLeft : List Step → ℕ → ℕ → ℕ → Type 0
IsLeft steps t i n = (k : ℕ) → k < n → ¬ CarriesOut steps t i k

-- this came of instruction i of thread t, whose code is this and who stands at that place with these
-- locals, in the first n steps: it was first carried out in the step at that place; or it was not,
-- and each way on leads to it; or some do and some pass it by; or none leads there
abbrev pub IsFate : List Instruction → ℕ → List ℤ → List Step → ℕ → ℕ → ℕ → Fate → Type 0
IsFate code from locals steps t i n (Taken k) =
    (k < n) × CarriesOut steps t i k × IsLeft steps t i k
IsFate code from locals steps t i n Ahead = IsLeft steps t i n
    × Way code from locals i × (¬ WayPast code from locals i)
IsFate code from locals steps t i n Perhaps = IsLeft steps t i n
    × Way code from locals i × WayPast code from locals i
IsFate code from locals steps t i n OutOfReach = IsLeft steps t i n × (¬ Way code from locals i)

-- the thread has yet to come to the instruction, or may
abbrev pub is_to_come : Fate → Bool
is_to_come Ahead = true
is_to_come Perhaps = true
is_to_come (Taken k) = false
is_to_come OutOfReach = false

-- this came of instruction i of thread t
abbrev pub HasFate : Program → Explanation → ℕ → ℕ → Fate → Type 0
HasFate p told t i fate = IsFate (code_of p t) (place_of told t) (locals_of told t)
    told.steps.items t i (length told.steps.items) fate

-- and this of each instruction of thread t
pub record Fates (p : Program) (told : Explanation) (t : ℕ) (fates : List Fate) : Type 0 where
  pub all : length fates ≡ length (code_of p t)
  pub each : (i : ℕ) → i < length (code_of p t) →
      HasFate p told t i (slice_index_or fates i OutOfReach)
