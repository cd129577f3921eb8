-- What a thread that waits for a condition looks at, if it is woken as things are.
use Rattle.std.specs.Prelude.{◌≡◌, ℕ, ◌+◌, min, ℤ, pos, Bool, false, List, [], ◌∷◌, length, slice_set, slice_get, slice_index_or, Option, Some, None}
use Rattle.guest_code.specs.{Program.{Program, code_of}, declared.program.Instruction.Instruction}
use Rattle.guest_code.specs.declared.program.Instruction.TheVariants.{Load}
use Rattle.semantics.specs.{LocalRun.run_from, declared.state.Status.TheVariants.Running}
use Rattle.semantics.specs.declared.state.Thread.{Thread}
use Rattle.check_lint.specs.Uses.{waits}
use Rattle.explain_run.specs.declared.explanation.Explanation.{Explanation}
use Rattle.explain_run.specs.declared.thread_state.Reason.{Reason}
use Rattle.explain_run.specs.declared.thread_state.Reason.TheVariants.{Lock, Retake, Acquire, Signal}
use Rattle.explain_waits.specs.{Fates.locals_of, declared.ending.Blocked.Blocked}
use Rattle.explain_waits.specs.declared.look.Look.{Look}

-- a thread that goes on at an instruction with these locals, up to the next visible statement
abbrev pub resumed_at : List Instruction → ℕ → List ℤ → Thread
resumed_at code at locals =
    run_from code (record { pc = at; locals = locals; status = Running })

-- the local and the variable of a `load`
abbrev pub load_of : Option Instruction → Option (ℕ × ℕ)
load_of (Some (Load r x)) = Some (r, x)
load_of _ = None

-- From an instruction on, with these locals, a thread loads these variables, which have these
-- values, one after the other, and comes then to an instruction that is no `load`.
pub data LooksAt (code : List Instruction) (values : List ℤ) : ℕ → List ℤ → List ℕ → ℕ →
    Type 0 where
  done : {at : ℕ} {locals : List ℤ} → load_of (slice_get code at) ≡ None
      → LooksAt code values at locals [] at
  loads : {at : ℕ} {locals : List ℤ} {xs : List ℕ} {last : ℕ} (r x : ℕ)
      → load_of (slice_get code at) ≡ Some (r, x)
      → LooksAt code values
      (resumed_at code (at + 1) (slice_set locals r (slice_index_or values x (pos 0)))).pc
      (resumed_at code (at + 1) (slice_set locals r (slice_index_or values x (pos 0)))).locals
      xs last
      → LooksAt code values at locals (x ∷ xs) last

-- it is a `wait` for condition c
abbrev pub is_wait : ℕ → Option Instruction → Bool
is_wait c None = false
is_wait c (Some i) = waits c i

-- a thread looks so that goes on at an instruction with these locals: at these variables, and it
-- comes then to a `wait` for condition c or not
pub record IsLook (code : List Instruction) (values locals : List ℤ) (from c : ℕ) (look : Look) :
    Type 0 where
  pub last : ℕ
  pub looks : LooksAt code values (resumed_at code from locals).pc
      (resumed_at code from locals).locals look.variables.items last
  pub sleeps : look.sleeps ≡ is_wait c (slice_get code last)

-- where a thread that is woken goes on
abbrev pub after_wait : List Instruction → Blocked → ℕ
after_wait code b = min (b.instruction + 1) (length code)

-- a blocked thread looks so: one that waits for no condition looks at nothing
abbrev pub IsLookBy : Reason → Program → Explanation → Blocked → Look → Type 0
IsLookBy (Signal c) p told b look = IsLook (code_of p b.thread) told.variables.items
    (locals_of told b.thread) (after_wait (code_of p b.thread) b) c look
IsLookBy (Lock m) p told b look = (look.variables.items ≡ []) × (look.sleeps ≡ false)
IsLookBy (Retake m) p told b look = (look.variables.items ≡ []) × (look.sleeps ≡ false)
IsLookBy (Acquire k) p told b look = (look.variables.items ≡ []) × (look.sleeps ≡ false)

abbrev pub IsLookOf : Program → Explanation → Blocked → Look → Type 0
IsLookOf p told b look = IsLookBy b.reason p told b look
