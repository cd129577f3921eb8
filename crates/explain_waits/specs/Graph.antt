-- Who waits for whom.
use Rattle.std.specs.Prelude.{◌≡◌, ℕ, ◌<◌, ◌⊎◌, length, Some, IsTrue, List, slice_index_or}
use Rattle.guest_code.specs.Program.{Program}
use Rattle.semantics.specs.{Mask.{has, no_threads}, declared.mask.Mask.Mask}
use Rattle.explain_run.specs.declared.explanation.Explanation.{Explanation}
use Rattle.explain_waits.specs.{Endings.{HasAhead, blocked_of}, Looks.IsLookOf}
use Rattle.explain_waits.specs.declared.{ending.Blocked.Blocked, look.Look.Look}

-- thread t is blocked, and thread u owns the mutex that it waits for, or has a statement ahead that
-- could end its wait and helps it
pub record WaitsFor (p : Program) (told : Explanation) (t u : ℕ) : Type 0 where
  pub thread : t < length p.threads
  pub other : u < length p.threads
  pub blocked : Blocked
  pub is : blocked_of told t ≡ Some blocked
  pub look : Look
  pub seen : IsLookOf p told blocked look
  pub ends : (blocked.owner ≡ Some u) ⊎ HasAhead p told blocked look u

-- one edge after the other leads from t to u
pub data Leads (E : ℕ → ℕ → Type 0) : ℕ → ℕ → Type 0 where
  edge : {t u : ℕ} → E t u → Leads E t u
  on : {t u : ℕ} (v : ℕ) → Leads E t v → Leads E v u → Leads E t u

-- t and u are in one circle: each leads to the other
abbrev pub AreInCircle : (E : ℕ → ℕ → Type 0) → ℕ → ℕ → Type 0
AreInCircle E t u = Leads E t u × Leads E u t

-- the set of thread t
abbrev pub row : List Mask → ℕ → Mask
row rows t = slice_index_or rows t no_threads

-- thread u is in the set of thread t
abbrev pub IsIn : List Mask → ℕ → ℕ → Type 0
IsIn rows t u = IsTrue (has (row rows t) u)
