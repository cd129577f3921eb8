-- Lists and sets, for each thread.
use Rattle.std.specs.Prelude.{◌≡◌, ℕ, ◌<◌, ◌⊎◌, true, false, ◌&&◌, ◌||◌, List, [], length, map, Some, IsTrue, slice_index_or}
use Rattle.std.proofs.Common.{Vec, Global}
use Rattle.guest_code.specs.{Program.{Program, code_of}, declared.program.Instruction.Instruction}
use Rattle.guest_code.specs.declared.program.Instruction.TheVariants.{Skip}
use Rattle.semantics.specs.{Mask.has, declared.mask.Mask.Mask}
use Rattle.explain_waits.specs.{Endings.{could_end, writes_one}, Fates.is_to_come, Graph.row}
use Rattle.explain_waits.specs.declared.{ending.Blocked.Blocked, fate.Fate.Fate}
use Rattle.explain_waits.specs.declared.{fate.Fate.TheVariants.{Ahead, OutOfReach}, look.Look.Look}

-- the lists themselves
abbrev pub lists : List (Vec Fate Global) → List (List Fate)
lists all = map (λ v. v.items) all

-- there is a list for each thread, with a fate for each of its instructions
pub record Fits (p : Program) (fates : List (List Fate)) : Type 0 where
  pub threads : length fates ≡ length p.threads
  pub codes : (t : ℕ) → t < length p.threads →
      length (slice_index_or fates t []) ≡ length (code_of p t)

-- by these fates the thread of this code has yet to come, or may come, before instruction n, to one
-- that writes a variable at which a blocked thread would look
pub record FindsChange (code : List Instruction) (fates : List Fate) (look : Look) (n : ℕ) :
    Type 0 where
  pub at : ℕ
  pub before : at < n
  pub within : at < length code
  pub comes : is_to_come (slice_index_or fates at OutOfReach) ≡ true
  pub writes : IsTrue (writes_one look.variables.items (slice_index_or code at (Skip 0)))

-- what comes to instruction n helps a thread that would look so
abbrev pub FindsHelp : List Instruction → List Fate → Look → ℕ → Type 0
FindsHelp code fates look n = (look.sleeps ≡ false) ⊎ FindsChange code fates look n

-- a code, of thread u, has a statement that could end the wait, by these fates is ahead, and helps
pub record FindsAhead (code : List Instruction) (fates : List Fate) (b : Blocked) (look : Look)
    (u : ℕ) : Type 0 where
  pub at : ℕ
  pub within : at < length code
  pub could : IsTrue (could_end b u at (slice_index_or code at (Skip 0)))
  pub ahead : slice_index_or fates at OutOfReach ≡ Ahead
  pub helps : FindsHelp code fates look at

-- by these fates the blocked thread, which would look so, waits for thread u, whose code this is
abbrev pub FindsEdge : List Instruction → List Fate → Blocked → Look → ℕ → Type 0
FindsEdge code fates b look u = (b.owner ≡ Some u) ⊎ FindsAhead code fates b look u

-- what leads to thread k leads on to where k leads
abbrev pub IsExtendedThrough : List Mask → List Mask → ℕ → Type 0
IsExtendedThrough old new k = (t u : ℕ) →
    has (row new t) u ≡ (has (row old t) u || (has (row old t) k && has (row old k) u))
