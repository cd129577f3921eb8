-- Which statements could end the wait of a blocked thread.
use Rattle.std.specs.Prelude.{◌≡◌, ℕ, zero, suc, ◌<◌, ◌⊎◌, Bool, true, false, ◌&&◌, ◌||◌, not, nat_eq, nat_lt, List, [], ◌++◌, length, filter, map, Option, Some, None, slice_get, slice_index_or, IsTrue}
use Rattle.std.specs.{List.list_any, Option.option_map}
use Rattle.guest_code.specs.{Program.{Program, code_of}, declared.program.Instruction.Instruction}
use Rattle.guest_code.specs.declared.program.Instruction.TheVariants.{Skip}
use Rattle.semantics.specs.{Machine.owns, Work.up_from}
use Rattle.explain_run.specs.Blocked.{mutex_of, reason_of, could_end as could_end_by}
use Rattle.explain_run.specs.declared.explanation.{Explanation.Explanation, Holder.Holder}
use Rattle.explain_run.specs.declared.thread_state.Reason.{Reason}
use Rattle.explain_run.specs.declared.thread_state.Reason.TheVariants.{Lock, Retake, Acquire, Signal}
use Rattle.check_lint.specs.Uses.{does}
use Rattle.check_lint.specs.declared.uses.Use.TheVariants as uses
use Rattle.explain_waits.specs.Fates.{place_of, HasFate, is_to_come}
use Rattle.explain_waits.specs.declared.ending.{Blocked.Blocked, Statement.Statement}
use Rattle.explain_waits.specs.declared.fate.Fate.{Fate, TheVariants.{Ahead, OutOfReach}}
use Rattle.explain_waits.specs.declared.look.Look.{Look}

-- the owner of a mutex at the end, if it has one
abbrev pub owner_told : Explanation → Option ℕ → Option ℕ
owner_told told None = None
owner_told told (Some m) = option_map (λ (h : Holder). h.thread)
    (slice_index_or told.holders.items m None)

-- thread t, where it waits for this reason, if for any
abbrev pub blocked_by : Explanation → ℕ → Option Reason → Option Blocked
blocked_by told t None = None
blocked_by told t (Some reason) = Some (record {
  thread = t;
  reason = reason;
  instruction = place_of told t;
  owner = owner_told told (mutex_of reason);
})

-- thread t, where it is blocked
abbrev pub blocked_of : Explanation → ℕ → Option Blocked
blocked_of told t = blocked_by told t (reason_of (slice_get told.thread_states.items t))

-- instruction i of thread u is another thread's than the blocked one's, or lies before its wait
abbrev pub is_before : Blocked → ℕ → ℕ → Bool
is_before b u i = not (nat_eq u b.thread) || nat_lt i b.instruction

-- instruction i of thread u may end the wait by where it is: for a mutex it is the owner's
abbrev pub is_placed_by : Reason → Blocked → ℕ → ℕ → Bool
is_placed_by (Lock m) b u i = owns u b.owner
is_placed_by (Retake m) b u i = owns u b.owner
is_placed_by (Signal c) b u i = is_before b u i
is_placed_by (Acquire k) b u i = is_before b u i

abbrev pub is_placed : Blocked → ℕ → ℕ → Bool
is_placed b u i = is_placed_by b.reason b u i

-- this instruction, number i of thread u, could end the wait
abbrev pub could_end : Blocked → ℕ → ℕ → Instruction → Bool
could_end b u i ins = is_placed b u i && could_end_by b.reason ins

-- an instruction writes one of these variables
abbrev pub writes_one : List ℕ → Instruction → Bool
writes_one xs i = list_any (λ x. does uses.Stores x i) xs

-- the numbers of the instructions of thread u, whose code is this, that could end the wait
abbrev pub enders : Blocked → ℕ → List Instruction → List ℕ
enders b u code =
    filter (λ i. could_end b u i (slice_index_or code i (Skip 0))) (up_from 0 (length code))

-- the statements of thread u, whose code is this, that could end the wait, rising, each with what
-- came of it
abbrev pub statements_in : Blocked → ℕ → List Instruction → List Fate → List Statement
statements_in b u code fates =
    map (λ i. record { thread = u; instruction = i; fate = slice_index_or fates i OutOfReach })
    (enders b u code)

-- those of the first n threads, where these fates are those of each thread's instructions
abbrev pub statements_to : Program → List (List Fate) → Blocked → ℕ → List Statement
statements_to p fates b zero = []
statements_to p fates b (suc n) = statements_to p fates b n
    ++ statements_in b n (code_of p n) (slice_index_or fates n [])

-- before instruction i thread u has yet to come, or may come, to one that writes a variable at which
-- the blocked thread would look
pub record ChangesBefore (p : Program) (told : Explanation) (look : Look) (u i : ℕ) : Type 0 where
  pub at : ℕ
  pub before : at < i
  pub within : at < length (code_of p u)
  pub fate : Fate
  pub has : HasFate p told u at fate
  pub comes : is_to_come fate ≡ true
  pub writes : IsTrue (writes_one look.variables.items (slice_index_or (code_of p u) at (Skip 0)))

-- thread u has a statement ahead that could end the wait, and that helps the blocked thread, which
-- would look so: it goes on as things are, or u may change what it looks at
pub record HasAhead (p : Program) (told : Explanation) (b : Blocked) (look : Look) (u : ℕ) :
    Type 0 where
  pub at : ℕ
  pub within : at < length (code_of p u)
  pub could : IsTrue (could_end b u at (slice_index_or (code_of p u) at (Skip 0)))
  pub ahead : HasFate p told u at Ahead
  pub helps : (look.sleeps ≡ false) ⊎ ChangesBefore p told look u at
