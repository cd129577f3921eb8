-- What is told of the threads that wait, and of their circles.
use Rattle.std.specs.Prelude.{◌≡◌, ℕ, zero, suc, ◌<◌, ◌↔◌, Bool, true, ◌&&◌, not, IsTrue, List, [], length, filter, map, Option, Some, None, slice_index_or, is_some, All, Any, IsSomeAnd, slice_get}
use Rattle.guest_code.specs.Program.{Program}
use Rattle.semantics.specs.{Mask.has, Work.up_from, declared.mask.Mask.Mask}
use Rattle.explain_run.specs.declared.{explanation.Explanation.Explanation, step.Step.Step}
use Rattle.explain_waits.specs.Endings.{blocked_of, statements_to}
use Rattle.explain_waits.specs.{Fates.Fates, Graph.{WaitsFor, Leads, AreInCircle}, Looks.IsLookOf}
use Rattle.explain_waits.specs.declared.{ending.Blocked.Blocked, fate.Fate.Fate, wait.Wait.Wait}
use Rattle.explain_waits.specs.declared.wait.Waits.{Waits}

-- the step at place k is of thread t
abbrev pub IsStepOf : List Step → ℕ → ℕ → Type 0
IsStepOf steps t k = IsSomeAnd (slice_get steps k) (λ step. step.line.thread ≡ t)

-- the place of the last step of thread t among the first n, if it took one
abbrev pub IsLastStep : List Step → ℕ → ℕ → Option ℕ → Type 0
IsLastStep steps t n None = (k : ℕ) → k < n → ¬ IsStepOf steps t k
IsLastStep steps t n (Some last) = (last < n) × IsStepOf steps t last
    × ((k : ℕ) → last < k → k < n → ¬ IsStepOf steps t k)

-- this came of the instructions of each thread
abbrev pub AllFates : Program → Explanation → List (List Fate) → Type 0
AllFates p told fates = (t : ℕ) → t < length p.threads →
    Fates p told t (slice_index_or fates t [])

-- this is told of a thread that waits: for what, since which step, at what it would look if it were
-- woken now, each statement that could end its wait, for whom it waits, and with whom it is in a
-- circle
pub record TellsWait (p : Program) (told : Explanation) (fates : List (List Fate)) (wait : Wait) :
    Type 0 where
  pub blocked : Blocked
  pub is : blocked_of told wait.thread ≡ Some blocked
  pub reason : wait.reason ≡ blocked.reason
  pub since : IsLastStep told.steps.items wait.thread (length told.steps.items) wait.since
  pub look : IsLookOf p told blocked wait.look
  pub statements : wait.statements.items ≡ statements_to p fates blocked (length p.threads)
  pub on : (u : ℕ) → IsTrue (has wait.on u) ↔ WaitsFor p told wait.thread u
  pub circle : (u : ℕ) → IsTrue (has wait.circle u)
      ↔ AreInCircle (WaitsFor p told) wait.thread u

-- the threads that are blocked, rising
abbrev pub blocked_threads : Program → Explanation → List ℕ
blocked_threads p told =
    filter (λ t. is_some (blocked_of told t)) (up_from 0 (length p.threads))

-- each of these sets is a circle: it has a thread, and with each thread those that are in one circle
-- with it, and no others
pub record IsCircle (p : Program) (told : Explanation) (circle : Mask) : Type 0 where
  pub thread : ℕ
  pub some : IsTrue (has circle thread)
  pub whole : (t u : ℕ) → IsTrue (has circle t) →
      IsTrue (has circle u) ↔ AreInCircle (WaitsFor p told) t u

-- a set has no thread below this one
abbrev pub has_none_below : Mask → ℕ → Bool
has_none_below set zero = true
has_none_below set (suc t) = has_none_below set t && not (has set t)

-- a thread is the first of its circle
abbrev pub is_first_of : Mask → ℕ → Bool
is_first_of set t = has set t && has_none_below set t

-- the circles of those that are the first of theirs
abbrev pub circles_in : List Wait → List Mask
circles_in waits =
    map (λ (w : Wait). w.circle) (filter (λ (w : Wait). is_first_of w.circle w.thread) waits)

-- all circles are told, each once, by their first threads: a thread that waits for itself, at once
-- or through others, is in one of them
pub record TellsCircles (p : Program) (told : Explanation) (waits : List Wait)
    (circles : List Mask) : Type 0 where
  pub each : All (IsCircle p told) circles
  pub all : (t : ℕ) → Leads (WaitsFor p told) t t → Any (λ c. IsTrue (has c t)) circles
  pub list : circles ≡ circles_in waits

-- what is told of all that wait at the end
pub record TellsWaits (p : Program) (told : Explanation) (waits : Waits) : Type 0 where
  pub fates : List (List Fate)
  pub fate : AllFates p told fates
  pub threads : map (λ (w : Wait). w.thread) waits.waits.items ≡ blocked_threads p told
  pub each : All (TellsWait p told fates) waits.waits.items
  pub circles : TellsCircles p told waits.waits.items waits.circles.items
