-- Which refusal a tree gets.
use Rattle.std.specs.Prelude.{◌≡◌, ℕ, ◌+◌, ltb, List, [], ◌∷◌, ◌++◌, length, if◌then◌else◌, Option, Some, None}
use Rattle.std.specs.Option.{option_or}
use Rattle.guest_syntax.specs.Tree.{Name, Thread, Tree}
use Rattle.guest_code.specs.declared.limits.TheConstants.{VARIABLES, OBJECTS, THREADS, LOCALS, INSTRUCTIONS}
use Rattle.guest_code.specs.declared.kinds.NameKind.{NameKind}
use Rattle.guest_code.specs.declared.kinds.NameKind.TheVariants as kinds
use Rattle.guest_code.specs.declared.error.CheckError.{CheckError}
use Rattle.guest_code.specs.declared.error.CheckError.TheVariants.{Duplicate, Unknown, WrongKind, NoThreads, TooMany, CodeTooLong, LeaveOutside, OutOfMemory}
use Rattle.guest_code.specs.Uses.{Use, declares, object, local, outside, same, uses, kind_in, how_many, knows, locals_from}
use Rattle.guest_code.specs.Sizes.{block_size}

-- how many of a kind a program may have
abbrev pub limit_of : NameKind → ℕ
limit_of kinds.Variable = VARIABLES
limit_of kinds.Mutex = OBJECTS
limit_of kinds.Condition = OBJECTS
limit_of kinds.Semaphore = OBJECTS
limit_of kinds.Thread = THREADS

-- ---- the refusal of one use

-- the refusal of a declared name, given what it is declared as before, and the count of its kind
abbrev pub declares_refusal : NameKind → Name → Option NameKind → ℕ → Option CheckError
declares_refusal k n (Some j) count = Some (Duplicate n.at)
declares_refusal k n None count = if ltb count (limit_of k) then None else Some (TooMany n.at)

-- the refusal of a name where an object of a kind must be, given what it is declared as
abbrev pub object_refusal : NameKind → Name → Option NameKind → Option CheckError
object_refusal k n None = Some (Unknown n.at)
object_refusal k n (Some j) = if same j k then None else Some (WrongKind n.at)

-- the refusal of a name where a local must be, given what it is declared as, and earlier locals
abbrev pub local_refusal : Name → Option NameKind → List (List ℕ) → Option CheckError
local_refusal n (Some j) ns = Some (WrongKind n.at)
local_refusal n None ns =
    if knows ns n.text then None
    else if ltb (length ns) LOCALS then None
    else Some (TooMany n.at)

-- the refusal of a use, given all uses of the text and those before it
abbrev pub refusal : List Use → List Use → Use → Option CheckError
refusal all before (declares k n) = declares_refusal k n (kind_in before n.text) (how_many k before)
refusal all before (object k n) = object_refusal k n (kind_in all n.text)
refusal all before (local n) = local_refusal n (kind_in all n.text) (locals_from [] before)
refusal all before (outside at) = Some (LeaveOutside at)

-- ---- the refusal of a text

-- the first refusal of these uses in text order, given all uses of the text and those before
abbrev pub first : List Use → List Use → List Use → Option CheckError
first all before [] = None
first all before (u ∷ us) = option_or (refusal all before u) (first all (before ++ u ∷ []) us)

-- a text needs a thread
abbrev pub no_threads : List Thread → Option CheckError
no_threads [] = Some NoThreads
no_threads (t ∷ ts) = None

-- the first thread that is too long, the first of the list having number k
abbrev pub too_long : ℕ → List Thread → Option CheckError
too_long k [] = None
too_long k (t ∷ ts) =
    if ltb INSTRUCTIONS (block_size t.body) then Some (CodeTooLong k) else too_long (k + 1) ts

-- the first refusal among the names of a tree
abbrev pub first_of_names : List Use → Option CheckError
first_of_names all = first all [] all

-- the refusal of a tree, if there is one: the first among its names, then that there is no thread,
-- then a length
abbrev pub fault : Tree → Option CheckError
fault t =
    option_or (first_of_names (uses t.declarations t.threads))
    (option_or (no_threads t.threads) (too_long 0 t.threads))

-- ---- what is answered

-- `e` is this refusal, or says that memory ran out
abbrev pub Refuses : CheckError → Option CheckError → Type 0
Refuses OutOfMemory fault = Unit {0}
Refuses e fault = fault ≡ Some e
