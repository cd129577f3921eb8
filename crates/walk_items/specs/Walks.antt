-- What is known of a walk: the part that was tried, the rest that was left, and what its bound put
-- off.
use Rattle.std.specs.Prelude.{◌≡◌, ◌≤◌, ◌<◌, ◌+◌, ℕ, Bool, true, false, not, ◌||◌, List, [], ◌∷◌}
use Rattle.std.specs.Prelude.{◌++◌, filter, map, flat_map, All, Contains}
use Rattle.std.specs.{List.list_any, List.Sorted.IsPermutation, declared.alloc.Global.Global}
use Rattle.std.specs.declared.vec.Vec.{Vec}
use Rattle.guest_code.specs.Program.{Program}
use Rattle.semantics_schedules.specs.Schedules.{begins_with, preemptions}
use Rattle.semantics.specs.Mask.{one_if}
use Rattle.walk_items.specs.Items.{ItemView, IsItem, item_at, schedules_of, everything, goes_beyond}
use Rattle.walk_items.specs.Items.{covers, is_under}
use Rattle.walk_items.specs.declared.mode.Mode.{Mode, TheVariants.{Bounded, Reduced}}
use Rattle.walk_items.specs.declared.mode.Mode.TheVariants.{BoundedOnce, ReducedOnce}
use Rattle.walk_summary.specs.Summaries.{SummaryView, nothing, sum_of, with_beyond}

-- what contracts see of a walk
pub record WalkView : Type 0 where
  pub mode : Mode
  pub item : ItemView
  pub part : SummaryView
  pub rest : List ItemView
  pub deferred : List ItemView

-- these prefixes as items of a program
abbrev pub items_at : Program → List (List ℕ) → List ItemView
items_at p prefixes = map (item_at p) prefixes

-- what contracts see of a walk of these parts
abbrev pub walk_view : Mode → ItemView → SummaryView → Vec ItemView Global → List (List ℕ) →
    WalkView
walk_view mode item part rest deferred = record {
  mode = mode;
  item = item;
  part = part;
  rest = rest.items;
  deferred = items_at item.program deferred;
}

-- those of these schedules that lie under none of the items
abbrev pub clear_of : List ItemView → List (List ℕ) → List (List ℕ)
clear_of items schedules = filter (λ v. not (is_under items v)) schedules

-- the schedules that were tried: the item's, but for those under a prefix of the rest
abbrev pub tried_by : WalkView → List (List ℕ)
tried_by w = clear_of w.rest (schedules_of w.mode w.item)

-- the item lies under another
pub record IsBelow (above below : ItemView) : Type 0 where
  pub program : below.program ≡ above.program
  pub item : IsItem below
  pub prefix : begins_with above.prefix below.prefix ≡ true

-- the item's prefix has one preemption too many, by its last step
pub record IsDeferred (bound : ℕ) (i : ItemView) : Type 0 where
  pub stem : List ℕ
  pub step : ℕ
  pub prefix : i.prefix ≡ stem ++ step ∷ []
  pub within : preemptions i.program stem ≡ bound
  pub past : preemptions i.program i.prefix ≡ bound + 1

-- each of all the item's schedules that is past the bound lies under one of these, where the item
-- itself is within it
abbrev pub HasAllPast : Mode → ℕ → ItemView → List ItemView → Type 0
HasAllPast mode bound item items =
    preemptions item.program item.prefix ≤ bound → (v : List ℕ) →
    Contains (everything mode item) v → bound < preemptions item.program v →
    is_under items v ≡ true

-- the prefixes of the rest are within the bound, those that are deferred just past it
pub record IsCutAt (bound : ℕ) (rest deferred : List ItemView) : Type 0 where
  pub within : All (λ r. preemptions r.program r.prefix ≤ bound) rest
  pub past : All (IsDeferred bound) deferred

-- an item has those of another's schedules that begin with its prefix
abbrev pub HasItsOf : Mode → ItemView → ItemView → Type 0
HasItsOf mode item r = schedules_of mode r ≡ filter (begins_with r.prefix) (schedules_of mode item)

-- where schedules are pruned nothing is deferred, and each of the rest has the item's schedules
-- that begin with its prefix (at a bound this follows)
pub record IsPruned (mode : Mode) (item : ItemView) (rest deferred : List ItemView) : Type 0 where
  pub none : deferred ≡ []
  pub schedules : All (HasItsOf mode item) rest

-- what each mode keeps besides
abbrev pub IsCut : Mode → ItemView → List ItemView → List ItemView → Type 0
IsCut (Bounded bound) item = IsCutAt bound
IsCut Reduced item = IsPruned Reduced item
IsCut (BoundedOnce bound) item = IsCutAt bound
IsCut ReducedOnce item = IsPruned ReducedOnce item

-- the item's prefix stays within the bound
abbrev pub IsWithin : Mode → ItemView → Type 0
IsWithin (Bounded bound) i = preemptions i.program i.prefix ≤ bound
IsWithin Reduced i = Unit {0}
IsWithin (BoundedOnce bound) i = preemptions i.program i.prefix ≤ bound
IsWithin ReducedOnce i = Unit {0}

-- an item is split: of its schedules some were tried, and the part is their sum; where the item is
-- within the bound, all that begins with its prefix is what was tried and what begins with those of
-- the rest and of what is deferred, so that nothing is lost and nothing is there twice. The rest
-- and what is deferred lie under the item, and no schedule lies under two of them, or under one of
-- them and not under the item
pub record IsSplit (mode : Mode) (item : ItemView) (part : SummaryView)
    (rest deferred : List ItemView) : Type 0 where
  pub tried : List (List ℕ)
  pub own : All (Contains (schedules_of mode item)) tried
  pub sum : part ≡ with_beyond (sum_of item.program tried) part.beyond
  pub all : IsWithin mode item →
      IsPermutation (everything mode item)
      (tried ++ flat_map (everything mode) (rest ++ deferred))
  pub beyond : goes_beyond mode item ≡ (part.beyond || list_any (goes_beyond mode) rest)
  pub below : All (IsBelow item) (rest ++ deferred)
  pub apart : (v : List ℕ) → covers v (rest ++ deferred) ≤ one_if (begins_with item.prefix v)
  pub cut : IsCut mode item rest deferred

-- a walk splits its item; what it tried comes first, and then the schedules of the rest, one item
-- after another
pub record IsWalked (w : WalkView) : Type 0 where
  pub split : IsSplit w.mode w.item w.part w.rest w.deferred
  pub schedules :
      schedules_of w.mode w.item ≡ split.tried ++ flat_map (schedules_of w.mode) w.rest

-- the item's own prefix has more preemptions than the bound
abbrev pub IsPastBound : Mode → ItemView → Type 0
IsPastBound (Bounded bound) i = bound < preemptions i.program i.prefix
IsPastBound Reduced i = ⊥
IsPastBound (BoundedOnce bound) i = bound < preemptions i.program i.prefix
IsPastBound ReducedOnce i = ⊥

-- the walk of such an item: nothing is tried, nothing is left, nothing is put off
abbrev pub walk_past_bound : Mode → ItemView → WalkView
walk_past_bound mode item = record {
  mode = mode;
  item = item;
  part = with_beyond nothing true;
  rest = [];
  deferred = [];
}

-- what is listed of these: all, or nothing
abbrev pub listed_if : {X : Type 0} → Bool → List X → List X
listed_if true xs = xs
listed_if false xs = []
