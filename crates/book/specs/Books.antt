-- What a book keeps, and what its calls do.
use Rattle.std.specs.Prelude.{◌≡◌, ℕ, zero, suc, ◌<◌, ◌≤◌, ◌+◌, ◌-◌, min, Bool, true, false, not, ◌||◌, ◌&&◌, List, [], ◌∷◌, ◌++◌, length, filter, Option, Some, None, slice_get, All, flat_map, ◌⊎◌}
use Rattle.std.specs.List.{remove, list_any}
use Rattle.guest_code.specs.Program.{Program}
use Rattle.semantics_schedules.specs.{Order.precedes, Schedules.begins_with}
use Rattle.walk_items.specs.Items.{ItemView, root_of, schedules_of}
use Rattle.walk_items.specs.Walks.{WalkView, IsSplit, IsWalked, IsWithin, items_at, listed_if}
use Rattle.walk_items.specs.declared.{limits.TheConstants.BOUND, mode.Mode.Mode}
use Rattle.walk_items.specs.declared.mode.Mode.TheVariants.{Bounded, Reduced, BoundedOnce, ReducedOnce}
use Rattle.walk_summary.specs.Summaries.{SummaryView, nothing, join, with_beyond}
use Rattle.walk.specs.declared.found.Found.{Found}
use Rattle.book.specs.{ItemLists.{ListView, all_of}, declared.errors.RaiseError.RaiseError}
use Rattle.book.specs.declared.errors.RaiseError.TheVariants.{StillOpen, Dropped, LastBound}
use Rattle.book.specs.declared.errors.SettleError.{SettleError}
use Rattle.book.specs.declared.errors.SettleError.TheVariants.{NotOpen, Stranger, OutOfMemory}
use Rattle.book.specs.declared.limits.TheConstants.{ROUND}
use Rattle.walk_prefixes.specs.PrefixLists.{is_later}

-- what contracts see of a book: the item whose schedules are searched, the summary of what is
-- finished, the items that are still open, those that wait for the next bound, whether these are
-- listed (they are until the bound is made the last one), whether the search is a quick one, and
-- whether it dropped an item
pub record BookView : Type 0 where
  pub of : ItemView
  pub mode : Mode
  pub finished : SummaryView
  pub open_items : List ItemView
  pub deferred : List ItemView
  pub lists : Bool
  pub quick : Bool
  pub dropped : Bool

-- what contracts see of a book of these parts
abbrev pub book_view : ItemView → Mode → SummaryView → ListView → ListView → Bool → Bool → Bool →
    BookView
book_view of mode finished open_items deferred lists quick dropped = record {
  of = of;
  mode = mode;
  finished = finished;
  open_items = all_of of.program open_items;
  deferred = all_of of.program deferred;
  lists = lists;
  quick = quick;
  dropped = dropped;
}

-- a book splits all schedules of its item, whose prefix is within the bound: those that are
-- finished, those of the open items, and what the bound defers
pub record IsBook (b : BookView) : Type 0 where
  pub within : IsWithin b.mode b.of
  pub split : IsSplit b.mode b.of b.finished b.open_items b.deferred

-- the items come after a schedule
abbrev pub ComeAfter : List ℕ → List ItemView → Type 0
ComeAfter w items = All (λ i. precedes w i.prefix ≡ true) items

-- a quick book from which items were dropped: with these items it would be a book, and they come
-- after the first bad schedule that was found
pub record IsThinned (b : BookView) : Type 0 where
  pub quick : b.quick ≡ true
  pub gone : List ItemView
  pub split : IsBook (record b { open_items = gone ++ b.open_items })
  pub first : List ℕ
  pub found : b.finished.first_bad ≡ Some first
  pub later : ComeAfter first gone

-- what a book keeps, by whether an item was dropped from it
abbrev pub KeepsWhere : Bool → BookView → Type 0
KeepsWhere false b = IsBook b
KeepsWhere true b = IsThinned b

-- the book where its bound put off these
abbrev pub with_deferred : BookView → List ItemView → BookView
with_deferred b put = record b { deferred = put }

-- what the type of a book keeps: that it is so with what its bound put off, whether it lists these
-- or not
pub record Keeps (b : BookView) : Type 0 where
  pub put : List ItemView
  pub listed : b.deferred ≡ listed_if b.lists put
  pub split : KeepsWhere b.dropped (with_deferred b put)

-- the book of an item of which nothing is known
abbrev pub opening_of : ItemView → Mode → Bool → BookView
opening_of item mode quick = record {
  of = item;
  mode = mode;
  finished = nothing;
  open_items = item ∷ [];
  deferred = [];
  lists = true;
  quick = quick;
  dropped = false;
}

-- the book of a program of which nothing is known
abbrev pub opening : Program → Mode → Bool → BookView
opening p mode quick = opening_of (root_of p) mode quick

-- no schedule of the item is the first bad one, where this is the first bad one so far
abbrev pub cannot_hold : Option (List ℕ) → ItemView → Bool
cannot_hold None i = false
cannot_hold (Some w) i = is_later w i.prefix

-- a quick book drops the item
abbrev pub drops : BookView → ItemView → Bool
drops b i = b.quick && cannot_hold b.finished.first_bad i

-- the book without the open items that it drops
abbrev pub thinned : BookView → BookView
thinned b = record b {
  open_items = filter (λ i. not (drops b i)) b.open_items;
  dropped = b.dropped || list_any (drops b) b.open_items;
}

-- whether it is known that the book drops none of its open items
abbrev pub IsSwept : Bool → BookView → Type 0
IsSwept false b = Unit {0}
IsSwept true b = list_any (drops b) b.open_items ≡ false

-- the walk is of the book's program and mode
abbrev pub IsWalkOf : BookView → WalkView → Type 0
IsWalkOf b w = (b.mode ≡ w.mode) × (b.of.program ≡ w.item.program)

-- the item is at this place among the open ones
abbrev pub IsOpenAt : BookView → ItemView → ℕ → Type 0
IsOpenAt b i place = (place < length b.open_items) × (slice_get b.open_items place ≡ Some i)

-- the book where a walk of the item at this place is settled
abbrev pub settled : BookView → WalkView → ℕ → BookView
settled b w place = record b {
  finished = join b.finished w.part;
  open_items = remove b.open_items place ++ w.rest;
  deferred = b.deferred ++ listed_if b.lists w.deferred;
}

-- the walk's item leaves the open ones, its part is joined, its rest and what it deferred, where that
-- is listed, come last
pub record Settles (old : BookView) (w : WalkView) (new : BookView) : Type 0 where
  pub of : IsWalkOf old w
  pub place : ℕ
  pub is_open : IsOpenAt old w.item place
  pub book : new ≡ settled old w place

-- the book where what walks found is settled, and these are left of the open items
abbrev pub taken_in : BookView → List ItemView → Found → BookView
taken_in b left found = record b {
  finished = join b.finished found.part;
  open_items = left ++ found.rest.items;
  deferred = b.deferred ++ listed_if b.lists (items_at b.of.program found.deferred);
}

-- the list without the elements at these places, each counted in what those before it leave
abbrev pub remove_each : {X : Type 0} → List X → List ℕ → List X
remove_each xs [] = xs
remove_each xs (k ∷ ks) = remove_each (remove xs k) ks

-- there are such elements
abbrev pub AreWithin : {X : Type 0} → List X → List ℕ → Type 0
AreWithin xs [] = Unit {0}
AreWithin xs (k ∷ ks) = (k < length xs) × AreWithin (remove xs k) ks

-- the items at these places of a list stand there in another, each counted without those before it
abbrev pub AreOpenAt : List ItemView → List ItemView → List ℕ → List ℕ → Type 0
AreOpenAt xs items [] [] = Unit {0}
AreOpenAt xs items [] (q ∷ qs) = ⊥
AreOpenAt xs items (k ∷ ks) [] = ⊥
AreOpenAt xs items (k ∷ ks) (q ∷ qs) =
    (q < length xs) × (slice_get items k ≡ slice_get xs q) × AreOpenAt (remove xs q) items ks qs

-- the items at these places of a list stand in another one after another
abbrev pub StandInOrder : List ItemView → List ItemView → List ℕ → Type 0
StandInOrder xs items [] = Unit {0}
StandInOrder [] items (k ∷ ks) = ⊥
StandInOrder (x ∷ xs) items (k ∷ ks) =
    ((slice_get items k ≡ Some x) × StandInOrder xs items ks) ⊎ StandInOrder xs items (k ∷ ks)

-- the walks are of the items at these places of a list, in a mode
abbrev pub AreWalksAt : Mode → List ItemView → List ℕ → List WalkView → Type 0
AreWalksAt mode items [] [] = Unit {0}
AreWalksAt mode items [] (w ∷ ws) = ⊥
AreWalksAt mode items (k ∷ ks) [] = ⊥
AreWalksAt mode items (k ∷ ks) (w ∷ ws) =
    (w.mode ≡ mode) × (slice_get items k ≡ Some w.item) × IsWalked w
    × AreWalksAt mode items ks ws

-- a summary joined with the parts of walks, one after another
abbrev pub joined : SummaryView → List WalkView → SummaryView
joined s [] = s
joined s (w ∷ ws) = joined (join s w.part) ws

-- walks of the items at these places of a list, one after another, found this together
pub record HaveFound (p : Program) (mode : Mode) (items : List ItemView) (places : List ℕ)
    (found : Found) : Type 0 where
  pub walks : List WalkView
  pub of : AreWalksAt mode items places walks
  pub part : found.part ≡ joined nothing walks
  pub rest : found.rest.items ≡ flat_map (λ w. w.rest) walks
  pub deferred : items_at p found.deferred
      ≡ listed_if found.lists (flat_map (λ w. w.deferred) walks)

-- the walks were settled, one after another
abbrev pub HaveSettled : BookView → List WalkView → BookView → Type 0
HaveSettled old [] new = new ≡ old
HaveSettled old (w ∷ ws) new =
    (between : BookView) × Settles old w between × HaveSettled between ws new

-- this many places from the first on
abbrev pub places_from : ℕ → ℕ → List ℕ
places_from first zero = []
places_from first (suc n) = first ∷ places_from (suc first) n

-- a walk tried at most as many schedules as this, and left nothing where it tried fewer
pub record IsWithinQuota (quota : ℕ) (w : WalkView) : Type 0 where
  pub tried : w.part.tried ≤ quota
  pub rest : w.part.tried < quota → w.rest ≡ []

-- the last open items, at most as many as a round has, were walked in their order, each up to a
-- quota, and the walks were settled
pub record HasWalkedRound (old : BookView) (quota : ℕ) (new : BookView) : Type 0 where
  pub walks : List WalkView
  pub of : AreWalksAt old.mode old.open_items
      (places_from (length old.open_items - ROUND) (min (length old.open_items) ROUND)) walks
  pub within : All (IsWithinQuota quota) walks
  pub settled : HaveSettled old walks new

-- why walks of the items at these places of a list aren't settled together: what they put off is
-- wanted and wasn't listed, or the items aren't open one after another
abbrev pub AreNotTaken : BookView → List ItemView → List ℕ → Found → Type 0
AreNotTaken b items places found =
    ((b.lists ≡ true) × (found.lists ≡ false)) ⊎ (StandInOrder b.open_items items places → ⊥)

-- why a walk is refused
abbrev pub IsRefused : BookView → WalkView → SettleError → Type 0
IsRefused b w Stranger = IsWalkOf b w → ⊥
IsRefused b w NotOpen = IsWalkOf b w × All (λ i. i ≡ w.item → ⊥) b.open_items
IsRefused b w OutOfMemory = IsWalkOf b w × ((place : ℕ) × IsOpenAt b w.item place)

-- the bound of a mode; the greatest, where it has none
abbrev pub bound_of : Mode → ℕ
bound_of (Bounded bound) = bound
bound_of Reduced = BOUND
bound_of (BoundedOnce bound) = bound
bound_of ReducedOnce = BOUND

-- the mode at the next bound, of one that has a bound
abbrev pub next_mode : Mode → Mode
next_mode (Bounded bound) = Bounded (bound + 1)
next_mode Reduced = Reduced
next_mode (BoundedOnce bound) = BoundedOnce (bound + 1)
next_mode ReducedOnce = ReducedOnce

-- the book at the next bound
abbrev pub raised : BookView → BookView
raised b = record b {
  mode = next_mode b.mode;
  finished = with_beyond b.finished false;
  open_items = b.deferred;
  deferred = [];
}

-- the book whose bound is made the last one: what it put off is forgotten, and no more is listed
abbrev pub made_last : BookView → BookView
made_last b = record b { deferred = []; lists = false }

-- the book's bound is the last one: it was made so, or it is the greatest
abbrev pub IsAtLastBound : BookView → Type 0
IsAtLastBound b = (b.lists ≡ false) ⊎ (BOUND ≤ bound_of b.mode)

-- a book is raised where nothing is open, no item was dropped, and its bound is not the last
pub record Raises (old new : BookView) : Type 0 where
  pub closed : old.open_items ≡ []
  pub all : old.dropped ≡ false
  pub low : bound_of old.mode < BOUND
  pub listed : old.lists ≡ true
  pub book : new ≡ raised old

-- why a book is not raised
abbrev pub IsNotRaised : BookView → RaiseError → Type 0
IsNotRaised b StillOpen = b.open_items ≡ [] → ⊥
IsNotRaised b Dropped = (b.open_items ≡ []) × (b.dropped ≡ true)
IsNotRaised b LastBound = (b.open_items ≡ []) × (b.dropped ≡ false) × IsAtLastBound b

-- the book is of all of this program, in this mode, and nothing is open
abbrev pub IsClosed : BookView → Program → Mode → Type 0
IsClosed b p mode = (b.open_items ≡ []) × (b.mode ≡ mode) × (b.of ≡ root_of p)

-- the schedules that a book's search tries in the end
abbrev pub book_schedules : BookView → List (List ℕ)
book_schedules b = schedules_of b.mode b.of

-- the items of a book that have not been walked yet, at this bound or at a later one
abbrev pub items_left : BookView → List ItemView
items_left b = b.open_items ++ b.deferred

-- the item has those of the book's schedules that begin with its prefix
abbrev pub HasItsSchedules : BookView → ItemView → Type 0
HasItsSchedules b i = schedules_of b.mode i ≡ filter (begins_with i.prefix) (book_schedules b)
