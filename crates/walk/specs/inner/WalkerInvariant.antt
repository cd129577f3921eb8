-- What holds while a walk goes over the schedules of an item.
use Rattle.std.specs.Prelude.{◌≡◌, ℕ, zero, suc, ◌+◌, ◌-◌, ◌<◌, ◌≤◌, Bool, true, false, not, ◌&&◌, nat_eq, nat_le, nat_lt, List, [], ◌∷◌, ◌++◌, length, take, replicate, Some}
use Rattle.semantics_machine.specs.declared.machine.Run.{Run}
use Rattle.guest_code.specs.Program.{Program}
use Rattle.semantics.specs.{Machine.is_enabled, Mask.{has, HasEnabled, members_from, one_if}}
use Rattle.semantics.specs.declared.mask.Mask.{Mask}
use Rattle.walk_items.specs.{Children.{child_of, children_of, cost_of, costs, is_hidden_after}, Items.{ItemView, IsItem}}
use Rattle.walk_items.specs.Walks.{IsWalked, IsWithin, IsPastBound, items_at, listed_if}
use Rattle.walk_items.specs.declared.mode.Mode.{Mode}
use Rattle.walk_items.specs.declared.mode.Mode.TheVariants.{Bounded, Reduced, BoundedOnce, ReducedOnce}
use Rattle.walk.specs.declared.{found.Found.Found, path.Frame.Frame, path.Node.Node, path.Path.Path}
use Rattle.walk.specs.inner.Paths.{used_frames, is_preempting, frame_at, state_at, IsPath, ReachesNode}
use Rattle.walk_prefixes.specs.PrefixLists.{last_of}
use Rattle.walk_summary.specs.Summaries.{SummaryView, IsSummary, join}

-- the item of a node, to which these steps lead
abbrev pub item_of : Program → List ℕ → Node → ItemView
item_of p w n = record { program = p; prefix = w; mask = n.asleep }

-- the item of the path's node
abbrev pub here : Program → Path → ItemView
here p t = item_of p t.steps.items t.node

-- the children of a node that are still to be tried
abbrev pub open_at : Mode → Program → List ℕ → Node → List ItemView
open_at mode p w n = children_of mode (item_of p w n) (members_from n.todo 0)

-- what is open at the nodes of the n frames after the first `base` ones, the last first, on the way
-- of these steps
abbrev pub open_from : Mode → Program → List ℕ → List Frame → ℕ → ℕ → List ItemView
open_from mode p w fs base zero = []
open_from mode p w fs base (suc n) =
    open_at mode p (take (frame_at fs (base + n)).steps w) (frame_at fs (base + n)).node
    ++ open_from mode p w fs base n

-- what is open above the path's node, down from the item's own node
abbrev pub left_above : Mode → Program → Path → List ItemView
left_above mode p t =
    open_from mode p t.steps.items (used_frames t) t.base (length (used_frames t) - t.base)

-- what is still open, in order
abbrev pub still_open : Mode → Program → Path → List ItemView
still_open mode p t = open_at mode p t.steps.items t.node ++ left_above mode p t

-- what is open: the path's node, and what is open above it
abbrev pub open_here : Mode → Program → Path → List ItemView
open_here mode p t = here p t ∷ left_above mode p t

-- or a child of it, and what is open above
abbrev pub open_below : Mode → Program → Path → ℕ → List ItemView
open_below mode p t u = child_of mode (here p t) u ∷ left_above mode p t

-- the thread's step is the next one, or the walk stays at the node
abbrev pub open_next : Mode → Program → Path → ℕ → Bool → List ItemView
open_next mode p t u true = open_below mode p t u
open_next mode p t u false = open_here mode p t

-- the steps lead from the start to a node that is under the item's
pub record IsPlace (p : Program) (t : Path) : Type 0 where
  pub path : IsPath p t
  pub some : 0 < t.base
  pub base : t.base ≤ length (used_frames t)

-- the prefix that was put off last begins with the walk's steps, up to the number that is noted
pub record IsShared (steps : List ℕ) (f : Found) : Type 0 where
  pub fits : f.shared ≤ length steps
  pub same : take f.shared (last_of f.deferred) ≡ take f.shared steps

-- these prefixes were put off after the others, where they are listed
pub record HasPut (old : Found) (put : List (List ℕ)) (new : Found) : Type 0 where
  pub lists : new.lists ≡ old.lists
  pub deferred : new.deferred ≡ old.deferred ++ listed_if old.lists put

-- what is found of an item is added to what was found before: a sum of its own and what is put off
-- make a walk of the item that leaves these
pub record IsWalkedOn (before : Found) (mode : Mode) (i : ItemView) (f : Found)
    (open_items : List ItemView) : Type 0 where
  pub own : SummaryView
  pub put : List (List ℕ)
  pub walked : IsWalked (record {
    mode = mode;
    item = i;
    part = own;
    rest = open_items;
    deferred = items_at i.program put;
  })
  pub sound : IsSummary before.part
  pub part : f.part ≡ join before.part own
  pub rest : f.rest.items ≡ before.rest.items
  pub deferred : HasPut before put f

-- a walk of the item is at a node where these items are open
pub record IsSearch (before : Found) (mode : Mode) (i : ItemView) (t : Path) (f : Found)
    (open_items : List ItemView) : Type 0 where
  pub place : IsPlace i.program t
  pub walked : IsWalkedOn before mode i f open_items
  pub shared : IsShared t.steps.items f

-- a walk of the item has come along a run to the node after the first `place` steps of the path:
-- that node, but for its steps, is the one at the path's end
pub record IsAlong (before : Found) (mode : Mode) (i : ItemView) (t : Path) (f : Found) (place : ℕ)
    : Type 0 where
  pub walked : IsWalkedOn before mode i f
      (item_of i.program (take place t.steps.items) t.node ∷ left_above mode i.program t)
  pub shared : IsShared (take place t.steps.items) f

-- so it is, whatever was found before
abbrev pub Searches : Mode → ItemView → Path → Found → List ItemView → Type 0
Searches mode i t f open_items = (before : Found) × IsSearch before mode i t f open_items

-- and goes on from there to another node, where those are open
abbrev pub GoesOn : Mode → ItemView → Path → Found → List ItemView → Path → Found → List ItemView →
    Type 0
GoesOn mode i t f open_items u g others =
    (before : Found) → IsSearch before mode i t f open_items → IsSearch before mode i u g others

-- a search, up to so many schedules, can begin
pub record IsToSearch (mode : Mode) (i : ItemView) (limit : ℕ) (t : Path) (f : Found)
    : Type 0 where
  pub search : Searches mode i t f (still_open mode i.program t)
  pub few : f.part.tried ≤ limit

-- and goes on until there are so many, or nothing is open
pub record HasSearched (mode : Mode) (i : ItemView) (limit : ℕ) (t : Path) (f : Found) (u : Path)
    (g : Found) : Type 0 where
  pub search : GoesOn mode i t f (still_open mode i.program t) u g (still_open mode i.program u)
  pub few : g.part.tried ≤ limit
  pub all : g.part.tried < limit → still_open mode i.program u ≡ []

-- a walk can begin after these steps
pub record IsSought (p : Program) (w : List ℕ) (t : Path) : Type 0 where
  pub place : IsPlace p t
  pub steps : t.steps.items ≡ w
  pub base : t.base ≡ length (used_frames t)

-- a walk of an item within the bound has begun
pub record HasBegun (mode : Mode) (i : ItemView) (old : Found) (t : Path) (new : Found)
    : Type 0 where
  pub within : IsWithin mode i
  pub search : IsSearch old mode i t new (still_open mode i.program t)
  pub tried : new.part.tried ≤ old.part.tried + 1

-- the item is past the bound, and nothing was found
pub record IsPast (mode : Mode) (i : ItemView) (old new : Found) : Type 0 where
  pub item : IsItem i
  pub past : IsPastBound mode i
  pub same : new ≡ record old { shared = new.shared }

-- the one or the other
abbrev pub Begins : Mode → ItemView → Found → Path → Found → Bool → Type 0
Begins mode i old t new true = HasBegun mode i old t new
Begins mode i old t new false = IsPast mode i old new

-- more turns than are still to be taken
unfoldable pub turns_left : Mode → Program → Path → ℕ
turns_left mode p t = costs (still_open mode p t) + length (used_frames t)

-- more turns than are to be taken from the path's node on, and for what is open above
unfoldable pub turns_from : Mode → Program → Path → ℕ
turns_from mode p t = cost_of (here p t) + costs (left_above mode p t) + length (used_frames t)

-- and on the branch to this child
unfoldable pub turns_into : Mode → Program → Path → ℕ → ℕ
turns_into mode p t u =
    cost_of (child_of mode (here p t) u) + costs (left_above mode p t) + length (used_frames t)

-- the one or the other
abbrev pub turns_next : Mode → Program → Path → ℕ → Bool → ℕ
turns_next mode p t u true = turns_into mode p t u
turns_next mode p t u false = turns_from mode p t

-- a step of the thread is kept, where these are enabled and the node's own preemptions are within
-- the bound
abbrev pub is_kept_at : Mode → Mask → Node → ℕ → Bool
is_kept_at (Bounded bound) e n t = nat_le (n.used + one_if (is_preempting e n t)) bound
is_kept_at Reduced e n t = not (has n.asleep t)
is_kept_at (BoundedOnce bound) e n t = nat_le (n.used + one_if (is_preempting e n t)) bound
is_kept_at ReducedOnce e n t = not (has n.asleep t)

-- and the thread isn't hidden after the item's prefix
abbrev pub is_tried_at : Mode → ItemView → Mask → Node → ℕ → Bool
is_tried_at mode i e n t = is_kept_at mode e n t && not (is_hidden_after mode i t)

-- it passes the bound
abbrev pub is_past_at : Mode → Mask → Node → ℕ → Bool
is_past_at (Bounded bound) e n t = nat_lt bound (n.used + one_if (is_preempting e n t))
is_past_at Reduced e n t = false
is_past_at (BoundedOnce bound) e n t = nat_lt bound (n.used + one_if (is_preempting e n t))
is_past_at ReducedOnce e n t = false

-- and the thread isn't hidden
abbrev pub is_put_off_at : Mode → ItemView → Mask → Node → ℕ → Bool
is_put_off_at mode i e n t = is_past_at mode e n t && not (is_hidden_after mode i t)

-- the node's preemptions are within the bound
abbrev pub IsWithinAt : Mode → Node → Type 0
IsWithinAt (Bounded bound) n = n.used ≤ bound
IsWithinAt Reduced n = Unit {0}
IsWithinAt (BoundedOnce bound) n = n.used ≤ bound
IsWithinAt ReducedOnce n = Unit {0}

-- they are not
abbrev pub is_past_here : Mode → Node → Bool
is_past_here (Bounded bound) n = nat_lt bound n.used
is_past_here Reduced n = false
is_past_here (BoundedOnce bound) n = nat_lt bound n.used
is_past_here ReducedOnce n = false

-- the node is at the bound
abbrev pub IsAtBound : Mode → Node → Type 0
IsAtBound (Bounded bound) n = n.used ≡ bound
IsAtBound Reduced n = ⊥
IsAtBound (BoundedOnce bound) n = n.used ≡ bound
IsAtBound ReducedOnce n = ⊥

-- whether it is
abbrev pub at_bound : Mode → Node → Bool
at_bound (Bounded bound) n = nat_eq n.used bound
at_bound Reduced n = false
at_bound (BoundedOnce bound) n = nat_eq n.used bound
at_bound ReducedOnce n = false

-- whether a mode has a bound
abbrev pub has_bound : Mode → Bool
has_bound (Bounded bound) = true
has_bound Reduced = false
has_bound (BoundedOnce bound) = true
has_bound ReducedOnce = false

-- whether equal threads are tried once
abbrev pub is_once : Mode → Bool
is_once (Bounded bound) = false
is_once Reduced = false
is_once (BoundedOnce bound) = true
is_once ReducedOnce = true

-- whether a run goes on while the same threads are enabled: not where equal threads are once
abbrev pub runs_on : Mode → Node → Bool
runs_on (Bounded bound) n = nat_eq n.used bound
runs_on Reduced n = false
runs_on (BoundedOnce bound) n = false
runs_on ReducedOnce n = false

-- no step of an enabled thread passes the bound
abbrev pub IsFree : Mode → Program → Path → Type 0
IsFree mode p t = (e : Mask) → HasEnabled e p (state_at p t.steps.items) → (u : ℕ)
    → (has e u && is_past_at mode e t.node u) ≡ false

-- a frame was pushed: what was open at the node is open above
pub record IsPushed (p : Program) (old new : Path) : Type 0 where
  pub steps : new.steps.items ≡ old.steps.items
  pub node : new.node ≡ old.node
  pub base : new.base ≡ old.base
  pub depth : length (used_frames new) ≡ length (used_frames old) + 1
  pub left : (mode : Mode) → old.base ≤ length (used_frames old)
      → left_above mode p new ≡ still_open mode p old

-- it was, or nothing was open at the node: what was is open above
pub record IsPushedIfOpen (p : Program) (old new : Path) : Type 0 where
  pub steps : new.steps.items ≡ old.steps.items
  pub node : new.node ≡ old.node
  pub depth : length (used_frames new) ≤ length (used_frames old) + 1
  pub left : (mode : Mode) → left_above mode p new ≡ still_open mode p old

-- a run of a thread further, after whose first step these sleep: what was open above is so. At each
-- node between its steps the walk is at the bound, the thread is enabled and, unless the run was
-- heedless, those are that it names
pub record IsExtended (p : Program) (mode : Mode) (old new : Path) (t : ℕ) (sleepers : Mask)
    (heedless : Bool) (run : Run) : Type 0 where
  pub some : 1 ≤ run.steps
  pub steps : new.steps.items ≡ old.steps.items ++ replicate run.steps t
  pub last : new.node.last ≡ Some t
  pub asleep : new.node.asleep ≡ sleepers
  pub base : new.base ≡ old.base
  pub frames : (used_frames new) ≡ (used_frames old)
  pub left : (m : Mode) → old.base ≤ length (used_frames old)
      → left_above m p new ≡ left_above m p old
  pub between : (k : ℕ) → 1 ≤ k → k < run.steps
      → ReachesNode p (old.steps.items ++ replicate k t) new.node
  pub enabled : (k : ℕ) → 1 ≤ k → k < run.steps
      → is_enabled p (state_at p (old.steps.items ++ replicate k t)) t ≡ true
  pub among : heedless ≡ false → (k : ℕ) → 1 ≤ k → k < run.steps
      → HasEnabled run.among p (state_at p (old.steps.items ++ replicate k t))
  pub bound : 1 < run.steps → at_bound mode new.node ≡ true
  pub alike : heedless ≡ false → 1 < run.steps → runs_on mode new.node ≡ true
