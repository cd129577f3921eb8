-- Books that lend items to workers.
use Rattle.std.specs.Prelude.{◌≡◌, ℕ, ◌-◌, Bool, true, false, ◌⊎◌, List, [], ◌++◌, All, Some, length, take, drop, set, map, replicate, flat_map, slice_get}
use Rattle.std.specs.List.Sorted.{IsPermutation}
use Rattle.guest_code.specs.Program.{Program}
use Rattle.walk_summary.specs.Summaries.{SummaryView}
use Rattle.walk_items.specs.{Items.{ItemView, AreOf, IsItem}, Walks.items_at}
use Rattle.walk_items.specs.declared.mode.Mode.{Mode}
use Rattle.book.specs.{Books.BookView, ItemLists.{ListView, all_of}}

-- what contracts see of a book that lends: of its open items those that nobody has and those that
-- each worker has; nothing was dropped from it
pub record LendingView : Type 0 where
  pub of : ItemView
  pub mode : Mode
  pub finished : SummaryView
  pub free : List ItemView
  pub lent : List (List ItemView)
  pub deferred : List ItemView
  pub lists : Bool
  pub quick : Bool

-- what contracts see of a book that lends, of these parts
abbrev pub lending_view : ItemView → Mode → SummaryView → ListView → List ListView → ListView →
    Bool → Bool → LendingView
lending_view of mode finished free lent deferred lists quick = record {
  of = of;
  mode = mode;
  finished = finished;
  free = all_of of.program free;
  lent = map (all_of of.program) lent;
  deferred = all_of of.program deferred;
  lists = lists;
  quick = quick;
}

-- what workers have together
abbrev pub all_lent : List (List ItemView) → List ItemView
all_lent lent = flat_map (λ items. items) lent

-- the book: what workers have is open, list after list, and then comes what nobody has
abbrev pub as_book : LendingView → BookView
as_book b = record {
  of = b.of;
  mode = b.mode;
  finished = b.finished;
  open_items = all_lent b.lent ++ b.free;
  deferred = b.deferred;
  lists = b.lists;
  quick = b.quick;
  dropped = false;
}

-- the book, of which none of this many workers has an item yet
abbrev pub lending : BookView → ℕ → LendingView
lending b workers = record {
  of = b.of;
  mode = b.mode;
  finished = b.finished;
  free = b.open_items;
  lent = replicate workers [];
  deferred = b.deferred;
  lists = b.lists;
  quick = b.quick;
}

-- the book with its open items in another order
pub record Reorders (old new : BookView) : Type 0 where
  pub book : new ≡ record old { open_items = new.open_items }
  pub same : IsPermutation old.open_items new.open_items

-- the items of a loan are of this program
pub record IsLoanOf (p : Program) (loan : ListView) : Type 0 where
  pub run : All IsItem (items_at p loan.packed)
  pub own : AreOf p loan.unpacked

-- the worker is one of the book's, and has these items
abbrev pub Has : LendingView → ℕ → List ItemView → Type 0
Has b worker items = slice_get b.lent worker ≡ Some items

-- the last free items, this many of them, or all where there are fewer
abbrev pub last_free : LendingView → ℕ → List ItemView
last_free b most = drop (length b.free - most) b.free

-- the book where the worker has these, and all that was free before them is free
abbrev pub lent_to : LendingView → ℕ → ℕ → LendingView
lent_to b worker most = record b {
  free = take (length b.free - most) b.free;
  lent = set b.lent worker (last_free b most);
}

-- the last free items, at most this many, were lent to a worker that had none: the loan is of these
pub record Lends (old : LendingView) (worker most : ℕ) (loan : ListView) (new : LendingView)
    : Type 0 where
  pub idle : Has old worker []
  pub copied : all_of old.of.program loan ≡ last_free old most
  pub book : new ≡ lent_to old worker most

-- why walks of these items aren't settled: what they put off is wanted and wasn't listed, or the
-- worker hasn't these
abbrev pub IsNotSettled : LendingView → ℕ → List ItemView → Bool → Type 0
IsNotSettled b worker items listed =
    ((b.lists ≡ true) × (listed ≡ false)) ⊎ (Has b worker items → ⊥)
