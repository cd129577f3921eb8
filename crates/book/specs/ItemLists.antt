-- How a book holds its items.
use Rattle.std.specs.Prelude.{ℕ, List, ◌++◌}
use Rattle.std.specs.{VecDeque.deque_capacity, declared.alloc.Global.Global}
use Rattle.std.specs.declared.collections.VecDeque.{VecDeque}
use Rattle.guest_code.specs.Program.{Program}
use Rattle.walk_items.specs.{Items.ItemView, Walks.items_at}

-- what contracts see of a list of items: prefixes after which no thread sleeps, packed, and after
-- them items as they are, and for how many of these it has memory
pub record ListView : Type 0 where
  pub packed : List (List ℕ)
  pub unpacked : List ItemView
  pub room : ℕ

-- what contracts see of a list of these parts
abbrev pub list_view : List (List ℕ) → VecDeque ItemView Global → ListView
list_view packed unpacked = record {
  packed = packed;
  unpacked = unpacked.items;
  room = deque_capacity unpacked;
}

-- the items of a list, which are of this program
abbrev pub all_of : Program → ListView → List ItemView
all_of p l = items_at p l.packed ++ l.unpacked
