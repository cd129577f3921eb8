-- What is known of a round, of what a worker keeps of it, and of the book of a search.
use Rattle.std.specs.Prelude.{◌≡◌, ◌≤◌, ◌<◌, ◌*◌, ◌^◌, ℕ, Bool, Option, List, [], count_by, length, vec_len}
use Rattle.guest_code.specs.Program.{Program}
use Rattle.semantics_schedules.specs.Order.{precedes}
use Rattle.walk_items.specs.{Items.{ItemView, AreOf}, declared.mode.Mode.Mode}
use Rattle.book.specs.Books.{BookView, HaveFound}
use Rattle.runner_report.specs.Reports.{IsReached}
use Rattle.runner_rounds.specs.declared.{round.Round.Round, worker.Worker.Worker}

-- the book is of this item and mode, a quick one or not, and lists what its bound puts off or not
pub record IsOf (b : BookView) (i : ItemView) (m : Mode) (q l : Bool) : Type 0 where
  pub of : b.of ≡ i
  pub mode : b.mode ≡ m
  pub quick : b.quick ≡ q
  pub lists : b.lists ≡ l

-- the round's mode is this one, its items are of this program, and its quota is not 0
pub record IsRoundOf (p : Program) (m : Mode) (r : Round) : Type 0 where
  pub mode : r.mode ≡ m
  pub items : AreOf p r.items.items
  pub quota : 1 ≤ r.quota

-- how many of these items come before this one, in the order of schedules
abbrev pub rank : List ItemView → ItemView → ℕ
rank items i = count_by (λ j. precedes j.prefix i.prefix) items

-- a search with this limit goes on from a book to another round that all share, whatever the last one
-- found: items are open, fewer than those from which on workers have rounds of their own, and the limit
-- is not reached
abbrev pub GoesOn : Option ℕ → ℕ → BookView → Type 0
GoesOn limit own_from b = (b.open_items ≡ [] → ⊥) × (length b.open_items < own_from)
    × (IsReached limit b.finished → ⊥)

-- what a worker keeps was found by walks of the round's items at its places
pub record AreKept (r : Round) (b : Worker) : Type 0 where
  pub found : HaveFound b.walker r.mode r.items.items b.places.items b.found
  pub few : b.found.part.tried ≤ vec_len b.places * 2 ^ 32
