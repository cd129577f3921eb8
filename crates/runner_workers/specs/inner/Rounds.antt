-- What is known of the rounds of several workers.
use Rattle.std.specs.Prelude.{◌≡◌, ◌≤◌, ◌<◌, ◌+◌, ◌-◌, ◌^◌, ◌%◌, All, drop, length, vec_len}
use Rattle.guest_code.specs.Program.{Program}
use Rattle.board.specs.Board.{BoardId}
use Rattle.book.specs.{Books.BookView, declared.limits.TheConstants.ROUND}
use Rattle.runner_rounds.specs.declared.round.Round.{Round}
use Rattle.runner_workers.specs.declared.{limits.TheConstants.WORKERS, stretch.Stretch.Stretch}
use Rattle.runner_workers.specs.declared.seated_worker.SeatedWorker.{SeatedWorker}

-- the round of a book's last open items, which follows another one of the stretch
pub record Follows (b : BookView) (last round : Round) : Type 0 where
  pub items : round.items.items ≡ drop (length b.open_items - ROUND) b.open_items
  pub mode : round.mode ≡ last.mode
  pub quick : round.quick ≡ last.quick
  pub lists : round.lists ≡ last.lists
  pub quota : round.quota ≡ last.quota
  pub turn : round.turn ≡ (last.turn + 1) % 2 ^ 64
  pub first : round.first ≡ (last.first + vec_len last.items) % 2 ^ 64

-- the worker's seat is of this board, and its walker of this program
pub record IsOn (board : BoardId) (p : Program) (w : SeatedWorker) : Type 0 where
  pub seat : w.seat.board ≡ board
  pub walker : w.worker.walker ≡ p

-- as many workers as a search may have, one for each seat of the board
pub record IsStretch (p : Program) (s : Stretch) : Type 0 where
  pub some : 0 < vec_len s.seated
  pub few : vec_len s.seated ≤ WORKERS
  pub seated : vec_len s.seated ≡ s.board.seats
  pub on : All (IsOn s.board.id p) s.seated.items
