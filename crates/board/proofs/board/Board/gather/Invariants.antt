use Rattle.std.proofs.Common.{◌≡◌, ℕ, ◌+◌, ◌<◌, [], vec_len, if◌then◌else◌}
use Rattle.std.specs.List.{All, sum_by}
use Rattle.board.specs.Claims.{times}
use Rattle.board.proofs.board.Board.gather.Given as goal

-- the first account and those of the seats that are left are the accounts of all seats
abbrev pub invariant-loop-seat : goal.invariant-loop-seat
invariant-loop-seat l =
    let first = l.first.me.0 in let left = l.seats.items in let all = l.fn.seats.items in record {
      table : l.first.table_id ≡ l.fn.self.id.table;
      limit : first.limit ≡ l.fn.self.id.limit;
      bare : l.first.me.1 ≡ [];
      some_seat : 0 < first.seats;
      seats : first.seats + vec_len l.seats ≡ l.fn.self.seats;
      marks : first.marks + sum_by (λ s. if s.marked then 1 else 0) left
          ≡ sum_by (λ s. if s.marked then 1 else 0) all;
      drawn : (x : ℕ) → times x first.drawn + sum_by (λ s. times x s.drawn) left
          ≡ sum_by (λ s. times x s.drawn) all;
      told : (x : ℕ) → times x first.told + sum_by (λ s. times x s.told) left
          ≡ sum_by (λ s. times x s.told) all;
      answered : (x : ℕ) → times x first.answered + sum_by (λ s. times x s.answered) left
          ≡ sum_by (λ s. times x s.answered) all;
      board : All (λ s. s.board ≡ l.fn.self.id) left;
    }

abbrev pub decreases-loop-seat : goal.decreases-loop-seat
decreases-loop-seat l = vec_len l.seats
