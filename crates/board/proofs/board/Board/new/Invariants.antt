use Rattle.std.proofs.Common.{◌≡◌, ◌-◌, [], length}
use Rattle.std.specs.List.{All}
use Rattle.board.specs.{Board.new_seat, inner.Rule.account}
use Rattle.board.proofs.board.Board.new.Given as goal

-- the root has the seats that are still to be made
abbrev pub invariant-loop : goal.invariant-loop
invariant-loop l = let id = l.initial.root.table_id in record {
  table : l.root.table_id ≡ id;
  me : l.root.me ≡ (account l.limit (l.count - l.counter) 0 [] [] [], []);
  many : length l.all.items ≡ l.counter;
  fresh : All (λ s. s ≡ new_seat record { table = id; limit = l.limit }) l.all.items;
}
