use Rattle.std.proofs.Common.{◌+◌, ◌*◌, ◌≡◌, ◌≤◌, length, map}
use Rattle.guest_syntax.specs.{Tree.placed_view, reader.Items.all_from, reader.Reads.rest_of}
use Rattle.guest_syntax.{specs.reader.Statements.{turn_from, block_from}, proofs.ItemLoops.Goes}
use Rattle.guest_syntax.proofs.tokens.Reader.+block.Given as goal

abbrev pub decreases-block : goal.decreases-block
decreases-block l = 5 * l.room

abbrev pub decreases-if_statement : goal.decreases-if_statement
decreases-if_statement l = 5 * l.room + 1

abbrev pub decreases-repeat_statement : goal.decreases-repeat_statement
decreases-repeat_statement l = 5 * l.room + 1

abbrev pub decreases-statement : goal.decreases-statement
decreases-statement l = 5 * l.room + 2

abbrev pub decreases-next_statement : goal.decreases-next_statement
decreases-next_statement l = 5 * l.room + 3

abbrev pub decreases-rest_of_block : goal.decreases-rest_of_block
decreases-rest_of_block l = 5 * l.room + 4

abbrev pub invariant-rest_of_block-items : goal.invariant-rest_of_block-items
invariant-rest_of_block-items l = record {
  goes : Goes (turn_from (block_from l.room)) (map placed_view l.all.items) (rest_of l.self)
      (all_from (turn_from (block_from l.room)) (rest_of l.fn.self));
  same : l.self.cursor.text.now ≡ l.fn.self.cursor.text.now;
  shorter : length (rest_of l.self) ≤ length (rest_of l.fn.self);
}

abbrev pub decreases-rest_of_block-items : goal.decreases-rest_of_block-items
decreases-rest_of_block-items l = length (rest_of l.self)
