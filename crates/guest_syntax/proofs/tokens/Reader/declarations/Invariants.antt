use Rattle.std.proofs.Common.{◌≡◌, length, map}
use Rattle.guest_syntax.specs.{Tree.declaration_view, reader.Items.all_from, reader.Reads.rest_of}
use Rattle.guest_syntax.{specs.reader.Trees.declaration_turn, proofs.ItemLoops.Goes}
use Rattle.guest_syntax.proofs.tokens.Reader.declarations.Given as goal

abbrev pub invariant-items : goal.invariant-items
invariant-items l = record {
  goes : Goes declaration_turn (map declaration_view l.all.items) (rest_of l.self)
      (all_from declaration_turn (rest_of l.fn.self));
  same : l.self.cursor.text.now ≡ l.fn.self.cursor.text.now;
}

abbrev pub decreases-items : goal.decreases-items
decreases-items l = length (rest_of l.self)
