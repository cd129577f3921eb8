use Rattle.std.proofs.Common.{◌≡◌, ◌+◌, ◌≤◌, [], drop, map}
use Rattle.guest_syntax.specs.Tree.{declaration_view}
use Rattle.guest_code.specs.Uses.{uses, how_many}
use Rattle.guest_code.proofs.check.count_of_kind.Given as goal

abbrev pub invariant-loop-declaration : goal.invariant-loop-declaration
invariant-loop-declaration l = record {
  same : l.count + how_many l.kind
      (uses (map declaration_view (drop l.declaration-index l.declarations)) []) ≡ how_many l.kind
      (uses (map declaration_view l.declarations) []);
  small : l.count ≤ l.declaration-index;
}
