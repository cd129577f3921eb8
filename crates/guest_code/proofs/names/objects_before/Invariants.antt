use Rattle.std.proofs.Common.{◌≡◌, ◌+◌, ◌≤◌, map, drop}
use Rattle.guest_syntax.specs.Tree.{declaration_view}
use Rattle.guest_code.specs.Code.{object_index}
use Rattle.guest_code.proofs.names.objects_before.Given as goal

abbrev pub invariant-loop-declaration : goal.invariant-loop-declaration
invariant-loop-declaration l = record {
  same : l.index + object_index l.kind
      (map declaration_view (drop l.declaration-index l.declarations)) l.name ≡ object_index
      l.kind (map declaration_view l.declarations) l.name;
  small : l.index ≤ l.declaration-index;
}
