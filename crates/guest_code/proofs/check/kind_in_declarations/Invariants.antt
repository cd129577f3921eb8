use Rattle.std.proofs.Common.{◌≡◌, drop, map}
use Rattle.guest_syntax.specs.Tree.{declaration_view}
use Rattle.guest_code.specs.Uses.{declarations_uses, kind_in}
use Rattle.guest_code.proofs.check.kind_in_declarations.Given as goal

abbrev pub invariant-loop-declaration : goal.invariant-loop-declaration
invariant-loop-declaration l = kind_in
    (declarations_uses (map declaration_view (drop l.declaration-index l.declarations))) l.name
    ≡ kind_in (declarations_uses (map declaration_view l.declarations)) l.name
