use Rattle.std.proofs.Common.{◌≡◌, [], drop, take, map}
use Rattle.guest_syntax.specs.Tree.{declaration_view}
use Rattle.guest_code.specs.{Fault.first, Uses.declarations_uses, inner.Walk.all_uses}
use Rattle.guest_code.proofs.check.check_declarations.Given as goal

abbrev pub invariant-loop-i : goal.invariant-loop-i
invariant-loop-i l = first (all_uses l.tree)
    (declarations_uses (map declaration_view (take l.i l.declarations)))
    (declarations_uses (map declaration_view (drop l.i l.declarations))) ≡ first (all_uses l.tree)
    [] (declarations_uses (map declaration_view l.declarations))
