use Rattle.std.proofs.Common.{◌≡◌, drop}
use Rattle.guest_code.specs.{Program.names_view, Uses.knows}
use Rattle.guest_code.proofs.check.contains_name.Given as goal

abbrev pub invariant-loop-local : goal.invariant-loop-local
invariant-loop-local l = knows (names_view (drop l.local-index l.locals)) l.name ≡ knows
    (names_view l.locals) l.name
