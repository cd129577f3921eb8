use Rattle.std.proofs.Common.{◌≡◌, ◌+◌, drop}
use Rattle.guest_code.specs.{Code.local_index, Program.names_view}
use Rattle.guest_code.proofs.names.locals_before.Given as goal

abbrev pub invariant-loop-local : goal.invariant-loop-local
invariant-loop-local l = record {
  same : l.index + local_index (names_view (drop l.local-index l.locals)) l.name ≡ local_index
      (names_view l.locals) l.name;
  index : l.index ≡ l.local-index;
}
