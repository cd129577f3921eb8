use Rattle.std.proofs.Common.{◌≤◌, vec_capacity}
use Rattle.walk_prefixes.specs.inner.Packed.{AreWaysOn, WentBack}
use Rattle.walk_prefixes.proofs.prefixes.go_back.Given as goal

abbrev pub invariant-loop : goal.invariant-loop
invariant-loop l = record {
  goes : (w : AreWaysOn l.fn.deltas l.fn.count l.fn.last.items (vec_capacity l.fn.last)) →
      WentBack w.ways l.fn.deltas l.counter l.fn.last.items l.at l.last.items
      (vec_capacity l.fn.last);
  room : vec_capacity l.fn.last ≤ vec_capacity l.last;
}
