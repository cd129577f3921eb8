use Rattle.std.proofs.Common.{◌≡◌, ◌<◌, ℕ, length}
use Rattle.std.specs.Arc.{arc_value}
use Rattle.walk_cover.specs.Prefixes.{prefixes_of}
use Rattle.walk_cover.proofs.listing.prefixes.Given as goal

abbrev pub invariant-loop-n : goal.invariant-loop-n
invariant-loop-n l = record {
  all : l.items.items ≡ prefixes_of l.mode (arc_value l.fn.program) l._n;
  least : (n : ℕ) → n < l._n → length (prefixes_of l.mode (arc_value l.fn.program) n) < l.at_least;
}
