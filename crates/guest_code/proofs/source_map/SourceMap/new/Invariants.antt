use Rattle.std.proofs.Common.{◌≡◌, map, take}
use Rattle.guest_syntax.specs.Tree.{thread_view}
use Rattle.guest_code.specs.SourceMap.{thread_places}
use Rattle.guest_code.proofs.source_map.SourceMap.new.Given as goal

abbrev pub invariant-loop-thread : goal.invariant-loop-thread
invariant-loop-thread l = map (λ p. p.items) l.places.items
    ≡ map thread_places (map thread_view (take l.thread-index l.thread-items))
