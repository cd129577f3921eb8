use Rattle.std.proofs.Common.{◌≡◌, ◌++◌, ◌∷◌, [], length, map}
use Rattle.semantics.specs.Mask.{members_from}
use Rattle.walk.specs.inner.WalkerInvariant.{IsShared}
use Rattle.walk.proofs.found.Found.defer_siblings.Given as goal

abbrev pub invariant-loop-thread : goal.invariant-loop-thread
invariant-loop-thread l = record {
  same : l.self ≡ record l.initial.self { deferred = l.self.deferred };
  shared : IsShared l.initial._steps l.self;
  deferred : (l.self.deferred ++ map (λ t. l.initial._steps ++ t ∷ [])
      (members_from l.left 0))
      ≡ (l.initial.self.deferred ++ map (λ t. l.initial._steps ++ t ∷ [])
      (members_from l.initial.left 0));
}

abbrev pub decreases-loop-thread : goal.decreases-loop-thread
decreases-loop-thread l = length (members_from l.left 0)
