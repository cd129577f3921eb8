use Rattle.std.proofs.Common.{◌∙◌, refl, arith, ap}
use Rattle.std.proofs.Math.{Path.transport}
use Rattle.walk.specs.declared.found.Found.{Found}
use Rattle.walk.specs.inner.WalkerInvariant.{IsSought}
use Rattle.walk.proofs.{LoneSteps.free_first, Walks.{sought_masks, within_first, begun_here}}
use Rattle.walk.proofs.path.Path.begin.Goals as goal

pub expand-requires-clause-search : goal.expand-requires-clause-search
expand-requires-clause-search c =
    let i = c.args.item.now in
    let f = c.args.found.now in
    let t = c.replay.new.self in (
      f,
      begun_here c.args.mode i _ f c.set_shared.new.self
          (sought_masks i.program i.prefix t c.mask-self.result t.node.todo
          (transport (λ k. IsSought (c.program.ensures k) (c.prefix.ensures.prefix k) t)
          c.in_ok-replay.ensures.sought)) c.mask-self.ensures
          (c.if-has_parent.ensures.none refl) c.requires.sound c.set_shared.ensures.same
          c.set_shared.ensures.shared,
    )

pub expand-requires-clause-free : goal.expand-requires-clause-free
expand-requires-clause-free c =
    let i = c.args.item.now in
    let t = c.replay.new.self in
    let sought = sought_masks i.program i.prefix t c.mask-self.result t.node.todo
    (transport (λ k. IsSought (c.program.ensures k) (c.prefix.ensures.prefix k) t)
    c.in_ok-replay.ensures.sought) in
    free_first c.args.mode i.program _ sought.place.path
    (λ on. sought.steps ∙ c.if-has_parent.ensures.none refl on)

pub returns-clause-begun : goal.returns-clause-begun
returns-clause-begun c =
    let i = c.args.item.now in
    let f = c.args.found.now in
    let t = c.replay.new.self in
    let none = c.if-has_parent.ensures.none refl in
    record {
      within = within_first c.args.mode i none;
      search = c.in_ok-expand.ensures.search f (begun_here c.args.mode i _ f c.set_shared.new.self
          (sought_masks i.program i.prefix t c.mask-self.result t.node.todo
          (transport (λ k. IsSought (c.program.ensures k) (c.prefix.ensures.prefix k) t)
          c.in_ok-replay.ensures.sought)) c.mask-self.ensures
          none c.requires.sound c.set_shared.ensures.same c.set_shared.ensures.shared);
      tried = let k = ap (λ (x : Found). x.part.tried) c.set_shared.ensures.same in
          let l = c.in_ok-expand.ensures.tried in
          omega (arith, k, l);
    }
