use Rattle.std.proofs.Common.{◌≡◌, sym, subst}
use Rattle.walk_items.specs.{Children.mask_after, declared.mode.Mode.Mode}
use Rattle.walk.specs.inner.{Paths.state_at, WalkerInvariant.here}
use Rattle.walk.proofs.path.Path.sleepers.Goals as goal

pub returns-in-Reduced : goal.returns-in-Reduced
returns-in-Reduced c =
    let p = c.args.program.now in
    let t = c.args.self.now in
    subst (λ (m : Mode). c.sleep_set_after.result ≡ mask_after m (here p t) c.args.thread)
    (sym c.in-Reduced.is)
    (c.sleep_set_after.ensures (state_at p t.steps.items) c.requires.path.shows c.requires.enabled)

pub returns-in-ReducedOnce : goal.returns-in-ReducedOnce
returns-in-ReducedOnce c =
    let p = c.args.program.now in
    let t = c.args.self.now in
    subst (λ (m : Mode). c.sleep_set_after-in-ReducedOnce.result
    ≡ mask_after m (here p t) c.args.thread) (sym c.in-ReducedOnce.is)
    (c.sleep_set_after-in-ReducedOnce.ensures (state_at p t.steps.items) c.requires.path.shows
    c.requires.enabled)
