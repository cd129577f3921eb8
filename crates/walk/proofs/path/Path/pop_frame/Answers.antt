use Rattle.std.proofs.Common.{◌≤◌, ◌+◌, ◌-◌, ◌≡◌, ◌∙◌, arith, ap, sym}
use Rattle.walk_items.specs.Children.{costs}
use Rattle.walk.{specs.inner.WalkerInvariant.turns_left, proofs.PathSteps.open_done}
use Rattle.walk.proofs.path.Path.pop_frame.Goals as goal

pub returns-clause-same : goal.returns-clause-same
returns-clause-same c =
    let t = c.args.self.now in
    let count = c.requires.place.path.count in
    let below : t.base ≤ t.depth - 1 =
    omega (arith, c.if-depth-self.false, c.requires.place.base, count) in
    let top : t.depth ≡ t.depth - 1 + 1 =
    omega (arith, c.if-depth-self.false, c.requires.place.base, count) in
    c.pop_to.ensures.left c.args._mode below top
    ∙ sym (open_done c.args._mode c.args.program.now t c.requires.done)

pub returns-clause-further : goal.returns-clause-further
unfolding turns_left
returns-clause-further c =
    let t = c.args.self.now in
    let count = c.requires.place.path.count in
    let top : t.depth ≡ t.depth - 1 + 1 =
    omega (arith, c.if-depth-self.false, c.requires.place.base, count) in
    let a = ap costs (returns-clause-same c) in
    let b = c.pop_to.ensures.depth in
    let new = c.pop_to.ensures.path.count in
    λ h. omega (arith, a, b, new, count, top)
