use Rattle.std.proofs.Common.{◌≡◌, ◌∙◌, ◌&&◌, ℕ, not, Option, sym, ap, subst}
use Rattle.semantics.specs.Mask.{has}
use Rattle.semantics_schedules.specs.EqualThreads.{is_hidden}
use Rattle.walk_items.specs.{Children.is_hidden_after, declared.mode.Mode.Mode}
use Rattle.walk.specs.inner.{Paths.state_at, WalkerInvariant.here}
use Rattle.walk.proofs.WalkTurns.{and_true}
use Rattle.walk.proofs.path.Path.seen.Goals as goal

pub seen-requires : goal.seen-requires
seen-requires c =
    (state_at c.args.program.now c.args.self.now.steps.items, c.requires.path.shows, c.requires.enabled)

pub seen-requires-in-ReducedOnce : goal.seen-requires-in-ReducedOnce
seen-requires-in-ReducedOnce c =
    (state_at c.args.program.now c.args.self.now.steps.items, c.requires.path.shows, c.requires.enabled)

pub returns-in-Bounded : goal.returns-in-Bounded
returns-in-Bounded c = λ t. subst (λ (m : Mode). has c.args.asked t
    ≡ (has c.args.asked t && not (is_hidden_after m (here c.args.program.now c.args.self.now) t)))
    (sym c.in-Bounded.is) (sym (and_true (has c.args.asked t)))

pub returns-in-Reduced : goal.returns-in-Reduced
returns-in-Reduced c = λ t. subst (λ (m : Mode). has c.args.asked t
    ≡ (has c.args.asked t && not (is_hidden_after m (here c.args.program.now c.args.self.now) t)))
    (sym c.in-Reduced.is) (sym (and_true (has c.args.asked t)))

pub returns-in-BoundedOnce : goal.returns-in-BoundedOnce
returns-in-BoundedOnce c = λ t.
    let p = c.args.program.now in
    let path = c.args.self.now in
    let s = state_at p path.steps.items in
    subst (λ (m : Mode). has c.seen.result t
    ≡ (has c.args.asked t && not (is_hidden_after m (here p path) t))) (sym c.in-BoundedOnce.is)
    (c.seen.ensures s c.requires.path.shows c.requires.enabled t
    ∙ ap (λ (o : Option ℕ). has c.args.asked t && not (is_hidden p s o t))
    c.requires.path.reaches.last)

pub returns-in-ReducedOnce : goal.returns-in-ReducedOnce
returns-in-ReducedOnce c = λ t.
    let p = c.args.program.now in
    let path = c.args.self.now in
    let s = state_at p path.steps.items in
    subst (λ (m : Mode). has c.seen-in-ReducedOnce.result t
    ≡ (has c.args.asked t && not (is_hidden_after m (here p path) t))) (sym c.in-ReducedOnce.is)
    (c.seen-in-ReducedOnce.ensures s c.requires.path.shows c.requires.enabled t)
