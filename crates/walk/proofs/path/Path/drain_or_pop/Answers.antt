use Rattle.std.proofs.Common.{[], ◌≡◌, ◌++◌, ◌∷◌, ℕ, List, arith, ap, sym, subst, All}
use Rattle.std.proofs.lemmas.List.Elements.{All-tail, All-head}
use Rattle.guest_code.specs.Program.{Program}
use Rattle.semantics.specs.Machine.{start, is_enabled}
use Rattle.semantics_schedules.specs.Schedules.{runs}
use Rattle.walk.specs.inner.{Paths.state_at, WalkerInvariant.{here, left_above, turns_left}}
use Rattle.walk.proofs.Expansions.{child_enabled}
use Rattle.walk.proofs.path.Path.drain_or_pop.Goals as goal
use Rattle.walk_items.specs.{Children.{children_of, child_of, costs}, Items.IsItem}
use Rattle.walk_items.proofs.Turns.{cost_two}

pub returns-in_ok-push-in-Some-clause-items : goal.returns-in_ok-push-in-Some-clause-items
returns-in_ok-push-in-Some-clause-items c =
    let p = c.args.item.now.program in
    let t = c.args.self.now in
    All-tail IsItem _ _ (subst (λ (ts : List ℕ). All IsItem
    (children_of c.args.mode (here p t) ts ++ left_above c.args.mode p t))
    c.without_first-self.ensures c.requires.items)

pub returns-in_ok-push-in-Some-clause-further : goal.returns-in_ok-push-in-Some-clause-further
unfolding turns_left
returns-in_ok-push-in-Some-clause-further c =
    let p = c.args.item.now.program in
    let t = c.args.self.now in
    let e = ap (λ (ts : List ℕ). costs (children_of c.args.mode (here p t) ts
    ++ left_above c.args.mode p t)) c.without_first-self.ensures in
    let two = cost_two (child_of c.args.mode (here p t) c.in-Some.thread) in
    λ h. omega (arith, e, two)

pub sleepers-asleep-requires-clause-enabled : goal.sleepers-asleep-requires-clause-enabled
sleepers-asleep-requires-clause-enabled c =
    let p = c.args.item.now.program in
    let t = c.args.self.now in
    subst (λ (q : Program). is_enabled q (state_at q t.steps.items) c.in-Some.thread ≡ _)
    (sym c.program-in-Some.ensures)
    (child_enabled c.args.mode p t c.in-Some.thread
    (All-head IsItem _ _ (subst (λ (ts : List ℕ). All IsItem
    (children_of c.args.mode (here p t) ts ++ left_above c.args.mode p t))
    c.without_first-self.ensures c.requires.items)))

pub with_prefix-requires : goal.with_prefix-requires
with_prefix-requires c =
    let p = c.args.item.now.program in
    let t = c.args.self.now in
    subst (λ (w : List ℕ). runs p (start p) (w ++ c.in-Some.thread ∷ []) ≡ _)
    (sym c.as_slice.ensures.value)
    (All-head IsItem _ _ (subst (λ (ts : List ℕ). All IsItem
    (children_of c.args.mode (here p t) ts ++ left_above c.args.mode p t))
    c.without_first-self.ensures c.requires.items))
