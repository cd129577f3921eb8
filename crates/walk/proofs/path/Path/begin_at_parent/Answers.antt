use Rattle.std.proofs.Common.{◌≡◌, ◌-◌, ◌∙◌, true, arith, ap, sym, subst, length, take, get_or}
use Rattle.guest_code.specs.Program.{Program}
use Rattle.semantics.specs.{Machine.start, Mask.has}
use Rattle.semantics.specs.declared.mask.Mask.{Mask}
use Rattle.semantics_schedules.{specs.Schedules.runs, proofs.Executions.reaches_few}
use Rattle.semantics_schedules.proofs.ScheduleLengths.{schedule_within}
use Rattle.walk.specs.inner.{Paths.state_at, WalkerInvariant.IsSought}
use Rattle.walk.proofs.Walks.{sought_masks, last_step, parent_runs, last_few, one_member, parent_begins}
use Rattle.walk.proofs.path.Path.begin_at_parent.Goals as goal

pub with-self-requires : goal.with-self-requires
with-self-requires c = last_few c.args.item.now.program c.prefix-prefix.result.now
    c.args.item.now.prefix c.prefix-prefix.ensures.prefix c.prefix-prefix.ensures.runs
    c.requires.some c.requires.path.well_formed

pub replay-requires-clause-runs : goal.replay-requires-clause-runs
replay-requires-clause-runs c =
    let w = c.prefix-prefix.result.now in
    subst (λ (q : Program). runs q (start q) (take (length w - 1) w) ≡ true) (sym c.program.ensures)
    (parent_runs c.args.item.now.program w c.args.item.now.prefix c.prefix-prefix.ensures.prefix
    c.prefix-prefix.ensures.runs c.requires.some)

pub step-requires : goal.step-requires
step-requires c =
    let p = c.program.result.now in
    let t = c.replay.new.self in
    let path = c.replay.ensures.path in
    let few = reaches_few p t.steps.items _ path.reaches in
    let short = schedule_within p t.steps.items path.well_formed path.reaches.runs in
    omega (arith, few, short)

pub returns-clause-begun : goal.returns-clause-begun
returns-clause-begun c =
    let i = c.args.item.now in
    let p = i.program in
    let w = c.prefix-prefix.result.now in
    let t = c.replay.new.self in
    let place = length w - 1 in
    let prefix = c.prefix-prefix.ensures.prefix in
    let so = c.prefix-prefix.ensures.runs in
    let some = c.requires.some in
    let only = c.with-self in
    let sought = sought_masks p (take place w) t t.node.asleep only.result
    (subst (λ (q : Program). IsSought q (take place w) t) c.program.ensures
    c.in_ok-replay.ensures.sought) in
    parent_begins c.args.mode i _ c.args.found.now c.set_shared.new.self (take place w)
    (get_or w place 0) c.enabled.result c.step.new.self c.is_past_bound.result c.requires.bound
    sought (last_step p w i.prefix prefix so some) so
    (one_member only.result (get_or w place 0)
    (last_few p w i.prefix prefix so some c.requires.path.well_formed) only.ensures.same
    (λ u ne. only.ensures.others u ne ∙ ap (λ (m : Mask). has m u) c.empty.ensures))
    (c.enabled.ensures p (state_at p t.steps.items) sought.place.path.shows) c.step.ensures.used
    c.is_past_bound.ensures c.requires.sound c.set_shared.ensures.same c.set_shared.ensures.shared
