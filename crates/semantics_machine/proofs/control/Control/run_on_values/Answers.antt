use Rattle.std.proofs.Common.{arith, ◌≡◌, true, length}
use Rattle.semantics.specs.Machine.{Snapshot, is_enabled}
use Rattle.semantics_machine.specs.{Refinement.IsState, inner.Runs.IsRunTo}
use Rattle.semantics_machine.proofs.Values.{begins, all_inside, ready, slice_is, slice_length, slice_written, shows_after, size_after}
use Rattle.semantics_machine.proofs.control.Control.run_on_values.Goals.{After-run}
use Rattle.semantics_machine.proofs.control.Control.run_on_values.Goals as goal

pub slice_bounds-run-end : goal.slice_bounds-run-end
slice_bounds-run-end c =
    let shows = c.requires.1 in
    let at = begins c.args.program.now c.args.shape.now.fixed c.args.shape.now.width c.args.self.now c.args.values.now
    c.requires.0 c.args.thread shows c.requires.2 c.conditions.result c.conditions.ensures.number in
    let inside = all_inside c.args.program.now c.args.shape.now.fixed c.args.shape.now.width c.args.self.now
    c.args.values.now c.requires.0 c.args.thread shows c.requires.2 _ at
    c.split_at_mut-shared.result.1.now
    c.split_at_mut-shared.ensures.back in
    omega (arith, inside)

pub overflow_add-from : goal.overflow_add-from
overflow_add-from c =
    let shows = c.requires.1 in
    let at = begins c.args.program.now c.args.shape.now.fixed c.args.shape.now.width c.args.self.now c.args.values.now
    c.requires.0 c.args.thread shows c.requires.2 c.conditions.result c.conditions.ensures.number in
    let inside = all_inside c.args.program.now c.args.shape.now.fixed c.args.shape.now.width c.args.self.now
    c.args.values.now c.requires.0 c.args.thread shows c.requires.2 _ at
    c.split_at_mut-shared.result.1.now
    c.split_at_mut-shared.ensures.back in
    let fits = c.split_at_mut-shared.type_inv.1.1.1.1.0.0.1.0 in
    omega (arith, inside, fits)

pub run-requires : goal.run-requires
run-requires c =
    let p = c.args.program.now in
    let f = c.args.shape.now.fixed in
    let w = c.args.shape.now.width in
    let d = c.args.self.now in
    let vs = c.args.values.now in
    let t = c.args.thread in
    let s = c.requires.0 in
    let shows = c.requires.1 in
    let on = c.requires.2 in
    let at = begins p f w d vs s t shows on c.conditions.result c.conditions.ensures.number in
    let all = c.split_at_mut-shared.result.1.now in
    let back = c.split_at_mut-shared.ensures.back in (
      s,
      ready p f w d vs s t shows on _ _ _ at c.split_at_mut-shared.ensures.front
          (slice_is p f w d vs s t shows on _ at all back)
          (slice_length p f w d vs s t shows on _ at all back),
    )

-- the run was one on the thread's own part of the values
ran : (c : After-run) → (s : Snapshot)
    → IsState c.args.program.now c.args.shape.now.fixed c.args.shape.now.width c.args.self.now
    c.args.values.now s → is_enabled c.args.program.now s c.args.thread ≡ true
    → IsRunTo c.args.program.now s c.args.thread c.args.reach.heedless c.run.result
    c.run.new.self c.run.new.shared c.run.new.own
ran c s shows on =
    let p = c.args.program.now in
    let f = c.args.shape.now.fixed in
    let w = c.args.shape.now.width in
    let d = c.args.self.now in
    let vs = c.args.values.now in
    let t = c.args.thread in
    let at = begins p f w d vs s t shows on c.conditions.result c.conditions.ensures.number in
    let all = c.split_at_mut-shared.result.1.now in
    let back = c.split_at_mut-shared.ensures.back in
    c.run.ensures.runs s (ready p f w d vs s t shows on _ _ _ at
    c.split_at_mut-shared.ensures.front (slice_is p f w d vs s t shows on _ at all back)
    (slice_length p f w d vs s t shows on _ at all back))

pub returns-clause-shows : goal.returns-clause-shows
returns-clause-shows c = λ s shows on.
    let p = c.args.program.now in
    let f = c.args.shape.now.fixed in
    let w = c.args.shape.now.width in
    let d = c.args.self.now in
    let vs = c.args.values.now in
    let t = c.args.thread in
    let at = begins p f w d vs s t shows on c.conditions.result c.conditions.ensures.number in
    let all = c.split_at_mut-shared.result.1.now in
    let back = c.split_at_mut-shared.ensures.back in
    let many = slice_length p f w d vs s t shows on _ at all back in
    let long : length c.run.new.own ≡ w = omega (arith, many) in
    shows_after p f w d vs s t shows on c.run.result c.run.new.self c.run.new.shared _ c.run.new.own
    (ran (goal.at.returns-clause-shows c).After-run s shows on) long
    (slice_written p f w d vs s t shows on _ at all back c.run.new.own long)

pub returns-clause-enabled : goal.returns-clause-enabled
returns-clause-enabled c = λ s shows on.
    (ran (goal.at.returns-clause-enabled c).After-run s shows on).enabled

pub returns-clause-among : goal.returns-clause-among
returns-clause-among c = λ s shows on.
    (ran (goal.at.returns-clause-among c).After-run s shows on).between

pub returns-clause-size : goal.returns-clause-size
returns-clause-size c =
    let p = c.args.program.now in
    let f = c.args.shape.now.fixed in
    let w = c.args.shape.now.width in
    let d = c.args.self.now in
    let vs = c.args.values.now in
    let t = c.args.thread in
    let s = c.requires.0 in
    let shows = c.requires.1 in
    let on = c.requires.2 in
    let at = begins p f w d vs s t shows on c.conditions.result c.conditions.ensures.number in
    let all = c.split_at_mut-shared.result.1.now in
    let back = c.split_at_mut-shared.ensures.back in
    let many = slice_length p f w d vs s t shows on _ at all back in
    let long : length c.run.new.own ≡ w = omega (arith, many) in
    size_after p f w d vs s t shows on c.run.result c.run.new.self c.run.new.shared _ c.run.new.own
    (ran (goal.at.returns-clause-size c).After-run s shows on) long
    (slice_written p f w d vs s t shows on _ at all back c.run.new.own long)
