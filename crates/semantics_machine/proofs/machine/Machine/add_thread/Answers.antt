use Rattle.std.proofs.Common.{arith, ℤ, ◌≡◌, ◌<◌, ◌∙◌, length, take, refl, ap, List}
use Rattle.std.proofs.lemmas.List.{length-take-le}
use Rattle.guest_code.specs.declared.{limits.TheConstants.LOCALS, program.Instruction.Instruction}
use Rattle.semantics.specs.Machine.{Snapshot, thread_at}
use Rattle.semantics_machine.proofs.Openings.{opening_more, opening_room}
use Rattle.semantics_machine.proofs.machine.Machine.add_thread.Goals as goal

pub place_thread-requires-clause-pc : goal.place_thread-requires-clause-pc
place_thread-requires-clause-pc c =
    let there : c.args.thread < length c.args.state.now.threads =
    omega (arith, c.requires.thread, c.requires.of.threads) in
    omega (
      arith,
      c.pc.ensures,
      c.requires.of.pcs c.args.thread there,
      c.code.ensures.valid.short,
      ap (λ (is : List Instruction). length is) c.code.ensures.code,
    )

pub returns-clause-opening : goal.returns-clause-opening
returns-clause-opening c =
    let p = c.args.program.now in
    let s = c.args.state.now in
    let k = c.args.thread in
    let w = c.args.self.now.shape.width in
    let there : c.args.thread < length c.args.state.now.threads =
    omega (arith, c.requires.thread, c.requires.of.threads) in
    let own : take c.args.self.now.shape.width c.locals.result.now
    ≡ take c.args.self.now.shape.width (thread_at c.args.state.now c.args.thread).locals =
    ap (take c.args.self.now.shape.width) c.locals.ensures in
    opening_more p s k c.args.self.now _ (take w c.locals.result.now) there c.requires.opening
    (c.place_thread.ensures.lands p s (thread_at s k) c.requires.opening.control.objects
    (c.requires.opening.control.idle k (omega arith) there)
    (record { pc = c.pc.ensures; status = c.status.ensures }) c.code.ensures.code)
    c.in_ok-extend_from_slice.ensures.items (length-take-le w c.locals.result.now
    (let i : length c.locals.result.now ≡ LOCALS =
    ap (λ (x : List ℤ). length x) c.locals.ensures
    ∙ (ap (λ (x : Snapshot). length (thread_at x c.args.thread).locals) c.requires.state
    ∙ opening_room c.args.program.now c.args.thread c.requires.thread) in
    omega (arith, c.requires.width, i))) own refl
