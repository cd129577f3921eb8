use Rattle.std.proofs.Common.{◌≡◌, arith, subst}
use Rattle.guest_code.specs.Program.{Program}
use Rattle.walk.{specs.inner.WalkerInvariant.{IsPlace, still_open}, proofs.Expansions.popped_search}
use Rattle.walk.proofs.path.Path.backtrack.Goals as goal

pub returns-clause-search : goal.returns-clause-search
returns-clause-search c =
    let program = c.program.ensures in
    let t = c.pop_frame-more.new.self in
    λ b h. popped_search c.args.mode c.args.item.now c.args.self.now t c.args.found.now
    c.lower_shared.new.self c.len.result h
    (subst (λ (q : Program). IsPlace q t) program c.pop_frame-more.ensures.place)
    (subst (λ (q : Program). still_open c.args.mode q t
    ≡ still_open c.args.mode q c.args.self.now) program
    c.pop_frame-more.ensures.same)
    c.pop_frame-more.ensures.steps (omega (arith, c.len.ensures, t.steps.ok.0)) c.lower_shared.ensures
