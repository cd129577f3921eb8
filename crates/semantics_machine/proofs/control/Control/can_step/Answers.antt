use Rattle.std.proofs.Common.{◌≡◌, ◌<◌, ◌∙◌, sym, subst, ap, get_or, length}
use Rattle.semantics.specs.Machine.{can_do, action_of}
use Rattle.semantics.specs.declared.local.Turn.TheVariants.{Takes, Visible}
use Rattle.guest_code.specs.declared.program.Instruction.TheVariants.{Load}
use Rattle.semantics_machine.specs.inner.Steps.{Faces}
use Rattle.semantics_machine.proofs.{Landings.faces_visible, Lists.read_at, Runs.visible_inside}
use Rattle.semantics_machine.proofs.control.Control.can_step.Goals.{In-Takes}
use Rattle.semantics_machine.proofs.control.Control.can_step.Goals as goal

inside : (c : In-Takes) → c.args.place < length c.args.code.now
inside c = visible_inside c.args.place c.requires.turn.0 c.args.code.now Takes
    (sym c.requires.turn.1 ∙ c.in-Takes.is) (λ e. cc)

pub can_perform-requires : goal.can_perform-requires
can_perform-requires c = (
  c.requires.valid.0,
  c.requires.valid.1.fine c.args.place (Load 0 0) (inside (goal.at.can_perform-requires c).In-Takes),
  c.requires.valid.2,
)

pub returns-in-Takes-clause-there : goal.returns-in-Takes-clause-there
returns-in-Takes-clause-there c = λ _. inside (goal.at.returns-in-Takes-clause-there c).In-Takes

pub returns-in-Visible-clause-there : goal.returns-in-Visible-clause-there
returns-in-Visible-clause-there c = λ _.
    visible_inside c.args.place c.requires.turn.0 c.args.code.now Visible
    (sym c.requires.turn.1 ∙ c.in-Visible.is) (λ e. cc)

pub returns-in-Takes-clause-faces : goal.returns-in-Takes-clause-faces
returns-in-Takes-clause-faces c = λ on.
    subst (Faces c.args.self.now) (sym (read_at c.args.code.now c.args.place (Load 0 0)
    (inside (goal.at.returns-in-Takes-clause-faces c).In-Takes)))
    (λ i e s objects. (let z : get_or c.args.code.now c.args.place (Load 0 0) ≡ i = cc in
    ap (λ x. can_do s (action_of x)) (sym z) ∙ (sym (c.can_perform.ensures s objects) ∙ on)))

pub returns-in-Visible-clause-faces : goal.returns-in-Visible-clause-faces
returns-in-Visible-clause-faces c = λ _.
    faces_visible c.args.self.now c.args.code.now c.args.place c.requires.turn.0
    (sym c.requires.turn.1 ∙ c.in-Visible.is)
