use Rattle.std.proofs.Common.{◌∙◌, sym}
use Rattle.guest_code.proofs.ProgramEquality.{same_program-Decides}
use Rattle.guest_code.proofs.program.Program.is_same.Goals as goal

pub returns : goal.returns
returns c =
    let d = same_program-Decides c.args.self.now c.args.other.now in
    (λ t. d.0 (sym c.eq.ensures ∙ t), λ e. c.eq.ensures ∙ d.1 e)
