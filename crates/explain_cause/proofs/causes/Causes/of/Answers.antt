use Rattle.std.specs.Prelude.{All}
use Rattle.std.proofs.Common.{◌∙◌, sym, subst}
use Rattle.explain_cause.{specs.inner.Wanting.IsValidEvent, proofs.Valid.course_valid}
use Rattle.explain_cause.proofs.causes.Causes.of.Goals as goal

pub marks_of-requires : goal.marks_of-requires
marks_of-requires c = subst (All (IsValidEvent c.args.program.now)) (sym (c.as_slice.ensures.value ∙ c.in_ok-events.ensures))
    (course_valid c.args.program.now c.args.explanation.now c.keeps_limits.ensures)
