use Rattle.std.proofs.Common.{◌≡◌, ◌∙◌, ap, sym, subst, unwrap_or}
use Rattle.replay.specs.Run.{ReplayErrorMeans}
use Rattle.semantics_schedules.specs.Schedules.{begins_with}
use Rattle.walk_cover.proofs.Listed.{starts}
use Rattle.runner_joining.{specs.Parts.IsTrueOf, proofs.Told.{run_bad, bad_run, not_run}}
use Rattle.runner_joining.proofs.bad_schedules.is_truthful.Goals as goal

pub returns-then-not-starts_with-clause-value : goal.returns-then-not-starts_with-clause-value
returns-then-not-starts_with-clause-value c = (
  λ f. absurd (cc),
  λ t. sym (sym (c.starts_with.ensures.value
      ∙ (starts c.in-Some.schedule.now c.as_slice.result.now
      ∙ (ap (λ u. begins_with u c.in-Some.schedule.now) c.as_slice.ensures.value
      ∙ (t c.in-Some.schedule.now c.in-Some.ensures).under))) ∙ c.if-not-starts_with.true),
)

pub returns-in-Ok-clause-value : goal.returns-in-Ok-clause-value
returns-in-Ok-clause-value c = (
  λ on w e.
      let same : w ≡ c.in-Some.schedule.now =
      ap (λ o. unwrap_or o w) (sym e ∙ c.in-Some.ensures) in
      let bad = run_bad c.args.program.now c.in-Some.schedule.now c.in-Ok.run'
      c.args.part.now.level.bound c.in-Ok.ensures.value (sym c.is_bad_within.ensures ∙ on) in
      subst (IsTrueOf c.args.program.now c.args.part.now) (sym same) (record {
        bad = bad.0;
        under = ap (λ u. begins_with u c.in-Some.schedule.now) (sym c.as_slice.ensures.value)
            ∙ (sym (starts c.in-Some.schedule.now c.as_slice.result.now)
            ∙ (sym c.starts_with.ensures.value ∙ c.if-not-starts_with.false));
        within = bad.1;
      }),
  λ t.
      let one = t c.in-Some.schedule.now c.in-Some.ensures in
      c.is_bad_within.ensures ∙ bad_run c.args.program.now c.in-Some.schedule.now c.in-Ok.run'
      c.args.part.now.level.bound c.in-Ok.ensures.value one.bad one.within,
)

pub returns-in-Err-NoSuchThread-clause-value : goal.returns-in-Err-NoSuchThread-clause-value
returns-in-Err-NoSuchThread-clause-value c =
    let means = subst (ReplayErrorMeans c.args.program.now c.in-Some.schedule.now)
    c.in-Err-NoSuchThread.field-0-is c.in-Err-NoSuchThread.ensures.value in (
      λ f. absurd (cc),
      not_run c.args.program.now c.args.part.now c.in-Some.schedule.now
          c.in-Err-NoSuchThread.field-0-0 means.0 c.in-Some.ensures,
    )

pub returns-in-Err-NotEnabled-clause-value : goal.returns-in-Err-NotEnabled-clause-value
returns-in-Err-NotEnabled-clause-value c =
    let means = subst (ReplayErrorMeans c.args.program.now c.in-Some.schedule.now)
    c.in-Err-NotEnabled.field-0-is c.in-Err-NotEnabled.ensures.value in (
      λ f. absurd (cc),
      not_run c.args.program.now c.args.part.now c.in-Some.schedule.now
          c.in-Err-NotEnabled.field-0-0 means.0 c.in-Some.ensures,
    )
