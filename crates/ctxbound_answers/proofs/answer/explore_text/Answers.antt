use Rattle.std.proofs.Common.{◌≡◌, ◌∙◌, ap, sym, refl, subst, inr, ℕ, List, [], ◌∷◌, ◌++◌, Bool}
use Rattle.std.proofs.Common.{None, false, append-nil, if◌then◌else◌}
use Rattle.std.{specs.Arc.arc_value, proofs.lemmas.Result.err_from_is_err_and}
use Rattle.guest_code.specs.Program.{Program}
use Rattle.replay.specs.{Run.ReplayErrorMeans, Trace.Trace}
use Rattle.runner_report.specs.{ReportText.{report_text, named_schedule}, Texts.IsReportOfText}
use Rattle.ctxbound_answers.specs.Answer.{IsExplorationOf, trace_of}
use Rattle.ctxbound_answers.specs.declared.answer.Printed.{Printed}
use Rattle.ctxbound_answers.proofs.answer.explore_text.Goals.{then-is_traced+in-Some+in_ok-traced+in_ok-extend_from_slice, then-is_traced+in_default, else-is_traced}
use Rattle.ctxbound_answers.proofs.answer.explore_text.Goals as goal

pub returns-in_err-traced : goal.returns-in_err-traced
returns-in_err-traced g c =
    let p = err_from_is_err_and c.from_residual-in_err-traced.result
    c.from_residual-in_err-traced.ensures.1 in
    rw (p.1, p.2) (inr (
      c.if-is_traced.true,
      record {
        report = c.in_ok-report.report;
        of_text = record {
          program = arc_value c.in_ok-program.program;
          is_program = c.in_ok-program.ensures.program;
          report = c.in_ok-report.ensures.report;
        };
        steps = c.in-Some.schedule.now;
        named = c.in-Some.ensures;
        error = c.in_err-traced.field-0.0;
        refused = subst (λ (q : Program). ReplayErrorMeans q c.in-Some.schedule.now
            c.in_err-traced.field-0.0) c.deref.ensures c.in_err-traced.ensures;
        same = refl;
      },
    ))

pub returns : goal.returns
returns g c =
    let report = c.in_ok-report.report in
    let p = arc_value c.in_ok-program.program in
    let named = named_schedule report in
    let of_text : IsReportOfText false c.args.text.now c.args.exploration.options report = record {
      program = p;
      is_program = c.in_ok-program.ensures.program;
      report = c.in_ok-report.ensures.report;
    } in
    let printed = c.in_ok-printed.ensures in
    let traced_by = λ (b : Bool). trace_of p (if b then named else None) in
    let untraced : c.if-is_traced.printed ≡ c.in_ok-printed.printed
    → traced_by c.args.is_traced ≡ []
    → IsExplorationOf c.args.text.now c.args.exploration.options c.args.is_traced
    c.if-is_traced.printed = λ same none. record {
      report = report;
      of_text = of_text;
      output = ap (λ (a : Printed). a.output.items) same ∙ printed.output
          ∙ sym (append-nil (report_text report ++ 10 ∷ []))
          ∙ ap (λ (xs : List ℕ). report_text report ++ 10 ∷ [] ++ xs) (sym none);
      status = ap (λ (a : Printed). a.status) same ∙ printed.status;
    } in
    elim c.if-is_traced.branch [
      | then-is_traced+in-Some+in_ok-traced+in_ok-extend_from_slice w ↦
          record {
            report = report;
            of_text = of_text;
            output = ap (λ (a : Printed). a.output.items) w.printed-is
                ∙ w.in_ok-extend_from_slice.ensures.items
                ∙ ap (λ (xs : List ℕ). xs ++ w.as_slice.result.now) printed.output
                ∙ ap (λ (xs : List ℕ). report_text report ++ 10 ∷ [] ++ xs)
                (w.as_slice.ensures.value ∙ w.in_ok-traced.ensures.output
                ∙ ap (λ (q : Program). Trace q w.in-Some.schedule.now) w.deref.ensures
                ∙ sym (ap traced_by w.if-is_traced.true ∙ ap (trace_of p) w.in-Some.ensures));
            status = ap (λ (a : Printed). a.status) w.printed-is ∙ printed.status;
          }
      | then-is_traced+in_default w ↦
          untraced w.printed-is
          (ap traced_by w.if-is_traced.true ∙ ap (trace_of p) w.in_default.ensures)
      | else-is_traced w ↦ untraced w.printed-is (ap traced_by w.if-is_traced.false)
    ]
