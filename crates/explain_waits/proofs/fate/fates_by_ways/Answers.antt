use Rattle.std.proofs.Common.{ℕ, List, length, Vec, Global}
use Rattle.std.proofs.lemmas.Result.{IfOk-weaker}
use Rattle.explain_run.specs.declared.step.Step.{Step}
use Rattle.explain_waits.specs.{declared.fate.Fate.Fate, inner.Taking.{AreByMarks, AreFates}}
use Rattle.explain_waits.proofs.WaysAhead.{by_marks}
use Rattle.explain_waits.proofs.fate.fates_by_ways.Goals as goal

pub returns : goal.returns
returns c =
    let code = c.args.code.now in
    let place = c.args.place in
    let locals = c.args.locals.now in
    let there = c.as_slice-settled.result.now in
    let those = c.as_slice.result.now in
    let P : Vec Fate Global → Type 0 = λ v. AreByMarks there those (length there) v.items in
    let Q : Vec Fate Global → Type 0 = λ v. (steps : List Step) (t : ℕ) →
    AreFates code place locals steps t 0 v.items in
    IfOk-weaker c.fates_by_marks.result P Q (λ v found. by_marks code place c.min-from.result locals
    c.in_ok-decided.decided.items there c.in_ok-marks.marks.items those v.items c.min-from.ensures
    c.in_ok-decided.ensures c.as_slice-settled.ensures.value c.in_ok-marks.ensures.marks
    c.as_slice.ensures.value found) c.fates_by_marks.ensures
