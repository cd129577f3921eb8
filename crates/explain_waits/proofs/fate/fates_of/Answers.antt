use Rattle.std.proofs.Common.{◌≡◌, ◌∙◌, List, length, sym, subst, ap}
use Rattle.explain_run.proofs.Pushed.{written_back}
use Rattle.explain_waits.specs.{Fates.Fates, declared.fate.Fate.Fate, inner.Taking.AreFates}
use Rattle.explain_waits.proofs.TakenSteps.{fates_from}
use Rattle.explain_waits.proofs.fate.fates_of.Goals as goal

pub returns : goal.returns
returns c =
    let p = c.args.program.now in
    let told = c.args.told.now in
    let t = c.args.thread in
    let code = c.code.result.now in
    let from = c.end_pc.result in
    let locals = c.end_locals-locals.result in
    let steps = c.steps.result.now in
    let old = c.in_ok-fates.fates.items in
    let new = c.mark_all_taken.new.fates in
    let before : AreFates code from locals steps t 0 old = c.in_ok-fates.ensures steps t in
    let begun = let P : List Fate → Type 0 = λ l. AreFates code from locals steps t 0 l in
    subst P (sym c.deref_mut.ensures.value) before in
    let are = c.mark_all_taken.ensures code from locals begun in
    let long : length new ≡ length old = are.all ∙ sym before.all in
    let whole = ap length (sym c.deref_mut.ensures.value) ∙ c.deref_mut.ensures.len in
    subst (Fates p told t) (sym (written_back c.in_ok-fates.fates.len old new long whole))
    (fates_from p told t code from locals steps new c.code.ensures.code c.end_pc.ensures
    c.end_locals-locals.ensures c.steps.ensures are)
