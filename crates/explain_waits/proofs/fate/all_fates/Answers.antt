use Rattle.std.proofs.Common.{◌∙◌, ap, Vec, Global}
use Rattle.std.proofs.lemmas.List.{map_push}
use Rattle.explain_waits.specs.{declared.fate.Fate.Fate, inner.Rows.lists}
use Rattle.explain_waits.proofs.TakenSteps.{fates_of_more}
use Rattle.explain_waits.proofs.fate.all_fates.Goals as goal
use Rattle.explain_run.proofs.Pushed.{one_longer}

pub loop-t-preserved : goal.loop-t-preserved
loop-t-preserved c =
    let p = c.args.program.now in
    let told = c.args.told.now in
    let n = c.loop-t.t in
    let old = lists c.loop-t.all.items in
    let v = c.in_ok-fates_of.field-0 in
    let pushed = ap lists c.in_ok-push.ensures.items
    ∙ map_push (λ (v : Vec Fate Global). v.items) c.loop-t.all.items v in
    record {
      count = one_longer old _ v.items n pushed c.loop-t.invariant.count;
      each = fates_of_more p told n old _ v.items c.loop-t.invariant.count pushed
          c.loop-t.invariant.each c.in_ok-fates_of.ensures;
    }
