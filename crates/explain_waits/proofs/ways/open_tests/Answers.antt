use Rattle.std.proofs.Common.{◌≡◌, ◌∙◌, ◌+◌, Bool, true, false, List, ◌||◌, ◌&&◌, length, sym, subst, ap, get_or}
use Rattle.guest_code.specs.declared.program.Instruction.TheVariants.{Skip}
use Rattle.check_lint.specs.{Paths.{mark_of, no_mark}, declared.paths.Mark.Mark}
use Rattle.explain_run.proofs.Pushed.{written_back}
use Rattle.explain_waits.specs.{Ways.tests, inner.Settling.AreOpenBelow}
use Rattle.explain_waits.proofs.OpenTests.{open_more}
use Rattle.explain_waits.proofs.ways.open_tests.Goals as goal

pub loop-local-preserved : goal.loop-local-preserved
loop-local-preserved c =
    let code = c.args.code.now in
    let from = c.args.place in
    let n = c.loop-local.local in
    let old = c.loop-local.are_open.items in
    let new = c.mark_open.new.are_open in
    let ms = c.in_ok-marks.marks.items in
    let long : length new ≡ length old =
    c.mark_open.ensures.all ∙ ap length c.deref_mut.ensures.value in
    let whole = ap length (sym c.deref_mut.ensures.value) ∙ c.deref_mut.ensures.len in
    subst (AreOpenBelow code from (n + 1))
    (sym (written_back c.loop-local.are_open.len old new long whole)) (record {
      all = long ∙ c.loop-local.invariant.all;
      each = λ k h.
          let P : List Bool → List Mark → Type 0 = λ o m. get_or new k false
          ≡ (get_or o k false || (mark_of (get_or m k no_mark) true
          && tests n (get_or code k (Skip 0)))) in
          let Q : List Bool → Type 0 = λ o. P o c.as_slice.result.now in
          let is = subst (P old) c.as_slice.ensures.value
          (subst Q c.deref_mut.ensures.value (c.mark_open.ensures.each k h)) in
          open_more code from n k (get_or old k false) (get_or new k false)
          (mark_of (get_or ms k no_mark) true) is
          (c.in_ok-marks.ensures.marks.sound k true, c.in_ok-marks.ensures.marks.complete k true)
          (c.loop-local.invariant.each k h);
    })
