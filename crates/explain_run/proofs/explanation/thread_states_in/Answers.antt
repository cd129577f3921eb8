use Rattle.std.proofs.Common.{◌≡◌, ◌∙◌, sym, subst, inl, inr, Some}
use Rattle.std.specs.List.{slice_get}
use Rattle.explain_run.{specs.Blocked.Stands, proofs.Pushed.{pushed_at, one_longer}}
use Rattle.explain_run.proofs.explanation.thread_states_in.Goals as goal

pub loop-t-preserved : goal.loop-t-preserved
loop-t-preserved c =
    let p = c.args.program.now in
    let s = c.args.state.now in
    let old = c.loop-t.thread_states.items in
    let pushed = c.in_ok-push.ensures.items in
    record {
      count = one_longer old _ c.of.result c.loop-t.t pushed c.loop-t.invariant.count;
      each = λ t thread_state h. elim
          (pushed_at old c.of.result t thread_state
          (subst (λ l. slice_get l t ≡ Some thread_state) pushed h)) [
            | inl earlier ↦ c.loop-t.invariant.each t thread_state earlier
            | inr here ↦ subst (λ n. Stands p s n thread_state)
                (sym (here.0 ∙ c.loop-t.invariant.count))
                (subst (Stands p s c.loop-t.t) here.1 c.of.ensures)
          ];
    }
