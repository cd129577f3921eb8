use Rattle.std.specs.Prelude.{pos}
use Rattle.std.proofs.Common.{◌≡◌, ◌∙◌, ◌++◌, List, replicate, sym, subst, ap, inl, inr, Some}
use Rattle.std.specs.List.{slice_get}
use Rattle.guest_code.specs.declared.program.Instruction.{Instruction}
use Rattle.semantics.specs.{Ends.stop_of, Machine.{Snapshot, thread_at}}
use Rattle.explain_run.specs.{Explains.Begins, Settings.settings_in}
use Rattle.explain_run.specs.declared.{assignments.Assignment.Assignment, explanation.Start.Start}
use Rattle.explain_run.proofs.Pushed.{pushed_at, one_longer}
use Rattle.explain_run.proofs.explanation.starts_of.Goals as goal

pub loop-t-preserved : goal.loop-t-preserved
loop-t-preserved c =
    let p = c.args.program.now in
    let t = c.loop-t.t in
    let old = c.loop-t.starts.items in
    let here = c.in_ok-state.ensures.value in
    let locals = replicate 16 (pos 0) in
    let new : Start = record {
      assignments = c.run_and_push_assignments.new.assignments;
      next = c.pc.result;
      stop = c.stop.result;
    } in
    let begins : Begins p t new = record {
      assignments = c.in_ok-run_and_push_assignments.ensures
          ∙ (ap (λ (before : List Assignment). before ++ settings_in c.code.result.now 0 0 locals)
          c.new-assignments.ensures.items
          ∙ ap (λ (code : List Instruction). settings_in code 0 0 locals) c.code.ensures.code);
      next = c.pc.ensures ∙ ap (λ (s : Snapshot). (thread_at s t).pc) here;
      stop = c.stop.ensures ∙ ap stop_of
          (c.status.ensures ∙ ap (λ (s : Snapshot). (thread_at s t).status) here);
    } in
    let pushed = c.in_ok-push.ensures.items in
    record {
      count = one_longer old _ new t pushed c.loop-t.invariant.count;
      each = λ u told h. elim
          (pushed_at old new u told (subst (λ l. slice_get l u ≡ Some told) pushed h)) [
            | inl earlier ↦ c.loop-t.invariant.each u told earlier
            | inr same ↦ subst (λ n. Begins p n told) (sym (same.0 ∙ c.loop-t.invariant.count))
                (subst (Begins p t) same.1 begins)
          ];
    }
