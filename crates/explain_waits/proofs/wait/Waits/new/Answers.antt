use Rattle.std.specs.Prelude.{All, is_some}
use Rattle.std.proofs.Common.{◌≡◌, ◌∙◌, ℕ, Bool, List, length, map, Some, sym, subst, ap, arith, refl, Vec, Global}
use Rattle.std.{specs.List.filter, proofs.lemmas.List.map_push}
use Rattle.std.proofs.lemmas.List.Elements.{All-push}
use Rattle.semantics.specs.Work.{up_from}
use Rattle.explain_run.specs.declared.step.Step.{Step}
use Rattle.replay.proofs.LinesOfSteps.{passed_more, passed_same}
use Rattle.explain_waits.specs.Endings.{blocked_of, statements_to}
use Rattle.explain_waits.specs.Waiting.{TellsWait, IsLastStep, circles_in}
use Rattle.explain_waits.specs.{declared.fate.Fate.Fate, declared.wait.Wait.Wait, inner.Rows.lists}
use Rattle.explain_waits.proofs.{CirclesTold.circles_told, WaitsTold.wait_told}
use Rattle.explain_waits.proofs.wait.Waits.new.Goals.{in-Some+in_ok-of+in_ok-unblocking_statements+in_ok-push, in_default}
use Rattle.explain_waits.proofs.wait.Waits.new.Goals as goal

pub loop-t-preserved : goal.loop-t-preserved
loop-t-preserved c =
    let p = c.args.program.now in
    let told = c.args.told.now in
    let fates = lists c.in_ok-fates.fates.items in
    let t = c.loop-t.t in
    let old = c.loop-t.waits.items in
    let test : ℕ → Bool = λ t. is_some (blocked_of told t) in
    let thread : Wait → ℕ = λ (w : Wait). w.thread in
    let P : Wait → Type 0 = TellsWait p told fates in
    elim c.match-of.branch [
      | in-Some+in_ok-of+in_ok-unblocking_statements+in_ok-push w ↦
          (let pushed = ap (λ v. v.items) w.waits-is ∙ w.in_ok-push.ensures.items in
          let is : blocked_of told t ≡ Some w.in-Some.blocked = sym c.of.ensures ∙ w.in-Some.is in
          let Q : List Step → Type 0 = λ steps. IsLastStep steps t (length steps)
          w.last_step.result in
          let R : List (Vec Fate Global) → Type 0 = λ all.
          w.in_ok-unblocking_statements.field-0.items
          ≡ statements_to p (lists all) w.in-Some.blocked (length p.threads) in
          record {
            threads = passed_more test t (map thread old) _ c.loop-t.invariant.threads
                (ap is_some is) (ap (map thread) pushed ∙ map_push thread old _);
            each = subst (All P) (sym pushed) (All-push P old _ c.loop-t.invariant.each
                (wait_told p told fates _ w.in-Some.blocked c.in_ok-edges.edges
                c.transitive_closure-leads.result is refl
                (subst Q w.steps.ensures w.last_step.ensures) w.in_ok-of.ensures
                (subst R w.as_slice-in-Some.ensures.value w.in_ok-unblocking_statements.ensures) refl
                w.circle_of.ensures c.in_ok-edges.ensures
                c.transitive_closure-leads.ensures));
          })
      | in_default w ↦ (let kept = ap (λ v. v.items) w.waits-is in record {
        threads = ap (map thread) kept
            ∙ passed_same test t (map thread old) c.loop-t.invariant.threads
            (ap is_some (sym c.of.ensures ∙ w.in_default.is));
        each = subst (All P) (sym kept) c.loop-t.invariant.each;
      })
    ]

pub returns : goal.returns
returns c =
    let p = c.args.program.now in
    let told = c.args.told.now in
    let fates = lists c.in_ok-fates.fates.items in
    let ws = c.loop-t.waits.items in
    let test : ℕ → Bool = λ t. is_some (blocked_of told t) in
    let P : ℕ → Type 0 = λ n. map (λ (w : Wait). w.thread) ws ≡ filter test (up_from 0 n) in
    let all : c.loop-t.t ≡ length p.threads =
    omega (arith, c.loop-t-test.false, c.loop-t.auto.t-end, c.threads-t-end.ensures.number) in
    let threads = subst P all c.loop-t.invariant.threads in
    record {
      fates = fates;
      fate = c.in_ok-fates.ensures.fates;
      threads = threads;
      each = c.loop-t.invariant.each;
      circles = circles_told p told fates ws c.in_ok-circles.circles.items threads
          c.loop-t.invariant.each
          (c.in_ok-circles.ensures ∙ ap circles_in c.as_slice-2.ensures.value);
    }
