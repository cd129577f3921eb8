-- What is told of a thread that waits, from the sets of all threads.
use Rattle.std.specs.Prelude.{◌↔◌, IsTrue}
use Rattle.std.proofs.Common.{◌≡◌, ℕ, List, length, Some, sym, subst}
use Rattle.guest_code.specs.Program.{Program}
use Rattle.semantics.specs.{Mask.has, declared.mask.Mask.Mask}
use Rattle.explain_run.specs.declared.explanation.Explanation.{Explanation}
use Rattle.explain_waits.specs.Endings.{blocked_of, statements_to}
use Rattle.explain_waits.specs.{Graph.{WaitsFor, Leads, IsIn, row}, Looks.IsLookOf}
use Rattle.explain_waits.specs.Waiting.{TellsWait, IsLastStep}
use Rattle.explain_waits.specs.declared.{ending.Blocked.Blocked, fate.Fate.Fate, wait.Wait.Wait}
use Rattle.explain_waits.proofs.{Closures.circles_along, Sets.both}

pub wait_told : (p : Program) (told : Explanation) (fates : List (List Fate)) (w : Wait)
    (b : Blocked) (edges leads : List Mask) → blocked_of told w.thread ≡ Some b
    → w.reason ≡ b.reason
    → IsLastStep told.steps.items w.thread (length told.steps.items) w.since
    → IsLookOf p told b w.look → w.statements.items ≡ statements_to p fates b (length p.threads)
    → w.on ≡ row edges w.thread
    → ((u : ℕ) → IsTrue (has w.circle u) ↔ (IsIn leads w.thread u × IsIn leads u w.thread))
    → ((t u : ℕ) → IsIn edges t u ↔ WaitsFor p told t u)
    → ((t u : ℕ) → IsIn leads t u ↔ Leads (IsIn edges) t u)
    → TellsWait p told fates w
wait_told p told fates w b edges leads is reason since look statements on circle same closed = record {
  blocked = b;
  is = is;
  reason = reason;
  since = since;
  look = look;
  statements = statements;
  on = λ u. let P : Mask → Type 0 = λ set. IsTrue (has set u) ↔ WaitsFor p told w.thread u in
      subst P (sym on) (same w.thread u);
  circle = λ u. both (circle u)
      (circles_along (WaitsFor p told) edges leads same closed w.thread u);
}
