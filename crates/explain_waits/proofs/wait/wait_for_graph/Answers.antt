use Rattle.std.specs.Prelude.{◌↔◌}
use Rattle.std.proofs.Common.{◌≡◌, ◌∙◌, ℕ, ◌+◌, ◌<◌, List, length, sym, subst, arith}
use Rattle.std.proofs.lemmas.List.{length-set, length-replicate}
use Rattle.guest_code.specs.declared.limits.TheConstants.{THREADS}
use Rattle.semantics.specs.declared.mask.Mask.{Mask}
use Rattle.explain_waits.{specs.Graph.{WaitsFor, IsIn}, proofs.FoundAhead.edges_found}
use Rattle.explain_waits.proofs.Sets.{rows_none, rows_put, rows_kept, both}
use Rattle.explain_waits.proofs.wait.wait_for_graph.Goals.{in-Some+in_ok-look, in_default}
use Rattle.explain_waits.proofs.wait.wait_for_graph.Goals as goal

pub loop-t-init : goal.loop-t-init
loop-t-init c = record {
  length = length-replicate THREADS c.empty-edges.result;
  edges = rows_none (WaitsFor c.args.program.now c.args.told.now) THREADS c.empty-edges.result
      c.empty-edges.ensures;
}

pub loop-t-preserved : goal.loop-t-preserved
loop-t-preserved c =
    let p = c.args.program.now in
    let told = c.args.told.now in
    let t = c.loop-t.t in
    let old = c.loop-t.edges in
    let E : ℕ → ℕ → Type 0 = WaitsFor p told in
    let P : List Mask → Type 0 = λ rows. (v u : ℕ) → IsIn rows v u ↔ ((v < t + 1) × E v u) in
    let L : List Mask → Type 0 = λ rows. length rows ≡ THREADS in
    let inside : t < length p.threads =
    omega (arith, c.loop-t-test.true, c.threads-t-end.ensures.number) in
    let within : t < length old = omega (
      arith,
      c.loop-t.invariant.length,
      c.loop-t-test.true,
      c.threads-t-end.ensures.few,
    ) in
    let before = c.loop-t.invariant.edges in
    elim c.match-of.branch [
      | in-Some+in_ok-look w ↦ record {
        length = subst L (sym w.edges-is)
            (length-set old t w.waited_for.result ∙ c.loop-t.invariant.length);
        edges = subst P (sym w.edges-is) (rows_put E old t w.waited_for.result within
            (λ u. both (w.waited_for.ensures u) (edges_found p told _ t u w.in-Some.blocked
            w.in_ok-look.look c.requires.fates inside (sym c.of.ensures ∙ w.in-Some.is)
            w.in_ok-look.ensures)) before);
      }
      | in_default w ↦ record {
        length = subst L (sym w.edges-is) c.loop-t.invariant.length;
        edges = subst P (sym w.edges-is) (rows_kept E old t
            (λ u e. w.in_default.not-Some e.blocked (c.of.ensures ∙ e.is)) before);
      }
    ]

pub returns : goal.returns
returns c = λ t u. (
  λ h. ((c.loop-t.invariant.edges t u).0 h).1,
  λ e. (c.loop-t.invariant.edges t u).1
      (omega (arith, e.thread, c.loop-t-test.false, c.threads-t-end.ensures.number), e),
)
