use Rattle.std.proofs.Common.{◌≡◌, ℕ, subst, arith}
use Rattle.guest_code.specs.declared.limits.TheConstants.{THREADS}
use Rattle.explain_waits.specs.Graph.{IsIn}
use Rattle.explain_waits.proofs.Closures.{AreThrough, through_none, through_more, through_all}
use Rattle.explain_waits.proofs.Sets.{inside}
use Rattle.explain_waits.proofs.graph.transitive_closure.Goals as goal

pub loop-k-init : goal.loop-k-init
loop-k-init c = through_none c.args.edges

pub loop-k-preserved : goal.loop-k-preserved
loop-k-preserved c = through_more (IsIn c.args.edges) c.loop-k.rows c.extend_through.new.rows
    c.loop-k.k c.extend_through.ensures c.loop-k.invariant

pub returns : goal.returns
returns c =
    let P : ℕ → Type 0 = λ k. AreThrough (IsIn c.args.edges) k c.loop-k.rows in
    let k : c.loop-k.k ≡ THREADS = omega (arith, c.loop-k-test.false, c.loop-k.auto.k-end) in
    through_all (IsIn c.args.edges) THREADS c.loop-k.rows (inside c.args.edges THREADS (omega arith))
    (subst P k c.loop-k.invariant)
