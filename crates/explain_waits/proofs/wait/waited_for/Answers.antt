use Rattle.std.specs.Prelude.{◌↔◌, IsTrue}
use Rattle.std.proofs.Common.{◌∙◌, ℕ, List, [], sym, subst, arith, get_or, Vec, Global}
use Rattle.std.proofs.lemmas.List.{length-map}
use Rattle.guest_code.specs.{Program.code_of, declared.program.Instruction.Instruction}
use Rattle.explain_waits.specs.{declared.fate.Fate.Fate, inner.Rows.{lists, FindsEdge}}
use Rattle.explain_waits.proofs.{FoundAhead.list_at, Sets.picked_more}
use Rattle.explain_waits.proofs.wait.waited_for.Goals as goal

pub loop-u-preserved : goal.loop-u-preserved
loop-u-preserved c =
    let p = c.args.program.now in
    let all = c.args.fates.now in
    let b = c.args.blocked in
    let look = c.args.look.now in
    let u = c.loop-u.u in
    let v = c.index-fates-u.result in
    let asked = c.waits_for.result in
    let E : ℕ → Type 0 = λ u. FindsEdge (code_of p u) (get_or (lists all) u []) b look u in
    let list = c.as_slice-theirs.ensures.value ∙ sym (list_at all u v
    (omega (arith, length-map all (λ (v : Vec Fate Global). v.items), c.requires.threads, c.threads-u-end.ensures.number, c.loop-u-test.true))
    c.index-fates-u.is) in
    let P : List Instruction → Type 0 = λ code. IsTrue asked
    ↔ FindsEdge code c.as_slice-theirs.result.now b look u in
    let Q : List Fate → Type 0 = λ fates. IsTrue asked ↔ FindsEdge (code_of p u) fates b look u in
    let says = subst Q list (subst P c.code.ensures.code c.waits_for.ensures) in
    picked_more E c.loop-u.on c.with-on.result u asked c.with-on.ensures.same
    c.with-on.ensures.others says c.loop-u.invariant
