use Rattle.std.specs.Prelude.{max, if◌then◌else◌}
use Rattle.std.proofs.Common.{◌≡◌, ◌∙◌, ◌+◌, ◌<◌, ◌≤◌, ℕ, List, [], ◌∷◌, drop, length, get_or, sym, ap, arith, refl, add-one}
use Rattle.std.proofs.{Math.Seq.drop-cons, lemmas.Bool.{le-ltb, lt-ltb}, lemmas.List.get_or_default}
use Rattle.guest_code.specs.{Program.skip_of, declared.program.Instruction.Instruction}
use Rattle.guest_code.specs.declared.program.Instruction.TheVariants.{Skip}
use Rattle.explain_cause.specs.Tests.{merge_point_from}
use Rattle.explain_cause.proofs.decisions.merge_point.Goals as goal

-- nothing further is passed over
reached : (is : List Instruction) (at reach : ℕ) → reach ≤ at →
    merge_point_from is at reach ≡ reach
reached [] at reach l = refl
reached (i ∷ is) at reach l = ap (λ b. if b
    then merge_point_from is (at + 1) (max reach (at + 1 + skip_of i)) else reach)
    (le-ltb at reach l)

-- an instruction that is passed over
passed : (code : List Instruction) (at reach : ℕ) (d : Instruction) → at < length code →
    at < reach → merge_point_from (drop at code) at reach
    ≡ merge_point_from (drop (at + 1) code) (at + 1)
    (max reach (at + 1 + skip_of (get_or code at d)))
passed code at reach d l m = ap (λ is. merge_point_from is at reach)
    (drop-cons code at d l ∙ ap (λ n. get_or code at d ∷ drop n code) (sym (add-one at)))
    ∙ ap (λ b. if b then merge_point_from (drop (at + 1) code) (at + 1)
    (max reach (at + 1 + skip_of (get_or code at d))) else reach) (lt-ltb at reach m)

pub returns-then-at-reach : goal.returns-then-at-reach
returns-then-at-reach c =
    sym (reached (drop c.loop-at.at c.args.code.now) c.loop-at.at c.loop-at.reach (omega arith))
    ∙ c.loop-at.invariant.same

pub overflow_add-at-in-loop-at : goal.overflow_add-at-in-loop-at
overflow_add-at-in-loop-at c = let j = c.requires.jumps c.loop-at.at (omega arith) in
    let e = c.skip_of.ensures ∙ ap skip_of (get_or_default c.args.code.now c.loop-at.at _ (Skip 0)
    (omega arith)) in omega (arith, j, e)

pub loop-at-preserved : goal.loop-at-preserved
loop-at-preserved c = record {
  same = ap (λ n. merge_point_from (drop (c.loop-at.at + 1) c.args.code.now) (c.loop-at.at + 1) n)
      (c.max-reach.ensures ∙ ap (λ n. max c.loop-at.reach (c.loop-at.at + 1 + n))
      c.skip_of.ensures)
      ∙ (sym (passed c.args.code.now c.loop-at.at c.loop-at.reach _ (omega arith) (omega arith))
      ∙ c.loop-at.invariant.same);
  inside = let j = c.requires.jumps c.loop-at.at (omega arith) in
      let e = c.skip_of.ensures ∙ ap skip_of (get_or_default c.args.code.now c.loop-at.at _
      (Skip 0) (omega arith)) in
      let m = c.max-reach.ensures in
      let k = c.loop-at.invariant.inside in omega (arith, j, e, m, k);
}
