use Rattle.std.proofs.Common.{rules, w64, ◌≡◌, ◌∙◌, ℕ, ◌+◌, ℤ, pos, List, [], set, append-nil, sym, subst, ap, refl, arith, get_or, None}
use Rattle.std.{specs.List.slice_get, proofs.lemmas.Int.to_z-of_z}
use Rattle.explain_waits.specs.Looks.{LooksAt, done, is_wait, load_of, resumed_at}
use Rattle.explain_waits.proofs.LooksOnce.{looks_more}
use Rattle.explain_waits.proofs.look.Look.after.Goals as goal

pub loads-smaller : goal.loads-smaller
loads-smaller c = omega (arith, c.run_on-at-in-Some.ensures.further, c.run_on-at-in-Some.ensures.inside)

pub loads-preserved : goal.loads-preserved
loads-preserved c =
    let code = c.args.code.now in
    let values = c.args.values.now in
    let begin = resumed_at code c.args.woken.from c.args.locals in
    let at = c.loads.at in
    let r = c.in-Some.local in
    let x = c.in-Some.variable in
    let set_ = c.set_local.new.locals in
    let next = resumed_at code (at + 1) (set c.loads.locals r (get_or values x (pos 0))) in
    let new = c.run_on-at-in-Some.new.locals in
    let stored : set_ ≡ set c.loads.locals r (get_or values x (pos 0)) =
    c.set_local.ensures
    ∙ ap (set c.loads.locals r) (to_z-of_z w64 c.value_of.result (search rules) ∙ c.value_of.ensures) in
    record {
      inside = c.run_on-at-in-Some.ensures.inside;
      so_far = λ xs last rest.
          let P : ℕ → Type 0 = λ k. LooksAt code values k new xs last in
          let Q : List ℤ → Type 0 = λ ls. LooksAt code values (resumed_at code (at + 1) set_).pc ls
          xs last in
          let R : List ℤ → Type 0 = λ ls. LooksAt code values (resumed_at code (at + 1) ls).pc
          (resumed_at code (at + 1) ls).locals xs last in
          looks_more code values begin.locals begin.pc at r x c.loads.locals
          c.loads.variables.items c.push.new.self.items next
          (ap load_of (sym c.instruction_at.ensures.instruction)
          ∙ (sym c.load_of.ensures ∙ c.in-Some.is)) c.in_ok-push.ensures.items refl
          c.loads.invariant.so_far xs last
          (subst R stored (subst Q c.run_on-at-in-Some.ensures.locals
          (subst P c.run_on-at-in-Some.ensures.place rest)));
    }

pub returns : goal.returns
returns c =
    let code = c.args.code.now in
    let values = c.args.values.now in
    let begin = resumed_at code c.args.woken.from c.args.locals in
    let seen = c.loads.variables.items in
    let ends : load_of (slice_get code c.loads.at) ≡ None =
    ap load_of (sym c.instruction_at.ensures.instruction)
    ∙ (sym c.load_of.ensures ∙ c.in_default.is) in
    let P : List ℕ → Type 0 = λ xs. LooksAt code values begin.pc begin.locals xs c.loads.at in
    record {
      last = c.loads.at;
      looks = subst P (append-nil seen) (c.loads.invariant.so_far [] c.loads.at (done ends));
      sleeps = c.is_wait.ensures
          ∙ ap (is_wait c.args.woken.condition) c.instruction_at-2.ensures.instruction;
    }
