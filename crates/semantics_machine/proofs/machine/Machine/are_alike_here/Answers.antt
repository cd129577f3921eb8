use Rattle.std.proofs.Common.{◌∙◌, sym}
use Rattle.std.proofs.lemmas.Bool.{false≢true}
use Rattle.semantics_machine.proofs.EqualThreads.{one_answer, two_answers, alike, there, same_woken, same_locals, first_owns_none, second_owns_none}
use Rattle.semantics_machine.proofs.machine.Machine.are_alike_here.Goals as goal

pub returns-then-has : goal.returns-then-has
returns-then-has c = λ s shows a b. (
  λ e. absurd (false≢true e),
  λ r. absurd (two_answers c.has.result c.has-2.result c.if-has.true
      (c.has.ensures ∙ (same_woken c.args.program.now c.args.self.now s c.args.first c.args.second
      shows a b c.requires.two r ∙ sym c.has-2.ensures))),
)

pub returns-then-owns_some : goal.returns-then-owns_some
returns-then-owns_some c = λ s shows a b.
    let one = (c.owns_some.ensures c.args.program.now s shows).0 c.if-owns_some.true in (
      λ e. absurd (false≢true e),
      λ r. absurd (first_owns_none c.args.program.now c.args.self.now s c.args.first c.args.second
          shows a b c.requires.two r one.0 one.1),
    )

pub returns-then-owns_some-2 : goal.returns-then-owns_some-2
returns-then-owns_some-2 c = λ s shows a b.
    let one = (c.owns_some-2.ensures c.args.program.now s shows).0 c.if-owns_some-2.true in (
      λ e. absurd (false≢true e),
      λ r. absurd (second_owns_none c.args.program.now c.args.self.now s c.args.first c.args.second
          shows a b c.requires.two r one.0 one.1),
    )

pub returns : goal.returns
returns c = λ s shows a b.
    let p = c.args.program.now in
    let m = c.args.self.now in
    let t = c.args.first in
    let u = c.args.second in
    let mine = c.locals.ensures s shows (there p s t a) in
    let other = c.locals-2.ensures s shows (there p s u b) in (
      λ e. alike p m s t u shows a b c.requires.two c.requires.here
          (sym c.has.ensures ∙ (one_answer _ _ c.if-has.false ∙ c.has-2.ensures))
          (λ k h. absurd (false≢true (sym c.if-owns_some.false
          ∙ (c.owns_some.ensures p s shows).1 (k, h))))
          (λ k h. absurd (false≢true (sym c.if-owns_some-2.false
          ∙ (c.owns_some-2.ensures p s shows).1 (k, h))))
          (there p s t a) (there p s u b)
          (sym mine ∙ (c.same_values.ensures.0 e ∙ other)),
      λ r. c.same_values.ensures.1
          (mine ∙ (same_locals p m s t u shows a b c.requires.two r ∙ sym other)),
    )
