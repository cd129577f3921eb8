use Rattle.std.proofs.Common.{sym, ◌∙◌}
use Rattle.std.proofs.lemmas.{Bool.false≢true, Bool.Decides.Decides-eqb, Slice.Eq.slice_eq-Decides}
use Rattle.replay.proofs.NumberTexts.{zero_is_number, number_by_count, number_large, no_number}
use Rattle.replay.proofs.piece.thread_number_of.Goals as goal

pub returns-then-eq : goal.returns-then-eq
returns-then-eq c =
    zero_is_number _ ((slice_eq-Decides Decides-eqb _ _ _ c.eq.ensures).0 c.if-eq.true)

pub returns-in_err-number : goal.returns-in_err-number
returns-in_err-number c = rw c.from_residual.ensures
    (λ t. no_number c.args.text.now t
    (λ e. false≢true
    (sym c.if-eq.false ∙ (slice_eq-Decides Decides-eqb _ _ _ c.eq.ensures).1 e))
    (λ n s. absurd (c.in_err-number.ensures n s)))

pub returns-then-number-lt-NUMBERS : goal.returns-then-number-lt-NUMBERS
returns-then-number-lt-NUMBERS c =
    let held = c.in_ok-number.ensures in
    number_by_count c.args.text.now c.in_ok-number.number held.0 held.1 held.2
    c.if-number-lt-NUMBERS.true

pub returns-else-number-lt-NUMBERS : goal.returns-else-number-lt-NUMBERS
returns-else-number-lt-NUMBERS c t =
    let held = c.in_ok-number.ensures in
    no_number c.args.text.now t
    (λ e. false≢true
    (sym c.if-eq.false ∙ (slice_eq-Decides Decides-eqb _ _ _ c.eq.ensures).1 e))
    (λ n s. number_large c.args.text.now c.in_ok-number.number held.0 n held.1 s held.2
    c.if-number-lt-NUMBERS.false)
