use Rattle.std.proofs.Common.{◌∙◌, sym}
use Rattle.replay.proofs.PieceTexts.{cut_at_x, no_x, number_or_none, run_or_none, run_held}
use Rattle.replay.proofs.piece.piece_of.Goals as goal

pub returns-in_err-thread_number_of : goal.returns-in_err-thread_number_of
returns-in_err-thread_number_of c = rw c.from_residual.ensures
    (λ p. c.in_err-thread_number_of.ensures p.0.thread
    (number_or_none c.args.text.now p.0
    (no_x c.args.text.now (sym c.first_x.ensures ∙ c.in_default.is)) p.1))

pub returns-in_err-thread_number_of-2 : goal.returns-in_err-thread_number_of-2
returns-in_err-thread_number_of-2 c =
    let cut = cut_at_x c.args.text.now c.in-Some.at (sym c.first_x.ensures ∙ c.in-Some.is) in
    rw c.from_residual-in_err-thread_number_of-2.ensures
    (λ p. c.in_err-thread_number_of-2.ensures p.0.thread
    (run_or_none c.args.text.now _ _ p.0 cut.0 cut.1 p.1).0)

pub returns-in_err-count_of : goal.returns-in_err-count_of
returns-in_err-count_of c =
    let cut = cut_at_x c.args.text.now c.in-Some.at (sym c.first_x.ensures ∙ c.in-Some.is) in
    rw c.from_residual-in_err-count_of.ensures
    (λ p. c.in_err-count_of.ensures p.0.count
    (run_or_none c.args.text.now _ _ p.0 cut.0 cut.1 p.1).1)

pub returns : goal.returns
returns c =
    let cut = cut_at_x c.args.text.now c.in-Some.at (sym c.first_x.ensures ∙ c.in-Some.is) in
    let held = c.in_ok-count_of.ensures in
    run_held c.args.text.now _ _ c.in_ok-thread_number_of-2.field-0 c.in_ok-count_of.field-0 held.0
    cut.0 c.in_ok-thread_number_of-2.ensures held.1 held.2
