use Rattle.std.proofs.Common.{arith}
use Rattle.std.proofs.lemmas.Result.{err_from_is_err_and}
use Rattle.guest_syntax.{specs.Place.{start, Follows}, proofs.BlankRuns.skipped_follows}
use Rattle.guest_syntax.proofs.PlacesInText.{follows_then, refusal_then, cursor_follows, follows_left, follows_after}
use Rattle.guest_syntax.proofs.lexer.skip_blanks.Goals as goal

pub returns-in_err-at-clause-refused : goal.returns-in_err-at-clause-refused
returns-in_err-at-clause-refused c =
    let p = err_from_is_err_and c.from_residual.result c.from_residual.ensures.1 in
    rw (p.1, p.2) (refusal_then c.in_err-at.field-0.0 (cursor_follows c.args.text)
    c.in_err-at.ensures.refused)

pub invariant_of-result : goal.invariant_of-result
invariant_of-result c =
    let text = c.args.text in
    let at = c.in_ok-at.at in
    let rest = c.in_ok-at.rest.now in
    let skipped = skipped_follows text.at text.rest.now at rest c.in_ok-at.ensures.gives in
    let f : Follows start text.text.now at rest = follows_then (cursor_follows text) skipped in
    record {
      left = follows_left text.text.now rest at f;
      place = follows_after text.text.now rest at f;
      lines = omega (arith, c.in_ok-at.ensures.line, text.lines);
      cols = omega (arith, c.in_ok-at.ensures.col, text.cols);
    }
