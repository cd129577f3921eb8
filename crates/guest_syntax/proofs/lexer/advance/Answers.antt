use Rattle.std.proofs.Common.{arith}
use Rattle.guest_syntax.specs.Place.{start, Follows}
use Rattle.guest_syntax.proofs.PlacesInText.{follows_then, cursor_follows, split_follows, follows_left, follows_after}
use Rattle.guest_syntax.proofs.lexer.advance.Goals as goal

pub invariant_of-result : goal.invariant_of-result
invariant_of-result c =
    let text = c.args.text in
    let at = c.after-at.result in
    let rest = c.split_at.result.1.now in
    let split = split_follows text.rest.now c.split_at.result.0.now rest c.args.len text.at at
    c.split_at.ensures.front c.split_at.ensures.back c.after-at.ensures.place in
    let f : Follows start text.text.now at rest = follows_then (cursor_follows text) split in
    record {
      left = follows_left text.text.now rest at f;
      place = follows_after text.text.now rest at f;
      lines = omega (
        arith,
        c.after-at.ensures.line,
        c.split_at.ensures.front_len,
        c.split_at.ensures.back_len,
        text.lines,
      );
      cols = omega (
        arith,
        c.after-at.ensures.col,
        c.split_at.ensures.front_len,
        c.split_at.ensures.back_len,
        text.cols,
      );
    }
