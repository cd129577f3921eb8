use Rattle.std.proofs.Common.{length, sym}
use Rattle.guest_syntax.specs.{Place.start, reader.TokenViews.kind_view}
use Rattle.guest_syntax.proofs.PlacesInText.{follows_in_same}
use Rattle.guest_syntax.proofs.RefusalPlaces.{some_bytes, kind_is_in, bad_char_is_in}
use Rattle.guest_syntax.proofs.lexer.first_token.Goals as goal

pub returns-in_default-clause-refused : goal.returns-in_default-clause-refused
returns-in_default-clause-refused c =
    let left = c.in_ok-start.start in
    let f = follows_in_same left c.args.text c.in_ok-start.ensures.same in
    bad_char_is_in start c.args.text.at left.at c.args.text.text.now c.args.text.rest.now
    left.rest.now
    c.in_ok-start.ensures.gives f (some_bytes (length left.rest.now) c.if-is_empty.ensures)
    (sym c.in_default.ensures.kind)

pub returns-clause-place : goal.returns-clause-place
returns-clause-place c =
    let left = c.in_ok-start.start in
    let f = follows_in_same left c.args.text c.in_ok-start.ensures.same in
    kind_is_in start left.at c.args.text.text.now left.rest.now (kind_view c.in-Some.kind)
    c.in-Some.len
    f (some_bytes (length left.rest.now) c.if-is_empty.ensures) (sym c.in-Some.ensures.kind)
