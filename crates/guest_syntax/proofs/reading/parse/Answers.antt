use Rattle.std.proofs.Common.{arith}
use Rattle.guest_syntax.specs.Place.{start}
use Rattle.guest_syntax.proofs.PlacesInText.{nothing_follows, follows_left, follows_after}
use Rattle.guest_syntax.proofs.TreeOfText.{found, only, refused}
use Rattle.guest_syntax.proofs.reading.parse.Goals as goal

pub returns-clause-found : goal.returns-clause-found
returns-clause-found c = found c.args.text.now c.tree.result c.if-text-gt-TEXT_BYTES.false
    c.tree.ensures.gives

pub returns-clause-only : goal.returns-clause-only
returns-clause-only c = λ t s. only c.args.text.now c.tree.result c.tree.ensures.gives t s

pub returns-clause-refused : goal.returns-clause-refused
returns-clause-refused c = refused c.args.text.now c.tree.result
    (λ t s. only c.args.text.now c.tree.result c.tree.ensures.gives t s)

pub returns-then-text-gt-TEXT_BYTES-clause-place : goal.returns-then-text-gt-TEXT_BYTES-clause-place
returns-then-text-gt-TEXT_BYTES-clause-place c =
    c.if-text-gt-TEXT_BYTES.true

pub invariant_of-cursor : goal.invariant_of-cursor
invariant_of-cursor c =
    let text = c.args.text.now in
    let f = nothing_follows text start in
    record {
      left = follows_left text text start f;
      place = follows_after text text start f;
      lines = omega (arith, c.if-text-gt-TEXT_BYTES.false);
      cols = omega (arith, c.if-text-gt-TEXT_BYTES.false);
    }
