use Rattle.std.proofs.Common.{arith, take}
use Rattle.std.proofs.lemmas.List.{length-take}
use Rattle.guest_syntax.specs.Place.{start}
use Rattle.guest_syntax.proofs.PlacesInText.{nothing_follows, follows_left, follows_after}
use Rattle.guest_syntax.proofs.pieces.Pieces.new.Goals as goal

pub invariant_of-left : goal.invariant_of-left
invariant_of-left c =
    let text = take c.min.result c.args.text.now in
    let f = nothing_follows text start in
    record {
      left = follows_left text text start f;
      place = follows_after text text start f;
      lines = omega (arith, c.min.ensures, length-take c.min.result c.args.text.now);
      cols = omega (arith, c.min.ensures, length-take c.min.result c.args.text.now);
    }
