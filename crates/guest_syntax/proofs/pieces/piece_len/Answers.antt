use Rattle.std.proofs.Common.{inl, inr, sym}
use Rattle.guest_syntax.{specs.reader.TokenViews.kind_view, proofs.PiecesOfText.{whole, stray}}
use Rattle.guest_syntax.proofs.pieces.piece_len.Goals as goal

pub returns-in-Some-clause-some : goal.returns-in-Some-clause-some
returns-in-Some-clause-some c = (whole c.args.text.now (kind_view c.in-Some.field-0-0) c.in-Some.len
    c.requires (sym c.in-Some.ensures.kind)).0

pub returns-in-Some-clause-is : goal.returns-in-Some-clause-is
returns-in-Some-clause-is c = inl (whole c.args.text.now (kind_view c.in-Some.field-0-0)
    c.in-Some.len c.requires (sym c.in-Some.ensures.kind)).1

pub returns-in-None-clause-is : goal.returns-in-None-clause-is
returns-in-None-clause-is c = inr (stray c.args.text.now c.requires (sym c.in-None.ensures.kind))
