use Rattle.std.proofs.Common.{◌≡◌, ◌⊎◌, ◌++◌, take, drop, ap, sym, subst, ◌∙◌}
use Rattle.std.proofs.lemmas.List.{take-append-drop}
use Rattle.guest_syntax.specs.Pieces.{IsGapBefore, IsWhole, IsStray}
use Rattle.guest_syntax.proofs.pieces.PiecesIterator.next.Goals as goal

pub returns-clause-steps : goal.returns-clause-steps
returns-clause-steps c =
    let bytes = c.args.self.now.left.rest.now in
    let gap = take c.gap_len.result bytes in
    let left = c.advance-start.result.rest.now in
    let text = take c.piece_len-len.result left in
    let whole : text ++ c.advance-self.result.rest.now ≡ drop c.gap_len.result bytes =
    ap (λ r. text ++ r) c.advance-self.ensures.rest
    ∙ take-append-drop c.piece_len-len.result left ∙ c.advance-start.ensures.rest in (
      record {
        gap = gap;
        parts = sym (take-append-drop c.gap_len.result bytes) ∙ ap (λ r. gap ++ r) (sym whole);
        is_gap = subst (IsGapBefore gap) (sym whole) c.gap_len.ensures.gap;
        place = c.advance-start.ensures.at;
        is = subst (λ r. IsWhole text r ⊎ IsStray text r) (sym c.advance-self.ensures.rest)
            c.piece_len-len.ensures.is;
      },
      c.advance-self.ensures.at,
    )
