use Rattle.std.proofs.Common.{rules, tests, ◌≢◌, ◌<◌, length, slice_index, ◌∙◌, sym, ap, not}
use Rattle.std.{specs.Char.is_ascii_digit, proofs.lemmas.Bool.false≢true}
use Rattle.std.proofs.lemmas.Iterator.{YieldsList-from_slice, Search.all_from_yields_List}
use Rattle.replay.proofs.NumberTexts.{digits_when, whether_digits, plain_first}
use Rattle.replay.proofs.piece.is_count.Goals.{then-not-is_empty, else-not-is_empty}
use Rattle.replay.proofs.piece.is_count.Goals as goal

pub returns-then-text-ne48 : goal.returns-then-text-ne48
returns-then-text-ne48 c =
    let all = all_from_yields_List is_ascii_digit _ _ _ c.all.ensures.ran
    (YieldsList-from_slice c.args.text.now cc) (λ x b q k. search (rules, tests)) in
    let plain : (0 < length c.args.text.now) × (slice_index c.args.text.now 0 ≢ 48) =
    elim c.if-not-is_empty.branch [
      | then-not-is_empty w ↦ plain_first c.args.text.now c.is_empty.result
          c.if-not-is_empty.value w.if-not-is_empty.true c.is_empty.ensures c.if-text-ne48.true
          w.value-is
      | else-not-is_empty w ↦
          absurd (false≢true
          (sym (ap not w.if-not-is_empty.false) ∙ sym w.value-is ∙ c.if-text-ne48.true))
    ] in (
      λ t. ((plain.0, digits_when c.args.text.now (sym all ∙ t)), plain.1),
      λ h. all
          ∙ whether_digits c.args.text.now h.0.1,
    )
