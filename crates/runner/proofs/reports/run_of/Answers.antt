use Rattle.std.proofs.Common.{◌≡◌, ◌∙◌, sym, true, false}
use Rattle.runner.proofs.reports.run_of.Goals as goal

not_both : true ≡ false → ⊥
not_both e = cc

pub unreachable-requires : goal.unreachable-requires
unreachable-requires c =
    let h = rw c.in-Err-NoSuchThread.field-0-is at c.in-Err-NoSuchThread.ensures.value in
    not_both (sym c.requires
    ∙ c.one_place_is_the_first_bad.ensures.fails _ _ c.in-Err-NoSuchThread.field-0-0 h.0)

pub unreachable-requires-in-Err-NotEnabled : goal.unreachable-requires-in-Err-NotEnabled
unreachable-requires-in-Err-NotEnabled c =
    let h = rw c.in-Err-NotEnabled.field-0-is at c.in-Err-NotEnabled.ensures.value in
    not_both (sym c.requires
    ∙ c.one_place_is_the_first_bad.ensures.fails _ _ c.in-Err-NotEnabled.field-0-0 h.0)
