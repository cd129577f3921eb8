use Rattle.std.proofs.Common.{◌≡◌, ◌∙◌, rules, sym, ap}
use Rattle.serde_json.specs.Written.{compact_text}
use Rattle.runner_parts.{specs.PartText.part_view, proofs.PartTexts.part_whole}
use Rattle.runner_parts.proofs.reading.check_printed.Goals as goal

pub returns-clause-refused : goal.returns-clause-refused
returns-clause-refused c = λ same.
    let x = part_view c.args.part.now in
    let found = c.in_ok-found.ensures.text (rw same (part_whole x)) in
    let alike : c.in_ok-found.found.items ≡ c.in_ok-printed.printed.items =
    found ∙ (ap compact_text same ∙ sym c.in_ok-printed.ensures.text) in
    search rules
