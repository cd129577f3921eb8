use Rattle.std.proofs.Common.{◌≡◌, ◌∙◌, rules, ap}
use Rattle.std.proofs.lemmas.Result.{IfOk-weaker}
use Rattle.serde_json.specs.{View.view, Written.compact_text}
use Rattle.runner_parts.specs.PartText.{part_data, part_view}
use Rattle.runner_parts.proofs.PartTexts.{part_whole, part_shallow, both}
use Rattle.runner_parts.proofs.printing.part_line.Goals as goal

pub returns-clause-text : goal.returns-clause-text
returns-clause-text c =
    let x = part_view c.args.part.now in
    let same : view c.in_ok-part_value.field-0 ≡ part_data x = search rules in
    IfOk-weaker c.to_vec.result _ _
    (λ line text. text (rw same (part_whole x)) ∙ ap compact_text same) c.to_vec.ensures.text

pub returns-clause-reads : goal.returns-clause-reads
returns-clause-reads c =
    let x = part_view c.args.part.now in
    let same : view c.in_ok-part_value.field-0 ≡ part_data x = search rules in
    IfOk-weaker c.to_vec.result _ _
    (λ line read. record { utf8 = read.0; reads = rw same at (read.1 (rw same (part_shallow x))) })
    (both c.to_vec.result _ _ c.to_vec.ensures.utf8 c.to_vec.ensures.reads_back)
