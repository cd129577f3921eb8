use Rattle.std.proofs.Common.{◌≡◌, rules, arith, map, get_or, []}
use Rattle.std.proofs.lemmas.List.{take_more, take_all}
use Rattle.semantics.specs.{View.View, declared.view.Kind.TheVariants.Done}
use Rattle.serde_json.specs.View.{view, items_of, items_view}
use Rattle.runner_report.specs.ReportText.{end_data}
use Rattle.runner_parts.proofs.ReadLists.{items_same, as_long, item_at}
use Rattle.runner_parts.proofs.reading.ends_of.Goals as goal

-- a view for places past the end
none : View
none = record { kind = Done; vars = [] }

pub returns-in_err-end_of : goal.returns-in_err-end_of
returns-in_err-end_of c = λ views fit e.
    let i = c.loop-value.value-index in
    let items : items_view c.deref-value-items.result.now ≡ items_of (map end_data views) =
    search rules in
    let values = items_same _ _ items in
    let long = as_long end_data _ views values in
    let there = item_at end_data _ views i c.value-item.result none values c.loop-value-test.true in
    let at : view c.value-item.result ≡ end_data (get_or views i none) = search rules in
    let read = c.end_of.ensures (get_or views i none)
    (fit i none (omega (arith, long, c.loop-value-test.true))) at in
    search rules

pub loop-value-preserved : goal.loop-value-preserved
loop-value-preserved c = λ views fit e.
    let i = c.loop-value.value-index in
    let long = as_long end_data _ views e in
    let there = item_at end_data _ views i c.value-item.result none e c.loop-value-test.true in
    let at : view c.value-item.result ≡ end_data (get_or views i none) = search rules in
    let read = c.end_of.ensures (get_or views i none)
    (fit i none (omega (arith, long, c.loop-value-test.true))) at in
    let more = take_more views i none (omega (arith, long, c.loop-value-test.true)) in
    let before = c.loop-value.invariant views fit e in
    let end : c.in_ok-end_of.field-0 ≡ get_or views i none = search rules in
    search rules

pub returns : goal.returns
returns c = λ views fit e.
    let items : items_view c.deref-value-items.result.now ≡ items_of (map end_data views) =
    search rules in
    let values = items_same _ _ items in
    let long = as_long end_data _ views values in
    let read = c.loop-value.invariant views fit values in
    let all = take_all c.loop-value.value-index views
    (omega (arith, long, c.loop-value-test.false)) in
    search rules
