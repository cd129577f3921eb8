use Rattle.std.proofs.Common.{◌≡◌, rules, ap, codes}
use Rattle.runner_report.specs.ReportText.{kind_data, values_data}
use Rattle.serde_json.specs.{Find.get, View.view}
use Rattle.runner_parts.proofs.reading.end_of.Goals as goal

pub returns-in_err-field : goal.returns-in_err-field
returns-in_err-field c = λ v fit e.
    let found = c.field.ensures (kind_data v.kind) (ap (get (codes "kind")) e) in search rules

pub returns-in_err-kind : goal.returns-in_err-kind
returns-in_err-kind c = λ v fit e.
    let found = c.field.ensures (kind_data v.kind) (ap (get (codes "kind")) e) in
    let same : view c.in_ok-field.field-0.now ≡ kind_data v.kind = search rules in
    let read = c.kind_of.ensures v.kind same in search rules

pub returns-in_err-field-2 : goal.returns-in_err-field-2
returns-in_err-field-2 c = λ v fit e.
    let found = c.field-2.ensures (values_data v.vars) (ap (get (codes "vars")) e) in search rules

pub returns-in_err-vars : goal.returns-in_err-vars
returns-in_err-vars c = λ v fit e.
    let found = c.field-2.ensures (values_data v.vars) (ap (get (codes "vars")) e) in
    let same : view c.in_ok-field-2.field-0.now ≡ values_data v.vars = search rules in
    let read = c.values_of.ensures v.vars fit same in search rules

pub returns : goal.returns
returns c = λ v fit e.
    let first = c.field.ensures (kind_data v.kind) (ap (get (codes "kind")) e) in
    let at_kind : view c.in_ok-field.field-0.now ≡ kind_data v.kind = search rules in
    let read_kind = c.kind_of.ensures v.kind at_kind in
    let kind : c.in_ok-kind.kind ≡ v.kind = search rules in
    let second = c.field-2.ensures (values_data v.vars) (ap (get (codes "vars")) e) in
    let at_vars : view c.in_ok-field-2.field-0.now ≡ values_data v.vars = search rules in
    let read_vars = c.values_of.ensures v.vars fit at_vars in
    let vars : c.in_ok-vars.vars.items ≡ v.vars = search rules in
    rw (kind, vars) at c.new.ensures
