use Rattle.std.proofs.Common.{◌≡◌, ◌∙◌, ◌++◌, ◌∷◌, [], rules, arith, sym, ap, subst, map, true, false, All, append-nil}
use Rattle.std.proofs.lemmas.List.{map_push}
use Rattle.runner_parts.specs.{Lines.is_blank, PartText.{IsPart, IsLineOf, part_view}}
use Rattle.runner_parts.proofs.PartLines.{no_part, its_part, only_blank, only_part}
use Rattle.runner_parts.proofs.lines.push_unless_blank.Goals.{then-not-is_blank+in_ok-part_from+in_ok-push, else-not-is_blank}
use Rattle.runner_parts.proofs.lines.push_unless_blank.Goals as goal

pub returns-in_err-part_from-clause-reads : goal.returns-in_err-part_from-clause-reads
returns-in_err-part_from-clause-reads c = λ xs fit lines.
    let solid : is_blank c.args.line.now ≡ false = search rules in
    let one = only_part c.args.line.now xs solid lines in
    let fits : IsPart one.0 = subst (All IsPart) one.1 fit 0 one.0 (omega arith) in
    let read = c.part_from.ensures.reads one.0 fits one.2 in
    search rules

pub returns-clause-is_line : goal.returns-clause-is_line
returns-clause-is_line c = elim c.if-not-is_blank.branch [
  | then-not-is_blank+in_ok-part_from+in_ok-push w ↦
      let part = w.in_ok-part_from.field-0 in
      let is : IsLineOf c.args.line.now (part_view part) = search rules in
      let solid : is_blank c.args.line.now ≡ false = search rules in
      let items : c.if-not-is_blank.parts.items ≡ c.args.parts.now.items ++ part ∷ [] =
      search rules in (
        part_view part ∷ [],
        its_part c.args.line.now (part_view part) solid is,
        ap (map part_view) items ∙ map_push part_view _ part,
      )
  | else-not-is_blank w ↦
      let blank : is_blank c.args.line.now ≡ true = search rules in
      let same : c.if-not-is_blank.parts.items ≡ c.args.parts.now.items = search rules in
      ([], no_part c.args.line.now blank, ap (map part_view) same ∙ sym (append-nil _))
]

pub returns-clause-reads : goal.returns-clause-reads
returns-clause-reads c = λ xs fit lines. elim c.if-not-is_blank.branch [
  | then-not-is_blank+in_ok-part_from+in_ok-push w ↦
      let part = w.in_ok-part_from.field-0 in
      let solid : is_blank c.args.line.now ≡ false = search rules in
      let one = only_part c.args.line.now xs solid lines in
      let fits : IsPart one.0 = subst (All IsPart) one.1 fit 0 one.0 (omega arith) in
      let read = w.part_from.ensures.reads one.0 fits one.2 in
      let same : part_view part ≡ one.0 = search rules in
      let items : c.if-not-is_blank.parts.items ≡ c.args.parts.now.items ++ part ∷ [] =
      search rules in
      ap (map part_view) items ∙ (map_push part_view _ part
      ∙ ap (λ ys. map part_view c.args.parts.now.items ++ ys)
      (ap (λ x. x ∷ []) same ∙ sym one.1))
  | else-not-is_blank w ↦
      let blank : is_blank c.args.line.now ≡ true = search rules in
      let none = only_blank c.args.line.now xs blank lines in
      let same : c.if-not-is_blank.parts.items ≡ c.args.parts.now.items = search rules in
      ap (map part_view) same ∙ (sym (append-nil _)
      ∙ ap (λ ys. map part_view c.args.parts.now.items ++ ys) (sym none))
]
