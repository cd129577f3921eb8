use Rattle.std.proofs.Common.{◌≡◌, ◌∙◌, ◌<◌, ◌+◌, ◌++◌, ◌∷◌, [], ap, sym, rules, tests, length, map, take, get_or}
use Rattle.std.proofs.lemmas.Iterator.Consumers.{YieldsList-end}
use Rattle.std.proofs.lemmas.List.{length-append, length-map, map_push}
use Rattle.runner_parts.specs.{Lines.lines_of, PartText.part_view}
use Rattle.runner_parts.proofs.PartLines.{yields_lines, next_line, next_number, none_left, joined, turned, refused_here}
use Rattle.runner_parts.proofs.lines.parts_from.Goals.{In-Some}
use Rattle.runner_parts.proofs.lines.parts_from.Goals as goal

-- the lines before that of a turn are those so far, and it is the next one of the text
next_is : (c : In-Some)
    → (map (λ x. x.now) c.loop-line.yielded
    ≡ take (length c.loop-line.yielded) (lines_of c.args.text.now))
    × (length c.loop-line.yielded < length (lines_of c.args.text.now))
    × (c.in-Some.line.now ≡ get_or (lines_of c.args.text.now) (length c.loop-line.yielded)
    c.in-Some.line.now)
next_is c = turned c.loop-line.yielded _ c.loop-line.yielded_by _ _ _ c.in-Some.is
    c.next.ensures.steps (yields_lines _ c.into_iter-line-iterator.ensures.into_iter_gives
    c.split-line-items.ensures.rest c.split-line-items.ensures.done
    c.split-line-items.ensures.closure (λ x r q k. search (rules, tests)))

pub returns-in-Err-clause-refused : goal.returns-in-Err-clause-refused
returns-in-Err-clause-refused c =
    let turn = next_is (goal.at.returns-in-Err-clause-refused c).In-Some in
    let long : length (map (λ x. x.now) c.loop-line.yielded) ≡ length c.loop-line.yielded =
    length-map c.loop-line.yielded (λ x. x.now) in
    refused_here c.args.text.now _ (map (λ x. x.now) c.loop-line.yielded) c.in-Some.line.now
    (map part_view c.loop-line.parts.items) (rw long turn.0) (rw long turn.1) (rw long turn.2)
    (rw long (next_number c.loop-line.number _ (length c.loop-line.yielded)
    c.loop-line.invariant.number c.saturating_add-number.ensures)) c.loop-line.invariant.are
    (λ ys fit are. let read = c.push_unless_blank.ensures.reads ys fit are in search rules)

pub returns-in-Err-clause-reads : goal.returns-in-Err-clause-reads
returns-in-Err-clause-reads c = λ xs fit lines.
    let turn = next_is (goal.at.returns-in-Err-clause-reads c).In-Some in
    let next = next_line (lines_of c.args.text.now) _ c.in-Some.line.now _ xs turn.1 turn.2 fit
    (c.loop-line.invariant.left xs fit lines) in
    let read = c.push_unless_blank.ensures.reads next.ys next.fit next.are in
    search rules

pub loop-line-preserved : goal.loop-line-preserved
loop-line-preserved c =
    let turn = next_is (goal.at.loop-line-preserved c).In-Some in
    let old = map part_view c.loop-line.parts.items in
    let one = c.in_default.ensures.is_line in
    let line = c.in-Some.line in
    let lines : map (λ x. x.now) (c.loop-line.yielded ++ line ∷ [])
    ≡ map (λ x. x.now) c.loop-line.yielded ++ line.now ∷ [] =
    map_push (λ x. x.now) c.loop-line.yielded line in
    let count : length (c.loop-line.yielded ++ line ∷ []) ≡ length c.loop-line.yielded + 1 =
    length-append c.loop-line.yielded (line ∷ []) in
    record {
      next = search rules;
      finite = search rules;
      number = rw count (next_number c.loop-line.number _ (length c.loop-line.yielded)
          c.loop-line.invariant.number c.saturating_add-number.ensures);
      are = rw (lines, one.2) (joined (map (λ x. x.now) c.loop-line.yielded) (line.now ∷ []) old
          one.0 c.loop-line.invariant.are one.1);
      left = λ xs fit lines.
          let next = next_line (lines_of c.args.text.now) (length c.loop-line.yielded) line.now
          old xs turn.1 turn.2 fit (c.loop-line.invariant.left xs fit lines) in
          let read = c.push_unless_blank.ensures.reads next.ys next.fit next.are in
          let same : map part_view c.push_unless_blank.new.parts.items ≡ old ++ next.ys =
          search rules in
          rw (count, same) next.left;
    }

-- all lines
all_read : (c : goal.In-None) → map (λ x. x.now) c.loop-line.yielded ≡ lines_of c.args.text.now
all_read c = (YieldsList-end (yields_lines _ c.into_iter-line-iterator.ensures.into_iter_gives
    c.split-line-items.ensures.rest c.split-line-items.ensures.done
    c.split-line-items.ensures.closure (λ x r q k. search (rules, tests)))
    c.loop-line.yielded _ c.loop-line.yielded_by _ _ c.in-None.is c.next.ensures.steps).0

pub returns-clause-are_lines : goal.returns-clause-are_lines
returns-clause-are_lines c = rw (all_read c) at c.loop-line.invariant.are

pub returns-clause-reads : goal.returns-clause-reads
returns-clause-reads c = λ xs fit lines.
    let long : length c.loop-line.yielded ≡ length (lines_of c.args.text.now) =
    sym (length-map c.loop-line.yielded (λ x. x.now)) ∙ ap length (all_read c) in
    none_left (lines_of c.args.text.now) _ xs
    (rw long at (c.loop-line.invariant.left xs fit lines))
