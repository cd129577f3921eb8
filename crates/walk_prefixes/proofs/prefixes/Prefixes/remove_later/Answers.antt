use Rattle.std.proofs.Common.{◌≡◌, ◌<◌, ◌-◌, true, false, [], ◌∷◌, filter, not, length, take, sym, ◌∙◌, ap, arith, length-append}
use Rattle.walk_prefixes.specs.PrefixLists.{is_later, last_of}
use Rattle.walk_prefixes.proofs.Later.{last_too, last_same, left_and_dropped}
use Rattle.walk_prefixes.proofs.ListFields.{last_in, some_in}
use Rattle.walk_prefixes.proofs.prefixes.Prefixes.remove_later.Goals as goal
use Rattle.walk_prefixes.proofs.prefixes.Prefixes.remove_later.Goals.{then-is_later, else-is_later}

-- what is left
left : (c : goal.After-len) →
    c.if-is_later.self ≡ filter (λ p. not (is_later c.args.schedule.now p)) c.args.self.now
left c =
    let s = c.args.schedule.now in
    let old = c.args.self.now in
    let mid = c.mark_later.new.self in
    let some : 0 < length old = omega (arith, c.len-before.ensures.length, c.if-before-eq0.false) in
    let before = filter (λ p. not (is_later s p)) (take (length old - 1) old) in
    let more : 0 < length mid =
    omega (arith, ap length c.mark_later.ensures, length-append before (last_of old ∷ [])) in
    let same : c.as_slice.result.now ≡ last_of old =
    c.as_slice.ensures.value
    ∙ (sym (last_in c.self.inside mid c.self.view_is (some_in c.self.inside mid c.self.view_is more))
    ∙ (ap last_of c.mark_later.ensures ∙ last_same before (last_of old))) in
    let is : c.is_later.result ≡ is_later s (last_of old) = c.is_later.ensures ∙ ap (is_later s) same in
    elim c.if-is_later.branch [
      | then-is_later w ↦ last_too s old mid _ true some c.mark_later.ensures
          (sym is ∙ w.if-is_later.true) (w.self-is ∙ w.pop.ensures)
      | else-is_later w ↦ last_too s old mid _ false some c.mark_later.ensures
          (sym is ∙ w.if-is_later.false) w.self-is
    ]

pub returns-clause-list : goal.returns-clause-list
returns-clause-list c = left c

pub overflow_sub-result : goal.overflow_sub-result
overflow_sub-result c =
    omega (
      arith,
      c.len.ensures.length,
      c.len-before.ensures.length,
      ap length (left c),
      left_and_dropped (is_later c.args.schedule.now) c.args.self.now,
    )

pub returns-clause-number : goal.returns-clause-number
returns-clause-number c =
    omega (
      arith,
      c.len.ensures.length,
      c.len-before.ensures.length,
      ap length (left c),
      left_and_dropped (is_later c.args.schedule.now) c.args.self.now,
    )
