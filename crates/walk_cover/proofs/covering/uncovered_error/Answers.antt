use Rattle.std.proofs.Common.{◌≡◌, ◌∙◌, false, sym, subst, map, take, ap, length, arith}
use Rattle.std.proofs.lemmas.List.{take_all}
use Rattle.semantics_schedules.specs.Schedules.{begins_with}
use Rattle.semantics.{specs.Waiters.In, proofs.ListMembers.in_map}
use Rattle.walk_cover.proofs.Covered.{bare_missing, longer_unused}
use Rattle.walk_cover.proofs.Listed.{all_off, all_values, found_in, none_found}
use Rattle.walk_cover.proofs.covering.uncovered_error.Goals as goal

pub returns-then-not-any_begins_with : goal.returns-then-not-any_begins_with
returns-then-not-any_begins_with c = λ p mode h.
    let is = c.in_ok-to_vec.ensures.items_if_clones_equal (λ x y e. e) in
    bare_missing mode p (map (λ x. x.now) c.args.prefixes.now) c.args.item.now c.loop-steps.steps
    c.in_ok-to_vec.field-0.items h
    (is ∙ ap (take c.loop-steps.steps) c.prefix-schedule.ensures.prefix)
    (all_values (λ y. begins_with c.in_ok-to_vec.field-0.items y ≡ false) c.args.prefixes.now
    (λ x m. ap (λ w. begins_with w x.now) is
    ∙ all_off (λ y. begins_with (take c.loop-steps.steps c.prefix-schedule.result.now) y.now)
    c.args.prefixes.now (sym c.any_begins_with.ensures ∙ c.if-not-any_begins_with.true) x m))

pub returns-in_ok-to_vec-in-Some : goal.returns-in_ok-to_vec-in-Some
returns-in_ok-to_vec-in-Some c = λ p mode h.
    let is = c.in_ok-to_vec-in-Some.ensures.items_if_clones_equal (λ x y e. e) in
    let one = found_in (λ x. begins_with c.prefix-schedule.result.now x.now) c.args.prefixes.now
    c.in-Some.longer (sym c.first_that_begins_with.ensures ∙ c.in-Some.is) in
    longer_unused mode p (map (λ x. x.now) c.args.prefixes.now) c.args.item.now
    c.in_ok-to_vec-in-Some.field-0.items h
    (subst (In (map (λ x. x.now) c.args.prefixes.now)) (sym is)
    (in_map (λ x. x.now) c.args.prefixes.now c.in-Some.longer one.0))
    (ap (begins_with c.args.item.now.prefix) is
    ∙ (ap (λ v. begins_with v c.in-Some.longer.now) (sym c.prefix-schedule.ensures.prefix)
    ∙ one.1))

pub returns-in_ok-to_vec-in-None : goal.returns-in_ok-to_vec-in-None
returns-in_ok-to_vec-in-None c = λ p mode h.
    let is = c.in_ok-to_vec-in-None.ensures.items_if_clones_equal (λ x y e. e) in
    bare_missing mode p (map (λ x. x.now) c.args.prefixes.now) c.args.item.now
    (length c.args.item.now.prefix) c.in_ok-to_vec-in-None.field-0.items h
    (is ∙ (c.prefix-schedule.ensures.prefix ∙ sym (take_all (length c.args.item.now.prefix)
    c.args.item.now.prefix (omega arith))))
    (all_values (λ y. begins_with c.in_ok-to_vec-in-None.field-0.items y ≡ false)
    c.args.prefixes.now (λ x m. ap (λ w. begins_with w x.now) is
    ∙ none_found (λ y. begins_with c.prefix-schedule.result.now y.now) c.args.prefixes.now
    (sym c.first_that_begins_with.ensures ∙ c.in-None.is) x m))
