use Rattle.std.proofs.Common.{◌∙◌, List, [], ℕ, sym, subst, ap, map, take, get_or, arith}
use Rattle.std.{specs.List.{All, Contains}, proofs.lemmas.List.{take_more, take_all}}
use Rattle.std.proofs.lemmas.List.Elements.{All-push}
use denote.Ref.{Bor}
use Rattle.semantics.{specs.Waiters.In, proofs.ListMembers.{in_contains, in_map, at_in}}
use Rattle.walk_items.specs.Items.{ItemView}
use Rattle.walk_cover.proofs.{Covered.other_means, Listed.{set_keys, key_listed, key_off}}
use Rattle.walk_cover.proofs.covering.unreached_error.Goals as goal

-- no prefix
abbrev none : Bor (List ℕ)
none = record { ref_ptr = (0, 0); now = [] }

pub returns-then-not-contains-clause-some : goal.returns-then-not-contains-clause-some
returns-then-not-contains-clause-some c = λ p mode h.
    let q = get_or c.args.prefixes.now c.loop-prefix.prefix-index none in
    other_means mode p (map (λ x. x.now) c.args.prefixes.now) c.args.items.now q.now
    c.in_ok-nested_or_unused.field-0 h
    (in_map (λ (x : Bor (List ℕ)). x.now) c.args.prefixes.now q
    (at_in c.args.prefixes.now c.loop-prefix.prefix-index none c.loop-prefix-test.true))
    (λ m. key_off q c.as_slice.result.now
    (sym (set_keys q c.as_slice.result.now c.in_ok-reached.reached c.contains.result
    c.in_ok-reached.ensures c.contains.ensures) ∙ c.if-not-contains.true)
    (subst (λ xs. In xs q.now) (sym c.in_ok-own.ensures
    ∙ ap (map (λ (x : Bor (List ℕ)). x.now)) (sym c.as_slice.ensures.value)) m))
    c.in_ok-nested_or_unused.ensures

pub loop-prefix-preserved : goal.loop-prefix-preserved
loop-prefix-preserved c =
    let q = get_or c.args.prefixes.now c.loop-prefix.prefix-index none in
    subst (All (λ x. Contains (map (λ (i : ItemView). i.prefix) c.args.items.now) x.now))
    (sym (take_more c.args.prefixes.now c.loop-prefix.prefix-index none c.loop-prefix-test.true))
    (All-push (λ x. Contains (map (λ (i : ItemView). i.prefix) c.args.items.now) x.now)
    (take c.loop-prefix.prefix-index c.args.prefixes.now) q c.loop-prefix.invariant
    (in_contains (map (λ (i : ItemView). i.prefix) c.args.items.now) q.now
    (subst (λ xs. In xs q.now)
    (ap (map (λ (x : Bor (List ℕ)). x.now)) c.as_slice.ensures.value ∙ c.in_ok-own.ensures)
    (key_listed q c.as_slice.result.now
    (sym (set_keys q c.as_slice.result.now c.in_ok-reached.reached c.contains.result
    c.in_ok-reached.ensures c.contains.ensures) ∙ c.if-not-contains.false)))))

pub returns-clause-none : goal.returns-clause-none
returns-clause-none c =
    subst (All (λ x. Contains (map (λ (i : ItemView). i.prefix) c.args.items.now) x.now))
    (take_all c.loop-prefix.prefix-index c.args.prefixes.now
    (omega (arith, c.loop-prefix-test.false))) c.loop-prefix.invariant
