use Rattle.std.proofs.Common.{◌≡◌, ◌≢◌, ◌&&◌, ◌||◌, not, nat_lt, nat_eq, ◌∙◌, arith, below_more, sym, ap, rules, inl, inr, refl, ℕ, Bool, true, false}
use Rattle.std.proofs.lemmas.Bool.{cases_lt}
use Rattle.guest_code.specs.Program.{Program}
use Rattle.semantics.specs.{Machine.{Snapshot, is_enabled, next_of}, Mask.has}
use Rattle.semantics.{specs.declared.mask.Mask.Mask, proofs.Masks.{is_mask_of, none_left}}
use Rattle.semantics_schedules.specs.Sleep.{apart, independent, next_sleep_set}
use Rattle.semantics_schedules.proofs.independence.sleep_set_after.Goals.{then-is_tried_before, else-is_tried_before, then-tried, else-tried}
use Rattle.semantics_schedules.proofs.independence.sleep_set_after.Goals as goal

both : (a b x : Bool) → ((a && b) && x) ≡ (a && (b && x))
both true b x = refl
both false b x = refl

-- the thread comes before, and is another one
tried_is : (c : goal.After-with-sleepers)
    → c.if-is_tried_before.tried ≡ ((has c.args.asleep c.in-Some.other || nat_lt c.in-Some.other
    c.args.thread) && not (nat_eq c.args.thread c.in-Some.other))
tried_is c = elim c.if-is_tried_before.branch [
  | then-is_tried_before w ↦ w.tried-is ∙ ap (λ b. b && not (nat_eq c.args.thread c.in-Some.other))
      (sym (sym c.is_tried_before.ensures ∙ w.if-is_tried_before.true))
  | else-is_tried_before w ↦ w.tried-is ∙ (w.if-is_tried_before.false ∙
      ap (λ b. b && not (nat_eq c.args.thread c.in-Some.other))
      (sym (sym c.is_tried_before.ensures ∙ w.if-is_tried_before.false)))
]

sleeps_is : (c : goal.After-with-sleepers)
    → c.if-tried.sleeps ≡ next_sleep_set c.args.program.now c.args.state.now (has c.args.asleep)
    c.args.thread c.in-Some.other
unfolding independent
sleeps_is c = here ∙ (ap (λ b. b && both_apart) (tried_is c) ∙
    (both before differ both_apart ∙ ap (λ b. b && (before && (differ && both_apart)))
    (sym enabled)))
  where
    before : Bool
    before = has c.args.asleep c.in-Some.other || nat_lt c.in-Some.other c.args.thread

    differ : Bool
    differ = not (nat_eq c.args.thread c.in-Some.other)

    both_apart : Bool
    both_apart = apart (next_of c.args.program.now c.args.state.now c.args.thread)
        (next_of c.args.program.now c.args.state.now c.in-Some.other)

    enabled : is_enabled c.args.program.now c.args.state.now c.in-Some.other ≡ true
    enabled = sym (c.requires.enabled c.in-Some.other) ∙ c.in-Some.ensures.member.0

    here : c.if-tried.sleeps ≡ (c.if-is_tried_before.tried && both_apart)
    here = elim c.if-tried.branch [
      | then-tried w ↦ w.sleeps-is ∙ (w.are_next_steps_independent-sleeps.ensures ∙
          ((λ i. apart (c.next_action-step.ensures.value i) (w.next_action.ensures.value i)) ∙
          ap (λ b. b && both_apart) (sym w.if-tried.true)))
      | else-tried w ↦ w.sleeps-is ∙ (w.if-tried.false ∙ ap (λ b. b && both_apart)
          (sym w.if-tried.false))
    ]

-- who is not enabled doesn't sleep
disabled : (p : Program) (s : Snapshot) (asleep : Mask) (t v : ℕ) → is_enabled p s v ≡ false
    → false ≡ next_sleep_set p s (has asleep) t v
disabled p s asleep t v off = ap (λ e. e && ((has asleep v || nat_lt v t) && independent p s t v))
    (sym off)

pub loop-other-preserved : goal.loop-other-preserved
loop-other-preserved c = record {
  fits = search rules;
  near = omega (arith, c.in-Some.ensures.member.2);
  below = below_more _ _
      (λ k h. let ne : k ≢ c.in-Some.other = omega (arith, h) in c.with-sleepers.ensures.others k
      ne ∙ elim (cases_lt k c.loop-other.from) [
        | inl a ↦ c.loop-other.invariant.below k a
        | inr b ↦ c.loop-other.invariant.above k b ∙ disabled c.args.program.now c.args.state.now
            c.args.asleep c.args.thread k (sym (c.requires.enabled k) ∙ c.in-Some.ensures.none k b
            h)
      ])
      (c.with-sleepers.ensures.same ∙ sleeps_is c);
  above = λ k h. let ne : k ≢ c.in-Some.other =
      omega (arith, h) in c.with-sleepers.ensures.others k ne ∙ c.loop-other.invariant.above k
      (omega (arith, h, c.in-Some.ensures.member.1));
}

pub returns : goal.returns
returns c =
    is_mask_of c.loop-other.sleepers (next_sleep_set c.args.program.now c.args.state.now
    (has c.args.asleep) c.args.thread) c.loop-other.invariant.fits
    (λ t l. elim (cases_lt t c.loop-other.from) [
      | inl a ↦ c.loop-other.invariant.below t a
      | inr b ↦ c.loop-other.invariant.above t b ∙ disabled c.args.program.now c.args.state.now
          c.args.asleep c.args.thread t (sym (c.requires.enabled t) ∙ none_left c.args.enabled
          c.loop-other.from t c.in_default.ensures.list b l)
    ])
