use Rattle.std.proofs.Common.{◌≡◌, ◌≢◌, ◌||◌, ◌∙◌, ℕ, nat_lt, length, true, false, refl, ap, sym, arith, inl, inr, rules}
use Rattle.std.proofs.lemmas.Bool.{cases_order}
use Rattle.semantics.{specs.Mask.has, proofs.Masks.{is_mask_of, none_left, members-without_first}}
use Rattle.semantics_schedules.specs.Sleep.{next_sleep_set}
use Rattle.semantics_machine.proofs.Sleepers.{enabled_are, both_true, asleep_where, untried, touches_apart}
use Rattle.semantics_machine.proofs.machine.Machine.sleep_set_after.Goals.{then-not-is_independent_of, else-not-is_independent_of}
use Rattle.semantics_machine.proofs.machine.Machine.sleep_set_after.Goals as goal

pub returns-then-is_empty : goal.returns-then-is_empty
returns-then-is_empty c = λ s shows on.
    let none = c.if-is_empty.ensures.none refl in
    let Z = has c.args.asleep in
    is_mask_of c.sleep_candidates-sleepers.result
    (next_sleep_set c.args._program.now s Z c.args.thread)
    (search rules)
    (λ v l. none v ∙ untried c.args._program.now c.args.self.now s Z c.args.thread
    c.sleep_candidates-sleepers.result shows c.sleep_candidates-sleepers.ensures.others v (none v))

pub loop-other-init : goal.loop-other-init
loop-other-init c =
    let all = c.sleep_candidates-sleepers.result in
    let apart : (v : ℕ) → has all v ≡ true → c.args.thread ≢ v =
    λ v h e. (let no : true ≡ false =
    sym h ∙ (ap (has all) (sym e) ∙ c.sleep_candidates-sleepers.ensures.itself) in cc) in
    record {
      fits = search rules;
      tried = λ v h. (
        apart v h,
        sym (c.sleep_candidates-sleepers.ensures.others v (λ e. apart v h (sym e))) ∙ h,
      );
      kept = λ v h. h;
      over = λ s shows on v h. h ∙ untried c.args._program.now c.args.self.now s
          (has c.args.asleep) c.args.thread all shows
          c.sleep_candidates-sleepers.ensures.others v h;
    }

pub touch-requires : goal.touch-requires
touch-requires c =
    let s = c.requires.0 in
    let shows = c.requires.1 in
    let tried = c.loop-other.invariant.tried c.in-Some.other c.in-Some.ensures.member.0 in (
      c.args._program.now,
      s,
      shows,
      sym (enabled_are c.args._program.now c.args.self.now s shows c.in-Some.other)
          ∙ (both_true _ _ tried.1).0,
    )

pub loop-other-smaller : goal.loop-other-smaller
loop-other-smaller c =
    let first = ap length c.in-Some.ensures.list in
    let rest = ap length (members-without_first c.loop-other.left c.with-left.result c.in-Some.other
    c.in-Some.ensures.member.2 (λ u l. c.in-Some.ensures.none u (omega arith) l)
    c.with-left.ensures.same c.with-left.ensures.others) in
    omega (arith, first, rest)

-- the other thread sleeps where its step is apart, and all else is as it was
now : (c : goal.After-with-left) → has c.if-not-is_independent_of.sleepers c.in-Some.other
    ≡ c.is_independent_of.result
now c = elim c.if-not-is_independent_of.branch [
  | then-not-is_independent_of w ↦ ap (λ m. has m c.in-Some.other) w.sleepers-is
      ∙ (w.with-sleepers.ensures.same ∙ sym w.if-not-is_independent_of.true)
  | else-not-is_independent_of w ↦ ap (λ m. has m c.in-Some.other) w.sleepers-is
      ∙ (c.loop-other.invariant.kept c.in-Some.other c.in-Some.ensures.member.0
      ∙ sym w.if-not-is_independent_of.false)
]

others : (c : goal.After-with-left) (v : ℕ) → v ≢ c.in-Some.other
    → has c.if-not-is_independent_of.sleepers v ≡ has c.loop-other.sleepers v
others c v ne = elim c.if-not-is_independent_of.branch [
  | then-not-is_independent_of w ↦ ap (λ m. has m v) w.sleepers-is
      ∙ w.with-sleepers.ensures.others v ne
  | else-not-is_independent_of w ↦ ap (λ m. has m v) w.sleepers-is
]

pub loop-other-preserved : goal.loop-other-preserved
loop-other-preserved c =
    let p = c.args._program.now in
    let Z = has c.args.asleep in
    let t = c.args.thread in
    let other = c.in-Some.other in
    let known = c.loop-other.invariant in
    let tried = known.tried other c.in-Some.ensures.member.0 in
    let both = both_true (has c.args.self.now.control.enabled other) (Z other || nat_lt other t)
    tried.1 in
    let left : (v : ℕ) → has c.with-left.result v ≡ true
    → (v ≢ other) × (has c.loop-other.left v ≡ true) = λ v h. elim (cases_order v other) [
      | inl e ↦ (let no : true ≡ false =
          sym h ∙ (ap (has c.with-left.result) e ∙ c.with-left.ensures.same) in cc)
      | inr (inl l) ↦ (let ne : v ≢ other = omega (arith, l) in
          (ne, sym (c.with-left.ensures.others v ne) ∙ h))
      | inr (inr l) ↦ (let ne : v ≢ other = omega (arith, l) in
          (ne, sym (c.with-left.ensures.others v ne) ∙ h))
    ] in
    record {
      fits = search rules;
      tried = λ v h. known.tried v (left v h).1;
      kept = λ v h. others c v (left v h).0 ∙ known.kept v (left v h).1;
      over = λ s shows on v h.
          let awake = sym (enabled_are p c.args.self.now s shows other) ∙ both.0 in
          elim (cases_order v other) [
            | inl e ↦ ap (has c.if-not-is_independent_of.sleepers) e ∙ (now c
                ∙ (asleep_where p s Z t other awake both.1 tried.0
                (touches_apart p s t other c.touch-step.result c.touch.result c.is_independent_of.result
                on awake (c.touch-step.ensures p s shows on) (c.touch.ensures p s shows awake)
                c.is_independent_of.ensures)
                ∙ ap (next_sleep_set p s Z t) (sym e)))
            | inr (inl l) ↦ (let ne : v ≢ other = omega (arith, l) in
                others c v ne
                ∙ known.over s shows on v (sym (c.with-left.ensures.others v ne) ∙ h))
            | inr (inr l) ↦ (let ne : v ≢ other = omega (arith, l) in
                others c v ne
                ∙ known.over s shows on v (sym (c.with-left.ensures.others v ne) ∙ h))
          ];
    }

pub returns : goal.returns
returns c = λ s shows on.
    is_mask_of c.loop-other.sleepers
    (next_sleep_set c.args._program.now s (has c.args.asleep) c.args.thread)
    c.loop-other.invariant.fits
    (λ v l. c.loop-other.invariant.over s shows on v
    (none_left c.loop-other.left 0 v c.in_default.ensures.list (omega arith) l))
