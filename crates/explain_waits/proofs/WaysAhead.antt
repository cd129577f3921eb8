-- What is ahead by the marks of the settled code is what ways lead to.
use Rattle.std.specs.Prelude.{◌↔◌, ◌||◌, IsTrue}
use Rattle.std.proofs.Common.{◌≡◌, ◌∙◌, ℕ, ◌+◌, ◌<◌, ◌≤◌, inl, inr, ℤ, Bool, true, false, cond, List, [], ◌∷◌, ◌++◌, length, min, max, arith, sym, subst, ap, refl, get_or, nat_lt}
use Rattle.std.proofs.lemmas.Bool.{cases_lt, cases_Bool, or_cases, or_left, or_right, both_ways, ltb-true, lt-ltb}
use Rattle.std.proofs.lemmas.List.{get_or_push, get_or_append_left}
use Rattle.guest_code.specs.{Program.skip_of, declared.program.Instruction.Instruction}
use Rattle.guest_code.specs.declared.program.Instruction.TheVariants.{Skip}
use Rattle.check_lint.specs.{Paths.{Goes, Marks, mark_of, no_mark}, declared.paths.Mark.Mark}
use Rattle.check_lint.specs.declared.paths.Watch.TheVariants.{Nothing}
use Rattle.explain_run.{specs.declared.step.Step.Step, proofs.Pushed.one_longer}
use Rattle.explain_waits.specs.{Fates.{IsLeft, IsFate}, Ways.{Way, here, on, GoesOn}}
use Rattle.explain_waits.specs.declared.fate.Fate.{Fate}
use Rattle.explain_waits.specs.declared.fate.Fate.TheVariants.{Taken, Ahead, Perhaps, OutOfReach}
use Rattle.explain_waits.specs.inner.Settling.{IsSettled, IsSettledAt, PassesFrom, ReachesTo}
use Rattle.explain_waits.specs.inner.Taking.{AreByMarks, AreFates, ArePassed, fate_by}
use Rattle.explain_waits.proofs.SettledWays.{goes_settled, ways_settled}

-- no way goes on from the end, or from past it
past : (code : List Instruction) (from : ℕ) (locals : List ℤ) (j : ℕ) → Way code from locals j
    → length code ≤ from → j ≡ from
past code from locals j here h = refl
past code from locals j (on {i = i} way goes) h =
    absurd (omega (arith, goes.0.0, past code from locals i way h, h))

none_yet : (steps : List Step) (t i : ℕ) → IsLeft steps t i 0
none_yet steps t i k h = absurd (omega (arith, h))

no_way : (code : List Instruction) (from : ℕ) (locals : List ℤ) (i : ℕ) → length code ≤ from
    → i < length code → ¬ Way code from locals i
no_way code from locals i h l way = omega (arith, past code from locals i way h, h, l)

out_of_reach : (code : List Instruction) (from : ℕ) (locals : List ℤ) (steps : List Step)
    (t i : ℕ) (fate : Fate) → i < length code → length code ≤ from
    → IsFate code (min from (length code)) locals steps t i 0 fate
    → IsFate code from locals steps t i 0 fate
out_of_reach code from locals steps t i (Taken k) l h so = absurd (omega (arith, so.0))
out_of_reach code from locals steps t i Ahead l h so =
    absurd (no_way code (min from (length code)) locals i (omega arith) l so.1)
out_of_reach code from locals steps t i Perhaps l h so =
    absurd (no_way code (min from (length code)) locals i (omega arith) l so.1)
out_of_reach code from locals steps t i OutOfReach l h so =
    (so.0, no_way code from locals i h l)

-- a place past the end leads nowhere, as the end does
pub same_fate : (code : List Instruction) (from : ℕ) (locals : List ℤ) (steps : List Step)
    (t i : ℕ) (fate : Fate) → i < length code
    → IsFate code (min from (length code)) locals steps t i 0 fate
    → IsFate code from locals steps t i 0 fate
same_fate code from locals steps t i fate l so = elim (cases_lt from (length code)) [
  | inl inside ↦ (let e : min from (length code) ≡ from = omega arith in
      let P : ℕ → Type 0 = λ k. IsFate code k locals steps t i 0 fate in subst P e so)
  | inr outside ↦ out_of_reach code from locals steps t i fate l outside so
]

marked : (ms : List Mark) (i : ℕ) (b : Bool) → IsTrue (mark_of (get_or ms i no_mark) b)
    → IsTrue ((get_or ms i no_mark).may_hold || (get_or ms i no_mark).may_not_hold)
marked ms i true h =
    or_left (get_or ms i no_mark).may_hold (get_or ms i no_mark).may_not_hold h
marked ms i false h =
    or_right (get_or ms i no_mark).may_hold (get_or ms i no_mark).may_not_hold h

-- the marks of an instruction say whether a way leads to it
pub marks_way : (code : List Instruction) (from : ℕ) (locals : List ℤ)
    (settled : List Instruction) (ms : List Mark) (i : ℕ) → IsSettled code from locals settled
    → Marks ms settled Nothing from false
    → IsTrue ((get_or ms i no_mark).may_hold || (get_or ms i no_mark).may_not_hold)
    ↔ Way code from locals i
marks_way code from locals settled ms i is marks =
    let may = (get_or ms i no_mark).may_hold in
    let may_not = (get_or ms i no_mark).may_not_hold in
    let both = ways_settled code from locals settled i is in (
      λ h. elim (or_cases may may_not h) [
        | inl so ↦ both.0 (true, marks.sound i true so)
        | inr not_so ↦ both.0 (false, marks.sound i false not_so)
      ],
      λ way. marked ms i (both.1 way).0 (marks.complete i (both.1 way).0 (both.1 way).1),
    )

pub none_passes : (code : List Instruction) (from : ℕ) (locals : List ℤ)
    → ReachesTo code from locals 0 0
none_passes code from locals i = (λ h. absurd (omega (arith, h)), λ p. absurd (omega (arith, p.2)))

passes_more : (code : List Instruction) (from : ℕ) (locals : List ℤ) (n i : ℕ)
    → PassesFrom code from locals n i → PassesFrom code from locals (n + 1) i
passes_more code from locals n i p =
    (p.0, p.1, (let l : p.0 < n + 1 = omega (arith, p.2) in l), p.3, p.4, p.5)

-- what may be next after an instruction is no further than its jump leads
next_within : (i : Instruction) (n j : ℕ) → Goes i n j → j ≤ n + 1 + skip_of i
next_within i n j (inl e) = omega (arith, e)
next_within i n j (inr e) = omega (arith, e.1)

further : (code : List Instruction) (from : ℕ) (locals : List ℤ) (n reach new : ℕ)
    (i : Instruction) (k : ℕ) → n < length code → IsSettledAt code from locals n i
    → new ≡ max reach (n + 1 + skip_of i) → ReachesTo code from locals n reach
    → PassesFrom code from locals (n + 1) k → k < new
further code from locals n reach new i k l at made before p = elim (cases_lt p.0 n) [
  | inl less ↦ (let r = (before k).1 (p.0, p.1, less, p.3, p.4, p.5) in omega (arith, made, r))
  | inr more ↦ (let same : p.0 ≡ n = omega (arith, p.2, more) in
      let P : ℕ → Type 0 = λ m. GoesOn code from locals m p.1 in
      let goes = (goes_settled code from locals n p.1 i l at).1 (subst P same p.5) in
      omega (arith, made, next_within i n p.1 goes, p.3))
]

-- how far ways lead from one instruction more
pub reach_more : (code : List Instruction) (from : ℕ) (locals : List ℤ) (n reach new : ℕ)
    (b : Bool) (i : Instruction) → n < length code → IsSettledAt code from locals n i
    → (IsTrue b ↔ Way code from locals n) → new ≡ cond b (max reach (n + 1 + skip_of i)) reach
    → ReachesTo code from locals n reach → ReachesTo code from locals (n + 1) new
reach_more code from locals n reach new true i l at says made before = λ k. (
  λ h. elim (cases_lt k reach) [
    | inl less ↦ passes_more code from locals n k ((before k).0 less)
    | inr more ↦ (let goes = (goes_settled code from locals n (n + 1 + skip_of i) i l at).0 (inl refl) in
        (n, n + 1 + skip_of i, omega arith, omega (arith, made, h, more), says.0 refl, goes))
  ],
  λ p. further code from locals n reach new i k l at made before p,
)
reach_more code from locals n reach new false i l at says made before = λ k. (
  λ h. passes_more code from locals n k ((before k).0 (omega (arith, made, h))),
  λ p. elim (cases_lt p.0 n) [
    | inl less ↦ (let r = (before k).1 (p.0, p.1, less, p.3, p.4, p.5) in omega (arith, made, r))
    | inr more ↦ (let same : p.0 ≡ n = omega (arith, p.2, more) in
        let P : ℕ → Type 0 = λ m. Way code from locals m in
        absurd (both_ways false refl (says.1 (subst P same p.4))))
  ],
)

-- what came of an instruction, by its mark and by how far ways lead from those before it
pub fate_by_ways : (code : List Instruction) (from : ℕ) (locals : List ℤ) (steps : List Step)
    (t i reach : ℕ) (mark : Mark)
    → (IsTrue (mark.may_hold || mark.may_not_hold) ↔ Way code from locals i)
    → ReachesTo code from locals i reach
    → IsFate code from locals steps t i 0 (fate_by mark (nat_lt i reach))
fate_by_ways code from locals steps t i reach mark says reaches =
    let P : Bool → Bool → Type 0 = λ b c. IsFate code from locals steps t i 0
    (cond b (cond c Perhaps Ahead) OutOfReach) in
    let b = mark.may_hold || mark.may_not_hold in
    let c = nat_lt i reach in
    elim (cases_Bool b) [
      | inl way ↦ elim (cases_Bool c) [
        | inl less ↦ (let Q : Bool → Type 0 = λ c. P b c in
            let R : Bool → Type 0 = λ b. P b true in
            subst Q (sym less) (subst R (sym way) (
              none_yet steps t i,
              says.0 way,
              (reaches i).0 (ltb-true i reach less),
            )))
        | inr more ↦ (let Q : Bool → Type 0 = λ c. P b c in
            let R : Bool → Type 0 = λ b. P b false in
            subst Q (sym more) (subst R (sym way) (
              none_yet steps t i,
              says.0 way,
              λ passes. both_ways c more (lt-ltb i reach ((reaches i).1 passes)),
            )))
      ]
      | inr none ↦ (let R : Bool → Type 0 = λ b. P b c in
          subst R (sym none) (none_yet steps t i, λ way. both_ways b none (says.1 way)))
    ]

-- one instruction after the other
pub fates_more : (code : List Instruction) (from : ℕ) (locals : List ℤ) (steps : List Step)
    (t n : ℕ) (old new : List Fate) (fate : Fate) → length old ≡ n → new ≡ old ++ fate ∷ []
    → ((i : ℕ) → i < n → IsFate code from locals steps t i 0 (get_or old i OutOfReach))
    → IsFate code from locals steps t n 0 fate
    → (i : ℕ) → i < n + 1 → IsFate code from locals steps t i 0 (get_or new i OutOfReach)
fates_more code from locals steps t n old new fate count pushed before next i h =
    let P : List Fate → Type 0 = λ l. IsFate code from locals steps t i 0 (get_or l i OutOfReach) in
    let Q : Fate → Type 0 = λ fate. IsFate code from locals steps t i 0 fate in
    let R : ℕ → Type 0 = λ i. IsFate code from locals steps t i 0 fate in
    subst P (sym pushed) (elim (cases_lt i n) [
      | inl less ↦ subst Q
          (sym (get_or_append_left old (fate ∷ []) OutOfReach i (omega (arith, count, less))))
          (before i less)
      | inr more ↦ (let same : n ≡ i = omega (arith, h, more) in
          subst Q (sym (get_or_push old fate OutOfReach i (count ∙ same))) (subst R same next))
    ])

pub passed_none : (settled : List Instruction) (ms : List Mark)
    → ArePassed settled ms 0 0 []
passed_none settled ms = record {
  found = record {
    all = refl;
    each = λ code from locals is marks steps t i h. absurd (omega (arith, h));
  };
  reaches = λ code from locals is marks. none_passes code from locals;
}

pub passed_more : (settled : List Instruction) (ms : List Mark) (n reach further_ : ℕ)
    (old new : List Fate) (fate : Fate) (mark : Mark) (i : Instruction) → n < length settled
    → mark ≡ get_or ms n no_mark → i ≡ get_or settled n (Skip 0)
    → fate ≡ fate_by mark (nat_lt n reach) → new ≡ old ++ fate ∷ []
    → further_ ≡ cond (mark.may_hold || mark.may_not_hold) (max reach (n + 1 + skip_of i)) reach
    → ArePassed settled ms n reach old → ArePassed settled ms (n + 1) further_ new
passed_more settled ms n reach further_ old new fate mark i l e f made pushed reached before =
    let ways : (code : List Instruction) (from : ℕ) (locals : List ℤ)
    → IsSettled code from locals settled → Marks ms settled Nothing from false
    → IsTrue (mark.may_hold || mark.may_not_hold) ↔ Way code from locals n =
    λ code from locals is marks.
    let P : Mark → Type 0 = λ m. IsTrue (m.may_hold || m.may_not_hold)
    ↔ Way code from locals n in
    subst P (sym e) (marks_way code from locals settled ms n is marks) in
    record {
      found = record {
        all = one_longer old new fate n pushed before.found.all;
        each = λ code from locals is marks steps t.
            let Q : Fate → Type 0 = λ fate. IsFate code from locals steps t n 0 fate in
            fates_more code from locals steps t n old new fate before.found.all pushed
            (before.found.each code from locals is marks steps t)
            (subst Q (sym made) (fate_by_ways code from locals steps t n reach mark
            (ways code from locals is marks) (before.reaches code from locals is marks)));
      };
      reaches = λ code from locals is marks.
          let R : Instruction → Type 0 = λ i. IsSettledAt code from locals n i in
          let inside : n < length code = omega (arith, is.all, l) in
          reach_more code from locals n reach further_ (mark.may_hold || mark.may_not_hold) i
          inside (subst R (sym f) (is.each n inside)) (ways code from locals is marks) reached
          (before.reaches code from locals is marks);
    }

-- what came of all instructions
pub by_marks : (code : List Instruction) (place from : ℕ) (locals : List ℤ)
    (settled there : List Instruction) (ms those : List Mark) (fates : List Fate)
    → from ≡ min place (length code) → IsSettled code from locals settled → there ≡ settled
    → Marks ms there Nothing from false → those ≡ ms
    → AreByMarks there those (length there) fates
    → (steps : List Step) (t : ℕ) → AreFates code place locals steps t 0 fates
by_marks code place from locals settled there ms those fates begun is e marks f found steps t =
    let P : List Instruction → Type 0 = λ s. IsSettled code from locals s in
    let Q : List Mark → Type 0 = λ ms. Marks ms there Nothing from false in
    let R : ℕ → ℕ → Fate → Type 0 = λ k i fate. IsFate code k locals steps t i 0 fate in
    record {
      all = found.all ∙ (ap length e ∙ is.all);
      each = λ i h.
          let S : ℕ → Type 0 = λ k. R k i (get_or fates i OutOfReach) in
          let l : i < length there = omega (arith, ap length e, is.all, h) in
          same_fate code place locals steps t i (get_or fates i OutOfReach) h
          (subst S begun (found.each code from locals (subst P (sym e) is) (subst Q (sym f) marks)
          steps t i l));
    }
