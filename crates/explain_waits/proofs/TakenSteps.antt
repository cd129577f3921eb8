-- What came of the instructions of a thread, one step after the other.
use Rattle.std.proofs.Common.{◌≡◌, ◌≢◌, ◌∙◌, ℕ, ◌+◌, ◌<◌, inl, inr, ℤ, true, false, List, [], ◌∷◌, ◌++◌, length, Option, Some, arith, sym, subst, get_or, refl}
use Rattle.std.specs.{List.slice_get, Option.IsSomeAnd}
use Rattle.std.proofs.lemmas.Bool.{cases_lt, cases_eq, both_ways}
use Rattle.std.proofs.lemmas.List.{length-set, get_or_push, get_or_append_left, get_or-set_same, get_or-set_other}
use Rattle.guest_code.specs.{Program.{Program, code_of}, declared.program.Instruction.Instruction}
use Rattle.explain_run.specs.declared.{explanation.Explanation.Explanation, step.Step.Step}
use Rattle.explain_waits.specs.Fates.{CarriesOut, IsLeft, IsFate, Fates, is_to_come, locals_of, place_of}
use Rattle.explain_waits.specs.declared.fate.Fate.{Fate}
use Rattle.explain_waits.specs.declared.fate.Fate.TheVariants.{Taken, Ahead, Perhaps, OutOfReach}
use Rattle.explain_waits.specs.inner.Taking.{AreFates, taken_by, with_taken}

-- a step more that doesn't carry it out
left_more : (steps : List Step) (t i n : ℕ) → ¬ CarriesOut steps t i n → IsLeft steps t i n
    → IsLeft steps t i (n + 1)
left_more steps t i n other before k h = elim (cases_lt k n) [
  | inl less ↦ before k less
  | inr more ↦ (let same : n ≡ k = omega (arith, h, more) in
      let P : ℕ → Type 0 = λ k. ¬ CarriesOut steps t i k in subst P same other)
]

-- what came of an instruction that the step at place n doesn't carry out
kept : (code : List Instruction) (from : ℕ) (locals : List ℤ) (steps : List Step)
    (t i n : ℕ) (fate : Fate) → ¬ CarriesOut steps t i n → IsFate code from locals steps t i n fate
    → IsFate code from locals steps t i (n + 1) fate
kept code from locals steps t i n (Taken k) other before =
    let l : k < n + 1 = omega (arith, before.0) in (l, before.1, before.2)
kept code from locals steps t i n Ahead other before =
    (left_more steps t i n other before.0, before.1, before.2)
kept code from locals steps t i n Perhaps other before =
    (left_more steps t i n other before.0, before.1, before.2)
kept code from locals steps t i n OutOfReach other before =
    (left_more steps t i n other before.0, before.1)

-- and of one that it does
put : (code : List Instruction) (from : ℕ) (locals : List ℤ) (steps : List Step)
    (t i n : ℕ) (fate : Fate) → CarriesOut steps t i n → IsFate code from locals steps t i n fate
    → IsFate code from locals steps t i (n + 1) (taken_by fate n)
put code from locals steps t i n (Taken k) there before =
    let l : k < n + 1 = omega (arith, before.0) in (l, before.1, before.2)
put code from locals steps t i n Ahead there before =
    let l : n < n + 1 = omega arith in (l, there, before.0)
put code from locals steps t i n Perhaps there before =
    let l : n < n + 1 = omega arith in (l, there, before.0)
put code from locals steps t i n OutOfReach there before =
    let l : n < n + 1 = omega arith in (l, there, before.0)

-- a step of another thread
pub passed_other : (code : List Instruction) (from : ℕ) (locals : List ℤ) (steps : List Step)
    (t n : ℕ) (step : Step) (fates : List Fate) → slice_get steps n ≡ Some step → step.line.thread ≢ t
    → AreFates code from locals steps t n fates → AreFates code from locals steps t (n + 1) fates
passed_other code from locals steps t n step fates at other before = record {
  all = before.all;
  each = λ i h. kept code from locals steps t i n (get_or fates i OutOfReach)
      (λ there. other (subst (λ o. IsSomeAnd o
      (λ step. (step.line.thread ≡ t) × (step.instruction ≡ i))) at there).0)
      (before.each i h);
}

-- the fate of an instruction after it was carried out
at_own : (fates : List Fate) (j i n : ℕ) → j ≡ i → i < length fates
    → get_or (with_taken fates j n) i OutOfReach ≡ taken_by (get_or fates i OutOfReach) n
at_own fates j i n e h =
    let P : ℕ → Type 0 = λ j. get_or (with_taken fates j n) i OutOfReach
    ≡ taken_by (get_or fates i OutOfReach) n in
    subst P (sym e) (get_or-set_same fates i (taken_by (get_or fates i OutOfReach) n) OutOfReach h)

-- a step of the thread
pub passed_own : (code : List Instruction) (from : ℕ) (locals : List ℤ) (steps : List Step)
    (t n : ℕ) (step : Step) (fates : List Fate) → slice_get steps n ≡ Some step → step.line.thread ≡ t
    → AreFates code from locals steps t n fates
    → AreFates code from locals steps t (n + 1) (with_taken fates step.instruction n)
passed_own code from locals steps t n step fates at own before =
    let j = step.instruction in
    let there : (i : ℕ) → Option Step → Type 0 = λ i o. IsSomeAnd o
    (λ step. (step.line.thread ≡ t) × (step.instruction ≡ i)) in
    record {
      all = length-set fates j (taken_by (get_or fates j OutOfReach) n) ∙ before.all;
      each = λ i h.
          let P : Fate → Type 0 = λ fate. IsFate code from locals steps t i (n + 1) fate in
          elim (cases_eq j i) [
            | inl same ↦ subst P
                (sym (at_own fates j i n same (omega (arith, before.all, h))))
                (put code from locals steps t i n (get_or fates i OutOfReach)
                (subst (there i) (sym at) (own, same)) (before.each i h))
            | inr other ↦ subst P
                (sym (get_or-set_other fates j i (taken_by (get_or fates j OutOfReach) n) OutOfReach
                (λ e. other (sym e))))
                (kept code from locals steps t i n (get_or fates i OutOfReach)
                (λ carries. other (subst (there i) at carries).1) (before.each i h))
          ];
    }

-- an instruction has one fate: where it is ahead, no other
pub is_ahead : (code : List Instruction) (from : ℕ) (locals : List ℤ) (steps : List Step)
    (t i n : ℕ) (fate : Fate) → IsFate code from locals steps t i n fate → IsFate code from locals steps t i n Ahead → fate ≡ Ahead
is_ahead code from locals steps t i n (Taken k) fate ahead = absurd (ahead.0 k fate.0 fate.1)
is_ahead code from locals steps t i n Ahead fate ahead = refl
is_ahead code from locals steps t i n Perhaps fate ahead = absurd (ahead.2 fate.2)
is_ahead code from locals steps t i n OutOfReach fate ahead = absurd (fate.1 ahead.1)

-- and where it is to come, so by each of its fates
pub to_come : (code : List Instruction) (from : ℕ) (locals : List ℤ) (steps : List Step)
    (t i n : ℕ) (fate other : Fate) → IsFate code from locals steps t i n fate
    → IsFate code from locals steps t i n other → is_to_come other ≡ true
    → is_to_come fate ≡ true
to_come code from locals steps t i n Ahead other is says comes = refl
to_come code from locals steps t i n Perhaps other is says comes = refl
to_come code from locals steps t i n (Taken k) Ahead is says comes =
    absurd (says.0 k is.0 is.1)
to_come code from locals steps t i n (Taken k) Perhaps is says comes =
    absurd (says.0 k is.0 is.1)
to_come code from locals steps t i n OutOfReach Ahead is says comes = absurd (is.1 says.1)
to_come code from locals steps t i n OutOfReach Perhaps is says comes = absurd (is.1 says.1)
to_come code from locals steps t i n (Taken k) (Taken j) is says comes =
    absurd (both_ways false refl comes)
to_come code from locals steps t i n (Taken k) OutOfReach is says comes =
    absurd (both_ways false refl comes)
to_come code from locals steps t i n OutOfReach (Taken j) is says comes =
    absurd (both_ways false refl comes)
to_come code from locals steps t i n OutOfReach OutOfReach is says comes =
    absurd (both_ways false refl comes)

-- those of a thread of a program
pub fates_from : (p : Program) (told : Explanation) (t : ℕ) (code : List Instruction) (from : ℕ)
    (locals : List ℤ) (steps : List Step) (fates : List Fate) → code ≡ code_of p t
    → from ≡ place_of told t → locals ≡ locals_of told t → steps ≡ told.steps.items
    → AreFates code from locals steps t (length steps) fates → Fates p told t fates
fates_from p told t code from locals steps fates e f h g are =
    let P : List Instruction → Type 0 = λ code. AreFates code from locals steps t (length steps)
    fates in
    let Q : ℕ → Type 0 = λ from. AreFates (code_of p t) from locals steps t (length steps) fates in
    let R : List ℤ → Type 0 = λ locals. AreFates (code_of p t) (place_of told t) locals steps t
    (length steps) fates in
    let S : List Step → Type 0 = λ steps. AreFates (code_of p t) (place_of told t) (locals_of told t)
    steps t (length steps) fates in
    let all = subst S g (subst R h (subst Q f (subst P e are))) in
    record { all = all.all; each = all.each }

-- one thread after the other
pub fates_of_more : (p : Program) (told : Explanation) (n : ℕ) (old new : List (List Fate))
    (fates : List Fate) → length old ≡ n → new ≡ old ++ fates ∷ []
    → ((t : ℕ) → t < n → Fates p told t (get_or old t [])) → Fates p told n fates
    → (t : ℕ) → t < n + 1 → Fates p told t (get_or new t [])
fates_of_more p told n old new fates count pushed before next t h =
    let P : List (List Fate) → Type 0 = λ all. Fates p told t (get_or all t []) in
    let Q : List Fate → Type 0 = λ fates. Fates p told t fates in
    let R : ℕ → Type 0 = λ t. Fates p told t fates in
    subst P (sym pushed) (elim (cases_lt t n) [
      | inl less ↦ subst Q
          (sym (get_or_append_left old (fates ∷ []) [] t (omega (arith, count, less))))
          (before t less)
      | inr more ↦ (let same : n ≡ t = omega (arith, h, more) in
          subst Q (sym (get_or_push old fates [] t (count ∙ same))) (subst R same next))
    ])
