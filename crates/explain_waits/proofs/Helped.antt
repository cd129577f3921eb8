-- What helps, one instruction after the other.
use Rattle.std.specs.Prelude.{◌↔◌, ◌||◌, ◌&&◌, not, IsTrue}
use Rattle.std.proofs.Common.{◌≡◌, ◌∙◌, ℕ, ◌+◌, ◌<◌, inl, inr, Bool, true, false, List, length, arith, sym, subst, ap, refl, get_or}
use Rattle.std.proofs.lemmas.Bool.{cases_lt, or_cases, or_left, or_right, and_parts, and_from, both_ways}
use Rattle.guest_code.specs.declared.program.Instruction.{Instruction, TheVariants.Skip}
use Rattle.explain_waits.specs.{Endings.writes_one, Fates.is_to_come, declared.fate.Fate.Fate}
use Rattle.explain_waits.specs.declared.{fate.Fate.TheVariants.OutOfReach, look.Look.Look}
use Rattle.explain_waits.specs.inner.Rows.{FindsChange, FindsHelp}

not_true : (b : Bool) → not b ≡ true → b ≡ false
not_true true h = sym h
not_true false h = refl

-- before the first instruction only what goes on as things are
pub help_none : (code : List Instruction) (fates : List Fate) (look : Look) (b : Bool)
    → b ≡ not look.sleeps → IsTrue b ↔ FindsHelp code fates look 0
help_none code fates look b is = (
  λ h. inl (not_true look.sleeps (sym is ∙ h)),
  λ found. elim found [
    | inl goes ↦ is ∙ ap not goes
    | inr change ↦ absurd (omega (arith, change.before))
  ],
)

change_more : (code : List Instruction) (fates : List Fate) (look : Look) (n : ℕ)
    → FindsChange code fates look n → FindsChange code fates look (n + 1)
change_more code fates look n found = record {
  at = found.at;
  before = let l : found.at < n + 1 = omega (arith, found.before) in l;
  within = found.within;
  comes = found.comes;
  writes = found.writes;
}

-- one more
pub help_more : (code : List Instruction) (fates : List Fate) (look : Look) (n : ℕ)
    (old new comes writes : Bool) → n < length code → new ≡ (old || (comes && writes))
    → comes ≡ is_to_come (get_or fates n OutOfReach)
    → writes ≡ writes_one look.variables.items (get_or code n (Skip 0))
    → (IsTrue old ↔ FindsHelp code fates look n)
    → IsTrue new ↔ FindsHelp code fates look (n + 1)
help_more code fates look n old new comes writes l is e f before = (
  λ h. elim (or_cases old (comes && writes) (sym is ∙ h)) [
    | inl was ↦ elim (before.0 was) [
      | inl goes ↦ inl goes
      | inr change ↦ inr (change_more code fates look n change)
    ]
    | inr now ↦ (let parts = and_parts comes writes now in inr (record {
      at = n;
      before = let l : n < n + 1 = omega arith in l;
      within = l;
      comes = sym e ∙ parts.0;
      writes = sym f ∙ parts.1;
    }))
  ],
  λ found. is ∙ elim found [
    | inl goes ↦ or_left old (comes && writes) (before.1 (inl goes))
    | inr change ↦ elim (cases_lt change.at n) [
      | inl less ↦ or_left old (comes && writes) (before.1 (inr (record {
        at = change.at;
        before = less;
        within = change.within;
        comes = change.comes;
        writes = change.writes;
      })))
      | inr more ↦ (let same : change.at ≡ n = omega (arith, change.before, more) in
          let P : ℕ → Type 0 = λ k. is_to_come (get_or fates k OutOfReach) ≡ true in
          let Q : ℕ → Type 0 = λ k.
          IsTrue (writes_one look.variables.items (get_or code k (Skip 0))) in
          or_right old (comes && writes) (and_from comes writes (e ∙ subst P same change.comes)
          (f ∙ subst Q same change.writes)))
    ]
  ],
)

-- what ends a wait, is ahead and helps was found
pub not_all : (ends ahead helps : Bool) → ((ends && ahead) && helps) ≡ false → ends ≡ true
    → ahead ≡ true → helps ≡ true → ⊥
not_all ends ahead helps not_so e a h = both_ways ((ends && ahead) && helps) not_so
    (and_from (ends && ahead) helps (and_from ends ahead e a) h)
