-- Marks of instructions while they are passed one after the other.
use Rattle.std.proofs.Common.{◌≡◌, ℕ, ◌+◌, ◌<◌, ◌≤◌, inl, inr, Bool, List, length, get_or, Some, arith, sym, subst, refl, below_more}
use Rattle.std.proofs.lemmas.List.{get_or_default}
use Rattle.guest_code.specs.Program.{skip_of, JumpsWithin}
use Rattle.guest_code.specs.declared.program.Instruction.{Instruction, TheVariants.Skip}
use Rattle.check_lint.specs.Paths.{Goes, Next, Comes, here, on, after, Marked, Marks}
use Rattle.check_lint.specs.declared.paths.{Mark.Mark, Watch.Watch}
use Rattle.check_lint.specs.inner.Marking.{AddsOne, AddsAll}

-- the next ones come later
goes_on : (i : Instruction) (k j : ℕ) → Goes i k j → k < j
goes_on i k j (inl e) = omega arith
goes_on i k j (inr e) = omega (arith, e.1)

not_back : (i : Instruction) (n k : ℕ) → Goes i n k → k < n + 1 → ⊥
not_back i n k goes lt = omega (arith, goes_on i n k goes)

-- the marks of a code of which the first n instructions were passed
pub record Passed (ms : List Mark) (code : List Instruction) (w : Watch) (s : ℕ) (b : Bool)
    (n : ℕ) : Type 0 where
  pub sound : (j : ℕ) (c : Bool) → Marked ms j c → Comes code w s b j c
  pub begun : Marked ms s b
  -- the next ones of those that were passed are marked
  pub closed : (k : ℕ) → k < n → (j : ℕ) (c d : Bool) → Marked ms k c → Next code k j
      → after w (get_or code k (Skip 0)) c ≡ Some d → Marked ms j d

only_start : (code : List Instruction) (w : Watch) (s : ℕ) (b : Bool) (j : ℕ) (c : Bool)
    → (j ≡ s) × (c ≡ b) → Comes code w s b j c
only_start code w s b j c (same, way) =
    let P : ℕ → Type 0 = λ k. Comes code w s b k c in
    let Q : Bool → Type 0 = λ d. Comes code w s b s d in
    subst P (sym same) (subst Q (sym way) here)

pub passed_none : (old new : List Mark) (code : List Instruction) (w : Watch) (s : ℕ) (b : Bool)
    → ((j : ℕ) (c : Bool) → ¬ Marked old j c) → AddsOne old new s b → Passed new code w s b 0
passed_none old new code w s b none adds = record {
  sound = λ j c marked. elim (adds.only j c marked) [
    | inl before ↦ absurd (none j c before)
    | inr more ↦ only_start code w s b j c more
  ];
  begun = adds.there s b (refl, refl);
  closed = λ k lt. absurd (omega arith);
}

sound_goes_on : (old new : List Mark) (code : List Instruction) (w : Watch) (s : ℕ) (b : Bool) (n : ℕ)
    → n < length code → AddsAll old new n (get_or code n (Skip 0)) w → Passed old code w s b n
    → (j : ℕ) (c : Bool) → Marked new j c → Comes code w s b j c
sound_goes_on old new code w s b n lt adds passed j c marked = elim (adds.only j c marked) [
  | inl before ↦ passed.sound j c before
  | inr more ↦ on (passed.sound n more.0 more.1) (lt, more.2) more.3
]

-- one that was passed has no new mark
old_mark : (old new : List Mark) (i : Instruction) (w : Watch) (n k : ℕ) (c : Bool) → k < n + 1
    → AddsAll old new n i w → Marked new k c → Marked old k c
old_mark old new i w n k c lt adds marked = elim (adds.only k c marked) [
  | inl before ↦ before
  | inr more ↦ absurd (not_back i n k more.2 lt)
]

pub passed_more : (old new : List Mark) (code : List Instruction) (w : Watch) (s : ℕ) (b : Bool) (n : ℕ)
    → n < length code → AddsAll old new n (get_or code n (Skip 0)) w → Passed old code w s b n
    → Passed new code w s b (n + 1)
passed_more old new code w s b n lt adds passed = record {
  sound = sound_goes_on old new code w s b n lt adds passed;
  begun = adds.kept s b passed.begun;
  closed = λ k less j c d marked next goes.
      let P : ℕ → Type 0 = λ k. (j : ℕ) (c d : Bool) → Marked old k c → Next code k j
      → after w (get_or code k (Skip 0)) c ≡ Some d → Marked new j d in
      let all : (k : ℕ) → k < n + 1 → P k = below_more P n
      (λ k h j c d mk nx e. adds.kept j d (passed.closed k h j c d mk nx e))
      (λ j c d mk nx e. adds.there j d (c, mk, nx.1, e)) in
      all k less j c d (old_mark old new (get_or code n (Skip 0)) w n k c less adds marked) next goes;
}

complete : (ms : List Mark) (code : List Instruction) (w : Watch) (s : ℕ) (b : Bool)
    → Passed ms code w s b (length code) → (j : ℕ) (c : Bool) → Comes code w s b j c
    → Marked ms j c
complete ms code w s b passed j c here = passed.begun
complete ms code w s b passed j c (on {i = i} {c = d} path next goes) =
    passed.closed i next.0 j d c (complete ms code w s b passed i d path) next goes

-- all were passed
pub passed_all : (ms : List Mark) (code : List Instruction) (w : Watch) (s : ℕ) (b : Bool) (n : ℕ)
    → length code ≤ n → n ≤ length code → Passed ms code w s b n → Marks ms code w s b
passed_all ms code w s b n all within passed =
    let end : n ≡ length code = omega arith in
    let P : ℕ → Type 0 = λ k. Passed ms code w s b k in
    let whole : Passed ms code w s b (length code) = subst P end passed in
    record { sound = whole.sound; complete = complete ms code w s b whole }

-- one more, however it is read
pub passed_step : (old new : List Mark) (code : List Instruction) (w : Watch) (s : ℕ) (b : Bool) (n : ℕ)
    (d : Instruction) → n < length code → AddsAll old new n (get_or code n d) w
    → Passed old code w s b n → Passed new code w s b (n + 1)
passed_step old new code w s b n d lt adds passed =
    let P : Instruction → Type 0 = λ i. AddsAll old new n i w in
    passed_more old new code w s b n lt (subst P (get_or_default code n d (Skip 0) lt) adds) passed

-- no jump leaves a code
pub jump_fits : (code : List Instruction) (n : ℕ) (d : Instruction) → JumpsWithin code
    → n < length code → n + 1 + skip_of (get_or code n d) ≤ length code
jump_fits code n d jumps lt =
    let P : Instruction → Type 0 = λ i. n + 1 + skip_of i ≤ length code in
    subst P (sym (get_or_default code n d (Skip 0) lt)) (jumps n lt)
