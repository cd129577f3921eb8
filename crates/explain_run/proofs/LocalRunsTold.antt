-- What a local run sets, one instruction after the other.
use Rattle.std.proofs.Common.{◌≡◌, ℕ, zero, suc, ◌+◌, ◌<◌, ℤ, pos, min, true, false, cond, List, [], ◌∷◌, ◌++◌, length, drop, get_or, set, get_or-set_same, refl, ap, ◌∙◌, sym, arith}
use Rattle.std.proofs.{Math.Seq.drop-cons, lemmas.List.drop-drop}
use Rattle.guest_code.specs.{Program.LocalsBelow, declared.program.Instruction.Instruction}
use Rattle.guest_code.specs.declared.program.Instruction.TheVariants.{Set, Assert, SkipIfZero, Skip}
use Rattle.semantics.specs.{Machine.{value_of_expression, is_zero}, Turns.{turn_of, locals_after}}
use Rattle.semantics.specs.declared.local.Turn.{Turn, TheVariants.{Runs, Fails}}
use Rattle.semantics.proofs.LocalRuns.{after_first}
use Rattle.explain_run.specs.{Settings.settings_in, declared.assignments.Assignment.Assignment}
use Rattle.explain_run.specs.inner.Runs.{set_at}

-- what is set after the instruction of which this came
abbrev pub settings_on : List Instruction → Turn → List ℤ → List Assignment
settings_on code (Runs next) locals = settings_in (drop next code) next 0 locals
settings_on code _ locals = []

-- to pass instructions is to be after them
settings_past : (is : List Instruction) (at skip : ℕ) (locals : List ℤ)
    → settings_in (drop (min skip (length is)) is) (at + min skip (length is)) 0 locals
    ≡ settings_in is at skip locals
settings_past [] at skip locals =
    ap (λ m. settings_in (drop m []) (at + m) 0 locals)
    (let e : min skip 0 ≡ 0 = omega arith in e)
settings_past (i ∷ is) at zero locals =
    ap (λ m. settings_in (drop m (i ∷ is)) (at + m) 0 locals)
    (let e : min 0 (length (i ∷ is)) ≡ 0 = omega arith in e)
    ∙ ap (λ n. settings_in (i ∷ is) n 0 locals) (let e : at + 0 ≡ at = omega arith in e)
settings_past (i ∷ is) at (suc skip) locals =
    let m : ℕ = min skip (length is) in
    ap (λ n. settings_in (drop n (i ∷ is)) (at + n) 0 locals)
    (let e : min (suc skip) (length (i ∷ is)) ≡ suc m = omega arith in e)
    ∙ (ap (λ n. settings_in (drop m is) n 0 locals)
    (let e : at + suc m ≡ at + 1 + m = omega arith in e)
    ∙ settings_past is (at + 1) skip locals)

passed_on : (code : List Instruction) (i : Instruction) (is : List Instruction) (at skip : ℕ)
    (locals : List ℤ) → drop at code ≡ i ∷ is
    → settings_in (drop (at + 1 + min skip (length is)) code) (at + 1 + min skip (length is)) 0
    locals ≡ settings_in is (at + 1) skip locals
passed_on code i is at skip locals here =
    let m : ℕ = min skip (length is) in
    ap (λ rest. settings_in rest (at + 1 + m) 0 locals)
    (sym (drop-drop m (at + 1) code) ∙ ap (drop m) (after_first code i is at here))
    ∙ settings_past is (at + 1) skip locals

-- what comes first is set, and then the rest
set_first : (code : List Instruction) (i : Instruction) (is : List Instruction) (at : ℕ)
    (locals : List ℤ) → drop at code ≡ i ∷ is → LocalsBelow (length locals) i
    → set_at at i (locals_after locals (i ∷ is))
    ++ settings_on code (turn_of at locals (i ∷ is)) (locals_after locals (i ∷ is))
    ≡ settings_in (i ∷ is) at 0 locals
set_first code (Set r e) is at locals here below =
    let v : ℤ = value_of_expression locals e in
    let new : List ℤ = set locals r v in
    (λ j. record { instruction = at; local = r; value = get_or-set_same locals r v (pos 0) below.0 j }
    ∷ settings_in (after_first code (Set r e) is at here j) (at + 1) 0 new)
set_first code (Assert e) is at locals here below =
    elim (is_zero (value_of_expression locals e)) as
    (λ b. settings_on code (cond b Fails (Runs (at + 1))) locals
    ≡ cond b [] (settings_in is (at + 1) 0 locals)) [
      | true ↦ refl
      | false ↦ ap (λ rest. settings_in rest (at + 1) 0 locals)
          (after_first code (Assert e) is at here)
    ]
set_first code (SkipIfZero e n) is at locals here below =
    passed_on code (SkipIfZero e n) is at (cond (is_zero (value_of_expression locals e)) n 0)
    locals here
set_first code (Skip n) is at locals here below = passed_on code (Skip n) is at n locals here
set_first code i is at locals here below = refl

pub set_run : (code : List Instruction) (at next : ℕ) (old new : List ℤ) (d : Instruction)
    → at < length code → LocalsBelow (length old) (get_or code at d)
    → Runs next ≡ turn_of at old (drop at code) → new ≡ locals_after old (drop at code)
    → set_at at (get_or code at d) new ++ settings_in (drop next code) next 0 new
    ≡ settings_in (drop at code) at 0 old
set_run code at next old new d inside below came after =
    let i : Instruction = get_or code at d in
    let rest : List Instruction = drop (suc at) code in
    let here : drop at code ≡ i ∷ rest = drop-cons code at d inside in
    (λ j. set_at at i ((after ∙ ap (locals_after old) here) j)
    ++ settings_on code ((came ∙ ap (turn_of at old) here) j) ((after ∙ ap (locals_after old) here) j))
    ∙ (set_first code i rest at old here below
    ∙ ap (λ is. settings_in is at 0 old) (sym here))
