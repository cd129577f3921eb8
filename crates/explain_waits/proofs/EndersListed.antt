-- The statements that could end a wait, one instruction after the other.
use Rattle.std.proofs.Common.{◌≡◌, ◌∙◌, ℕ, ◌+◌, ◌<◌, Bool, true, false, List, [], ◌∷◌, ◌++◌, length, map, sym, ap, refl, get_or, arith, append_assoc}
use Rattle.std.{specs.List.filter, proofs.lemmas.List.{map_push, get_or_default}}
use Rattle.guest_code.specs.declared.program.Instruction.{Instruction, TheVariants.Skip}
use Rattle.semantics.specs.Work.{up_from}
use Rattle.replay.proofs.LinesOfSteps.{passed_more, passed_same}
use Rattle.explain_waits.specs.{Endings.could_end, declared.ending.Blocked.Blocked}
use Rattle.explain_waits.specs.declared.{ending.Statement.Statement, fate.Fate.Fate}
use Rattle.explain_waits.specs.declared.fate.Fate.TheVariants.{OutOfReach}

abbrev pub statement : ℕ → ℕ → Fate → Statement
statement u i fate = record { thread = u; instruction = i; fate = fate }

-- instruction i of thread u, with what came of it
abbrev pub statement_at : ℕ → List Fate → ℕ → Statement
statement_at u fates i = statement u i (get_or fates i OutOfReach)

-- those of the first n instructions that could end the wait
abbrev pub listed : Blocked → ℕ → List Instruction → List Fate → ℕ → List Statement
listed b u code fates n = map (statement_at u fates)
    (filter (λ i. could_end b u i (get_or code i (Skip 0))) (up_from 0 n))

listed_more : (b : Blocked) (u : ℕ) (code : List Instruction) (fates : List Fate) (n : ℕ)
    → could_end b u n (get_or code n (Skip 0)) ≡ true
    → listed b u code fates (n + 1) ≡ listed b u code fates n ++ statement_at u fates n ∷ []
listed_more b u code fates n e =
    let test : ℕ → Bool = λ i. could_end b u i (get_or code i (Skip 0)) in
    let before = filter test (up_from 0 n) in
    ap (map (statement_at u fates))
    (sym (passed_more test n before (before ++ n ∷ []) refl e refl))
    ∙ map_push (statement_at u fates) before n

listed_same : (b : Blocked) (u : ℕ) (code : List Instruction) (fates : List Fate) (n : ℕ)
    → could_end b u n (get_or code n (Skip 0)) ≡ false
    → listed b u code fates (n + 1) ≡ listed b u code fates n
listed_same b u code fates n e =
    let test : ℕ → Bool = λ i. could_end b u i (get_or code i (Skip 0)) in
    ap (map (statement_at u fates))
    (sym (passed_same test n (filter test (up_from 0 n)) refl e))

-- the next instruction could end the wait
pub put_next : (b : Blocked) (u : ℕ) (code : List Instruction) (fates : List Fate) (n : ℕ)
    (old mid new : List Statement) (d : Instruction) (e : Fate) → n < length code
    → length fates ≡ length code → could_end b u n (get_or code n d) ≡ true
    → mid ≡ old ++ listed b u code fates n → new ≡ mid ++ statement u n (get_or fates n e) ∷ []
    → new ≡ old ++ listed b u code fates (n + 1)
put_next b u code fates n old mid new d e h l could before pushed =
    let fate = get_or_default fates n e OutOfReach (omega (arith, h, l)) in
    let is = ap (could_end b u n) (get_or_default code n (Skip 0) d h) ∙ could in
    pushed ∙ (ap (λ (f : Fate). mid ++ statement u n f ∷ []) fate
    ∙ (ap (λ (l : List Statement). l ++ statement_at u fates n ∷ []) before
    ∙ (append_assoc old (listed b u code fates n) (statement_at u fates n ∷ [])
    ∙ ap (λ (l : List Statement). old ++ l) (sym (listed_more b u code fates n is)))))

-- it could not
pub pass_next : (b : Blocked) (u : ℕ) (code : List Instruction) (fates : List Fate) (n : ℕ)
    (old mid new : List Statement) (d : Instruction) → n < length code
    → could_end b u n (get_or code n d) ≡ false → mid ≡ old ++ listed b u code fates n
    → new ≡ mid → new ≡ old ++ listed b u code fates (n + 1)
pass_next b u code fates n old mid new d h could before same =
    let is = ap (could_end b u n) (get_or_default code n (Skip 0) d h) ∙ could in
    same ∙ (before ∙ ap (λ (l : List Statement). old ++ l)
    (sym (listed_same b u code fates n is)))
