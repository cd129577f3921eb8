-- A thread looks in one way.
use Rattle.std.proofs.Common.{◌≡◌, ◌∙◌, ℕ, ◌+◌, ℤ, pos, Option, Some, None, List, [], ◌∷◌, ◌++◌, set, sym, subst, ap, refl, get_or, append_assoc}
use Rattle.std.{specs.List.slice_get, proofs.lemmas.Option.same_Some}
use Rattle.guest_code.specs.{Program.{Program, code_of}, declared.program.Instruction.Instruction}
use Rattle.semantics.specs.declared.state.Thread.{Thread}
use Rattle.explain_run.specs.declared.explanation.Explanation.{Explanation}
use Rattle.explain_run.specs.declared.thread_state.Reason.{Reason}
use Rattle.explain_run.specs.declared.thread_state.Reason.TheVariants.{Lock, Retake, Acquire, Signal}
use Rattle.explain_waits.specs.Fates.{locals_of}
use Rattle.explain_waits.specs.Looks.{LooksAt, done, loads, load_of, is_wait, resumed_at, IsLook, IsLookBy, IsLookOf, after_wait}
use Rattle.explain_waits.specs.declared.{ending.Blocked.Blocked, look.Look.Look}

not_both : (load : Option (ℕ × ℕ)) (r x : ℕ) → load ≡ None → load ≡ Some (r, x) → ⊥
not_both load r x none some = absurd cc

pub looks_once : (code : List Instruction) (values : List ℤ) (at : ℕ) (locals : List ℤ)
    (xs ys : List ℕ) (one other : ℕ) → LooksAt code values at locals xs one
    → LooksAt code values at locals ys other → (xs ≡ ys) × (one ≡ other)
looks_once code values at locals xs ys one other (done ends) (done also) = (refl, refl)
looks_once code values at locals xs ys one other (done ends) (loads r x is rest) =
    absurd (not_both (load_of (slice_get code at)) r x ends is)
looks_once code values at locals xs ys one other (loads r x is rest) (done ends) =
    absurd (not_both (load_of (slice_get code at)) r x ends is)
looks_once code values at locals xs ys one other (loads {xs = vs} r x is rest)
    (loads {xs = ws} q y same more) =
    let load : ℕ × ℕ = (r, x) in
    let also : ℕ × ℕ = (q, y) in
    let e : also ≡ load = same_Some also load (sym same ∙ is) in
    let P : ℕ × ℕ → Type 0 = λ l. LooksAt code values
    (resumed_at code (at + 1) (set locals l.0 (get_or values l.1 (pos 0)))).pc
    (resumed_at code (at + 1) (set locals l.0 (get_or values l.1 (pos 0)))).locals ws other in
    let next = resumed_at code (at + 1) (set locals r (get_or values x (pos 0))) in
    let both = looks_once code values next.pc next.locals vs ws one other rest (subst P e more) in
    (ap (λ x. x ∷ vs) (sym (ap (λ (l : ℕ × ℕ). l.1) e)) ∙ ap (λ zs. y ∷ zs) both.0, both.1)

both_looks : (code : List Instruction) (values locals : List ℤ) (from c : ℕ) (one other : Look)
    → IsLook code values locals from c one → IsLook code values locals from c other
    → (one.sleeps ≡ other.sleeps) × (one.variables.items ≡ other.variables.items)
both_looks code values locals from c one other is also =
    let th = resumed_at code from locals in
    let both = looks_once code values th.pc th.locals one.variables.items other.variables.items
    is.last also.last is.looks also.looks in
    (is.sleeps ∙ (ap (λ last. is_wait c (slice_get code last)) both.1 ∙ sym also.sleeps), both.0)

alike_by : (reason : Reason) (p : Program) (told : Explanation) (b : Blocked) (one other : Look)
    → IsLookBy reason p told b one → IsLookBy reason p told b other
    → (one.sleeps ≡ other.sleeps) × (one.variables.items ≡ other.variables.items)
alike_by (Signal c) p told b one other is also = both_looks (code_of p b.thread)
    told.variables.items (locals_of told b.thread) (after_wait (code_of p b.thread) b) c one other
    is also
alike_by (Lock m) p told b one other is also = (is.1 ∙ sym also.1, is.0 ∙ sym also.0)
alike_by (Retake m) p told b one other is also = (is.1 ∙ sym also.1, is.0 ∙ sym also.0)
alike_by (Acquire k) p told b one other is also = (is.1 ∙ sym also.1, is.0 ∙ sym also.0)

-- what is told of two looks of a thread is alike
pub looks_alike : (p : Program) (told : Explanation) (b : Blocked) (one other : Look)
    → IsLookOf p told b one → IsLookOf p told b other
    → (one.sleeps ≡ other.sleeps) × (one.variables.items ≡ other.variables.items)
looks_alike p told b one other is also = alike_by b.reason p told b one other is also

-- after one more load
pub looks_more : (code : List Instruction) (values first : List ℤ) (from at r x : ℕ)
    (locals : List ℤ) (seen new : List ℕ) (next : Thread)
    → load_of (slice_get code at) ≡ Some (r, x) → new ≡ seen ++ x ∷ []
    → next ≡ resumed_at code (at + 1) (set locals r (get_or values x (pos 0)))
    → ((xs : List ℕ) (last : ℕ) → LooksAt code values at locals xs last
    → LooksAt code values from first (seen ++ xs) last)
    → (xs : List ℕ) (last : ℕ) → LooksAt code values next.pc next.locals xs last
    → LooksAt code values from first (new ++ xs) last
looks_more code values first from at r x locals seen new next is pushed went before xs last rest =
    let P : Thread → Type 0 = λ th. LooksAt code values th.pc th.locals xs last in
    let Q : List ℕ → Type 0 = λ ys. LooksAt code values from first ys last in
    let same = ap (λ ys. ys ++ xs) pushed ∙ append_assoc seen (x ∷ []) xs in
    subst Q (sym same) (before (x ∷ xs) last (loads r x is (subst P went rest)))
