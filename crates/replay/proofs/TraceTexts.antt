-- Texts of lists, with one more element.
use Rattle.std.proofs.Common.{◌≡◌, ℕ, ℤ, suc, ◌+◌, ◌<◌, List, [], ◌∷◌, ◌++◌, length, take, get_or, refl, ap, ◌∙◌, sym, arith, append_assoc, append-nil, codes, length-take}
use Rattle.std.specs.{Fmt.{decimal, signed_decimal}, List.flat_map}
use Rattle.std.proofs.lemmas.List.{take_more, flat_map_more}
use Rattle.guest_code.specs.Program.{Program}
use Rattle.replay.specs.Run.{Run}
use Rattle.replay.specs.Trace.{start_line, step_line, step_lines, end_lines, values_text, thread_name, variable_name, act_text, preempt_text, stop_text, kind_text}
use Rattle.replay.specs.declared.run.Line.{Line}

-- a variable with its value
abbrev value_text : Program → ℕ → ℤ → List ℕ
value_text p x v = codes " " ++ variable_name p x ++ codes "=" ++ signed_decimal v

-- text after text

pub appended : (old mid new x y : List ℕ) → mid ≡ old ++ x → new ≡ mid ++ y → new ≡ old ++ (x ++ y)
appended old mid new x y e f = f ∙ (ap (λ text. text ++ y) e ∙ append_assoc old x y)

two_appended : (old mid new x y z : List ℕ) → mid ≡ old ++ x → new ≡ mid ++ (y ++ z) →
    new ≡ old ++ (x ++ y ++ z)
two_appended old mid new x y z e f = appended old mid new x (y ++ z) e f
    ∙ ap (λ text. old ++ text) (sym (append_assoc x y z))

three_appended : (old mid new x a b d : List ℕ) → mid ≡ old ++ x → new ≡ mid ++ (a ++ b ++ d) →
    new ≡ old ++ (x ++ a ++ b ++ d)
three_appended old mid new x a b d e f = two_appended old mid new x (a ++ b) d e f
    ∙ ap (λ text. old ++ (text ++ d)) (sym (append_assoc x a b))

-- the parts of a step's line
pub step_parts : (p : Program) (k : ℕ) (line : Line)
    (old placed named acted new name mark stop : List ℕ) → placed ≡ old ++ decimal k →
    named ≡ placed ++ (codes " " ++ name ++ codes " ") → name ≡ thread_name p line.thread →
    acted ≡ named ++ act_text p line.act → new ≡ acted ++ (mark ++ stop ++ codes "\n") →
    mark ≡ preempt_text line.preempting → stop ≡ stop_text line.stop →
    new ≡ old ++ step_line p k line
step_parts p k line old placed named acted new name mark stop e1 e2 n e3 e4 m s =
    let place = three_appended old placed named (decimal k) (codes " ")
    (thread_name p line.thread) (codes " ") e1
    (e2 ∙ ap (λ word. placed ++ (codes " " ++ word ++ codes " ")) n) in
    let act = appended old named acted _ (act_text p line.act) place e3 in
    three_appended old acted new _ (preempt_text line.preempting) (stop_text line.stop)
    (codes "\n") act (e4 ∙ (λ i. acted ++ (m i ++ s i ++ codes "\n")))

-- the parts of the three lines at the end
pub end_parts : (p : Program) (r : Run) (old counted told valued new kind : List ℕ) →
    counted ≡ old ++ (codes "preemptions " ++ decimal r.preemptions) →
    told ≡ counted ++ (codes "\nkind " ++ kind ++ codes "\nvars") → kind ≡ kind_text r.kind →
    valued ≡ told ++ values_text p 0 r.vars → new ≡ valued ++ codes "\n" →
    new ≡ old ++ end_lines p r
end_parts p r old counted told valued new kind e1 e2 k e3 e4 =
    let words = three_appended old counted told (codes "preemptions " ++ decimal r.preemptions)
    (codes "\nkind ") (kind_text r.kind) (codes "\nvars") e1
    (e2 ∙ ap (λ word. counted ++ (codes "\nkind " ++ word ++ codes "\nvars")) k) in
    let values = appended old told valued _ (values_text p 0 r.vars) words e3 in
    appended old valued new _ (codes "\n") values e4

-- the lists so far, and one more element

pub starts_more : (p : Program) (ts : List ℕ) (k : ℕ) (old mid new name : List ℕ) →
    k < length ts → mid ≡ old ++ flat_map (start_line p) (take k ts) →
    new ≡ mid ++ (codes "start " ++ name ++ codes " stop assert\n") →
    name ≡ thread_name p (get_or ts k 0) → new ≡ old ++ flat_map (start_line p) (take (k + 1) ts)
starts_more p ts k old mid new name inside e f n =
    (f ∙ ap (λ word. mid ++ (codes "start " ++ word ++ codes " stop assert\n")) n)
    ∙ (ap (λ text. text ++ start_line p (get_or ts k 0)) e
    ∙ (flat_map_more (start_line p) old (take k ts) (get_or ts k 0)
    ∙ ap (λ us. old ++ flat_map (start_line p) us) (sym (take_more ts k 0 inside))))

-- a text that tells each element with its place
module _ {X : Type 0} (text : ℕ → List X → List ℕ) (one : ℕ → X → List ℕ)
    (none : (k : ℕ) → text k [] ≡ [])
    (first : (k : ℕ) (x : X) (xs : List X) → text k (x ∷ xs) ≡ one k x ++ text (k + 1) xs)
  where
    told_push : (k : ℕ) (xs : List X) (x : X) →
        text k (xs ++ x ∷ []) ≡ text k xs ++ one (k + length xs) x
    told_push k [] x =
        let e : k + 0 ≡ k = omega arith in
        rw (first k x [], none (k + 1), none k, e, append-nil (one k x)) refl
    told_push k (y ∷ xs) x =
        let e : k + suc (length xs) ≡ k + 1 + length xs = omega arith in
        rw (first k y (xs ++ x ∷ []), first k y xs, told_push (k + 1) xs x, append_assoc, e) refl

    told_more : (xs : List X) (k : ℕ) (old mid new : List ℕ) (d : X) → k < length xs →
        mid ≡ old ++ text 0 (take k xs) → new ≡ mid ++ one k (get_or xs k d) →
        new ≡ old ++ text 0 (take (k + 1) xs)
    told_more xs k old mid new d inside e f =
        let place : k ≡ 0 + length (take k xs) = let l = length-take k xs in omega (arith, l) in
        appended old mid new (text 0 (take k xs)) (one k (get_or xs k d)) e f
        ∙ ap (λ t. old ++ t)
        (ap (λ n. text 0 (take k xs) ++ one n (get_or xs k d)) place
        ∙ (sym (told_push 0 (take k xs) (get_or xs k d))
        ∙ ap (text 0) (sym (take_more xs k d inside))))

pub steps_more : (p : Program) (lines : List Line) (k : ℕ) (old mid new : List ℕ) (d : Line) →
    k < length lines → mid ≡ old ++ step_lines p 0 (take k lines) →
    new ≡ mid ++ step_line p k (get_or lines k d) → new ≡ old ++ step_lines p 0 (take (k + 1) lines)
steps_more p = told_more (step_lines p) (step_line p) (λ k. refl) (λ k x xs. refl)

pub values_more : (p : Program) (vs : List ℤ) (k : ℕ) (old mid named new name : List ℕ)
    (v d : ℤ) → k < length vs → mid ≡ old ++ values_text p 0 (take k vs) →
    named ≡ mid ++ (codes " " ++ name) → name ≡ variable_name p k →
    new ≡ named ++ (codes "=" ++ signed_decimal v) → v ≡ get_or vs k d →
    new ≡ old ++ values_text p 0 (take (k + 1) vs)
values_more p vs k old mid named new name v d inside e g n h same =
    told_more (values_text p) (value_text p) (λ k. refl) (λ k x xs. refl) vs k old mid new d inside
    e (two_appended mid named new (codes " " ++ variable_name p k) (codes "=")
    (signed_decimal (get_or vs k d)) (g ∙ ap (λ word. mid ++ (codes " " ++ word)) n)
    (h ∙ ap (λ x. named ++ (codes "=" ++ signed_decimal x)) same))
