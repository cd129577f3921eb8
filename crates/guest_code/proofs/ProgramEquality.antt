-- Programs are the same exactly where `==` says so.
use Rattle.std.proofs.Common.{◌≡◌, ℕ, ◌&&◌, nat_eq, List, [], ◌∷◌, map, true, false, Bool, Vec, Global, refl, ap, sym, subst, ◌∙◌}
use Rattle.std.specs.{Bool.Decides, Cmp.{unsigned_Decides, signed_Decides}}
use Rattle.std.specs.Cmp.Lexicographic.{pointwise}
use Rattle.guest_code.specs.Program.{Variable, Semaphore, Thread, Program, variable_view, semaphore_view, thread_view, names_view}
use Rattle.guest_code.specs.Same.{same_variable, same_semaphore, same_thread, same_program, programs_equivalence}
use Rattle.guest_code.specs.contracts.program.SemaphorePartialEq.TheImpl.{eq-value as semaphore-eq}
use Rattle.guest_code.specs.contracts.program.ThreadPartialEq.TheImpl.{eq-value as thread-eq}
use Rattle.guest_code.specs.contracts.program.VariablePartialEq.TheImpl.{eq-value as variable-eq}
use Rattle.guest_code.proofs.InstructionEquality.{both, instruction_is}
use Rattle.guest_code.specs.declared.program.Variable as code-variable
use Rattle.guest_code.specs.declared.program.Semaphore as code-semaphore
use Rattle.guest_code.specs.declared.program.Thread as code-thread

-- ---- what `==` says of what is seen

lists_is : {A : Type 0} (E : A → A → Bool) → ((a b : A) → E a b ≡ true → a ≡ b) → (xs ys : List A)
    → pointwise E xs ys ≡ true → xs ≡ ys
lists_is E is [] [] e = refl
lists_is E is [] (y ∷ ys) e = absurd cc
lists_is E is (x ∷ xs) [] e = absurd cc
lists_is E is (x ∷ xs) (y ∷ ys) e = let t = both (E x y) (pointwise E xs ys) e in let h = is x y
    t.0 in let r = lists_is E is xs ys t.1 in λ i. h i ∷ r i

number_is : (a b : ℕ) → nat_eq a b ≡ true → a ≡ b
number_is a b e = (unsigned_Decides a b).0 e

name_is : (a b : List ℕ) → pointwise nat_eq a b ≡ true → a ≡ b
name_is = lists_is nat_eq number_is

variable_is : (a b : Variable) → same_variable a b ≡ true → a ≡ b
variable_is a b e = let t = both _ _ e in let n = name_is a.name b.name t.0 in let o =
    (signed_Decides a.opening b.opening).0 t.1 in λ i. record { name = n i; opening = o i }

semaphore_is : (a b : Semaphore) → same_semaphore a b ≡ true → a ≡ b
semaphore_is a b e = let t = both _ _ e in let n = name_is a.name b.name t.0 in let c = number_is
    a.count b.count t.1 in λ i. record { name = n i; count = c i }

thread_is : (a b : Thread) → same_thread a b ≡ true → a ≡ b
thread_is a b e =
    let t = both _ _ e in
    let u = both _ _ t.1 in
    let n = name_is a.name b.name t.0 in
    let l = number_is a.locals b.locals u.0 in
    let c = lists_is _ instruction_is a.code b.code u.1 in
    λ i. record { name = n i; locals = l i; code = c i }

program_is : (p q : Program) → same_program p q ≡ true → p ≡ q
program_is p q e =
    let t = both _ _ e in
    let u = both _ _ t.1 in
    let v = both _ _ u.1 in
    let w = both _ _ v.1 in
    let variables = lists_is same_variable variable_is p.variables q.variables t.0 in
    let mutexes = lists_is (pointwise nat_eq) name_is p.mutexes q.mutexes u.0 in
    let conditions = lists_is (pointwise nat_eq) name_is p.conditions q.conditions v.0 in
    let semaphores = lists_is same_semaphore semaphore_is p.semaphores q.semaphores w.0 in
    let threads = lists_is same_thread thread_is p.threads q.threads w.1 in
    λ i. record {
      variables = variables i;
      mutexes = mutexes i;
      conditions = conditions i;
      semaphores = semaphores i;
      threads = threads i;
    }

pub same_program-Decides : (p q : Program) → Decides (same_program p q) (p ≡ q)
same_program-Decides p q = (
  program_is p q,
  λ e. subst (λ (r : Program). same_program p r ≡ true)
      e (programs_equivalence.refl p),
)

-- ---- what `==` says of what is in memory

abbrev pub same_items : Vec ℕ Global → Vec ℕ Global → Bool
same_items a b = pointwise nat_eq a.items b.items

-- lists are the same where their items are seen to be
lists_seen : {A B : Type 0} (view : A → B) (E : A → A → Bool) (F : B → B → Bool)
    → ((x y : A) → E x y ≡ F (view x) (view y)) → (xs ys : List A)
    → pointwise E xs ys ≡ pointwise F (map view xs) (map view ys)
lists_seen view E F same [] [] = refl
lists_seen view E F same [] (y ∷ ys) = refl
lists_seen view E F same (x ∷ xs) [] = refl
lists_seen view E F same (x ∷ xs) (y ∷ ys) =
    let one = same x y in
    let more = lists_seen view E F same xs ys in
    λ i. one i && more i

names_seen : (xs ys : List (Vec ℕ Global)) → pointwise same_items xs ys ≡ pointwise
    (pointwise nat_eq) (names_view xs) (names_view ys)
names_seen = lists_seen (λ (v : Vec ℕ Global). v.items) same_items (pointwise nat_eq) (λ x y. refl)

variables_seen : (xs ys : List code-variable.Variable)
    → pointwise variable-eq.it xs ys ≡ pointwise same_variable (map variable_view xs)
    (map variable_view ys)
variables_seen = lists_seen variable_view variable-eq.it same_variable (λ x y. refl)

semaphores_seen : (xs ys : List code-semaphore.Semaphore)
    → pointwise semaphore-eq.it xs ys ≡ pointwise same_semaphore (map semaphore_view xs)
    (map semaphore_view ys)
semaphores_seen = lists_seen semaphore_view semaphore-eq.it same_semaphore (λ x y. refl)

threads_seen : (xs ys : List code-thread.Thread) → pointwise thread-eq.it xs ys ≡ pointwise
    same_thread (map thread_view xs) (map thread_view ys)
threads_seen = lists_seen thread_view thread-eq.it same_thread (λ x y. refl)

-- one step of a chain of `&&`
pub then_so : (a b r s v : Bool) → r ≡ a → r ≡ true → s ≡ b → v ≡ s → v ≡ (a && b)
then_so a b r s v e t f g = g ∙ (f ∙ ap (λ (x : Bool). x && b) (sym t ∙ e))

pub else_so : (a b r v : Bool) → r ≡ a → r ≡ false → v ≡ r → v ≡ (a && b)
else_so a b r v e t g = g ∙ (t ∙ ap (λ (x : Bool). x && b) (sym t ∙ e))

-- the whole chain
regroup : (a b c d e : Bool) → ((((a && b) && c) && d) && e) ≡ (a && (b && (c && (d && e))))
regroup true b c d e = go b
  where
    go : (x : Bool) → (((x && c) && d) && e) ≡ (x && (c && (d && e)))
    go true = step c
      where
        step : (y : Bool) → ((y && d) && e) ≡ (y && (d && e))
        step true = refl
        step false = refl
    go false = refl
regroup false b c d e = refl

pub whole : (vs vs' : List code-variable.Variable) (ms ms' cs cs' : List (Vec ℕ Global))
    (ss ss' : List code-semaphore.Semaphore) (ts ts' : List code-thread.Thread)
    → ((((pointwise variable-eq.it vs vs' && pointwise same_items ms ms') && pointwise same_items
    cs cs') && pointwise semaphore-eq.it ss ss') && pointwise thread-eq.it ts ts')
    ≡ same_program
    (record {
      variables = map variable_view vs;
      mutexes = names_view ms;
      conditions =
          names_view cs;
      semaphores = map semaphore_view ss;
      threads = map thread_view ts;
    })
    (record {
      variables = map variable_view vs';
      mutexes = names_view ms';
      conditions = names_view
          cs';
      semaphores = map semaphore_view ss';
      threads = map thread_view ts';
    })
whole vs vs' ms ms' cs cs' ss ss' ts ts' =
    let v = variables_seen vs vs' in
    let m = names_seen ms ms' in
    let c = names_seen cs cs' in
    let s = semaphores_seen ss ss' in
    let t = threads_seen ts ts' in
    regroup (pointwise variable-eq.it vs vs') (pointwise same_items ms ms')
    (pointwise same_items cs cs') (pointwise semaphore-eq.it ss ss')
    (pointwise thread-eq.it ts ts') ∙ (λ i. v i && (m i && (c i && (s i && t i))))
