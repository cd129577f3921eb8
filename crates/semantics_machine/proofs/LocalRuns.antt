-- What a thread does with those of its locals that are kept, and how many are enough.
use Rattle.std.specs.Prelude.{All, pos}
use Rattle.std.proofs.Common.{◌≡◌, ℕ, ℤ, zero, suc, ◌+◌, ◌≤◌, true, false, cond, List, [], ◌∷◌, length, take, drop, set, refl, ap, ◌∙◌, sym, arith}
use Rattle.std.specs.{Int.{int_wrapping_add, w64}, Ordering.int_eq}
use Rattle.std.proofs.{Math.Seq.take-set-lt, lemmas.List.get_or-take, lemmas.List.Elements.All-drop}
use Rattle.guest_code.specs.Program.{Program, code_of, IsValueBelow, IsExpressionBelow, LocalsBelow}
use Rattle.guest_code.specs.declared.program.Expression.{Expression, TheVariants.{Single, Both}}
use Rattle.guest_code.specs.declared.program.Instruction.{Instruction}
use Rattle.guest_code.specs.declared.program.Instruction.TheVariants.{Load, Store, Add, Cas, Set, Assert, SkipIfZero, Skip}
use Rattle.guest_code.specs.declared.program.Value.{Value, TheVariants.{Local, Literal}}
use Rattle.semantics.specs.Expressions.{of_both}
use Rattle.semantics.specs.Machine.{Snapshot, thread_at, value_of_operand, var_after, reader_after, is_expected, one_or_zero, with_status, with_local, advance, local_run, run_from, value_of_expression, is_zero}
use Rattle.semantics.specs.Turns.{own_thread, IsAccessBelow, turn_of, locals_after}
use Rattle.semantics.specs.declared.local.{Landing.Landing, Turn.TheVariants.Runs}
use Rattle.semantics.specs.declared.state.Status.{Status, TheVariants.{Running, Stopped}}
use Rattle.semantics.specs.declared.state.{Stop.TheVariants.Assert as FailedAssert, Thread.Thread}
use Rattle.semantics.specs.declared.state.VariableAction.{VariableAction}
use Rattle.semantics.specs.declared.state.VariableAction.TheVariants.{Load as Loads, Store as Stores, Add as Adds, Cas as Swaps}
use Rattle.semantics.proofs.LocalRuns.{turn_run}
use Rattle.semantics_machine.specs.declared.control.Control.{Control}
use Rattle.semantics_machine.specs.inner.LocalRuns.{narrow, IsLandingOf}
use Rattle.semantics_machine.specs.inner.Steps.{settled, going_on, place_after, IsPerformed, IsPassed}

narrow_value : (n : ℕ) (L : List ℤ) (a : Value) → IsValueBelow n a
    → value_of_operand (take n L) a ≡ value_of_operand L a
narrow_value n L (Local r) l = get_or-take n L r (pos 0) l
narrow_value n L (Literal z) l = refl

narrow_expression : (n : ℕ) (L : List ℤ) (e : Expression) → IsExpressionBelow n e
    → value_of_expression (take n L) e ≡ value_of_expression L e
narrow_expression n L (Single a) l = narrow_value n L a l
narrow_expression n L (Both a op b) l = λ i. of_both op (narrow_value n L a l.0 i)
    (narrow_value n L b l.1 i)

pub narrow_var : (n : ℕ) (L : List ℤ) (d : VariableAction) (v : ℤ) → IsAccessBelow n d
    → var_after d (take n L) v ≡ var_after d L v
narrow_var n L (Loads r) v l = refl
narrow_var n L (Stores a) v l = narrow_value n L a l
narrow_var n L (Adds r a) v l = ap (int_wrapping_add w64 v) (narrow_value n L a l.1)
narrow_var n L (Swaps r a b) v l = λ i. cond (int_eq v (narrow_value n L a l.1 i))
    (narrow_value n L b l.2 i) v

pub narrow_reader : (n : ℕ) (th : Thread) (d : VariableAction) (v : ℤ) (at : Landing)
    → IsAccessBelow n d
    → (reader_after d (own_thread at (take n th.locals)) v).locals
    ≡ take n (reader_after d th v).locals
narrow_reader n th (Loads r) v at l = sym (take-set-lt n th.locals r v l)
narrow_reader n th (Stores a) v at l = refl
narrow_reader n th (Adds r a) v at l = sym (take-set-lt n th.locals r v l.0)
narrow_reader n th (Swaps r a b) v at l =
    ap (λ z. set (take n th.locals) r (one_or_zero (int_eq v z))) (narrow_value n th.locals a l.1)
    ∙ sym (take-set-lt n th.locals r (one_or_zero (is_expected th.locals a v)) l.0)

pub reader_pc : (d : VariableAction) (th : Thread) (v : ℤ) → (reader_after d th v).pc ≡ th.pc
reader_pc (Loads r) th v = refl
reader_pc (Stores a) th v = refl
reader_pc (Adds r a) th v = refl
reader_pc (Swaps r a b) th v = refl

-- a local run

pub narrow_run : (n : ℕ) (is : List Instruction) (k : ℕ) (th : Thread) → All (LocalsBelow n) is
    → local_run is k (narrow n th) ≡ narrow n (local_run is k th)
narrow_run n [] k th below = refl
narrow_run n (i ∷ is) (suc k) th below = narrow_run n is k (advance th 1)
    (λ j d l. below (suc j) d (omega arith))
narrow_run n (Set r e ∷ is) zero th below =
    let b : LocalsBelow n (Set r e) = below 0 (Set r e) (omega arith) in
    let same : with_local (narrow n th) r (value_of_expression (take n th.locals) e)
    ≡ narrow n (with_local th r (value_of_expression th.locals e)) =
    (λ i. record th {
      locals = (ap (λ z. set (take n th.locals) r z) (narrow_expression n th.locals e b.1)
          ∙ sym (take-set-lt n th.locals r (value_of_expression th.locals e) b.0)) i;
    }) in
    ap (λ (x : Thread). local_run is 0 (advance x 1)) same
    ∙ narrow_run n is 0 (advance (with_local th r (value_of_expression th.locals e)) 1)
    (λ j d l. below (suc j) d (omega arith))
narrow_run n (Assert e ∷ is) zero th below =
    let b : LocalsBelow n (Assert e) = below 0 (Assert e) (omega arith) in
    ap (λ z. cond (is_zero z) (with_status (narrow n th) (Stopped FailedAssert))
    (local_run is 0 (advance (narrow n th) 1)))
    (narrow_expression n th.locals e b)
    ∙ elim (is_zero (value_of_expression th.locals e)) as
    (λ q. cond q (with_status (narrow n th) (Stopped FailedAssert))
    (local_run is 0 (advance (narrow n th) 1))
    ≡ narrow n (cond q (with_status th (Stopped FailedAssert)) (local_run is 0 (advance th 1)))) [
      | true ↦ refl
      | false ↦ narrow_run n is 0 (advance th 1) (λ j d l. below (suc j) d (omega arith))
    ]
narrow_run n (SkipIfZero e m ∷ is) zero th below =
    let b : LocalsBelow n (SkipIfZero e m) = below 0 (SkipIfZero e m) (omega arith) in
    ap (λ z. local_run is (cond (is_zero z) m 0) (advance (narrow n th) 1))
    (narrow_expression n th.locals e b)
    ∙ narrow_run n is (cond (is_zero (value_of_expression th.locals e)) m 0) (advance th 1)
    (λ j d l. below (suc j) d (omega arith))
narrow_run n (Skip m ∷ is) zero th below = narrow_run n is m (advance th 1)
    (λ j d l. below (suc j) d (omega arith))
narrow_run n (i ∷ is) zero th below = refl

-- after what was performed

ran_on : (p : Program) (s : Snapshot) (t : ℕ) (c : Control) (cells mine : List ℤ) (pc : ℕ)
    (q : IsPerformed p s t c cells mine Running) → pc ≡ (thread_at s t).pc
    → All (LocalsBelow (length mine)) (code_of p t)
    → going_on (code_of p t) Running (pc + 1) mine
    ≡ narrow (length mine) (settled (code_of p t) Running q.th)
ran_on p s t c cells mine pc q here below =
    (λ i. local_run (drop (place i + 1) (code_of p t)) 0
    (record { pc = place i + 1; locals = q.own i; status = Running }))
    ∙ narrow_run (length mine) (drop (q.th.pc + 1) (code_of p t)) 0
    (record q.th { pc = q.th.pc + 1; status = Running })
    (All-drop (LocalsBelow (length mine)) (q.th.pc + 1) (code_of p t) below)
  where
    place : pc ≡ q.th.pc
    place = here ∙ sym q.pc

goes_on : (p : Program) (s : Snapshot) (t : ℕ) (c : Control) (cells mine : List ℤ) (pc : ℕ)
    (status : Status) (q : IsPerformed p s t c cells mine status) → pc ≡ (thread_at s t).pc
    → All (LocalsBelow (length mine)) (code_of p t)
    → going_on (code_of p t) status (place_after status pc) mine
    ≡ narrow (length mine) (settled (code_of p t) status q.th)
goes_on p s t c cells mine pc Running q here below = ran_on p s t c cells mine pc q here below
goes_on p s t c cells mine pc status q here below =
    λ i. record { pc = (here ∙ sym q.pc) i; locals = q.own i; status = status }

pub passed : (p : Program) (s : Snapshot) (t : ℕ) (c : Control) (cells mine : List ℤ) (pc : ℕ)
    (status : Status) → IsPerformed p s t c cells mine status → pc ≡ (thread_at s t).pc
    → All (LocalsBelow (length mine)) (code_of p t)
    → IsPassed p s t c cells mine (place_after status pc) status
passed p s t c cells mine pc status q here below = record {
  before = mine;
  performed = q;
  many = refl;
  goes_on = goes_on p s t c cells mine pc status q here below;
}

-- a thread that doesn't run stays
pub stays : (code : List Instruction) (status : Status) (pc : ℕ) (mine : List ℤ)
    → (status ≡ Running → ⊥)
    → own_thread (record { pc = pc; status = status; free = false }) mine
    ≡ going_on code status pc mine
stays code Running pc mine stops = absurd (stops refl)
stays code status pc mine stops = refl

-- one instruction more, that it does by itself
pub turned_on : (p : Program) (s : Snapshot) (t : ℕ) (c : Control) (cells mine mine' : List ℤ)
    (place next : ℕ) (code : List Instruction)
    → IsPassed p s t c cells mine place Running → code ≡ code_of p t
    → Runs next ≡ turn_of place mine (drop place code)
    → mine' ≡ locals_after mine (drop place code) → length mine' ≡ length mine
    → IsPassed p s t c cells mine' next Running
turned_on p s t c cells mine mine' place next code h same turn made long = record {
  before = h.before;
  performed = h.performed;
  many = long ∙ h.many;
  goes_on = ap (λ is. run_from is (record { pc = next; locals = mine'; status = Running })) (sym same)
      ∙ (turn_run code (record { pc = place; locals = mine; status = Running }) mine' (Runs next)
      turn made
      ∙ (ap (λ is. run_from is (record { pc = place; locals = mine; status = Running })) same
      ∙ h.goes_on));
}

-- what leaves a thread where it is leaves its locals
pub kept : (at : ℕ) (locals : List ℤ) (is : List Instruction)
    → ((n : ℕ) → turn_of at locals is ≡ Runs n → ⊥) → locals_after locals is ≡ locals
kept at locals [] stays = refl
kept at locals (Set r e ∷ is) stays = absurd (stays (at + 1) refl)
kept at locals (i ∷ is) stays = refl

-- the thread is where the local run left it
pub lands_there : (n : ℕ) (at : Landing) (mine : List ℤ) (th : Thread)
    → own_thread at mine ≡ narrow n th → IsLandingOf at th
lands_there n at mine th own = record {
  pc = ap (λ (x : Thread). x.pc) own;
  status = ap (λ (x : Thread). x.status) own;
}

-- how many locals are enough

value_more : (m n : ℕ) (a : Value) → m ≤ n → IsValueBelow m a → IsValueBelow n a
value_more m n (Local r) l b = omega (arith, l, b)
value_more m n (Literal z) l b = tt

expression_more : (m n : ℕ) (e : Expression) → m ≤ n → IsExpressionBelow m e → IsExpressionBelow n e
expression_more m n (Single a) l b = value_more m n a l b
expression_more m n (Both a op z) l b = (value_more m n a l b.0, value_more m n z l b.1)

below_more : (m n : ℕ) (i : Instruction) → m ≤ n → LocalsBelow m i → LocalsBelow n i
below_more m n (Load r x) l b = omega (arith, l, b)
below_more m n (Store x a) l b = value_more m n a l b
below_more m n (Add r x a) l b = (omega (arith, l, b.0), value_more m n a l b.1)
below_more m n (Cas r x a z) l b = (
  omega (arith, l, b.0),
  value_more m n a l b.1,
  value_more m n
      z l b.2,
)
below_more m n (Set r e) l b = (omega (arith, l, b.0), expression_more m n e l b.1)
below_more m n (Assert e) l b = expression_more m n e l b
below_more m n (SkipIfZero e k) l b = expression_more m n e l b
below_more m n i l b = tt
