-- Instructions are the same exactly where `==` says so.
use Rattle.std.proofs.Common.{◌≡◌, ℕ, ℤ, ◌&&◌, true, false, Bool, refl, ap}
use Rattle.std.{specs.Cmp.{unsigned_Decides, signed_Decides}, proofs.lemmas.Bool.false≢true}
use Rattle.guest_syntax.specs.contracts.tree.OpPartialEq.TheImpl.{eq-value as same-op}
use Rattle.guest_syntax.specs.declared.tree.Op.{Op}
use Rattle.guest_syntax.specs.declared.tree.Op.TheVariants as ops
use Rattle.guest_code.specs.contracts.program.ExpressionPartialEq.TheImpl.{eq-value as same-expression}
use Rattle.guest_code.specs.contracts.program.InstructionPartialEq.TheImpl.{eq-value as same-instruction}
use Rattle.guest_code.specs.contracts.program.ValuePartialEq.TheImpl.{eq-value as same-value}
use Rattle.guest_code.specs.declared.program.Expression.{Expression, TheVariants.{Single, Both}}
use Rattle.guest_code.specs.declared.program.Instruction.{Instruction}
use Rattle.guest_code.specs.declared.program.Instruction.TheVariants.{Load, Store, Add, Cas, Lock, Unlock, Wait, Signal, Broadcast, Acquire, Release, Set, Assert, SkipIfZero, Skip}
use Rattle.guest_code.specs.declared.program.Value.{Value, TheVariants.{Local, Literal}}

pub both : (a b : Bool) → (a && b) ≡ true → (a ≡ true) × (b ≡ true)
both true b h = (refl, h)
both false b h = absurd cc

pub op_is : (a b : Op) → same-op.it a b ≡ true → a ≡ b
op_is ops.Add ops.Add e = refl
op_is ops.Subtract ops.Subtract e = refl
op_is ops.Multiply ops.Multiply e = refl
op_is ops.Equal ops.Equal e = refl
op_is ops.NotEqual ops.NotEqual e = refl
op_is ops.Less ops.Less e = refl
op_is ops.LessOrEqual ops.LessOrEqual e = refl
op_is ops.Greater ops.Greater e = refl
op_is ops.GreaterOrEqual ops.GreaterOrEqual e = refl
op_is _ _ e = absurd (false≢true e)

pub value_is : (a b : Value) → same-value.it a b ≡ true → a ≡ b
value_is (Local r) (Local q) e = ap (λ (n : ℕ). Local n) ((unsigned_Decides r q).0 e)
value_is (Literal m) (Literal n) e = ap (λ (z : ℤ). Literal z) ((signed_Decides m n).0 e)
value_is _ _ e = absurd (false≢true e)

pub expression_is : (a b : Expression) → same-expression.it a b ≡ true → a ≡ b
expression_is (Single a) (Single b) e = ap (λ (v : Value). Single v) (value_is a b e)
expression_is (Both a o b) (Both c p d) e =
    let t = both _ _ e in
    let u = both _ _ t.1 in
    λ i. Both (value_is a c t.0 i) (op_is o p u.0 i) (value_is b d u.1 i)
expression_is _ _ e = absurd (false≢true e)

pub instruction_is : (a b : Instruction) → same-instruction.it a b ≡ true → a ≡ b
instruction_is (Load r x) (Load q y) e = let t = both _ _ e in λ i. Load
    ((unsigned_Decides r q).0 t.0 i) ((unsigned_Decides x y).0 t.1 i)
instruction_is (Store x a) (Store y b) e = let t = both _ _ e in λ i. Store
    ((unsigned_Decides x y).0 t.0 i) (value_is a b t.1 i)
instruction_is (Add r x a) (Add q y b) e =
    let t = both _ _ e in
    let u = both _ _ t.1 in
    λ i. Add ((unsigned_Decides r q).0 t.0 i) ((unsigned_Decides x y).0 u.0 i) (value_is a b u.1 i)
instruction_is (Cas r x a b) (Cas q y c d) e =
    let t = both _ _ e in
    let u = both _ _ t.1 in
    let v = both _ _ u.1 in
    λ i. Cas ((unsigned_Decides r q).0 t.0 i) ((unsigned_Decides x y).0 u.0 i)
    (value_is a c v.0 i) (value_is b d v.1 i)
instruction_is (Lock m) (Lock n) e = ap (λ (k : ℕ). Lock k) ((unsigned_Decides m n).0 e)
instruction_is (Unlock m) (Unlock n) e = ap (λ (k : ℕ). Unlock k) ((unsigned_Decides m n).0 e)
instruction_is (Wait c m) (Wait d n) e = let t = both _ _ e in λ i. Wait
    ((unsigned_Decides c d).0 t.0 i) ((unsigned_Decides m n).0 t.1 i)
instruction_is (Signal m) (Signal n) e = ap (λ (k : ℕ). Signal k) ((unsigned_Decides m n).0 e)
instruction_is (Broadcast m) (Broadcast n) e = ap (λ (k : ℕ). Broadcast k)
    ((unsigned_Decides m n).0 e)
instruction_is (Acquire m) (Acquire n) e = ap (λ (k : ℕ). Acquire k) ((unsigned_Decides m n).0 e)
instruction_is (Release m) (Release n) e = ap (λ (k : ℕ). Release k) ((unsigned_Decides m n).0 e)
instruction_is (Set r a) (Set q b) e = let t = both _ _ e in λ i. Set
    ((unsigned_Decides r q).0 t.0 i) (expression_is a b t.1 i)
instruction_is (Assert a) (Assert b) e = ap (λ (v : Expression). Assert v) (expression_is a b e)
instruction_is (SkipIfZero a m) (SkipIfZero b n) e = let t = both _ _ e in λ i. SkipIfZero
    (expression_is a b t.0 i) ((unsigned_Decides m n).0 t.1 i)
instruction_is (Skip m) (Skip n) e = ap (λ (k : ℕ). Skip k) ((unsigned_Decides m n).0 e)
instruction_is _ _ e = absurd (false≢true e)
