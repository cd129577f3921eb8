-- The paths through the code that a thread's locals decide are the ways through its own.
use Rattle.std.proofs.Common.{◌≡◌, ℕ, ◌+◌, ◌<◌, ◌≤◌, ◌⊎◌, inl, inr, ℤ, Bool, true, false, cond, List, length, arith, sym, subst, ap, refl, get_or}
use Rattle.std.specs.Prelude.{◌↔◌, IsTrue}
use Rattle.std.proofs.lemmas.Bool.{both_ways}
use Rattle.guest_code.specs.declared.program.Instruction.{Instruction}
use Rattle.guest_code.specs.declared.program.Instruction.TheVariants.{Load, Store, Add, Cas, Lock, Unlock, Wait, Signal, Broadcast, Acquire, Release, Set, Assert, SkipIfZero, Skip}
use Rattle.guest_code.specs.Program.{JumpsWithin, skip_of}
use Rattle.semantics.specs.Expressions.{value_of_expression, is_zero}
use Rattle.check_lint.specs.declared.paths.Watch.TheVariants.{Nothing}
use Rattle.check_lint.specs.Paths.{Goes, Comes, here as begins, on as goes_on}
use Rattle.explain_waits.specs.Ways.{decided, GoesOn, Way, here, on}
use Rattle.explain_waits.specs.inner.Settling.{IsSettledAt, IsSettled}

-- a jump over n instructions, or over none, where there may be one over n
jump_goes : (z : Bool) (n k j : ℕ) → Goes (Skip (cond z n 0)) k j
    → (j ≡ k + 1 + n) ⊎ (IsTrue true × (j ≡ k + 1))
jump_goes true n k j (inl e) = inl e
jump_goes false n k j (inl e) = inr (refl, omega (arith, e))
jump_goes z n k j (inr h) = absurd (both_ways false refl h.0)

-- the jump that a test makes is one that it may make
decided_goes : (locals : List ℤ) (i : Instruction) (k j : ℕ) → Goes (decided locals i) k j
    → Goes i k j
decided_goes locals (SkipIfZero e n) k j h =
    jump_goes (is_zero (value_of_expression locals e)) n k j h
decided_goes locals (Load r x) k j h = h
decided_goes locals (Store x a) k j h = h
decided_goes locals (Add r x a) k j h = h
decided_goes locals (Cas r x a b) k j h = h
decided_goes locals (Lock m) k j h = h
decided_goes locals (Unlock m) k j h = h
decided_goes locals (Wait c m) k j h = h
decided_goes locals (Signal c) k j h = h
decided_goes locals (Broadcast c) k j h = h
decided_goes locals (Acquire s) k j h = h
decided_goes locals (Release s) k j h = h
decided_goes locals (Set r e) k j h = h
decided_goes locals (Assert e) k j h = h
decided_goes locals (Skip n) k j h = h

jump_within : (z : Bool) (n : ℕ) → skip_of (Skip (cond z n 0)) ≤ n
jump_within true n = omega arith
jump_within false n = omega arith

-- and goes no further
decided_skip : (locals : List ℤ) (i : Instruction) → skip_of (decided locals i) ≤ skip_of i
decided_skip locals (SkipIfZero e n) = jump_within (is_zero (value_of_expression locals e)) n
decided_skip locals (Load r x) = omega arith
decided_skip locals (Store x a) = omega arith
decided_skip locals (Add r x a) = omega arith
decided_skip locals (Cas r x a b) = omega arith
decided_skip locals (Lock m) = omega arith
decided_skip locals (Unlock m) = omega arith
decided_skip locals (Wait c m) = omega arith
decided_skip locals (Signal c) = omega arith
decided_skip locals (Broadcast c) = omega arith
decided_skip locals (Acquire s) = omega arith
decided_skip locals (Release s) = omega arith
decided_skip locals (Set r e) = omega arith
decided_skip locals (Assert e) = omega arith
decided_skip locals (Skip n) = omega arith

-- what may be next after what stands for an instruction
pub goes_settled : (code : List Instruction) (from : ℕ) (locals : List ℤ) (k j : ℕ)
    (i : Instruction) → k < length code → IsSettledAt code from locals k i
    → Goes i k j ↔ GoesOn code from locals k j
goes_settled code from locals k j i l (inl there) =
    let P : Instruction → Type 0 = λ i. Goes i k j in (
      λ h. ((l, subst P there.1 h), inl there.0),
      λ h. subst P (sym there.1) h.0.1,
    )
goes_settled code from locals k j i l (inr not_) =
    let P : Instruction → Type 0 = λ i. Goes i k j in (
      λ h. let goes = subst P not_.1 h in
          ((l, decided_goes locals (get_or code k (Skip 0)) k j goes), inr goes),
      λ h. elim h.1 [
        | inl open_ ↦ absurd (not_.0 open_)
        | inr goes ↦ subst P (sym not_.1) goes
      ],
    )

skip_within : (code : List Instruction) (from : ℕ) (locals : List ℤ) (k : ℕ) (i : Instruction)
    → IsSettledAt code from locals k i → skip_of i ≤ skip_of (get_or code k (Skip 0))
skip_within code from locals k i (inl there) = omega (arith, ap skip_of there.1)
skip_within code from locals k i (inr not_) =
    omega (arith, ap skip_of not_.1, decided_skip locals (get_or code k (Skip 0)))

-- no jump of what stands for a code leaves it
pub settled_jumps : (code : List Instruction) (from : ℕ) (locals : List ℤ)
    (settled : List Instruction) → JumpsWithin code → IsSettled code from locals settled
    → JumpsWithin settled
settled_jumps code from locals settled jumps is k h =
    let l : k < length code = omega (arith, is.all, h) in
    omega (arith, is.all, jumps k l, skip_within code from locals k (get_or settled k (Skip 0)) (is.each k l))

comes_way : (code : List Instruction) (from : ℕ) (locals : List ℤ) (settled : List Instruction)
    (j : ℕ) (b : Bool) → IsSettled code from locals settled → Comes settled Nothing from false j b
    → Way code from locals j
comes_way code from locals settled j b is begins = here
comes_way code from locals settled j b is (goes_on {i = i} {c = c} path next same) =
    let l : i < length code = omega (arith, is.all, next.0) in
    on (comes_way code from locals settled i c is path)
    ((goes_settled code from locals i j (get_or settled i (Skip 0)) l (is.each i l)).0 next.1)

way_comes : (code : List Instruction) (from : ℕ) (locals : List ℤ) (settled : List Instruction)
    (j : ℕ) → IsSettled code from locals settled → Way code from locals j
    → Comes settled Nothing from false j false
way_comes code from locals settled j is here = begins
way_comes code from locals settled j is (on {i = i} way goes) =
    let l = goes.0.0 in
    goes_on (way_comes code from locals settled i is way) (
      omega (arith, is.all, l),
      (goes_settled code from locals i j (get_or settled i (Skip 0)) l
          (is.each i l)).1 goes,
    ) refl

-- the two are the same
pub ways_settled : (code : List Instruction) (from : ℕ) (locals : List ℤ)
    (settled : List Instruction) (j : ℕ) → IsSettled code from locals settled
    → ((b : Bool) × Comes settled Nothing from false j b) ↔ Way code from locals j
ways_settled code from locals settled j is = (
  λ h. comes_way code from locals settled j h.0 is h.1,
  λ way. (false, way_comes code from locals settled j is way),
)
