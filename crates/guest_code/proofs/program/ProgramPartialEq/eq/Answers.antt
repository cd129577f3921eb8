use Rattle.std.proofs.Common.{◌≡◌, ◌∙◌, ◌&&◌, Bool, refl}
use Rattle.std.specs.Cmp.Lexicographic.{pointwise}
use Rattle.guest_code.specs.Same.{same_program}
use Rattle.guest_code.specs.contracts.program.SemaphorePartialEq.TheImpl.{eq-value as semaphore-eq}
use Rattle.guest_code.specs.contracts.program.ThreadPartialEq.TheImpl.{eq-value as thread-eq}
use Rattle.guest_code.specs.contracts.program.VariablePartialEq.TheImpl.{eq-value as variable-eq}
use Rattle.guest_code.proofs.ProgramEquality.{same_items, then_so, else_so, whole}
use Rattle.guest_code.proofs.program.ProgramPartialEq.eq.Goals.{then-eq, else-eq, then-eq-2, else-eq-2, then-eq-3, else-eq-3, Joined-eq-3}
use Rattle.guest_code.proofs.program.ProgramPartialEq.eq.Goals as goal

-- what the tests of all lists but the last come to
abbrev but_threads : Joined-eq-3 → Bool
but_threads c = ((pointwise variable-eq.it c.self.inside.variables.items
    c.other.inside.variables.items
    && pointwise same_items c.self.inside.mutexes.items c.other.inside.mutexes.items)
    && pointwise same_items c.self.inside.conditions.items c.other.inside.conditions.items)
    && pointwise semaphore-eq.it c.self.inside.semaphores.items c.other.inside.semaphores.items

first_four : (c : Joined-eq-3) → c.if-eq-3.value ≡ but_threads c
first_four c =
    let v = pointwise variable-eq.it c.self.inside.variables.items c.other.inside.variables.items in
    let m = pointwise same_items c.self.inside.mutexes.items c.other.inside.mutexes.items in
    let n = pointwise same_items c.self.inside.conditions.items c.other.inside.conditions.items in
    let s = pointwise semaphore-eq.it c.self.inside.semaphores.items
    c.other.inside.semaphores.items in
    let one : c.if-eq.value ≡ (v && m) = elim c.if-eq.branch [
      | then-eq w ↦ then_so v m c.eq.result w.eq-then-eq.result c.if-eq.value c.eq.ensures
          w.if-eq.true w.eq-then-eq.ensures w.value-is
      | else-eq w ↦ else_so v m c.eq.result
          c.if-eq.value c.eq.ensures w.if-eq.false w.value-is
    ] in
    let two : c.if-eq-2.value ≡ ((v && m) && n) = elim c.if-eq-2.branch [
      | then-eq-2 w ↦ then_so (v && m) n c.if-eq.value w.eq-then-eq-2.result c.if-eq-2.value one
          w.if-eq-2.true w.eq-then-eq-2.ensures w.value-is
      | else-eq-2 w ↦ else_so
          (v && m) n c.if-eq.value c.if-eq-2.value one w.if-eq-2.false w.value-is
    ] in
    elim c.if-eq-3.branch [
      | then-eq-3 w ↦ then_so ((v && m) && n) s c.if-eq-2.value w.eq-then-eq-3.result
          c.if-eq-3.value two w.if-eq-3.true w.eq-then-eq-3.ensures w.value-is
      | else-eq-3 w ↦
          else_so ((v && m) && n) s c.if-eq-2.value c.if-eq-3.value two w.if-eq-3.false w.value-is
    ]

-- and with the last test the programs are the same
same : (c : Joined-eq-3) (r : Bool) → r ≡ (but_threads c
    && pointwise thread-eq.it c.self.inside.threads.items c.other.inside.threads.items)
    → r ≡ same_program c.args.self.now c.args.other.now
same c r is =
    is ∙ (whole c.self.inside.variables.items c.other.inside.variables.items
    c.self.inside.mutexes.items c.other.inside.mutexes.items c.self.inside.conditions.items
    c.other.inside.conditions.items c.self.inside.semaphores.items
    c.other.inside.semaphores.items c.self.inside.threads.items c.other.inside.threads.items
    ∙ (λ i. same_program (c.self.view_is i) (c.other.view_is i)))

pub returns-then-eq-4 : goal.returns-then-eq-4
returns-then-eq-4 c =
    let at = (goal.at.returns-then-eq-4 c).Joined-eq-3 in
    same at _ (then_so (but_threads at) _ c.if-eq-3.value _ c.eq-then-eq-4.result (first_four at)
    c.if-eq-4.true c.eq-then-eq-4.ensures refl)

pub returns-else-eq-4 : goal.returns-else-eq-4
returns-else-eq-4 c =
    let at = (goal.at.returns-else-eq-4 c).Joined-eq-3 in
    same at _ (else_so (but_threads at) _ c.if-eq-3.value c.if-eq-3.value (first_four at)
    c.if-eq-4.false refl)
