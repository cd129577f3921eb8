-- When two programs are the same: `==` on each of the parts.
use Rattle.std.specs.Prelude.{Bool, nat_eq}
use Rattle.std.specs.Cmp.{IsEquivalence, IsPartialEquivalence, partial_equiv_from_equiv, and_equiv, on_equiv, nat_eq_equiv, int_eq_equiv}
use Rattle.std.specs.{Cmp.Lexicographic.{pointwise, lists_equiv}, Ordering.{on, eq_of_both, int_eq}}
use Rattle.guest_code.specs.Program.{Variable, Semaphore, Thread, Program}
use Rattle.guest_code.specs.contracts.program.InstructionEq.TheImpl.Laws.{laws-law}
use Rattle.guest_code.specs.contracts.program.InstructionPartialEq.TheImpl.{eq-value}
use Rattle.guest_code.specs.declared.program.Instruction.{Instruction}

-- `==` of instructions, which is derived
abbrev pub same_instruction : Instruction → Instruction → Bool
same_instruction = eq-value.it

-- `==` of variables, of semaphores and of threads: of their names and of all else that they hold
abbrev pub same_variable : Variable → Variable → Bool
same_variable = eq_of_both (on (λ v. v.name) (pointwise nat_eq)) (on (λ v. v.opening) int_eq)

abbrev pub same_semaphore : Semaphore → Semaphore → Bool
same_semaphore = eq_of_both (on (λ s. s.name) (pointwise nat_eq)) (on (λ s. s.count) nat_eq)

abbrev pub same_thread : Thread → Thread → Bool
same_thread = eq_of_both (on (λ t. t.name) (pointwise nat_eq))
    (eq_of_both (on (λ t. t.locals) nat_eq) (on (λ t. t.code) (pointwise same_instruction)))

-- `==` of programs
abbrev pub same_program : Program → Program → Bool
same_program =
    eq_of_both (on (λ p. p.variables) (pointwise same_variable))
    (eq_of_both (on (λ p. p.mutexes) (pointwise (pointwise nat_eq)))
    (eq_of_both (on (λ p. p.conditions) (pointwise (pointwise nat_eq)))
    (eq_of_both (on (λ p. p.semaphores) (pointwise same_semaphore))
    (on (λ p. p.threads) (pointwise same_thread)))))

-- ---- its laws

names_equivalence : IsEquivalence (pointwise nat_eq)
names_equivalence = lists_equiv nat_eq_equiv

pub variables_equivalence : IsEquivalence same_variable
variables_equivalence = and_equiv (on_equiv (λ v. v.name) names_equivalence)
    (on_equiv (λ v. v.opening) int_eq_equiv)

semaphores_equivalence : IsEquivalence same_semaphore
semaphores_equivalence = and_equiv (on_equiv (λ s. s.name) names_equivalence)
    (on_equiv (λ s. s.count) nat_eq_equiv)

threads_equivalence : IsEquivalence same_thread
threads_equivalence = and_equiv (on_equiv (λ t. t.name) names_equivalence)
    (and_equiv (on_equiv (λ t. t.locals) nat_eq_equiv)
    (on_equiv (λ t. t.code) (lists_equiv laws-law)))

pub programs_equivalence : IsEquivalence same_program
programs_equivalence =
    and_equiv (on_equiv (λ p. p.variables) (lists_equiv variables_equivalence))
    (and_equiv (on_equiv (λ p. p.mutexes) (lists_equiv names_equivalence))
    (and_equiv (on_equiv (λ p. p.conditions) (lists_equiv names_equivalence))
    (and_equiv (on_equiv (λ p. p.semaphores) (lists_equiv semaphores_equivalence))
    (on_equiv (λ p. p.threads) (lists_equiv threads_equivalence)))))

pub programs_partial_equivalence : IsPartialEquivalence same_program
programs_partial_equivalence = partial_equiv_from_equiv programs_equivalence
