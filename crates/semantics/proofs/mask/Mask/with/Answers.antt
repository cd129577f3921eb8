use Rattle.std.proofs.Common.{rules, ◌≡◌, ◌<◌, ◌-◌, ◌*◌, ◌%◌, ◌^◌, ◌∙◌, ℕ, arith, sym, ap, inl, inr, nat_eq, min}
use Rattle.std.{specs.Int.{bit_at, w16}, proofs.lemmas.Bool.cases_lt}
use Rattle.std.proofs.lemmas.Nat.Bits.{bit_at_above, bit_at_set_same, bit_at_set_other, bit_at_clear_same, bit_at_clear_other, bit_at_and}
use Rattle.semantics.proofs.mask.Mask.with.Goals as goal

least : (n : ℕ) → min 0 n ≡ 0
least n = omega arith

pub returns-then-on-clause-same : goal.returns-then-on-clause-same
returns-then-on-clause-same c = ap (λ (n : ℕ). nat_eq n 1)
    (bit_at_set_same w16 c.args.self.bits c.args.thread (omega arith)) ∙ sym c.if-on.true

pub returns-then-on-clause-others : goal.returns-then-on-clause-others
returns-then-on-clause-others c = λ u ne. ap (λ (n : ℕ). nat_eq n 1)
    (bit_at_set_other w16 c.args.self.bits c.args.thread (omega arith) u ne)

pub returns-else-on-clause-same : goal.returns-else-on-clause-same
returns-else-on-clause-same c = ap (λ (n : ℕ). nat_eq n 1)
    (bit_at_clear_same w16 c.args.self.bits c.args.thread (omega arith)) ∙ sym c.if-on.false

pub returns-else-on-clause-others : goal.returns-else-on-clause-others
returns-else-on-clause-others c = λ u ne. elim (cases_lt u 16) [
  | inl l ↦ ap (λ (n : ℕ). nat_eq n 1) (bit_at_clear_other w16 c.args.self.bits c.args.thread
      (omega arith) u l ne)
  | inr g ↦ (let fits : c.args.self.bits < 2 ^ 16 = search rules in let z : bit_at c.args.self.bits
      u ≡ 0 = bit_at_above c.args.self.bits 16 u fits g in ap (λ (n : ℕ). nat_eq n 1)
      (bit_at_and c.args.self.bits (65535 - 1 * 2 ^ c.args.thread % 65536) u ∙
      (ap (λ (n : ℕ). min n (bit_at (65535 - 1 * 2 ^ c.args.thread % 65536) u)) z ∙
      (least (bit_at (65535 - 1 * 2 ^ c.args.thread % 65536) u) ∙ sym z))))
]
