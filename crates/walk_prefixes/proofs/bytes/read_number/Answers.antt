use Rattle.std.proofs.Common.{◌≡◌, ◌+◌, ◌-◌, take, drop, ◌∙◌, ap, arith}
use Rattle.walk_prefixes.specs.inner.Packed.{number_at}
use Rattle.std.specs.Int.{from_le_bytes, w64}
use Rattle.walk_prefixes.proofs.bytes.read_number.Goals as goal

pub returns-in-Ok : goal.returns-in-Ok
unfolding number_at
returns-in-Ok c =
    let e = c.in-Ok.ensures.1.same in
    let k : c.args.at + 8 - c.args.at ≡ 8 = omega arith in
    c.from_le_bytes.ensures ∙ ap (from_le_bytes w64)
    (e ∙ ap (λ i. take i (drop c.args.at c.args.bytes.now)) k)
