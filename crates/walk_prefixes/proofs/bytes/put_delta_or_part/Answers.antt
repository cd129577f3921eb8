use Rattle.std.proofs.Common.{refl, inl, inr, ⊎_elim}
use Rattle.walk_prefixes.proofs.WayBytes.{small_way, large_way}
use Rattle.walk_prefixes.proofs.bytes.put_delta_or_part.Goals as goal

pub returns-in_ok-push-clause-done : goal.returns-in_ok-push-clause-done
returns-in_ok-push-clause-done c = small_way c.args.bytes.now.items c.args.tail.now
    c.put_bytes.new.bytes.items _ c.args.dropped _ c.if-dropped-lt8.true
    c.if-steps-lt15.true c.in_ok-put_bytes.ensures.items refl c.in_ok-push.ensures.items

pub returns-in_ok-push-2-clause-done : goal.returns-in_ok-push-2-clause-done
returns-in_ok-push-2-clause-done c =
    let e = c.in_ok-extend_from_slice.ensures.items in
    let f = c.in_ok-extend_from_slice-2.ensures.items in
    let g = c.in_ok-extend_from_slice-3.ensures.items in
    let h = c.in_ok-push-2.ensures.items in
    large_way c.args.bytes.now.items c.args.tail.now c.extend_from_slice.new.self.items
    c.extend_from_slice-else-dropped-lt8.new.self.items
    c.extend_from_slice-else-dropped-lt8-2.new.self.items
    c.push-else-dropped-lt8.new.self.items c.args.dropped
    (⊎_elim (λ p. inr p.1) (λ q. inl q) c.else-dropped-lt8.either)
    e (rw (← c.to_le_bytes.ensures) f) (rw (← c.to_le_bytes-else-dropped-lt8.ensures) g) h
