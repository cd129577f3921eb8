use Rattle.std.proofs.Common.{◌≡◌, ◌-◌, ◌++◌, length, take, drop, ap, arith}
use Rattle.walk_prefixes.specs.inner.Packed.{dropped_of, start_of, end_of, before}
use Rattle.walk_prefixes.proofs.PackedPrefixes.{on_ok}
use Rattle.walk_prefixes.proofs.bytes.restore_previous.Goals as goal

pub returns-clause-done : goal.returns-clause-done
returns-clause-done c =
    on_ok c.extend_from_slice.result _ _ _ (before c.args.bytes.now c.args.last.now.items)
    c.extend_from_slice.ensures.items
    (rw (c.truncate.ensures.items, c.requires.start, c.requires.end)
    (ap (λ i. take i c.args.last.now.items
    ++ take (end_of c.args.bytes.now - start_of c.args.bytes.now)
    (drop (start_of c.args.bytes.now) c.args.bytes.now))
    (let e : c.saturating_sub.result ≡ length c.args.last.now.items - dropped_of
    c.args.bytes.now = omega (arith, c.requires.dropped, c.args.last.now.ok.0) in e)))
