use Rattle.std.proofs.Common.{List, Some, add-one, ap, arith, drop, drop-cons, get_or, length, refl, subst, sym, ℕ, ◌+◌, ◌∙◌, ◌∷◌, ◌≡◌}
use Rattle.guest_syntax.specs.{Place.Follows, reader.BlankBytes.{Passed, Stops, NotAscii}}
use Rattle.guest_syntax.proofs.BlankRuns.{above_step, passed_step, stops_step}
use Rattle.guest_syntax.proofs.ByteLoops.{from_at, skipped_step, skipped_end}
use Rattle.guest_syntax.proofs.PlacesInText.{nothing_follows, follows_then, byte_follows}
use Rattle.guest_syntax.proofs.lexer.skip_blank_bytes.Goals as goal

pub returns-in-None-clause-gives : goal.returns-in-None-clause-gives
returns-in-None-clause-gives c =
    sym c.loop-i.invariant.same ∙ skipped_step c.args.text.now c.loop-i.i c.loop-i.comment
    c.loop-i.at c.loop-i-test.true Stops (stops_step c.loop-i.comment _ c.if-byte-gt127.false
    (sym c.in-None.ensures)) ∙
    ap (λ (r : List ℕ). Some (c.loop-i.at, r)) (sym (from_at c.args.text.now c.loop-i.i))

pub returns-then-byte-gt127-clause-gives : goal.returns-then-byte-gt127-clause-gives
returns-then-byte-gt127-clause-gives c =
    sym c.loop-i.invariant.same ∙ skipped_step c.args.text.now c.loop-i.i c.loop-i.comment
    c.loop-i.at c.loop-i-test.true NotAscii (above_step c.loop-i.comment _ c.if-byte-gt127.true)

pub loop-i-preserved : goal.loop-i-preserved
loop-i-preserved c =
    record {
      same = rw c.past-at.ensures.place (sym
          (skipped_step c.args.text.now c.loop-i.i c.loop-i.comment c.loop-i.at c.loop-i-test.true
          (Passed c.in-Some.goes_on) (passed_step c.loop-i.comment _ c.in-Some.goes_on
          c.if-byte-gt127.false (sym c.in-Some.ensures))) ∙ c.loop-i.invariant.same);
      follows = rw c.past-at.ensures.place (follows_then c.loop-i.invariant.follows
          (byte_follows c.args.text.now c.loop-i.i c.loop-i.at c.loop-i-test.true));
      line = omega arith;
      col = omega arith;
    }

pub returns-clause-gives : goal.returns-clause-gives
returns-clause-gives c = sym c.loop-i.invariant.same ∙ skipped_end c.args.text.now c.loop-i.i
    c.loop-i.comment c.loop-i.at c.loop-i-test.false ∙ ap (λ (r : List ℕ). Some (c.loop-i.at, r))
    (sym (from_at c.args.text.now (length c.args.text.now)))

pub loop-i-init : goal.loop-i-init
loop-i-init c = record {
  same = refl;
  follows = nothing_follows c.args.text.now c.args.start;
  line = omega arith;
  col = omega arith;
}

pub returns-then-byte-gt127-clause-refused : goal.returns-then-byte-gt127-clause-refused
returns-then-byte-gt127-clause-refused c =
    let text = c.args.text.now in
    let i = c.loop-i.i in
    let more : drop i text ≡ get_or text i 0 ∷ drop (i + 1) text =
    rw add-one (drop-cons text i 0 c.loop-i-test.true) in (
      get_or text i 0,
      drop (i + 1) text,
      c.if-byte-gt127.true,
      subst (Follows c.args.start text c.loop-i.at) more
          c.loop-i.invariant.follows,
    )
