use Rattle.std.proofs.Common.{◌≡◌, sym, ◌∙◌, arith}
use Rattle.std.proofs.lemmas.List.{append-nil}
use Rattle.guest_syntax.specs.Tree.{block_view}
use Rattle.guest_code.specs.{Code.block_code, Sizes.block_size, inner.Emission.names_of}
use Rattle.guest_code.proofs.CodeLengths.{unrolled_none, unrolled_step, unrolled_end, cut_below}
use Rattle.guest_code.proofs.emit.+emit.Goals.{emit_copies-then-times-eq0-via-then-times-eq0, emit_copies-then-times-eq0-via-else-times-eq0+then-len-eq0}
use Rattle.guest_code.proofs.emit.+emit.Goals as goal

pub emit_copies-returns-then-times-eq0 : goal.emit_copies-returns-then-times-eq0
emit_copies-returns-then-times-eq0 t c = elim c.then-times-eq0.branch [
  | emit_copies-then-times-eq0-via-then-times-eq0 w ↦ rw w.if-times-eq0.true
      (sym (append-nil c.args.code.now.items))
  | emit_copies-then-times-eq0-via-else-times-eq0+then-len-eq0 w ↦
      rw (unrolled_none (names_of c.args.names) (block_view c.args.body.now) c.args.times
      (omega (arith, c.size_of_block-len.ensures))) (sym (append-nil c.args.code.now.items))
]

pub emit_copies-loop-left-preserved : goal.emit_copies-loop-left-preserved
emit_copies-loop-left-preserved t c = record {
  same = unrolled_step (block_code (names_of c.args.names) (block_view c.args.body.now))
      c.size_of_block-len.result c.loop-left.left c.loop-left.code.items
      c.emit_block.new.code.items _ c.loop-left-test.true c.in_ok-emit_block.ensures
      c.loop-left.invariant.same;
  less = omega (arith, c.loop-left.invariant.less);
}

pub emit_copies-returns : goal.emit_copies-returns
emit_copies-returns t c =
    let len : c.size_of_block-len.result ≡ block_size (block_view c.args.body.now) =
    c.size_of_block-len.ensures
    ∙ cut_below c.args.times (block_size (block_view c.args.body.now)) (omega arith)
    c.requires in
    let none : c.loop-left.left ≡ 0 = omega arith in
    rw (← len) (unrolled_end (block_code (names_of c.args.names) (block_view c.args.body.now))
    c.size_of_block-len.result c.loop-left.code.items _ (rw none at c.loop-left.invariant.same))
