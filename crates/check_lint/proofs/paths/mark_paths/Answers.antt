use Rattle.std.proofs.Common.{◌+◌, ◌≤◌, arith, get_or, length}
use Rattle.guest_code.specs.{Program.skip_of, declared.program.Instruction.TheVariants.Load}
use Rattle.check_lint.proofs.PathMarks.{passed_none, passed_step, passed_all, jump_fits}
use Rattle.check_lint.proofs.paths.mark_paths.Goals as goal

pub loop-at-init : goal.loop-at-init
loop-at-init c = passed_none c.args.marks.now c.add_mark.new.marks c.args.code.now c.args.watch
    c.args.start c.args.holds c.requires.none c.add_mark.ensures

pub propagate_marks-requires : goal.propagate_marks-requires
propagate_marks-requires c =
    let fits : c.loop-at.at + 1 + skip_of (get_or c.args.code.now c.loop-at.at (Load 0 0))
    ≤ length c.args.code.now = jump_fits c.args.code.now c.loop-at.at (Load 0 0)
    c.requires.jumps c.loop-at-test.true in
    omega (arith, c.requires.length, c.add_mark.auto.marks, c.loop-at.auto.marks)

pub loop-at-preserved : goal.loop-at-preserved
loop-at-preserved c = passed_step c.loop-at.marks c.propagate_marks.new.marks c.args.code.now
    c.args.watch c.args.start c.args.holds c.loop-at.at (Load 0 0) c.loop-at-test.true
    c.propagate_marks.ensures c.loop-at.invariant

pub returns : goal.returns
returns c = passed_all c.loop-at.marks c.args.code.now c.args.watch c.args.start c.args.holds
    c.loop-at.at c.loop-at-test.false c.loop-at.auto.at-end c.loop-at.invariant
