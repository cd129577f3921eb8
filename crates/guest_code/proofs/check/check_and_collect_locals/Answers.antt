use Rattle.std.proofs.Common.{arith, refl}
use Rattle.std.proofs.lemmas.Result.{err_from_is_err_and}
use Rattle.guest_syntax.specs.Tree.{name_view}
use Rattle.guest_code.specs.{Program.locals_view, inner.Walk.all_uses}
use Rattle.guest_code.proofs.CheckAnswers.{names_not, names_begin, thread_not, body_not, thread_goes, locals_go, few_go}
use Rattle.guest_code.proofs.check.check_and_collect_locals.Goals as goal

pub returns-in_err-check_declarations-clause-gives :
    goal.returns-in_err-check_declarations-clause-gives
returns-in_err-check_declarations-clause-gives c =
    let p = err_from_is_err_and c.from_residual.result c.from_residual.ensures.1 in
    rw (p.1, p.2) (names_not c.args.tree.now _ tt c.in_err-check_declarations.field-0.0
    c.declarations-declarations.ensures c.in_err-check_declarations.ensures)

pub loop-i-init : goal.loop-i-init
loop-i-init c = record {
  same = names_begin c.args.tree.now _ c.in_ok-check_declarations.field-0
      c.declarations-declarations.ensures c.threads-threads.ensures
      c.in_ok-check_declarations.ensures;
  locals = rw c.new-all.ensures.items refl;
  few =
      omega arith;
}

pub returns-in_err-check_new_name-clause-gives : goal.returns-in_err-check_new_name-clause-gives
returns-in_err-check_new_name-clause-gives c =
    let p = err_from_is_err_and c.from_residual-in_err-check_new_name.result
    c.from_residual-in_err-check_new_name.ensures.1 in
    rw (p.1, p.2) (thread_not (all_uses c.args.tree.now) _ _ c.loop-i.i _ tt _ _ c.loop-i-test.true
    c.index-threads-i.is c.in_err-check_new_name.ensures c.loop-i.invariant.same)

pub returns-in_err-checked_locals-clause-gives : goal.returns-in_err-checked_locals-clause-gives
returns-in_err-checked_locals-clause-gives c =
    let p = err_from_is_err_and c.from_residual-in_err-checked_locals.result
    c.from_residual-in_err-checked_locals.ensures.1 in
    rw (p.1, p.2) (body_not (all_uses c.args.tree.now) _ _ c.loop-i.i _ tt _ _ c.loop-i-test.true
    c.index-threads-i.is c.in_ok-check_new_name.ensures c.in_err-checked_locals.ensures
    c.loop-i.invariant.same)

pub loop-i-preserved : goal.loop-i-preserved
loop-i-preserved c =
    let small = few_go (name_view c.index-threads-i.result.name) _ c.loop-i.i tt
    c.in_ok-check_new_name.ensures in
    record {
      same = thread_goes (all_uses c.args.tree.now) _ _ c.loop-i.i _ tt
          (locals_view c.in_ok-checked_locals.field-0) _ c.loop-i-test.true c.index-threads-i.is
          c.in_ok-check_new_name.ensures c.in_ok-checked_locals.ensures c.loop-i.invariant.same;
      locals = locals_go (all_uses c.args.tree.now) c.loop-i.all.items c.push.new.self.items
          c.in_ok-checked_locals.field-0 c.threads-threads.result.now c.loop-i.i
          c.index-threads-i.result c.loop-i-test.true c.index-threads-i.is
          c.in_ok-push.ensures.items c.in_ok-checked_locals.ensures c.loop-i.invariant.locals;
      few = omega (arith, small);
    }
