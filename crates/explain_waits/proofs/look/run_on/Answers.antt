use Rattle.std.proofs.Common.{ap, arith, drop}
use Rattle.semantics.specs.declared.state.{Status.TheVariants.Running, Thread.Thread}
use Rattle.semantics.proofs.WorkFalls.{local_run-pc}
use Rattle.explain_waits.proofs.look.run_on.Goals as goal

pub returns : goal.returns
returns c =
    let place = ap (λ (th : Thread). th.pc) c.run_local.ensures.value in
    let th : Thread = record { pc = c.args.from; locals = c.args.locals.now; status = Running } in
    let on = local_run-pc (drop c.args.from c.args.code.now) 0 th in
    record {
      place = place;
      locals = ap (λ (th : Thread). th.locals) c.run_local.ensures.value;
      further = omega (arith, place, on);
      inside = c.run_local.ensures.pc;
    }
