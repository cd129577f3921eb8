use Rattle.std.proofs.Common.{replicate, sym, subst}
use Rattle.semantics.specs.Machine.{start}
use Rattle.semantics_machine.specs.declared.control.{Control.Control, TheConstants.FREE}
use Rattle.semantics_machine.{specs.inner.Opening.IsOpenedTo, proofs.Openings.unbegun_is}
use Rattle.semantics_machine.proofs.control.Control.without_threads.Goals as goal

pub returns : goal.returns
returns c = subst (λ (x : Control). IsOpenedTo c.args.program.now (start c.args.program.now) 0 x)
    (sym (λ i. record {
      enabled = c.empty.ensures i;
      unended = c.threads_of.result;
      stopped = c.empty-2.ensures i;
      woken = c.empty-3.ensures i;
      places = replicate 16 0;
      owners = replicate 8 FREE;
      counts = c.initial_counts.result;
      mutexes = replicate 8 (c.empty-4.ensures i);
      semaphores = replicate 8 (c.empty-5.ensures i);
      lengths = replicate 8 0;
    }))
    (unbegun_is c.args.program.now c.threads_of.result c.initial_counts.result c.threads_of.ensures
    c.initial_counts.ensures)
