use Rattle.std.proofs.Common.{arith, ◌∙◌, refl, ap, sym}
use Rattle.semantics.specs.Machine.{is_full}
use Rattle.semantics_machine.proofs.Performed.{leaves, releases, cannot_release, full_count, room_count}
use Rattle.semantics_machine.proofs.control.Control.release_or_stop.Goals as goal

pub returns-then-self-semaphore : goal.returns-then-self-semaphore
returns-then-self-semaphore c = λ p s cells mine poised.
    cannot_release p s c.args._thread _ c.args.self.now cells mine c.args.semaphore poised refl
    (ap is_full (sym (poised.control.objects.counts_are c.args.semaphore))
    ∙ full_count _ c.if-self-semaphore.true)

pub returns : goal.returns
returns c = λ p s cells mine poised.
    releases p s c.args._thread _ c.args.self.now c.release.new.self cells mine c.args.semaphore
    poised
    refl (ap is_full (sym (poised.control.objects.counts_are c.args.semaphore))
    ∙ room_count _ c.if-self-semaphore.false)
    c.release.ensures.lengths
    (c.release.ensures.rises p s c.args._thread
    (leaves p s c.args._thread _ c.args.self.now cells mine _ poised refl (λ n. refl) (λ k. refl))
    (omega (arith, poised.fine, poised.of.counts)))
