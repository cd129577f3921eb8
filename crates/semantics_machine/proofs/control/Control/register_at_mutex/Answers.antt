use Rattle.std.proofs.Common.{arith, ap, nat_eq}
use Rattle.std.proofs.lemmas.List.{get_or_default}
use Rattle.semantics_machine.specs.declared.control.TheConstants.{FREE}
use Rattle.semantics_machine.proofs.Landings.{stands_at_mutex, free_is}
use Rattle.semantics_machine.proofs.control.Control.register_at_mutex.Goals as goal

pub returns-clause-stands : goal.returns-clause-stands
returns-clause-stands c = λ s d objects apart taking.
    stands_at_mutex s c.args.thread c.args.m d c.args.self.now c.with.result _
    objects
    apart taking (omega (arith, c.requires)) c.with.ensures.same c.with.ensures.others
    (free_is _ _ (ap (λ n. nat_eq n FREE) (get_or_default c.args.self.now.owners c.args.m 0 FREE
    (omega (arith, c.requires)))))
