use Rattle.explain_cause.proofs.Touched.{untouched_out}
use Rattle.explain_cause.proofs.laws.what_touches_nothing_in_the_cause_is_not_in_it.Goals as goal

pub returns : goal.returns
returns c = λ p run told k tells inside no_end apart.
    untouched_out p run told k tells inside no_end apart
