use Rattle.explain_cause.proofs.Touched.{setting_in_cause}
use Rattle.explain_cause.proofs.laws.steps_that_set_values_of_a_failed_assertion_are_in_the_cause.Goals as goal

pub returns : goal.returns
returns c = λ p run told r j k step tells inside before end uses sets last at few.
    setting_in_cause p run told r j k step tells inside before end uses sets last at few
