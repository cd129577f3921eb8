use Rattle.runner.proofs.Agreement as agreement
use Rattle.runner.proofs.laws.reports_agree.Goals as goal

pub returns : goal.returns
returns c = agreement.reports_agree
