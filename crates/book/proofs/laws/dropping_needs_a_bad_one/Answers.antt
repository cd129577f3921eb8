use Rattle.book.proofs.BoundedSums.{thinned_found}
use Rattle.book.proofs.laws.dropping_needs_a_bad_one.Goals as goal

pub returns : goal.returns
returns c = λ b t. let r = thinned_found b t in (t.first, t.found, r.0, r.1)
