use Rattle.std.proofs.Common.{◌∙◌, ◌∷◌, ℕ, List, ap, sym}
use Rattle.semantics.proofs.Masks.{members-without_first}
use Rattle.walk.proofs.search.without_first.Goals as goal

pub returns : goal.returns
returns c =
    let t = c.args.first in
    c.requires.first
    ∙ ap (λ (ts : List ℕ). t ∷ ts) (sym (members-without_first c.args.set c.with.result t
    c.requires.fits c.requires.least c.with.ensures.same c.with.ensures.others))
