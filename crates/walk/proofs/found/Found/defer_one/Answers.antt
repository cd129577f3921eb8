use Rattle.std.proofs.Common.{◌∷◌, ◌++◌, [], ◌∙◌, ℕ, List, take, drop, ◌+◌, ◌-◌, refl, ap, sym, arith}
use Rattle.std.proofs.lemmas.List.{length-take-le}
use Rattle.walk_prefixes.specs.PrefixLists.{last_of}
use Rattle.walk.proofs.SharedSteps.{put_beside, shared_put}
use Rattle.walk.proofs.found.Found.defer_one.Goals as goal

pub returns-clause-deferred : goal.returns-clause-deferred
returns-clause-deferred c =
    let f = c.args.self.now in
    let w = c.args.steps.now.items in
    let long = length-take-le c.args.place w (omega (arith, c.requires.place)) in
    let fits = c.requires.shared.fits in
    c.in_ok-pushed.ensures ∙ ap (λ (v : List ℕ). f.deferred ++ v ∷ [])
    (ap (λ (xs : List ℕ). take f.shared (last_of f.deferred)
    ++ take (c.args.place + 1 - f.shared) (drop f.shared xs)) c.deref.ensures.value
    ∙ put_beside w (last_of f.deferred) c.args.place f.shared _ c.args.thread c.requires.place
    (omega (arith, long, fits)) refl c.requires.shared.same)

pub returns-clause-shared : goal.returns-clause-shared
returns-clause-shared c =
    let w = c.args.steps.now.items in
    shared_put (take c.args.place w) c.args.thread c.args.self.now.deferred _
    (returns-clause-deferred c)
    (sym (length-take-le c.args.place w (omega (arith, c.requires.place))))
