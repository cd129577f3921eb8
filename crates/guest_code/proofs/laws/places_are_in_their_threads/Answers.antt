use Rattle.guest_code.proofs.SourcePlaces.{places_in_threads}
use Rattle.guest_code.proofs.laws.places_are_in_their_threads.Goals as goal

pub returns : goal.returns
returns c = λ text t s. places_in_threads t.threads
    (c.statements_are_in_their_threads.ensures text t s)
