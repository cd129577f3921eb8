-- What the kind of a schedule's end says of its threads.
use Rattle.std.specs.Prelude.{◌≡◌, ◌≢◌, List, All}
use Rattle.std.specs.List.{Any}
use Rattle.semantics.specs.declared.state.{Status.TheVariants.{Ended, Stopped}, Stop.Stop}
use Rattle.semantics.specs.declared.state.Thread.{Thread}

-- the thread stopped, for some reason
abbrev pub HasStopped : Thread → Type 0
HasStopped th = (why : Stop) × (th.status ≡ Stopped why)

-- some thread stopped
abbrev pub SomeStopped : List Thread → Type 0
SomeStopped threads = Any HasStopped threads

-- some thread has not ended
abbrev pub SomeUnended : List Thread → Type 0
SomeUnended threads = Any (λ th. th.status ≢ Ended) threads

-- each thread ended
abbrev pub AllEnded : List Thread → Type 0
AllEnded threads = All (λ th. th.status ≡ Ended) threads
