-- Taking a step back: what is noted of it, and the state that it gives back.
use Rattle.std.specs.Prelude.{ℕ, ◌<◌, List, [], ◌∷◌, length, slice_index_or, slice_set, All}
use Rattle.semantics.specs.Machine.{Snapshot, value_of, owner_of, queue_of, count_of, with_status, missing_thread}
use Rattle.semantics.specs.declared.state.Action.{Action}
use Rattle.semantics.specs.declared.state.Action.TheVariants.{OnVariable, OnMutex, Wait as Waits, OnCondition, OnSemaphore}
use Rattle.semantics.specs.declared.state.{Status.TheVariants.Waiting, Thread.Thread}
use Rattle.semantics.specs.declared.state.objects.Objects.{Objects}
use Rattle.semantics.specs.declared.state.objects.Objects.TheVariants.{Variable, Owner, Wait, Call, Count}
use Rattle.semantics.specs.declared.undo.Undo.{Undo}

-- these threads wait for condition c
abbrev pub waiting_again : ℕ → List ℕ → List Thread → List Thread
waiting_again c [] threads = threads
waiting_again c (u ∷ us) threads =
    waiting_again c us
    (slice_set threads u (with_status (slice_index_or threads u missing_thread) (Waiting c)))

-- what an action changes beside its thread, as it is
abbrev pub objects_of : Snapshot → Action → Objects
objects_of s (OnVariable x d) = Variable x (value_of s x)
objects_of s (OnMutex m d) = Owner m (owner_of s m)
objects_of s (Waits c m) = Wait c (queue_of s c) m (owner_of s m)
objects_of s (OnCondition c d) = Call c (queue_of s c)
objects_of s (OnSemaphore k d) = Count k (count_of s k)

-- what was noted is as it was; after a signal or a broadcast all that were in the queue wait again
abbrev pub put_back : Objects → Snapshot → Snapshot
put_back (Variable x v) s = record s { vars = slice_set s.vars x v }
put_back (Owner m o) s = record s { owners = slice_set s.owners m o }
put_back (Wait c q m o) s = record s {
  owners = slice_set s.owners m o;
  queues = slice_set s.queues c q;
}
put_back (Call c q) s = record s {
  queues = slice_set s.queues c q;
  threads = waiting_again c q s.threads;
}
put_back (Count k n) s = record s { counts = slice_set s.counts k n }

-- these are objects of the state, and who was in the queue is a thread of it
abbrev pub HasObjects : Snapshot → Objects → Type 0
HasObjects s (Variable x v) = x < length s.vars
HasObjects s (Owner m o) = m < length s.owners
HasObjects s (Wait c q m o) = (c < length s.queues) × (m < length s.owners)
HasObjects s (Call c q) = (c < length s.queues) × All (λ u. u < length s.threads) q
HasObjects s (Count k n) = k < length s.counts

-- the state before the step of which this is the record: its thread, then the objects
abbrev pub undone : Undo → Snapshot → Snapshot
undone u s = put_back u.objects (record s { threads = slice_set s.threads u.thread u.before })

-- the record can be put back into the state
pub record IsRecordOf (u : Undo) (s : Snapshot) : Type 0 where
  pub thread : u.thread < length s.threads
  pub objects : HasObjects s u.objects
