-- A thread that signals or broadcasts is not changed by those whom it wakes.
use Rattle.std.proofs.Common.{arith, ◌≡◌, ◌<◌, ◌∙◌, ℕ, List, [], ◌++◌, length, take, drop, get_or, ap, sym, subst}
use Rattle.std.proofs.{Math.Seq.take-append_seam, lemmas.List.get_or_read}
use Rattle.guest_code.specs.Program.{Program}
use Rattle.semantics.specs.Machine.{Snapshot, thread_at, missing_thread, can_do, queue_of, woken, wake, threads_to_wake}
use Rattle.semantics.specs.{Reachable.IsReady, declared.state.Action.TheVariants.OnCondition}
use Rattle.semantics.specs.declared.state.{ConditionAction.ConditionAction, Thread.Thread}
use Rattle.semantics.proofs.Waking.{thread_awake, wake-get, wake-length}

-- the threads W, written over n threads I
abbrev pub over : ℕ → List Thread → List Thread → List Thread
over n I W = take n (W ++ drop (length W) I)

-- of queues Q and n threads I: q is the queue of condition c, W are the threads after the call, and
-- x is the caller among them
pub record HasCalled (s : Snapshot) (t c : ℕ) (d : ConditionAction) (n : ℕ) (I : List Thread)
    (q : List ℕ)
    (W : List Thread) (x : Thread) : Type 0 where
  pub queue : q ≡ queue_of s c
  pub threads : over n I W ≡ wake c (threads_to_wake d (queue_of s c)) s.threads
  pub within : t < length (over n I W)
  pub caller : x ≡ thread_at s t

pub has_called : (p : Program) (s : Snapshot) (t c : ℕ) (d : ConditionAction) (Q : List (List ℕ))
    (n : ℕ) (I : List Thread) (q : List ℕ) (W : List Thread) (x : Thread)
    → IsReady p s t (OnCondition c d)
    → Q ≡ s.queues → I ≡ s.threads → n ≡ length I → q ≡ get_or Q c q
    → W ≡ wake c (threads_to_wake d q) I
    → x ≡ get_or (over n I W) t x → HasCalled s t c d n I q W x
has_called p s t c d Q n I q W x ready queues same full read called at = record {
  queue = queue;
  threads = threads;
  within = within;
  caller = get_or_read (over n I W) t x within at missing_thread
      ∙ (ap (λ (X : List Thread). get_or X t missing_thread) threads
      ∙ wake-get c (threads_to_wake d (queue_of s c)) t s.threads awake);
}
  where
    there : c < length Q
    there = omega (arith, ready.fine, ready.of.queues, ap (λ (X : List (List ℕ)). length X) queues)

    queue : q ≡ queue_of s c
    queue = get_or_read Q c q there read [] ∙ ap (λ (X : List (List ℕ)). get_or X c []) queues

    as_many : length W ≡ length I
    as_many = ap (λ (X : List Thread). length X) called ∙ wake-length c (threads_to_wake d q) I

    refilled : over n I W ≡ W
    refilled = ap (λ k. take k (W ++ drop (length W) I)) (full ∙ sym as_many)
        ∙ take-append_seam W (drop (length W) I)

    threads : over n I W ≡ wake c (threads_to_wake d (queue_of s c)) s.threads
    threads = refilled ∙ (called ∙ (λ i. wake c (threads_to_wake d (queue i)) (same i)))

    few : t < length W
    few = omega (
      arith,
      as_many,
      ready.thread,
      ready.of.threads,
      ap (λ (X : List Thread). length X) same,
    )

    within : t < length (over n I W)
    within = subst (λ (X : List Thread). t < length X) (sym refilled) few

    awake : woken c (thread_at s t) ≡ thread_at s t
    awake = thread_awake p s t c (ap (can_do s) ready.next ∙ ready.allowed)
