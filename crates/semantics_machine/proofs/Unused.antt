-- The locals past those of which any code speaks stay as they began.
use Rattle.std.specs.Prelude.{All, IfSome}
use Rattle.std.proofs.Common.{◌≡◌, ℕ, ℤ, zero, suc, ◌+◌, ◌<◌, Bool, true, false, cond, rules, List, [], ◌∷◌, length, drop, set, get_or, Option, Some, None, refl, ap, ◌∙◌, sym, subst, arith, get_or-set_same}
use Rattle.std.proofs.lemmas.List.{drop-set-lt, Elements.{All-drop}}
use Rattle.guest_code.specs.Program.{Program, code_of, LocalsBelow}
use Rattle.guest_code.specs.declared.program.Instruction.{Instruction}
use Rattle.guest_code.specs.declared.program.Instruction.TheVariants.{Load, Store, Add, Cas, Wait, Set, Assert, SkipIfZero, Skip}
use Rattle.semantics.specs.Machine.{Snapshot, acts, step, is_enabled, next_of, action_of, action_at, thread_at, missing_thread, value_of, queue_of, owner_of, count_of, resumed, reader_after, is_full, owns, wake, threads_to_wake, local_run, advance, with_local, with_status, value_of_expression, is_zero}
use Rattle.semantics.specs.{Turns.IsAccessBelow, declared.state.Action.Action}
use Rattle.semantics.specs.declared.state.Action.TheVariants.{OnVariable, OnMutex, Wait as Waits, OnCondition, OnSemaphore}
use Rattle.semantics.specs.declared.state.MutexAction.TheVariants.{Lock as Locks, Unlock as Unlocks, Retake as Retakes}
use Rattle.semantics.specs.declared.state.SemaphoreAction.TheVariants.{Acquire as Acquires, Release as Releases}
use Rattle.semantics.specs.declared.state.Status.{Status, TheVariants.{Running, Waiting, Woken, Stopped}}
use Rattle.semantics.specs.declared.state.Stop.TheVariants.{Assert as FailedAssert, NotHeld, SemFull}
use Rattle.semantics.specs.declared.state.Thread.{Thread}
use Rattle.semantics.specs.declared.state.VariableAction.{VariableAction}
use Rattle.semantics.specs.declared.state.VariableAction.TheVariants.{Load as Loads, Store as Stores, Add as Adds, Cas as Swaps}
use Rattle.semantics.proofs.{StandingThreads.enabled_stands, Waking.wake-length}
use Rattle.semantics.proofs.WorkFalls.{enabled_below}
use Rattle.semantics_machine.specs.inner.Runs.{run_to}
use Rattle.semantics_machine.proofs.Lists.{read_at}

module _ (n : ℕ) where
  -- a thread has these past the first n
  abbrev unused : Thread → List ℤ
  unused th = drop n th.locals

  pub run_unused : (is : List Instruction) (k : ℕ) (th : Thread) → All (LocalsBelow n) is
      → unused (local_run is k th) ≡ unused th
  run_unused [] k th below = refl
  run_unused (i ∷ is) (suc k) th below = run_unused is k (advance th 1)
      (λ j d l. below (suc j) d (omega arith))
  run_unused (Set r e ∷ is) zero th below =
      let b : LocalsBelow n (Set r e) = below 0 (Set r e) (omega arith) in
      run_unused is 0 (advance (with_local th r (value_of_expression th.locals e)) 1)
      (λ j d l. below (suc j) d (omega arith))
      ∙ drop-set-lt n th.locals r (value_of_expression th.locals e) b.0
  run_unused (Assert e ∷ is) zero th below = elim (is_zero (value_of_expression th.locals e)) as
      (λ q. unused (cond q (with_status th (Stopped FailedAssert)) (local_run is 0 (advance th 1)))
      ≡ unused th) [
        | true ↦ refl
        | false ↦ run_unused is 0 (advance th 1) (λ j d l. below (suc j) d (omega arith))
      ]
  run_unused (SkipIfZero e m ∷ is) zero th below =
      run_unused is (cond (is_zero (value_of_expression th.locals e)) m 0) (advance th 1)
      (λ j d l. below (suc j) d (omega arith))
  run_unused (Skip m ∷ is) zero th below = run_unused is m (advance th 1)
      (λ j d l. below (suc j) d (omega arith))
  run_unused (i ∷ is) zero th below = refl

  -- the local that the step writes is one of the first
  abbrev WritesBelow : Action → Type 0
  WritesBelow (OnVariable x d) = IsAccessBelow n d
  WritesBelow (OnMutex m d) = Unit {0}
  WritesBelow (Waits c m) = Unit {0}
  WritesBelow (OnCondition c d) = Unit {0}
  WritesBelow (OnSemaphore k d) = Unit {0}

  writes_of : (i : Instruction) → LocalsBelow n i → IfSome (action_of i) WritesBelow
  writes_of (Load r x) h = h
  writes_of (Store x a) h = h
  writes_of (Add r x a) h = h
  writes_of (Cas r x a b) h = h
  writes_of i h = tt

  writes_at : (status : Status) (o : Option Instruction) → IfSome o (LocalsBelow n)
      → IfSome (action_at status o) WritesBelow
  writes_at Running (Some i) h = writes_of i h
  writes_at Woken (Some (Wait c m)) h = tt
  writes_at status o h = search rules

  reader_unused : (d : VariableAction) (th : Thread) (v : ℤ) → IsAccessBelow n d
      → unused (reader_after d th v) ≡ unused th
  reader_unused (Loads r) th v l = drop-set-lt n th.locals r v l
  reader_unused (Stores a) th v l = refl
  reader_unused (Adds r a) th v l = drop-set-lt n th.locals r v l.0
  reader_unused (Swaps r a b) th v l = drop-set-lt n th.locals r _ l.0

  module _ (p : Program) (t : ℕ) (below : All (LocalsBelow n) (code_of p t)) where
    step_unused : (s : Snapshot) → is_enabled p s t ≡ true
        → unused (thread_at (step p s t) t) ≡ unused (thread_at s t)
    step_unused s on = go (next_of p s t)
        (writes_at (thread_at s t).status _ (subst (λ o. IfSome o (LocalsBelow n))
        (sym (read_at (code_of p t) (thread_at s t).pc (Skip 0) (enabled_stands p s t on)))
        (below (thread_at s t).pc (Skip 0) (enabled_stands p s t on))))
      where
        th : Thread
        th = thread_at s t

        resumes : (x : Thread) → unused (resumed (code_of p t) x) ≡ unused x
        resumes x = run_unused (drop (x.pc + 1) (code_of p t)) 0 _
            (All-drop (LocalsBelow n) (x.pc + 1) (code_of p t) below)

        either : (b : Bool) (x y : Thread) → unused x ≡ unused th → unused y ≡ unused th
            → unused (cond b x y) ≡ unused th
        either true x y d e = d
        either false x y d e = e

        put : (T : List Thread) (x : Thread) → length T ≡ length s.threads
            → unused x ≡ unused th → unused (get_or (set T t x) t missing_thread) ≡ unused th
        put T x many e =
            let l : t < length s.threads = enabled_below p s t on in
            ap unused (get_or-set_same T t x missing_thread (omega (arith, l, many))) ∙ e

        go : (a : Option Action) → IfSome a WritesBelow
            → unused (thread_at (acts p s t th a) t) ≡ unused th
        go None h = refl
        go (Some (OnVariable x d)) h = put s.threads _ refl
            (resumes (reader_after d th (value_of s x)) ∙ reader_unused d th (value_of s x) h)
        go (Some (OnMutex m Locks)) h = put s.threads _ refl (resumes th)
        go (Some (OnMutex m Unlocks)) h = put s.threads _ refl
            (either (owns t (owner_of s m)) _ (with_status th (Stopped NotHeld)) (resumes th) refl)
        go (Some (OnMutex m Retakes)) h = put s.threads _ refl (resumes th)
        go (Some (Waits c m)) h = put s.threads _ refl (either (owns t (owner_of s m))
            (with_status th (Waiting c)) (with_status th (Stopped NotHeld)) refl refl)
        go (Some (OnCondition c d)) h = put (wake c (threads_to_wake d (queue_of s c)) s.threads) _
            (wake-length c (threads_to_wake d (queue_of s c)) s.threads) (resumes th)
        go (Some (OnSemaphore k Acquires)) h = put s.threads _ refl (resumes th)
        go (Some (OnSemaphore k Releases)) h = put s.threads _ refl
            (either (is_full (count_of s k)) (with_status th (Stopped SemFull)) _ refl (resumes th))

    pub steps_unused : (s : Snapshot) (k : ℕ)
        → ((j : ℕ) → j < k → is_enabled p (run_to p s t j) t ≡ true)
        → unused (thread_at (run_to p s t k) t) ≡ unused (thread_at s t)
    steps_unused s zero on = refl
    steps_unused s (suc k) on =
        steps_unused (step p s t) k (λ j l. on (suc j) (omega arith))
        ∙ step_unused s (on 0 (omega arith))
