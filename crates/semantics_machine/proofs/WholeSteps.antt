-- A whole step: who may take it, and what it makes of the state.
use Rattle.std.specs.Prelude.{All}
use Rattle.std.proofs.Common.{◌≡◌, ℕ, ℤ, ◌<◌, true, false, List, length, take, Option, Some, slice_get, get_or, set, refl, ap, ◌∙◌, sym, subst, arith, get_or-set_same, get_or-set_other}
use Rattle.std.proofs.Math.Path.{transport}
use Rattle.guest_code.specs.Program.{Program, code_of, IsValid, LocalsBelow}
use Rattle.guest_code.specs.declared.program.Instruction.{Instruction}
use Rattle.semantics.specs.Machine.{Snapshot, thread_at, next_of, is_enabled, can_do, action_of, action_at, retake_of, step, missing_thread}
use Rattle.semantics.specs.{Mask.has, Turns.own_thread, declared.local.Landing.Landing}
use Rattle.semantics.specs.declared.state.Status.{Status, TheVariants.{Running, Woken}}
use Rattle.semantics.{specs.declared.state.Thread.Thread, proofs.StandingThreads.enabled_stands}
use Rattle.semantics.proofs.WorkFalls.{enabled_below}
use Rattle.semantics_machine.specs.Refinement.{is_woken, IsControl}
use Rattle.semantics_machine.specs.{declared.control.Control.Control, inner.LocalRuns.narrow}
use Rattle.semantics_machine.specs.inner.Steps.{AreShared, IsPoised, IsPerformed, IsStepped, IsReadyIn, settled}
use Rattle.semantics_machine.proofs.{Lists.read_at, Objects.leaving}

-- where an enabled thread is

runs_or_woken : (status : Status) (s : Snapshot) (o : Option Instruction)
    → can_do s (action_at status o) ≡ true → is_woken status ≡ false → status ≡ Running
runs_or_woken Running s o h w = refl
runs_or_woken status s o h w = cc

is_the_woken : (status : Status) → is_woken status ≡ true → status ≡ Woken
is_the_woken Woken w = refl
is_the_woken status w = cc

module _ (p : Program) (s : Snapshot) (t : ℕ) (c : Control) (code : List Instruction)
    (d : Instruction) (shows : IsControl p c s) (enabled : is_enabled p s t ≡ true)
    (same : code ≡ code_of p t) where
  abbrev here : Instruction
  here = get_or code (get_or c.places t 0) d

  place : get_or c.places t 0 ≡ (thread_at s t).pc
  place = (shows.threads t).place

  pub here_inside : get_or c.places t 0 < length code
  here_inside = omega (
    arith,
    enabled_stands p s t enabled,
    place,
    ap (λ (is : List Instruction). length is) same,
  )

  read : slice_get (code_of p t) (thread_at s t).pc ≡ Some here
  read = (λ i. slice_get (sym same i) (sym place i))
      ∙ read_at code (get_or c.places t 0) d here_inside

  pub here_runs : has c.woken t ≡ false → (thread_at s t).status ≡ Running
  here_runs asleep = runs_or_woken (thread_at s t).status s
      (slice_get (code_of p t) (thread_at s t).pc) enabled (sym (shows.threads t).woken ∙ asleep)

  pub here_next : has c.woken t ≡ false → next_of p s t ≡ action_of here
  here_next asleep = λ i. action_at (here_runs asleep i) (read i)

  pub here_retakes : has c.woken t ≡ true → next_of p s t ≡ retake_of here
  here_retakes woke = λ i. action_at
      (is_the_woken (thread_at s t).status (sym (shows.threads t).woken ∙ woke) i) (read i)

  pub poised_here : (cells mine : List ℤ) → IsReadyIn p s t c cells mine → All (IsValid p) code
      → has c.woken t ≡ false → IsPoised p s t here c cells mine
  poised_here cells mine ready valid asleep = record {
    of = ready.of;
    thread = enabled_below p s t enabled;
    control = leaving p s t c (action_of here) shows enabled (here_next asleep);
    woken = asleep;
    shared = ready.shared;
    own = ready.own;
    status = here_runs asleep;
    next = here_next asleep;
    allowed = ap (can_do s) (sym (here_next asleep)) ∙ enabled;
    fine = valid (get_or c.places t 0) d here_inside;
    below = subst (λ is. All (LocalsBelow (length mine)) is) (sym same) ready.below
        (get_or c.places t 0) d here_inside;
  }

-- of a thread that is known to be at this instruction
module _ (p : Program) (s : Snapshot) (t : ℕ) (c : Control) (d : Instruction)
    (cells mine : List ℤ) (ready : IsReadyIn p s t c cells mine)
    (is : d ≡ get_or (code_of p t) (get_or c.places t 0) d) where
  pub poised_at : All (IsValid p) (code_of p t) → has c.woken t ≡ false
      → IsPoised p s t d c cells mine
  poised_at valid asleep = subst (λ i. IsPoised p s t i c cells mine) (sym is)
      (poised_here p s t c (code_of p t) d ready.control ready.enabled refl cells mine ready valid
      asleep)

  pub retakes_at : has c.woken t ≡ true → next_of p s t ≡ retake_of d
  retakes_at woke = here_retakes p s t c (code_of p t) d ready.control ready.enabled refl woke
      ∙ ap retake_of (sym is)

  pub valid_at : All (IsValid p) (code_of p t) → IsValid p d
  valid_at valid = subst (IsValid p) (sym is) (valid (get_or c.places t 0) d
      (here_inside p s t c (code_of p t) d ready.control ready.enabled refl))

-- the whole step: what was performed, and what the thread did after it
pub finished : (p : Program) (s : Snapshot) (t : ℕ) (c e : Control) (cells mine mine' : List ℤ)
    (status : Status) (at : Landing)
    (q : IsPerformed p s t c cells mine status) → t < length s.threads → length mine' ≡ length mine
    → own_thread at mine' ≡ narrow (length mine) (settled (code_of p t) status q.th)
    → e.lengths ≡ c.lengths
    → IsControl p e (record q.after {
      threads = set q.after.threads t
          (settled (code_of p t) status q.th);
    })
    → IsStepped p s t e cells mine'
finished p s t c e cells mine mine' status at q there long own kept control = record {
  control = subst (IsControl p e) (sym q.step) control;
  shared = transport (λ i. AreShared e.lengths cells (sym q.step i).vars (sym q.step i).queues)
      (subst (λ ls. AreShared ls cells q.after.vars q.after.queues) (sym kept) q.shared);
  own = ap (λ (x : Thread). x.locals) own
      ∙ ((λ i. take (sym long i) (settled (code_of p t) status q.th).locals)
      ∙ sym (ap (λ (x : Thread). take (length mine') x.locals) now));
  others = λ u ne. ap (λ (z : Snapshot). (thread_at z u).locals) q.step
      ∙ (ap (λ (x : Thread). x.locals) (get_or-set_other q.after.threads t u _ missing_thread ne)
      ∙ q.others u ne);
}
  where
    now : thread_at (step p s t) t ≡ settled (code_of p t) status q.th
    now = ap (λ (z : Snapshot). thread_at z t) q.step
        ∙ get_or-set_same q.after.threads t _ missing_thread (omega (arith, there, q.threads))
