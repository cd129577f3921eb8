-- A run of a thread: what one more step makes of it.
use Rattle.std.specs.Prelude.{All}
use Rattle.std.proofs.Common.{◌≡◌, ◌≢◌, ℕ, ℤ, ◌+◌, ◌<◌, ◌≤◌, ◌*◌, ◌-◌, Bool, true, false, cond, List, ◌∷◌, length, take, replicate, slice_get, Some, get_or, refl, ap, ◌∙◌, sym, subst, arith, inl, inr, get_or-set_same, get_or-set_other, drop}
use Rattle.std.proofs.lemmas.Bool.{cases_order, cases_lt}
use Rattle.std.proofs.lemmas.List.{replicate_more, drop_more, drop_all, get_or_default}
use Rattle.semantics_machine.specs.Refinement.{HasObjects, HasThreadAt, IsControl}
use Rattle.semantics_machine.specs.declared.control.Control.{Control}
use Rattle.semantics_machine.specs.declared.control.steps.MovingThread.{MovingThread}
use Rattle.semantics_machine.specs.{declared.machine.Run.Run, inner.LocalRuns.narrow}
use Rattle.semantics_machine.specs.inner.{Parts.IsLeaving, Runs.{run_to, IsGoing, IsRunTo}}
use Rattle.semantics_machine.specs.inner.Steps.{Faces, HasShared, IsReadyIn, IsPoised, IsPerformed, IsPassed, IsStepped, settled, place_after}
use Rattle.semantics_machine.proofs.{Lists.read_at, LocalRuns.{passed, turned_on}, Objects.can_held}
use Rattle.guest_code.specs.Program.{Program, code_of, IsValid, IsValidCode, LocalsBelow}
use Rattle.guest_code.specs.declared.program.Instruction.{Instruction}
use Rattle.guest_code.specs.declared.program.Instruction.TheVariants.{Set, Assert, SkipIfZero, Skip}
use Rattle.semantics.specs.Machine.{Snapshot, step, is_enabled, thread_at, next_of, can_do, action_of, action_at, local_run, run_from, missing_thread}
use Rattle.semantics.specs.{Mask.{has, HasEnabled}, Reachable.IsOf, Turns.{turn_of, locals_after}}
use Rattle.semantics.specs.declared.local.Turn.{Turn, TheVariants.{Runs, Ends}}
use Rattle.semantics.specs.declared.mask.Mask.{Mask}
use Rattle.semantics.specs.declared.state.{Status.Status, Status.TheVariants.Running, Thread.Thread}
use Rattle.semantics.proofs.{StepsKeepStates.step_is_of, WorkFalls.enabled_below}
use Rattle.semantics_schedules.specs.Schedules.{state_after}
use Rattle.semantics_schedules.proofs.UnfoldingUnderPrefix.{state_after-push}

pub run_more : (p : Program) (s : Snapshot) (t n : ℕ)
    → run_to p s t (n + 1) ≡ step p (run_to p s t n) t
run_more p s t n = ap (state_after p s) (sym (replicate_more n t))
    ∙ state_after-push p s (replicate n t) t

-- where a thread is after its step

pub place_more : (status : Status) (pc : ℕ) → pc ≤ place_after status pc
place_more Running pc = omega arith
place_more status pc = omega arith

pub place_within : (status : Status) (pc n : ℕ) → pc < n → place_after status pc ≤ n
place_within Running pc n l = omega (arith, l)
place_within status pc n l = omega (arith, l)

pub place_next : (status : Status) (pc : ℕ) → status ≡ Running → place_after status pc ≡ pc + 1
place_next status pc e = ap (λ w. place_after w pc) e

-- the first step
pub begun : (p : Program) (s : Snapshot) (t : ℕ) (c d : Control) (cells mine cells' mine' : List ℤ)
    (pc : ℕ) (m : MovingThread)
    → IsReadyIn p s t c cells mine → IsPerformed p s t d cells' mine' m.status
    → pc ≡ (thread_at s t).pc → pc < length (code_of p t) → length mine' ≡ length mine
    → m.place ≡ place_after m.status pc → m.steps ≡ 1 → IsGoing p s t d cells' mine' m
begun p s t c d cells mine cells' mine' pc m ready q here inside long place one = record {
  done = 0;
  steps = one;
  of = ready.of;
  enabled = λ k few. (let first : 0 ≡ k = omega (arith, few, one) in
      subst (λ (j : ℕ). is_enabled p (run_to p s t j) t ≡ true) first ready.enabled);
  passed = subst (λ k. IsPassed p s t d cells' mine' k m.status) (sym place)
      (passed p s t d cells' mine' pc m.status q here below);
  others = λ u ne. refl;
  between = λ _ k some few. absurd (omega (arith, some, few, one));
  few = omega (arith, one);
  fewer = λ e. (let next = place_next m.status pc e in omega (arith, one, place, next));
  within = let few = place_within m.status pc (length (code_of p t)) inside in
      omega (arith, few, place);
  below = below;
}
  where
    below : All (LocalsBelow (length mine')) (code_of p t)
    below = subst (λ n. All (LocalsBelow n) (code_of p t)) (sym long) ready.below

-- the thread may take the last of its steps
pub last_enabled : (p : Program) (s : Snapshot) (t : ℕ) (c : Control) (cells mine : List ℤ)
    (m : MovingThread) (h : IsGoing p s t c cells mine m)
    → is_enabled p (run_to p s t h.done) t ≡ true
last_enabled p s t c cells mine m h = h.enabled h.done (omega (arith, h.steps))

-- a run ends: the thread comes further, or it was its last instruction
pub comes_further : (size a b : ℕ) (before after : Bool) → before ≡ true → a ≤ b → b ≤ size
    → (after ≡ true → a < b)
    → 2 * (size - b) + cond after 1 0 < 2 * (size - a) + cond before 1 0
comes_further size a b before true on le few more =
    rw on (let l = more refl in omega (arith, l, few))
comes_further size a b before false on le few more = rw on (omega (arith, le, few))

-- a thread stays at an instruction whose step may be taken
stands : (i : Instruction) (is : List Instruction) (th : Thread) (s : Snapshot)
    → can_do s (action_of i) ≡ true → local_run (i ∷ is) 0 th ≡ th
stands (Set r e) is th s h = cc
stands (Assert e) is th s h = cc
stands (SkipIfZero e n) is th s h = cc
stands (Skip n) is th s h = cc
stands i is th s h = refl

pub stands_there : (code : List Instruction) (i : Instruction) (th : Thread) (s : Snapshot)
    → th.pc < length code → get_or code th.pc i ≡ i → can_do s (action_of i) ≡ true
    → run_from code th ≡ th
stands_there code i th s inside here can =
    ap (λ is. local_run is 0 th) (drop_more code th.pc i inside
    ∙ ap (λ x. x ∷ drop (th.pc + 1) code) here)
    ∙ stands i (drop (th.pc + 1) code) th s can

-- a thread on its way has come to an instruction whose step it may take
module _ (p : Program) (z : Snapshot) (t : ℕ) (c : Control) (cells mine : List ℤ) (place : ℕ)
    (i : Instruction) (h : IsPassed p z t c cells mine place Running)
    (of : IsOf p z) (enabled : is_enabled p z t ≡ true)
    (inside : place < length (code_of p t)) (here : slice_get (code_of p t) place ≡ Some i)
    (read : get_or (code_of p t) place i ≡ i)
    (can : can_do (step p z t) (action_of i) ≡ true) where
  abbrev q : IsPerformed p z t c cells h.before Running
  q = h.performed

  abbrev to : Thread
  to = settled (code_of p t) Running h.performed.th

  is : record { pc = place; locals = mine; status = Running } ≡ narrow (length h.before) to
  is = sym (stands_there (code_of p t) i
      (record { pc = place; locals = mine; status = Running }) (step p z t) inside read can)
      ∙ h.goes_on

  now : thread_at (step p z t) t ≡ to
  now = ap (λ (x : Snapshot). thread_at x t) q.step
      ∙ get_or-set_same q.after.threads t to missing_thread
      (omega (arith, enabled_below p z t enabled, q.threads))

  next : next_of p (step p z t) t ≡ action_of i
  next = ap (λ (x : Thread). action_at x.status (slice_get (code_of p t) x.pc)) now
      ∙ ((λ j. action_at (sym (ap (λ (x : Thread). x.status) is) j)
      (slice_get (code_of p t) (sym (ap (λ (x : Thread). x.pc) is) j)))
      ∙ ap (action_at Running) here)

  leaves : IsLeaving p c (step p z t) t (action_of i)
  leaves = subst (λ x. IsLeaving p c x t (action_of i)) (sym q.step) (record {
    objects = q.control.objects;
    threads = λ u ne. subst (HasThreadAt p c q.after u)
        (sym (get_or-set_other q.after.threads t u to missing_thread ne)) (q.control.threads u ne);
    unended = q.control.idle.unended;
    stopped = q.control.idle.stopped;
    mutexes = λ m e. q.control.idle.apart.mutexes m;
    semaphores = λ k e. q.control.idle.apart.semaphores k;
  })

  pub all_enabled : (on : Mask) → has on t ≡ true
      → ((u : ℕ) → u ≢ t → has on u ≡ has c.enabled u) → HasEnabled on p (step p z t)
  all_enabled on itself others u = elim (cases_order u t) [
    | inl e ↦ rw e (itself ∙ sym (ap (can_do (step p z t)) next ∙ can))
    | inr (inl l) ↦ other (omega (arith, l))
    | inr (inr l) ↦ other (omega (arith, l))
  ]
    where
      other : u ≢ t → has on u ≡ is_enabled p (step p z t) u
      other ne = others u ne ∙ ((leaves.threads u ne).enabled
          ∙ can_held (step p z t) (next_of p (step p z t) u))

  pub poised_on : IsValid p i → All (LocalsBelow (length mine)) (code_of p t)
      → IsPoised p (step p z t) t i c cells mine
  poised_on fine below = record {
    of = step_is_of p z t of enabled;
    thread = omega (
      arith,
      enabled_below p z t enabled,
      of.threads,
      (step_is_of p z t of enabled).threads,
    );
    control = leaves;
    woken = q.control.idle.woken;
    shared = subst (HasShared c cells) (sym q.step) q.shared;
    own = ap (λ (x : Thread). x.locals) is
        ∙ ((λ j. take (sym h.many j) (sym now j).locals));
    status = ap (λ (x : Thread). x.status) now ∙ sym (ap (λ (x : Thread). x.status) is);
    next = next;
    allowed = can;
    fine = fine;
    below = subst (LocalsBelow (length mine)) read (below place i inside);
  }

-- the objects are those of the state after the step
pub objects_after : (p : Program) (z : Snapshot) (t : ℕ) (c : Control) (cells mine : List ℤ)
    (place : ℕ) (status : Status) → IsPassed p z t c cells mine place status
    → HasObjects c (step p z t)
objects_after p z t c cells mine place status h =
    subst (HasObjects c) (sym h.performed.step) h.performed.control.objects

-- in the midst of a run: the thread goes on at an instruction of its code
module _ (p : Program) (s : Snapshot) (t : ℕ) (c : Control) (cells mine : List ℤ) (m : MovingThread)
    (code : List Instruction) (d : Instruction) (h : IsGoing p s t c cells mine m)
    (runs : m.status ≡ Running) (same : code ≡ code_of p t) (valid : IsValidCode p code)
    (short : m.place < length code) (faces : Faces c (slice_get code m.place)) where
  abbrev pub i : Instruction
  i = get_or code m.place d

  inside : m.place < length (code_of p t)
  inside = omega (arith, short, ap (λ (is : List Instruction). length is) same)

  at_place : slice_get code m.place ≡ Some i
  at_place = read_at code m.place d short

  here : slice_get (code_of p t) m.place ≡ Some i
  here = ap (λ is. slice_get is m.place) (sym same) ∙ at_place

  read : get_or (code_of p t) m.place i ≡ i
  read = ap (λ is. get_or is m.place i) (sym same) ∙ get_or_default code m.place i d short

  can : can_do (step p (run_to p s t h.done) t) (action_of i) ≡ true
  can = faces i at_place (step p (run_to p s t h.done) t)
      (objects_after p (run_to p s t h.done) t c cells mine m.place m.status h.passed)

  fine : IsValid p i
  fine = valid.fine m.place d short

  way : IsPassed p (run_to p s t h.done) t c cells mine m.place Running
  way = subst (IsPassed p (run_to p s t h.done) t c cells mine m.place) runs h.passed

  last : run_to p s t m.steps ≡ step p (run_to p s t h.done) t
  last = ap (run_to p s t) h.steps ∙ run_more p s t h.done

  moves : is_enabled p (run_to p s t h.done) t ≡ true
  moves = last_enabled p s t c cells mine m h

  pub enabled_going : (on : Mask) → has on t ≡ true
      → ((u : ℕ) → u ≢ t → has on u ≡ has c.enabled u) → HasEnabled on p (run_to p s t m.steps)
  enabled_going on itself others = subst (HasEnabled on p) (sym last)
      (all_enabled p (run_to p s t h.done) t c cells mine m.place i way h.of moves inside here
      read can on itself others)

  pub poised_going : IsPoised p (run_to p s t m.steps) t i c cells mine
  poised_going = subst (λ z. IsPoised p z t i c cells mine) (sym last)
      (poised_on p (run_to p s t h.done) t c cells mine m.place i way h.of moves inside here
      read can fine h.below)

  -- after its step
  pub going_further : (d : Control) (cells' mine' : List ℤ) (n : MovingThread)
      → IsPerformed p (run_to p s t m.steps) t d cells' mine' n.status
      → length mine' ≡ length mine → n.place ≡ place_after n.status m.place
      → n.steps ≡ m.steps + 1 → n.among ≡ m.among → n.heedless ≡ m.heedless
      → (m.heedless ≡ false
      → (has m.among t ≡ true) × ((u : ℕ) → u ≢ t → has m.among u ≡ has c.enabled u))
      → IsGoing p s t d cells' mine' n
  going_further d cells' mine' n q long place steps same heeds is_set = record {
    done = m.steps;
    steps = steps;
    of = poised.of;
    enabled = λ k few. elim (cases_order k m.steps) [
      | inl e ↦ subst (λ (j : ℕ). is_enabled p (run_to p s t j) t ≡ true) (sym e)
          (ap (can_do (run_to p s t m.steps)) poised.next ∙ poised.allowed)
      | inr (inl l) ↦ h.enabled k l
      | inr (inr g) ↦ absurd (omega (arith, few, steps, g))
    ];
    passed = subst (λ k. IsPassed p (run_to p s t m.steps) t d cells' mine' k n.status) (sym place)
        (passed p (run_to p s t m.steps) t d cells' mine' m.place n.status q at below);
    others = λ u ne. ap (λ (x : Snapshot). (thread_at x u).locals) last
        ∙ (stepped u ne ∙ h.others u ne);
    between = λ off k some few. (let heeding = sym heeds ∙ off in
        subst (λ on. HasEnabled on p (run_to p s t k)) (sym same)
        (elim (cases_order k m.steps) [
          | inl e ↦ subst (λ (j : ℕ). HasEnabled m.among p (run_to p s t j)) (sym e)
              (enabled_going m.among (is_set heeding).0 (is_set heeding).1)
          | inr (inl l) ↦ h.between heeding k some l
          | inr (inr g) ↦ absurd (omega (arith, few, steps, g))
        ]));
    few = let more = place_more n.status m.place in
        omega (arith, steps, place, more, h.fewer runs);
    fewer = λ e. (let next = place_next n.status m.place e in
        omega (arith, steps, place, next, h.fewer runs));
    within = let few = place_within n.status m.place (length (code_of p t)) inside in
        omega (arith, few, place);
    below = below;
  }
    where
      poised : IsPoised p (run_to p s t m.steps) t i c cells mine
      poised = poised_going

      at : m.place ≡ (thread_at (run_to p s t m.steps) t).pc
      at = ap (λ (x : Thread). x.pc) (is p (run_to p s t h.done) t c cells mine m.place i way h.of
          moves inside here read can)
          ∙ sym (ap (λ (x : Snapshot). (thread_at x t).pc) last
          ∙ ap (λ (x : Thread). x.pc) (now p (run_to p s t h.done) t c cells mine m.place i way h.of
          moves inside here read can))

      below : All (LocalsBelow (length mine')) (code_of p t)
      below = subst (λ k. All (LocalsBelow k) (code_of p t)) (sym long) h.below

      stepped : (u : ℕ) → u ≢ t → (thread_at (step p (run_to p s t h.done) t) u).locals
          ≡ (thread_at (run_to p s t h.done) u).locals
      stepped u ne = ap (λ (x : Snapshot). (thread_at x u).locals) way.performed.step
          ∙ (ap (λ (x : Thread). x.locals) (get_or-set_other way.performed.after.threads t u _
          missing_thread ne)
          ∙ way.performed.others u ne)

-- one instruction more that the thread does by itself
pub going_locally : (p : Program) (s : Snapshot) (t : ℕ) (c : Control) (cells mine mine' : List ℤ)
    (m n : MovingThread) (next : ℕ) (code : List Instruction)
    → IsGoing p s t c cells mine m → m.status ≡ Running → code ≡ code_of p t
    → Runs next ≡ turn_of m.place mine (drop m.place code)
    → mine' ≡ locals_after mine (drop m.place code) → length mine' ≡ length mine
    → m.place < next → next ≤ length code
    → n ≡ record m { place = next } → IsGoing p s t c cells mine' n
going_locally p s t c cells mine mine' m n next code h runs same turn made long further few is =
    subst (IsGoing p s t c cells mine') (sym is) (record {
      done = h.done;
      steps = h.steps;
      of = h.of;
      enabled = h.enabled;
      passed = subst (IsPassed p (run_to p s t h.done) t c cells mine' next) (sym runs)
          (turned_on p (run_to p s t h.done) t c cells mine mine' m.place next code
          (subst (IsPassed p (run_to p s t h.done) t c cells mine m.place) runs h.passed) same turn
          made long);
      others = h.others;
      between = h.between;
      few = omega (arith, h.few, further);
      fewer = λ e. omega (arith, h.fewer e, further);
      within = omega (arith, few, ap (λ (is : List Instruction). length is) same);
      below = subst (λ k. All (LocalsBelow k) (code_of p t)) (sym long) h.below;
    })

-- and one that leaves its locals
pub going_kept : (p : Program) (s : Snapshot) (t : ℕ) (c : Control) (cells mine mine' : List ℤ)
    (m : MovingThread) → IsGoing p s t c cells mine m → mine' ≡ mine → IsGoing p s t c cells mine' m
going_kept p s t c cells mine mine' m h same =
    subst (λ xs. IsGoing p s t c cells xs m) (sym same) h

-- a thread comes to an instruction
pub visible_inside : (at : ℕ) (locals : List ℤ) (code : List Instruction) (w : Turn)
    → turn_of at locals (drop at code) ≡ w → (w ≡ Ends → ⊥) → at < length code
visible_inside at locals code w turn there = elim (cases_lt at (length code)) [
  | inl l ↦ l
  | inr g ↦ absurd (there (sym turn ∙ ap (turn_of at locals) (drop_all at code g)))
]

-- the run is over
pub run_over : (p : Program) (s : Snapshot) (t : ℕ) (c d : Control) (cells mine mine' : List ℤ)
    (m : MovingThread) (r : Run) (heedless : Bool)
    → (h : IsGoing p s t c cells mine m)
    → IsStepped p (run_to p s t h.done) t d cells mine'
    → r.steps ≡ m.steps → r.among ≡ m.among → heedless ≡ m.heedless
    → IsRunTo p s t heedless r d cells mine'
run_over p s t c d cells mine mine' m r heedless h st steps among heeds = record {
  of = subst (IsOf p) (sym last)
      (step_is_of p (run_to p s t h.done) t h.of (last_enabled p s t c cells mine m h));
  control = subst (IsControl p d) (sym last) st.control;
  shared = subst (HasShared d cells) (sym last) st.shared;
  own = st.own ∙ ap (λ (x : Snapshot). take (length mine') (thread_at x t).locals) (sym last);
  others = λ u ne. ap (λ (x : Snapshot). (thread_at x u).locals) last
      ∙ (st.others u ne ∙ h.others u ne);
  enabled = λ k few. h.enabled k (omega (arith, few, steps));
  between = λ off k some few. subst (λ on. HasEnabled on p (run_to p s t k)) (sym among)
      (h.between (sym heeds ∙ off) k some (omega (arith, few, steps)));
}
  where
    last : run_to p s t r.steps ≡ step p (run_to p s t h.done) t
    last = ap (run_to p s t) (steps ∙ h.steps) ∙ run_more p s t h.done
