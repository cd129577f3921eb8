use Rattle.std.proofs.Common.{◌≡◌, arith, ◌+◌, ◌∙◌, ◌<◌, ◌≤◌, ◌++◌, ◌&&◌, ◌||◌, ℕ, Bool, true, false}
use Rattle.std.proofs.Common.{List, replicate, refl, ap}
use Rattle.semantics.specs.{Machine.is_enabled, Mask.{HasEnabled, one_if}}
use Rattle.semantics_schedules.{specs.Schedules.preempts, proofs.Executions.reaches_few}
use Rattle.semantics_schedules.proofs.ScheduleLengths.{schedule_within}
use Rattle.walk.specs.inner.{Paths.state_at, WalkerInvariant.{at_bound, runs_on}}
use Rattle.std.proofs.lemmas.Bool.{false≢true}
use Rattle.walk_items.specs.declared.mode.Mode.{Mode, TheVariants.{Bounded, Reduced, BoundedOnce, ReducedOnce}}
use Rattle.walk.specs.declared.path.Node.{Node}
use Rattle.walk.proofs.PathSteps.{left_extended, preempts_is}
use Rattle.walk.proofs.RunSteps.{run_reaches, run_enabled, run_on, run_front, path_extended}
use Rattle.walk.proofs.path.Path.extend.Goals as goal

pub step-requires : goal.step-requires
step-requires c =
    let t = c.args.self.now in
    let w = t.steps.items in
    let few = reaches_few c.args.program.now w _ c.requires.path.reaches in
    let short = schedule_within c.args.program.now w c.requires.path.well_formed
    c.requires.path.reaches.runs in
    omega (arith, few, short)

-- what is known after the run

steps_are : (c : goal.After-push_run) → c.push_run.new.steps.items
    ≡ c.args.self.now.steps.items ++ replicate c.run-run.result.steps c.args.thread
steps_are c = c.push_run.ensures ∙ ap (λ (w : List ℕ). w ++ replicate c.run-run.result.steps
    c.args.thread) c.reserve.ensures.items

used_is : (c : goal.After-push_run) → c.step.new.self.used ≡ c.args.self.now.node.used
    + one_if (preempts c.args.program.now (state_at c.args.program.now c.args.self.now.steps.items)
    c.args.self.now.node.last c.args.thread)
used_is c =
    let p = c.args.program.now in
    let t = c.args.self.now in
    c.step.ensures.used ∙ ap (λ b. t.node.used + one_if b)
    (preempts_is p (state_at p t.steps.items) c.enabled-enabled.result t.node.last c.args.thread
    (c.enabled-enabled.ensures p (state_at p t.steps.items) c.requires.path.shows))

among_are : (c : goal.After-push_run) → c.args.heedless ≡ false → (k : ℕ) → 1 ≤ k
    → k < c.run-run.result.steps → HasEnabled c.run-run.result.among c.args.program.now
    (state_at c.args.program.now (c.args.self.now.steps.items ++ replicate k c.args.thread))
among_are c off k some few =
    let p = c.args.program.now in
    let w = c.args.self.now.steps.items in
    run_enabled p w c.args.thread k c.run-run.result.among
    (c.run-run.ensures.among (state_at p w) c.requires.path.shows c.requires.enabled
    (ap (λ b. b && c.is_at_bound.result) off) k some few)

goes_on : (c : goal.After-push_run) → (k : ℕ) → 1 ≤ k → k < c.run-run.result.steps
    → is_enabled c.args.program.now
    (state_at c.args.program.now (c.args.self.now.steps.items ++ replicate k c.args.thread))
    c.args.thread ≡ true
goes_on c k some few =
    let p = c.args.program.now in
    let w = c.args.self.now.steps.items in
    run_on p w c.args.thread k
    (c.run-run.ensures.enabled (state_at p w) c.requires.path.shows c.requires.enabled k few)

pub returns-clause-path : goal.returns-clause-path
returns-clause-path c =
    let p = c.args.program.now in
    let t = c.args.self.now in
    path_extended p t _ c.args.thread c.run-run.result.steps c.requires.path c.requires.frames
    c.requires.enabled (used_is c) c.step.ensures.last (goes_on c) c.run-run.ensures.some
    (steps_are c)
    (c.run-run.ensures.shows (state_at p t.steps.items) c.requires.path.shows c.requires.enabled)
    c.run-run.ensures.size c.run-run.ensures.shape refl refl refl
    c.requires.path.room

pub returns-clause-extended : goal.returns-clause-extended
returns-clause-extended c =
    let p = c.args.program.now in
    let t = c.args.self.now in
    record {
      some = c.run-run.ensures.some;
      steps = steps_are c;
      last = c.step.ensures.last;
      asleep = c.step.ensures.asleep;
      base = refl;
      frames = refl;
      left = λ mode above. left_extended mode p t _ c.requires.path above
          (run_front t.steps.items _ c.args.thread c.run-run.result.steps (steps_are c));
      between = λ k some few. run_reaches p t.steps.items c.args.thread c.run-run.result.steps
          t.node c.step.new.self c.requires.path.reaches c.requires.enabled (used_is c)
          c.step.ensures.last (goes_on c) k some (omega (arith, few));
      enabled = goes_on c;
      among = among_are c;
      bound = λ more. is_so (at_bound c.args.mode c.step.new.self)
          (runs_on c.args.mode c.step.new.self) c.args.heedless c.is_at_bound.result
          c.runs_on.result c.is_at_bound.ensures c.runs_on.ensures
          (on_at_bound c.args.mode c.step.new.self) (further more);
      alike = λ off more. goes (runs_on c.args.mode c.step.new.self) c.args.heedless
          c.is_at_bound.result c.runs_on.result c.runs_on.ensures off (further more);
    }
  where
    further : 1 < c.run-run.result.steps
        → ((c.args.heedless && c.is_at_bound.result) || c.runs_on.result) ≡ false → ⊥
    further more off = let one = c.run-run.ensures.one off in omega (arith, one, more)

    on_at_bound : (m : Mode) (n : Node) → runs_on m n ≡ true → at_bound m n ≡ true
    on_at_bound (Bounded bound) n h = h
    on_at_bound Reduced n h = h
    on_at_bound (BoundedOnce bound) n h = absurd (false≢true h)
    on_at_bound ReducedOnce n h = h

    is_so : (a o h b r : Bool) → b ≡ a → r ≡ o → (o ≡ true → a ≡ true)
        → (((h && b) || r) ≡ false → ⊥) → a ≡ true
    is_so true o h b r e k f stops = refl
    is_so false true h b r e k f stops = f refl
    is_so false false true b r e k f stops = absurd (stops (λ j. e j || k j))
    is_so false false false b r e k f stops = absurd (stops k)

    goes : (o h b r : Bool) → r ≡ o → h ≡ false → (((h && b) || r) ≡ false → ⊥) → o ≡ true
    goes true h b r k off stops = refl
    goes false h b r k off stops = absurd (stops (λ j. (off j && b) || k j))
