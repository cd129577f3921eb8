use Rattle.std.proofs.Common.{◌∙◌, subst, ap}
use Rattle.semantics.specs.Ends.{kind_of}
use Rattle.explain_run.specs.Explains.{TellsThreads}
use Rattle.explain_run.proofs.explanation.Explanation.new.Goals as goal

pub returns : goal.returns
returns c =
    let p = c.args.program.now in
    let run = c.in_ok-run.ensures in
    let here = c.state-state.ensures ∙ run.reached.state in
    record {
      schedule = c.in_ok-to_vec.ensures.items_if_clones_equal (λ x y e. e);
      steps = run.steps;
      stops = run.stops;
      opening = c.in_ok-starts.ensures;
      threads = subst (λ s. TellsThreads p s c.in_ok-thread_states.thread_states.items) here
          c.in_ok-thread_states.ensures;
      holders = run.holders;
      variables = c.in_ok-variables.ensures.items_if_clones_equal (λ x y e. e)
          ∙ (c.variables.ensures ∙ ap (λ s. s.vars) here);
      preemptions = c.preemptions-preemptions.ensures ∙ run.reached.preemptions;
      kind = c.kind-kind.ensures ∙ ap (kind_of p) here;
    }
