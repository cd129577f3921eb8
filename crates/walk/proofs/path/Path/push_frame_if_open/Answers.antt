use Rattle.std.proofs.Common.{refl, sym, arith}
use Rattle.std.proofs.lemmas.Result.{on_ok_weaker}
use Rattle.walk.proofs.{Expansions.{pushed_place, pushed_if_open}, PathSteps.open_done}
use Rattle.walk.proofs.path.Path.push_frame_if_open.Goals as goal

pub returns-in-Some-clause-place : goal.returns-in-Some-clause-place
returns-in-Some-clause-place c = on_ok_weaker c.push_frame.result
    (pushed_place c.args.program.now c.args.self.now c.push_frame.new.self c.requires
    c.push_frame.ensures.path)
    c.push_frame.ensures.pushed

pub returns-in-Some-clause-pushed : goal.returns-in-Some-clause-pushed
returns-in-Some-clause-pushed c = on_ok_weaker c.push_frame.result
    (pushed_if_open c.args.program.now c.args.self.now c.push_frame.new.self c.requires)
    c.push_frame.ensures.pushed

pub returns-in-None-clause-pushed : goal.returns-in-None-clause-pushed
returns-in-None-clause-pushed c = record {
  steps = refl;
  node = refl;
  depth = omega arith;
  left = λ mode. sym (open_done mode c.args.program.now c.args.self.now c.in-None.ensures.list);
}
