use Rattle.std.proofs.Common.{arith, ◌≡◌, ◌∙◌, ◌≤◌, ap, sym, length, take}
use Rattle.std.proofs.lemmas.List.{take-take}
use Rattle.walk.proofs.path.Path.replay.Goals as goal

pub loop-place-init : goal.loop-place-init
loop-place-init c =
    let t = c.if-self-eq0.self in
    let n = c.len-place.result in
    let k = c.shared_len-shared.result in
    let long : length c.rewind.new.self.steps.items ≡ n =
    omega (arith, c.len-place.ensures, c.rewind.new.self.steps.ok.0) in
    let few : n ≤ k = omega (arith, long, c.rewind.ensures.few) in
    record {
      path = c.rewind.ensures.path;
      frames = c.rewind.ensures.frames;
      steps = c.rewind.ensures.steps
          ∙ (ap (λ m. take m t.steps.items) long
          ∙ (sym (take-take n k t.steps.items few)
          ∙ (ap (take n) ((λ i. take k (sym c.as_slice.ensures.value i))
          ∙ c.shared_len-shared.ensures.alike)
          ∙ take-take n k c.args.schedule.now few)));
    }
