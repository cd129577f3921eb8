use Rattle.std.proofs.Common.{arith, ◌≡◌, ◌∙◌, ◌+◌, ◌-◌, ◌*◌, ◌<◌, length, refl, ap, sym, subst}
use Rattle.std.proofs.Common.{take, drop}
use Rattle.std.proofs.{Math.Path.transport, lemmas.List.{get_or_default, take-take, get_or-take}}
use Rattle.semantics_machine.specs.Refinement.{Shows, IsShown}
use Rattle.walk.specs.declared.path.Frame.{Frame}
use Rattle.walk.specs.inner.Paths.{used_frames, words_at, state_at, frame_at, no_frame}
use Rattle.walk.proofs.PathSteps.{path_popped, left_popped, same_values}
use Rattle.walk.proofs.path.Path.pop_to.Goals as goal

inside : (c : goal.After-self-3-1) → c.args.depth < length c.args.self.now.frames.items
inside c = let room = c.requires.path.room in omega (arith, c.requires.frame, room)

there : (c : goal.After-self-3-1) → c.args.depth < length (used_frames c.args.self.now)
there c = let count = c.requires.path.count in omega (arith, c.requires.frame, count)

frame_is : (c : goal.After-self-3-1)
    → c.index-frame.result.now ≡ frame_at (used_frames c.args.self.now) c.args.depth
frame_is c =
    let y = c.args.self.now in
    c.index-frame.ensures
    ∙ (get_or_default y.frames.items c.args.depth c.index-frame.result.now no_frame (inside c)
    ∙ sym (get_or-take y.depth y.frames.items c.args.depth no_frame c.requires.frame))

shows : (c : goal.After-self-3-1) → Shows c.args._program.now c.restore.new.self
    (state_at c.args._program.now
    (take (frame_at (used_frames c.args.self.now) c.args.depth).steps c.args.self.now.steps.items))
shows c =
    let y = c.args.self.now in
    let n = c.args.depth in
    let k : n * y.size + y.size - n * y.size ≡ y.size = omega arith in
    let words : take (n * y.size + y.size - n * y.size)
    (drop (n * y.size) c.deref.result.now) ≡ words_at y.size y.words.items n =
    (λ i. take (k i) (drop (n * y.size) (c.deref.ensures.value i))) in
    let s = state_at c.args._program.now
    (take (frame_at (used_frames y) n).steps y.steps.items) in
    let back = sym (c.restore.ensures.control ∙ ap (λ (g : Frame). g.control) (frame_is c)) in
    transport (λ i. IsShown c.args._program.now (sym c.restore.ensures.shape i) (back i)
    (sym (c.restore.ensures.values ∙ words) i) s)
    (c.requires.path.frames.each n (there c)).shows

pub returns-clause-path : goal.returns-clause-path
returns-clause-path c =
    let y = c.args.self.now in
    let n = c.args.depth in
    path_popped c.args._program.now y _ n n c.index-frame.result.now c.requires.path (there c)
    (omega arith) (omega arith) (frame_is c) c.truncate.ensures.items refl
    (subst (λ (g : Frame). Shows c.args._program.now c.restore.new.self
    (state_at c.args._program.now (take g.steps y.steps.items))) (sym (frame_is c)) (shows c))
    (same_values c.args._program.now c.restore.new.self y.machine _ _ (shows c)
    c.requires.path.shows c.restore.ensures.shape)
    c.restore.ensures.shape refl
    (sym (take-take n y.depth y.frames.items (omega (arith, c.requires.frame)))) refl
    (omega (arith, inside c))

pub returns-clause-again : goal.returns-clause-again
returns-clause-again c =
    let y = c.args.self.now in
    let n = c.args.depth in
    path_popped c.args._program.now y _ n (n + 1) c.index-frame.result.now c.requires.path (there c)
    (omega arith) (omega arith) (frame_is c) c.truncate.ensures.items refl
    (subst (λ (g : Frame). Shows c.args._program.now c.restore.new.self
    (state_at c.args._program.now (take g.steps y.steps.items))) (sym (frame_is c)) (shows c))
    (same_values c.args._program.now c.restore.new.self y.machine _ _ (shows c)
    c.requires.path.shows c.restore.ensures.shape)
    c.restore.ensures.shape refl
    (sym (take-take (n + 1) y.depth y.frames.items (omega (arith, c.requires.frame)))) refl
    (omega (arith, inside c))

pub returns-clause-left : goal.returns-clause-left
returns-clause-left c =
    let y = c.args.self.now in
    let n = c.args.depth in
    let count = c.requires.path.count in
    λ mode above long. left_popped mode c.args._program.now y n c.index-frame.result.now _ _
    c.requires.path (sym (count ∙ long)) (frame_is c) c.truncate.ensures.items
    (sym (take-take n y.depth y.frames.items (omega (arith, c.requires.frame))))
    (omega (arith, above, long, count))
