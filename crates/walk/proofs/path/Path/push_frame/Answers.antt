use Rattle.std.proofs.Common.{arith, ◌≡◌, ◌∙◌, ◌+◌, ◌-◌, ◌*◌, ◌++◌, ◌∷◌, [], ◌≤◌, List, length}
use Rattle.std.proofs.Common.{refl, ap, sym, subst, take, drop, length-set}
use Rattle.std.proofs.lemmas.List.{length-append, take_more_set}
use Rattle.std.proofs.lemmas.Slice.{take-put_mid_below, drop-put_mid, between-put_mid}
use Rattle.walk.specs.{declared.path.Frame.Frame, inner.Paths.{AreCopies, used_frames}}
use Rattle.walk.proofs.PathSteps.{copies_words, path_words, path_pushed, left_pushed}
use Rattle.walk.proofs.Words.{chunk_length, refill_rewrites, refill_length, chunk_is, Rewrites}
use Rattle.walk.proofs.path.Path.push_frame.Goals as goal

pub returns-in_err-grow_words-clause-path : goal.returns-in_err-grow_words-clause-path
returns-in_err-grow_words-clause-path c =
    let y = c.args.self.now in
    let room = c.requires.frames.room in
    path_words c.args._program.now y _ c.requires refl refl refl refl refl
    (copies_words c.args._program.now y.steps.items y.machine.shape y.size
    (used_frames y) y.words.items
    c.grow_words.new.words.items c.requires.frames
    (λ m l. c.grow_words.ensures.same m (omega (arith, l, room)))
    (omega (arith, c.grow_words.ensures.room, room))) c.requires.room

pub returns-in_err-ensure_frame-clause-path : goal.returns-in_err-ensure_frame-clause-path
returns-in_err-ensure_frame-clause-path c =
    let y = c.args.self.now in
    let room = c.requires.frames.room in
    path_words c.args._program.now y _ c.requires refl refl refl refl refl
    (subst (λ (fs : List Frame). AreCopies c.args._program.now y.steps.items y.machine.shape
    y.size fs c.grow_words.new.words.items)
    (sym c.ensure_frame.ensures.same)
    (copies_words c.args._program.now y.steps.items y.machine.shape y.size
    (used_frames y) y.words.items
    c.grow_words.new.words.items c.requires.frames
    (λ m l. c.grow_words.ensures.same m (omega (arith, l, room)))
    (omega (arith, c.grow_words.ensures.room, room)))) c.ensure_frame.ensures.room

pub returns-clause-path : goal.returns-clause-path
returns-clause-path c =
    let p = c.args._program.now in
    let y = c.args.self.now in
    let w = c.args.self.now.size in
    let q = c.args.self.now.depth in
    let I = c.grow_words.new.words.items in
    let f : Frame = record {
      node = y.node;
      steps = c.len-frame.result;
      control = c.control-frame.result;
    } in
    let room = c.requires.frames.room in
    let here : q ≡ length (used_frames y) = sym c.requires.count in
    let more = take_more_set c.ensure_frame.new.frames.items q f c.in_ok-ensure_frame.ensures.there
    ∙ ap (λ (fs : List Frame). fs ++ f ∷ []) c.ensure_frame.ensures.same in
    let k : q * w + w - q * w ≡ w = omega arith in
    let inside : q * w + w ≤ length I = c.in_ok-grow_words.ensures.there in
    let same : length c.as_mut_slice.result.now ≡ length I =
    ap (λ xs. length xs) c.as_mut_slice.ensures.value in
    let mid = chunk_length (q * w) w c.as_mut_slice.result.now (omega (arith, inside, same)) in
    let long : length c.copy_into.new.words ≡ w = omega (arith, mid) in
    let wrote : Rewrites w q I _ c.copy_into.new.words = record {
      before = λ n b. take-put_mid_below (q * w) (q * w + w - q * w) c.as_mut_slice.result.now
          c.copy_into.new.words n b (omega (arith, inside, same))
          ∙ ap (take n) c.as_mut_slice.ensures.value;
      after = λ n a. drop-put_mid (q * w) (q * w + w - q * w) c.as_mut_slice.result.now
          c.copy_into.new.words n (omega (arith, k, a)) (omega (arith, inside, same)) (long ∙ sym k)
          ∙ ap (drop n) c.as_mut_slice.ensures.value;
      chunk = chunk_is q w _ _ _ k (between-put_mid (q * w) (q * w + w - q * w)
          c.as_mut_slice.result.now c.copy_into.new.words (q * w + w) (omega (arith, inside, same))
          (long ∙ sym k));
    } in
    path_pushed p y _ f q I c.copy_into.new.words c.requires refl refl refl refl more
    (omega (arith, c.len-frame.ensures, c.args.self.now.steps.ok.0)) refl
    c.control-frame.ensures here
    (refill_rewrites _ _ _ _ _ _ c.grow_words.new.words.ok.0 long inside wrote)
    (refill_length _ _ _ _ _ _ c.grow_words.new.words.ok.0 long inside wrote) inside
    c.grow_words.ensures.same c.copy_into.ensures
    (omega (arith, c.in_ok-ensure_frame.ensures.there, length-set c.ensure_frame.new.frames.items q f))

pub returns-clause-pushed : goal.returns-clause-pushed
returns-clause-pushed c =
    let y = c.args.self.now in
    let f : Frame = record {
      node = y.node;
      steps = c.len-frame.result;
      control = c.control-frame.result;
    } in
    let more = take_more_set c.ensure_frame.new.frames.items y.depth f
    c.in_ok-ensure_frame.ensures.there
    ∙ ap (λ (fs : List Frame). fs ++ f ∷ []) c.ensure_frame.ensures.same in
    record {
      steps = refl;
      node = refl;
      base = refl;
      depth = ap (λ fs. length fs) more ∙ length-append (used_frames y) (f ∷ []);
      left = λ mode above. left_pushed mode c.args._program.now y f _ c.requires
          (omega (arith, c.len-frame.ensures, y.steps.ok.0)) refl more above;
    }
