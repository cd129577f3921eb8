-- The path of a walk, as a frame is pushed, frames are popped, and it is extended by a run.
use Rattle.std.proofs.Common.{◌≡◌, ℕ, ℤ, zero, suc, ◌+◌, ◌-◌, ◌*◌, ◌<◌, ◌≤◌, not, ◌&&◌, nat_eq}
use Rattle.std.proofs.Common.{List, [], ◌∷◌, ◌++◌, length, take, drop, Some, None, Option, refl, ap}
use Rattle.std.proofs.Common.{◌∙◌, sym, subst, arith, inl, inr}
use Rattle.std.proofs.Math.{Nat.mul-le-mul_right, Path.transport}
use Rattle.std.proofs.{Math.Seq.{take-length, get_or-append_seam}, lemmas.Bool.cases_order}
use Rattle.std.proofs.lemmas.List.{drop-take, length-append, length-take, length-take-le, get_or-take, take-take, get_or_append_left}
use Rattle.guest_code.specs.Program.{Program}
use Rattle.semantics.specs.{Machine.Snapshot, Mask.{HasEnabled, members_from}}
use Rattle.semantics.specs.declared.mask.Mask.{Mask}
use Rattle.semantics_machine.specs.{Refinement.{Shows, IsShown}, declared.machine.Machine.Machine}
use Rattle.semantics_machine.specs.declared.machine.Shape.{Shape}
use Rattle.semantics_schedules.specs.{Execution.Reaches, Schedules.preempts}
use Rattle.walk.specs.declared.path.{Frame.Frame, Node.Node, Path.Path}
use Rattle.walk.specs.inner.Paths.{used_frames, words_at, state_at, ReachesNode, preempts_last}
use Rattle.walk.specs.inner.Paths.{IsPath, IsCopy, AreCopies, frame_at, no_frame}
use Rattle.walk.specs.inner.WalkerInvariant.{open_at, open_from, left_above, still_open, here}
use Rattle.walk.proofs.Words.{chunk_inside, Rewrites}
use Rattle.walk_items.specs.{Children.children_of, declared.mode.Mode.Mode}

-- the words

pub chunk_same : (size k n : ℕ) (new old : List ℤ) → k < n
    → ((m : ℕ) → m ≤ n * size → take m new ≡ take m old) → words_at size new k ≡ words_at size old k
chunk_same size k n new old l same =
    let b = chunk_inside k n size (n * size) l refl in
    sym (drop-take (k * size) size new)
    ∙ (ap (λ (zs : List ℤ). drop (k * size) zs) (same (k * size + size) b)
    ∙ drop-take (k * size) size old)

-- machines of one program have as many values
pub same_values : (p : Program) (l m : Machine) (s z : Snapshot) → Shows p l s → Shows p m z
    → l.shape ≡ m.shape → length l.values.items ≡ length m.values.items
same_values p l m s z a b shape = a.state.size
    ∙ ((λ i. (shape i).fixed + (a.state.of.queues ∙ sym b.state.of.queues) i
    + (a.state.of.threads ∙ sym b.state.of.threads) i * (shape i).width) ∙ sym b.state.size)

-- what is open, for ways that share the frames

pub open_same : (mode : Mode) (p : Program) (v w : List ℕ) (gs fs : List Frame) (base n : ℕ)
    → ((k : ℕ) → k < base + n → frame_at gs k ≡ frame_at fs k)
    → ((k : ℕ) → k < base + n → take (frame_at fs k).steps v ≡ take (frame_at fs k).steps w)
    → open_from mode p v gs base n ≡ open_from mode p w fs base n
open_same mode p v w gs fs base zero same takes = refl
open_same mode p v w gs fs base (suc n) same takes = (λ i. head i
    ++ open_same mode p v w gs fs base n (λ k l. same k (omega arith))
    (λ k l. takes k (omega arith)) i)
  where
    head : open_at mode p (take (frame_at gs (base + n)).steps v) (frame_at gs (base + n)).node
        ≡ open_at mode p (take (frame_at fs (base + n)).steps w) (frame_at fs (base + n)).node
    head = ap (λ (f : Frame). open_at mode p (take f.steps v) f.node)
        (same (base + n) (omega arith))
        ∙ ap (λ u. open_at mode p u (frame_at fs (base + n)).node) (takes (base + n) (omega arith))

-- steps

pub front_of : {A : Type 0} (u v : List A) (k : ℕ) → take (length u) v ≡ u → k ≤ length u
    → take k v ≡ take k u
front_of u v k front l = sym (take-take k (length u) v l) ∙ ap (take k) front

-- the frames lie on a longer way, too
pub copies_extended : (p : Program) (w v : List ℕ) (shape : Shape) (size : ℕ) (fs : List Frame)
    (ws : List ℤ) → AreCopies p w shape size fs ws → 0 < length fs → take (length w) v ≡ w
    → AreCopies p v shape size fs ws
copies_extended p w v shape size fs ws h some front = record {
  each = λ k l. subst (λ u. IsCopy p u shape (frame_at fs k) (words_at size ws k))
      (sym (front_of w v (frame_at fs k).steps front (h.within k l))) (h.each k l);
  within = λ k l. let a = h.within k l in
      let e = ap length front in let m = length-take (length w) v in omega (arith, a, e, m);
  rising = h.rising;
  first = h.first;
  bottom = λ e. absurd (omega (arith, e, some));
  room = h.room;
}

-- the way goes on by some steps to where a machine of as many values shows the state
pub path_on : (p : Program) (old new : Path) → IsPath p old → 0 < length (used_frames old)
    → take (length old.steps.items) new.steps.items ≡ old.steps.items
    → ReachesNode p new.steps.items new.node
    → Shows p new.machine (state_at p new.steps.items)
    → length new.machine.values.items ≡ length old.machine.values.items
    → new.machine.shape ≡ old.machine.shape → new.size ≡ old.size
    → (used_frames new) ≡ (used_frames old) → new.words.items ≡ old.words.items
    → new.depth ≤ length new.frames.items → IsPath p new
path_on p old new h some front reaches shows values shape size frames words room = record {
  well_formed = h.well_formed;
  reaches = reaches;
  shows = shows;
  size = size ∙ (h.size ∙ sym values);
  frames = transport (λ i. AreCopies p new.steps.items (sym shape i) (sym size i)
      (sym frames i) (sym words i))
      (copies_extended p old.steps.items new.steps.items old.machine.shape old.size
      (used_frames old) old.words.items h.frames some front);
  room = room;
  count = length-take-le new.depth new.frames.items room;
}

pub left_extended : (mode : Mode) (p : Program) (old : Path) (v : List ℕ) → IsPath p old
    → old.base ≤ length (used_frames old) → take (length old.steps.items) v ≡ old.steps.items
    → open_from mode p v (used_frames old) old.base (length (used_frames old) - old.base)
    ≡ left_above mode p old
left_extended mode p old v h above front =
    open_same mode p v old.steps.items (used_frames old)
    (used_frames old) old.base (length (used_frames old) - old.base) (λ k l. refl)
    (λ k l. front_of old.steps.items v (frame_at (used_frames old) k).steps front
    (h.frames.within k (omega (arith, l, above))))

-- back to the last frame

pub copies_popped : (p : Program) (w : List ℕ) (shape : Shape) (size : ℕ) (fs : List Frame)
    (ws : List ℤ) (n m : ℕ) → AreCopies p w shape size fs ws → n < length fs → n ≤ m
    → m ≤ n + 1 → AreCopies p (take (frame_at fs n).steps w) shape size (take m fs) ws
copies_popped p w shape size fs ws n m h long low high = record {
  each = λ k l. let b = below k l in
      subst (λ (g : Frame). IsCopy p (take g.steps (take (frame_at fs n).steps w)) shape g
      (words_at size ws k)) (sym (same k b))
      (subst (λ v. IsCopy p v shape (frame_at fs k) (words_at size ws k))
      (sym (take-take (frame_at fs k).steps (frame_at fs n).steps w
      (h.rising k n (omega (arith, b, high)) (omega (arith, long)))))
      (h.each k (omega (arith, b, long, high))));
  within = λ k l. let b = below k l in
      subst (λ (g : Frame). g.steps ≤ length (take (frame_at fs n).steps w)) (sym (same k b))
      (let r = h.rising k n (omega (arith, b, high)) (omega (arith, long)) in
      let e = length-take-le (frame_at fs n).steps w (h.within n (omega (arith, long))) in
      omega (arith, r, e));
  rising = λ j k le l. let b = below k l in
      subst (λ (g : Frame). (frame_at (take m fs) j).steps ≤ g.steps) (sym (same k b))
      (subst (λ (g : Frame). g.steps ≤ (frame_at fs k).steps) (sym (same j (omega arith)))
      (h.rising j k le (omega (arith, b, long, high))));
  first = λ l. ap (λ (g : Frame). g.steps) (same 0 (below 0 l)) ∙ h.first (omega (arith, long));
  bottom = λ e. let z : n ≡ 0 = omega (arith, many, e, low) in
      ap (λ k. take (frame_at fs k).steps w) z ∙ ap (λ k. take k w) (h.first (omega (arith, long)));
  room = let r = h.room in let l : m * size ≤ length fs * size =
      mul-le-mul_right size (omega (arith, long, high)) in
      let e : length (take m fs) * size ≡ m * size = ap (λ k. k * size) many in
      omega (arith, r, l, e);
}
  where
    many : length (take m fs) ≡ m
    many = length-take-le m fs (omega (arith, long, high))

    below : (k : ℕ) → k < length (take m fs) → k < m
    below k l = omega (arith, l, many)

    same : (k : ℕ) → k < m → frame_at (take m fs) k ≡ frame_at fs k
    same k l = get_or-take m fs k no_frame l

pub path_popped : (p : Program) (old new : Path) (n m : ℕ) (f : Frame) → IsPath p old
    → n < length (used_frames old) → n ≤ m → m ≤ n + 1
    → f ≡ frame_at (used_frames old) n → new.steps.items ≡ take f.steps old.steps.items
    → new.node ≡ f.node → Shows p new.machine (state_at p (take f.steps old.steps.items))
    → length new.machine.values.items ≡ length old.machine.values.items
    → new.machine.shape ≡ old.machine.shape → new.size ≡ old.size
    → (used_frames new) ≡ take m (used_frames old)
    → new.words.items ≡ old.words.items → new.depth ≤ length new.frames.items → IsPath p new
path_popped p old new n m f h long low high e steps node shows values shape size frames words
    room = record {
      well_formed = h.well_formed;
      reaches = transport (λ i. ReachesNode p (sym here i)
          (sym (node ∙ ap (λ (g : Frame). g.node) e) i)) (h.frames.each n long).reaches;
      shows = subst (λ v. Shows p new.machine (state_at p v)) (sym steps) shows;
      size = size ∙ (h.size ∙ sym values);
      frames = transport (λ i. AreCopies p (sym here i) (sym shape i) (sym size i)
          (sym frames i) (sym words i))
          (copies_popped p old.steps.items old.machine.shape old.size
          (used_frames old) old.words.items n m h.frames long low high);
      room = room;
      count = length-take-le new.depth new.frames.items room;
    }
  where
    w : List ℕ
    w = take (frame_at (used_frames old) n).steps old.steps.items

    here : new.steps.items ≡ w
    here = steps ∙ ap (λ (g : Frame). take g.steps old.steps.items) e

pub left_popped : (mode : Mode) (p : Program) (old : Path) (n : ℕ) (f : Frame) (v : List ℕ)
    (gs : List Frame)
    → IsPath p old → n + 1 ≡ length (used_frames old) → f ≡ frame_at (used_frames old) n
    → v ≡ take f.steps old.steps.items → gs ≡ take n (used_frames old)
    → old.base < length (used_frames old)
    → open_at mode p v f.node ++ open_from mode p v gs old.base (length gs - old.base)
    ≡ left_above mode p old
left_popped mode p old n f v gs h long e steps frames above =
    (λ i. head i ++ rest i)
    ∙ ap (λ k. open_from mode p w fs old.base k) (let z : suc (n - old.base) ≡ length fs
    - old.base = omega (arith, long, above) in z)
  where
    w : List ℕ
    w = old.steps.items

    fs : List Frame
    fs = (used_frames old)

    at : old.base + (n - old.base) ≡ n
    at = omega (arith, long, above)

    here : v ≡ take (frame_at fs n).steps w
    here = steps ∙ ap (λ (g : Frame). take g.steps w) e

    many : length (take n fs) ≡ n
    many = length-take-le n fs (omega (arith, long))

    head : open_at mode p v f.node
        ≡ open_at mode p (take (frame_at fs (old.base + (n - old.base))).steps w)
        (frame_at fs (old.base + (n - old.base))).node
    head = (λ i. open_at mode p (steps i) f.node)
        ∙ (ap (λ (g : Frame). open_at mode p (take g.steps w) g.node) e
        ∙ ap (λ k. open_at mode p (take (frame_at fs k).steps w) (frame_at fs k).node) (sym at))

    rest : open_from mode p v gs old.base (length gs - old.base)
        ≡ open_from mode p w fs old.base (n - old.base)
    rest = (λ i. open_from mode p (here i) (frames i) old.base (length (frames i) - old.base))
        ∙ (ap (λ k. open_from mode p (take (frame_at fs n).steps w) (take n fs) old.base
        (k - old.base)) many
        ∙ open_same mode p (take (frame_at fs n).steps w) w (take n fs) fs old.base (n - old.base)
        (λ k l. get_or-take n fs k no_frame (omega (arith, l, at)))
        (λ k l. take-take (frame_at fs k).steps (frame_at fs n).steps w
        (h.frames.rising k n (omega (arith, l, at)) (omega (arith, long)))))

-- other words

pub copies_words : (p : Program) (w : List ℕ) (shape : Shape) (size : ℕ) (fs : List Frame)
    (ws new : List ℤ)
    → AreCopies p w shape size fs ws
    → ((m : ℕ) → m ≤ length fs * size → take m new ≡ take m ws)
    → length fs * size ≤ length new → AreCopies p w shape size fs new
copies_words p w shape size fs ws new h same long = record {
  each = λ k l. subst (λ xs. IsCopy p (take (frame_at fs k).steps w) shape (frame_at fs k) xs)
      (sym (chunk_same size k (length fs) new ws l same)) (h.each k l);
  within = h.within;
  rising = h.rising;
  first = h.first;
  bottom = h.bottom;
  room = long;
}

pub path_words : (p : Program) (old new : Path) → IsPath p old → new.steps.items ≡ old.steps.items
    → new.node.last ≡ old.node.last → new.node.used ≡ old.node.used → new.machine ≡ old.machine
    → new.size ≡ old.size
    → AreCopies p old.steps.items old.machine.shape old.size (used_frames new)
    new.words.items → new.depth ≤ length new.frames.items → IsPath p new
path_words p old new h steps last used machine size frames room = record {
  well_formed = h.well_formed;
  reaches = transport (λ i. Reaches p (sym steps i) (record {
    state = state_at p (sym steps i);
    last = sym last i;
    preemptions = sym used i;
  })) h.reaches;
  shows = transport (λ i. Shows p (sym machine i) (state_at p (sym steps i))) h.shows;
  size = size ∙ (h.size ∙ ap (λ (m : Machine). length m.values.items) (sym machine));
  frames = transport (λ i. AreCopies p (sym steps i) (sym machine i).shape
      (sym size i) (used_frames new) new.words.items) frames;
  room = room;
  count = length-take-le new.depth new.frames.items room;
}

-- one more frame

pub copies_push : (p : Program) (w : List ℕ) (shape : Shape) (size : ℕ) (fs : List Frame)
    (ws new : List ℤ) (f : Frame)
    → AreCopies p w shape size fs ws → f.steps ≡ length w
    → IsCopy p w shape f (words_at size new (length fs))
    → ((m : ℕ) → m ≤ length fs * size → take m new ≡ take m ws)
    → length fs * size + size ≤ length new → AreCopies p w shape size (fs ++ f ∷ []) new
copies_push p w shape size fs ws new f h steps copy same long = record {
  each = λ k l. elim (cases_order k (length fs)) [
    | inl e ↦ subst (λ j. IsCopy p (take (frame_at (fs ++ f ∷ []) j).steps w) shape
        (frame_at (fs ++ f ∷ []) j) (words_at size new j)) (sym e)
        (subst (λ (g : Frame). IsCopy p (take g.steps w) shape g
        (words_at size new (length fs))) (sym last)
        (subst (λ v. IsCopy p v shape f (words_at size new (length fs)))
        (sym (ap (λ j. take j w) steps ∙ take-length w)) copy))
    | inr (inl a) ↦ transport (λ i. IsCopy p (take (sym (before k a) i).steps w) shape
        (sym (before k a) i) (sym (chunk_same size k (length fs) new ws a same) i)) (h.each k a)
    | inr (inr a) ↦ absurd (omega (arith, l, a, many))
  ];
  within = λ k l. elim (cases_order k (length fs)) [
    | inl e ↦ subst (λ j. (frame_at (fs ++ f ∷ []) j).steps ≤ length w) (sym e)
        (subst (λ (g : Frame). g.steps ≤ length w) (sym last) (omega (arith, steps)))
    | inr (inl a) ↦ subst (λ (g : Frame). g.steps ≤ length w) (sym (before k a)) (h.within k a)
    | inr (inr a) ↦ absurd (omega (arith, l, a, many))
  ];
  rising = λ j k le l. elim (cases_order k (length fs)) [
    | inl e ↦ subst (λ i. (frame_at (fs ++ f ∷ []) j).steps
        ≤ (frame_at (fs ++ f ∷ []) i).steps) (sym e)
        (subst (λ (g : Frame). (frame_at (fs ++ f ∷ []) j).steps ≤ g.steps) (sym last)
        (subst (λ n. (frame_at (fs ++ f ∷ []) j).steps ≤ n) (sym steps)
        (up_to j (omega (arith, le, e)))))
    | inr (inl a) ↦ subst (λ (g : Frame). (frame_at (fs ++ f ∷ []) j).steps ≤ g.steps)
        (sym (before k a))
        (subst (λ (g : Frame). g.steps ≤ (frame_at fs k).steps) (sym (before j (omega arith)))
        (h.rising j k le a))
    | inr (inr a) ↦ absurd (omega (arith, l, a, many))
  ];
  first = λ l. elim (cases_order 0 (length fs)) [
    | inl e ↦ ap (λ j. (frame_at (fs ++ f ∷ []) j).steps) e
        ∙ (ap (λ (g : Frame). g.steps) last
        ∙ (steps ∙ ap (λ (v : List ℕ). length v) (h.bottom (sym e))))
    | inr (inl a) ↦ ap (λ (g : Frame). g.steps) (before 0 a) ∙ h.first a
    | inr (inr a) ↦ absurd (omega arith)
  ];
  bottom = λ e. absurd (omega (arith, e, many));
  room = let z : length (fs ++ f ∷ []) * size ≡ suc (length fs) * size =
      ap (λ k. k * size) (many ∙ one) in
      let y : suc (length fs) * size ≡ length fs * size + size = next (length fs) size in
      omega (arith, z, y, long);
}
  where
    next : (t w : ℕ) → suc t * w ≡ t * w + w
    next t w = omega arith

    one : length fs + 1 ≡ suc (length fs)
    one = omega arith

    many : length (fs ++ f ∷ []) ≡ length fs + 1
    many = length-append fs (f ∷ [])

    last : frame_at (fs ++ f ∷ []) (length fs) ≡ f
    last = get_or-append_seam fs f [] no_frame

    before : (k : ℕ) → k < length fs → frame_at (fs ++ f ∷ []) k ≡ frame_at fs k
    before k l = get_or_append_left fs (f ∷ []) no_frame k l

    up_to : (j : ℕ) → j ≤ length fs → (frame_at (fs ++ f ∷ []) j).steps ≤ length w
    up_to j l = elim (cases_order j (length fs)) [
      | inl e ↦ subst (λ i. (frame_at (fs ++ f ∷ []) i).steps ≤ length w) (sym e)
          (subst (λ (g : Frame). g.steps ≤ length w) (sym last) (omega (arith, steps)))
      | inr (inl a) ↦ subst (λ (g : Frame). g.steps ≤ length w) (sym (before j a)) (h.within j a)
      | inr (inr a) ↦ absurd (omega (arith, l, a))
    ]

pub left_pushed : (mode : Mode) (p : Program) (old : Path) (f : Frame) (gs : List Frame)
    → IsPath p old
    → f.steps ≡ length old.steps.items → f.node ≡ old.node → gs ≡ (used_frames old) ++ f ∷ []
    → old.base ≤ length (used_frames old)
    → open_from mode p old.steps.items gs old.base (length gs - old.base)
    ≡ open_at mode p old.steps.items old.node ++ left_above mode p old
left_pushed mode p old f gs h steps todo frames above =
    (λ i. open_from mode p w (frames i) old.base (length (frames i) - old.base))
    ∙ (ap (λ k. open_from mode p w (fs ++ f ∷ []) old.base k) count ∙ (λ i. head i ++ rest i))
  where
    w : List ℕ
    w = old.steps.items

    fs : List Frame
    fs = (used_frames old)

    count : length (fs ++ f ∷ []) - old.base ≡ suc (length fs - old.base)
    count = omega (arith, above, length-append fs (f ∷ []))

    at : old.base + (length fs - old.base) ≡ length fs
    at = omega (arith, above)

    head : open_at mode p (take (frame_at (fs ++ f ∷ [])
        (old.base + (length fs - old.base))).steps w)
        (frame_at (fs ++ f ∷ []) (old.base + (length fs - old.base))).node
        ≡ open_at mode p old.steps.items old.node
    head = ap (λ k. open_at mode p (take (frame_at (fs ++ f ∷ []) k).steps w)
        (frame_at (fs ++ f ∷ []) k).node) at
        ∙ (ap (λ (g : Frame). open_at mode p (take g.steps w) g.node)
        (get_or-append_seam fs f [] no_frame)
        ∙ (λ i. open_at mode p ((ap (λ j. take j w) steps ∙ take-length w) i) (todo i)))

    rest : open_from mode p w (fs ++ f ∷ []) old.base (length fs - old.base) ≡ left_above mode p old
    rest = open_same mode p w w (fs ++ f ∷ []) fs old.base (length fs - old.base)
        (λ k l. get_or_append_left fs (f ∷ []) no_frame k (omega (arith, l, at))) (λ k l. refl)

pub copies_pushed : (p : Program) (old : Path) (f : Frame) (new : List ℤ) → IsPath p old
    → f.steps ≡ length old.steps.items → f.node ≡ old.node → f.control ≡ old.machine.control
    → ((m : ℕ) → m ≤ length (used_frames old) * old.size → take m new ≡ take m old.words.items)
    → length (used_frames old) * old.size + old.size ≤ length new
    → words_at old.size new (length (used_frames old)) ≡ old.machine.values.items
    → AreCopies p old.steps.items old.machine.shape old.size
    ((used_frames old) ++ f ∷ []) new
copies_pushed p old f new h steps node control same long words =
    copies_push p old.steps.items old.machine.shape old.size (used_frames old)
    old.words.items new f h.frames steps (record {
      reaches = subst (λ m. ReachesNode p old.steps.items m) (sym node) h.reaches;
      shows = transport (λ i. IsShown p old.machine.shape (sym control i)
          (sym words i) (state_at p old.steps.items)) h.shows;
    }) same long

pub path_pushed : (p : Program) (old new : Path) (f : Frame) (q : ℕ) (I mine : List ℤ)
    → IsPath p old
    → new.steps.items ≡ old.steps.items → new.node ≡ old.node → new.machine ≡ old.machine
    → new.size ≡ old.size → (used_frames new) ≡ (used_frames old) ++ f ∷ []
    → f.steps ≡ length old.steps.items
    → f.node ≡ old.node → f.control ≡ old.machine.control → q ≡ length (used_frames old)
    → Rewrites old.size q I new.words.items mine → length new.words.items ≡ length I
    → q * old.size + old.size ≤ length I
    → ((m : ℕ) → m ≤ length old.words.items → take m I ≡ take m old.words.items)
    → mine ≡ old.machine.values.items → new.depth ≤ length new.frames.items → IsPath p new
path_pushed p old new f q I mine h steps node machine size frames fs fn fc here wrote many inside
    same own room =
    path_words p old new h steps (ap (λ (m : Node). m.last) node) (ap (λ (m : Node). m.used) node)
    machine size
    (subst (λ (gs : List Frame). AreCopies p old.steps.items old.machine.shape
    old.size gs new.words.items) (sym frames)
    (copies_pushed p old f new.words.items h fs fn fc
    (λ m l. wrote.before m (subst (λ n. m ≤ n * old.size) (sym here) l)
    ∙ same m (let r = h.frames.room in omega (arith, l, r)))
    (let there = subst (λ n. n * old.size + old.size ≤ length I) here inside in
    omega (arith, there, many))
    (subst (λ n. words_at old.size new.words.items n ≡ old.machine.values.items) here
    (wrote.chunk ∙ own)))) room

-- a preempting switch, by the mask of who is enabled
pub preempts_is : (p : Program) (s : Snapshot) (m : Mask) (last : Option ℕ) (t : ℕ)
    → HasEnabled m p s → preempts_last last m t ≡ preempts p s last t
preempts_is p s m None t h = refl
preempts_is p s m (Some l) t h = ap (λ b. b && not (nat_eq l t)) (h l)

-- only what is still to be tried changed, and who sleeps
pub path_same : (p : Program) (old new : Path) → IsPath p old → new.steps.items ≡ old.steps.items
    → new.node.last ≡ old.node.last → new.node.used ≡ old.node.used → new.machine ≡ old.machine
    → new.size ≡ old.size
    → (used_frames new) ≡ (used_frames old) → new.words.items ≡ old.words.items
    → new.depth ≤ length new.frames.items → IsPath p new
path_same p old new h steps last used machine size frames words room = path_words p old new h steps
    last used machine size
    (transport (λ i. AreCopies p old.steps.items old.machine.shape old.size
    (sym frames i) (sym words i)) h.frames) room

-- nothing is to be tried at the node
pub open_done : (mode : Mode) (p : Program) (t : Path) → members_from t.node.todo 0 ≡ []
    → still_open mode p t ≡ left_above mode p t
open_done mode p t e = ap (λ (ts : List ℕ). children_of mode (here p t) ts ++ left_above mode p t) e
