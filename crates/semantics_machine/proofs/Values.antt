-- The values of a machine, in one list: the variables, the queues, and then each thread's locals.
use Rattle.std.specs.Prelude.{All}
use Rattle.std.proofs.Common.{◌≡◌, ◌≢◌, ℕ, ℤ, suc, ◌+◌, ◌-◌, ◌*◌, ◌<◌, ◌≤◌, Bool, true, ◌⊎◌, List, ◌++◌, pos, get_or, length, take, drop, refl, ap, ◌∙◌, sym, subst, arith, inl, inr}
use Rattle.std.proofs.Math.{Nat.mul-le-mul_right, Seq.drop-append_seam}
use Rattle.std.proofs.lemmas.Bool.{cases_eq, cases_order}
use Rattle.std.proofs.lemmas.List.{drop-take, length-append, length-drop, length-take, length-take-le, take-take, take-append-le, get_or-take, get_or_append_left}
use Rattle.std.proofs.lemmas.Slice.{take-put_mid_below, drop-put_mid, between-put_mid}
use borrow.Rule.Slice.PartMut.{put_mid}
use Rattle.guest_code.specs.Program.{Program, LocalsBelow, code_of, no_thread}
use Rattle.semantics.specs.Machine.{Snapshot, thread_at, is_enabled}
use Rattle.semantics.proofs.WorkFalls.{enabled_below}
use Rattle.semantics_machine.specs.Refinement.{IsState, AreQueues, queued, locals_at}
use Rattle.semantics_machine.specs.declared.{control.Control.Control, machine.Run.Run}
use Rattle.semantics_machine.specs.inner.Runs.{run_to, IsRunTo}
use Rattle.semantics_machine.specs.inner.Steps.{AreShared, HasShared, IsReadyIn}
use Rattle.semantics_machine.proofs.Unused.{steps_unused}

-- thread t's part is in the list
pub chunk_inside : (t n w L : ℕ) → t < n → L ≡ n * w → t * w + w ≤ L
chunk_inside t n w L l e = let h : suc t * w ≤ n * w = mul-le-mul_right w (omega arith) in
    let q : suc t * w ≡ t * w + w = suc_times t w in omega (arith, h, e, q)
  where
    suc_times : (t w : ℕ) → suc t * w ≡ t * w + w
    suc_times t w = omega arith

-- the list is the same but for the part of thread t
pub record Rewrites (w t : ℕ) (xs new ys : List ℤ) : Type 0 where
  pub before : (n : ℕ) → n ≤ t * w → take n new ≡ take n xs
  pub after : (n : ℕ) → t * w + w ≤ n → drop n new ≡ drop n xs
  pub chunk : locals_at w new t ≡ ys

pub other_chunk : (w : ℕ) (xs new ys : List ℤ) (t u : ℕ) → Rewrites w t xs new ys → u ≢ t
    → locals_at w new u ≡ locals_at w xs u
other_chunk w xs new ys t u r ne = elim (cases_order u t) [
  | inl e ↦ absurd (ne e)
  | inr (inl l) ↦ (let b : u * w + w ≤ t * w = chunk_inside u t w (t * w) l refl in
      sym (drop-take (u * w) w new)
      ∙ (ap (λ (zs : List ℤ). drop (u * w) zs) (r.before (u * w + w) b)
      ∙ drop-take (u * w) w xs))
  | inr (inr l) ↦ (let b : t * w + w ≤ u * w = chunk_inside t u w (u * w) l refl in
      ap (take w) (r.after (u * w) b))
]

pub same_length : (w t : ℕ) (xs new ys : List ℤ) → Rewrites w t xs new ys → length ys ≡ w
    → t * w + w ≤ length xs → length new ≡ length xs
same_length w t xs new ys r long inside = omega (
  arith,
  ap (λ (z : List ℤ). length z) (r.after (t * w + w) (omega arith)),
  ap (λ (z : List ℤ). length z) r.chunk,
  ap (λ (z : List ℤ). length z) (r.before (t * w) (omega arith)),
  length-drop (t * w + w) new,
  length-drop (t * w + w) xs,
  length-take w (drop (t * w) new),
  length-drop (t * w) new,
  length-take (t * w) new,
  length-take (t * w) xs,
  long,
  inside,
)

-- thread t's part, as a slice of a list
module _ (w t : ℕ) (xs : List ℤ) (inside : t * w + w ≤ length xs) where
  width : t * w + w - t * w ≡ w
  width = omega arith

  pub part : take (t * w + w - t * w) (drop (t * w) xs) ≡ locals_at w xs t
  part = ap (λ k. take k (drop (t * w) xs)) width

  pub part_length : length (take (t * w + w - t * w) (drop (t * w) xs)) ≡ w
  part_length = rw width (length-take-le w (drop (t * w) xs)
      (omega (arith, inside, length-drop (t * w) xs)))

  module _ (ys : List ℤ) (long : length ys ≡ w) where
    abbrev pub rewritten : List ℤ
    rewritten = put_mid (t * w) (t * w + w - t * w) xs ys

    pub rewrites : Rewrites w t xs rewritten ys
    rewrites = record {
      before = λ n b. take-put_mid_below (t * w) (t * w + w - t * w) xs ys n b
          (omega (arith, inside));
      after = λ n a. drop-put_mid (t * w) (t * w + w - t * w) xs ys n (omega (arith, width, a))
          (omega (arith, inside)) (long ∙ sym width);
      chunk = ap (λ k. take k (drop (t * w) rewritten)) (sym width)
          ∙ between-put_mid (t * w) (t * w + w - t * w) xs ys (t * w + w) (omega (arith, inside))
          (long ∙ sym width);
    }

-- the variables and the queues, in the first cells of a machine

-- out of all cells
shared_of : (p : Program) (f w : ℕ) (c : Control) (values : List ℤ) (s : Snapshot)
    → IsState p f w c values s → HasShared c (take (f + length s.queues) values) s
shared_of p f w c values s h = record {
  variables = ap (λ n. take n (take (f + length s.queues) values)) (sym h.fixed_are)
      ∙ (take-take f (f + length s.queues) values (omega arith) ∙ h.variables);
  are_queues = λ n l. ap (queued (get_or c.lengths n 0))
      (get_or-take (f + length s.queues) values (length s.vars + n) (pos 0)
      (omega (arith, l, h.fixed_are))
      ∙ ap (λ k. get_or values (k + n) (pos 0)) (sym h.fixed_are)) ∙ h.queues n l;
  size = length-take-le (f + length s.queues) values (omega (arith, h.size))
      ∙ ap (λ n. n + length s.queues) h.fixed_are;
}

-- and back, before others
module _ (lengths : List ℕ) (cells vars new : List ℤ) (queues : List (List ℕ)) (f : ℕ)
    (h : AreShared lengths cells vars queues) (fixed : f ≡ length vars) where
  pub shared_variables : take f (cells ++ new) ≡ vars
  shared_variables = ap (λ n. take n (cells ++ new)) fixed
      ∙ (take-append-le (length vars) cells new (omega (arith, h.size)) ∙ h.variables)

  pub shared_queues : AreQueues f lengths (cells ++ new) queues
  shared_queues n l = ap (queued (get_or lengths n 0))
      (ap (λ k. get_or (cells ++ new) (k + n) (pos 0)) fixed
      ∙ get_or_append_left cells new (pos 0) (length vars + n) (omega (arith, h.size, l)))
      ∙ h.are_queues n l

-- a step over the values

module _ (p : Program) (f w : ℕ) (c : Control) (values : List ℤ) (s : Snapshot) (t : ℕ)
    (shows : IsState p f w c values s) (enabled : is_enabled p s t ≡ true) where
  there : t < length s.threads
  there = enabled_below p s t enabled

  -- where the locals begin
  abbrev begin : ℕ
  begin = f + length s.queues

  pub begins : (n : ℕ) → n ≡ length p.conditions → f + n ≡ begin
  begins n e = ap (λ k. f + k) (e ∙ sym shows.of.queues)

  abbrev old : List ℤ
  old = drop begin values

  pub old_inside : t * w + w ≤ length old
  old_inside = chunk_inside t (length s.threads) w (length old) there
      (omega (arith, shows.size, length-drop begin values))

  pub ready : (g : ℕ) (cells mine : List ℤ) → g ≡ begin → cells ≡ take g values
      → mine ≡ locals_at w old t → length mine ≡ w → IsReadyIn p s t c cells mine
  ready g cells mine at first own long = record {
    of = shows.of;
    control = shows.control;
    shared = subst (λ xs. AreShared c.lengths xs s.vars s.queues)
        (sym (first ∙ ap (λ n. take n values) at)) (shared_of p f w c values s shows);
    own = own ∙ (shows.locals t there ∙ ap (λ n. take n (thread_at s t).locals) (sym long));
    enabled = enabled;
    below = subst (λ n. All (LocalsBelow n) (code_of p t)) (sym long)
        (shows.wide t no_thread (omega (arith, there, shows.of.threads)));
  }

  -- thread t's locals, as a slice of them all
  module _ (g : ℕ) (at : g ≡ begin) (all : List ℤ) (is : all ≡ drop g values) where
    same : all ≡ old
    same = is ∙ ap (λ n. drop n values) at

    pub all_inside : t * w + w ≤ length all
    all_inside = omega (arith, old_inside, ap (λ (x : List ℤ). length x) same)

    pub slice_is : take (t * w + w - t * w) (drop (t * w) all) ≡ locals_at w old t
    slice_is = part w t all all_inside ∙ ap (λ x. locals_at w x t) same

    pub slice_length : length (take (t * w + w - t * w) (drop (t * w) all)) ≡ w
    slice_length = part_length w t all all_inside

    pub slice_written : (ys : List ℤ) → length ys ≡ w
        → Rewrites w t old (put_mid (t * w) (t * w + w - t * w) all ys) ys
    slice_written ys long =
        subst (λ x. Rewrites w t x (put_mid (t * w) (t * w + w - t * w) all ys) ys) same
        (rewrites w t all all_inside ys long)

  module _ {heedless : Bool} (r : Run) (d : Control) (cells new mine : List ℤ)
      (st : IsRunTo p s t heedless r d cells mine)
      (long : length mine ≡ w) (wrote : Rewrites w t old new mine) where
    abbrev after : Snapshot
    after = run_to p s t r.steps

    many_after : length after.threads ≡ length s.threads
    many_after = st.of.threads ∙ sym shows.of.threads

    queues_after : length after.queues ≡ length s.queues
    queues_after = st.of.queues ∙ sym shows.of.queues

    locals_after : (u : ℕ) → u < length s.threads → (u ≡ t) ⊎ (u ≢ t)
        → (locals_at w new u ≡ take w (thread_at after u).locals)
        × (drop w (thread_at after u).locals ≡ drop w (thread_at s u).locals)
    locals_after u h (inl e) = rw e (
      wrote.chunk ∙ (st.own ∙ ap (λ n. take n (thread_at after t).locals) long),
      steps_unused w p t (shows.wide t no_thread (omega (arith, there, shows.of.threads))) s r.steps
          st.enabled,
    )
    locals_after u h (inr ne) = (
      other_chunk w old new mine t u wrote ne
          ∙ (shows.locals u h ∙ ap (take w) (sym (st.others u ne))),
      ap (drop w) (st.others u ne),
    )

    fixed_after : f ≡ length after.vars
    fixed_after = shows.fixed_are ∙ sym (st.of.variables ∙ sym shows.of.variables)

    few : length cells ≡ f + length after.queues
    few = st.shared.size ∙ ap (λ n. n + length after.queues) (sym fixed_after)

    rest : drop (f + length after.queues) (cells ++ new) ≡ new
    rest = ap (λ n. drop n (cells ++ new)) (sym few) ∙ drop-append_seam cells new

    pub size_after : length (cells ++ new) ≡ length values
    size_after = length-append cells new
        ∙ (let e = same_length w t old new mine wrote long old_inside in
        omega (arith, e, few, queues_after, shows.size, length-drop begin values))

    pub shows_after : IsState p f w d (cells ++ new) after
    shows_after = record {
      of = st.of;
      control = st.control;
      fixed_are = fixed_after;
      variables = shared_variables d.lengths cells after.vars new after.queues f
          st.shared fixed_after;
      queues = shared_queues d.lengths cells after.vars new after.queues f st.shared
          fixed_after;
      locals = λ u h. ap (λ x. locals_at w x u) rest
          ∙ (locals_after u (omega (arith, h, many_after)) (cases_eq u t)).0;
      unused = λ u h.
          let l : u < length s.threads = omega (arith, h, many_after) in
          (locals_after u l (cases_eq u t)).1 ∙ shows.unused u l;
      size = size_after ∙ (shows.size
          ∙ (λ i. f + sym queues_after i + sym many_after i * w));
      wide = shows.wide;
    }
