-- The opening: thread after thread is put where it is.
use Rattle.std.specs.Prelude.{All}
use Rattle.std.proofs.Common.{◌≡◌, ◌≢◌, ℕ, ℤ, zero, suc, ◌+◌, ◌*◌, ◌<◌, ◌≤◌, true, false, cond, pos, nat_lt, List, [], ◌∷◌, ◌++◌, length, replicate, take, drop, None, get_or, set, refl, ap, ◌∙◌, sym, subst, arith, length-set, inl, inr}
use Rattle.std.proofs.{Math.Seq.drop-append_seam, lemmas.Bool.cases_lt}
use Rattle.std.proofs.lemmas.Bool.Decides.{nat_tests}
use Rattle.std.proofs.lemmas.List.{get_or_past, get_or-take, get_or-map, length-map, length-replicate, length-take, take_all, length-append, length-drop, drop-append-le, take-append-le, set-get_or}
use Rattle.std.proofs.lemmas.List.Elements.{All-map}
use Rattle.guest_code.specs.Program.{Program, IsWellFormed, LocalsBelow, no_semaphore, no_thread, code_of}
use Rattle.guest_code.specs.declared.limits.TheConstants.{COUNT, LOCALS}
use Rattle.guest_code.specs.declared.program.Instruction.{Instruction}
use Rattle.guest_code.specs.declared.program.Instruction.TheVariants.{Set, Assert, SkipIfZero, Skip}
use Rattle.semantics.specs.Machine.{Snapshot, thread_at, missing_thread, initial_thread, start, local_run, advance, with_local, with_status, value_of_expression, is_zero}
use Rattle.semantics.specs.{Mask.{has, no_threads}, declared.mask.Mask.Mask}
use Rattle.semantics.specs.declared.state.Status.TheVariants.{Stopped}
use Rattle.semantics.specs.declared.state.{Stop.TheVariants.Assert as FailedAssert, Thread.Thread}
use Rattle.semantics.proofs.{Masks.empty_has, StepsKeepStates.start_is_of}
use Rattle.semantics_machine.specs.Refinement.{HasEachWithSome, HasObjects, HasThreadAt, HaveSameCode, IsControl, Shows, AreQueues, thread_or_none, locals_at, queued}
use Rattle.semantics_machine.specs.{Touches.AreTouches, declared.control.Control.Control}
use Rattle.semantics_machine.specs.declared.{control.TheConstants.FREE, machine.Machine.Machine}
use Rattle.semantics_machine.specs.declared.machine.Shape.{Shape}
use Rattle.semantics_machine.specs.inner.{Opening.{IsOpenedTo, IsOpening}, Parts.Lands}
use Rattle.semantics_machine.proofs.{Landings.with_thread, Lists.{by_place, same_all}}
use Rattle.semantics_machine.proofs.{Unused.run_unused, Values.chunk_inside}

-- the opening counts

pub one_count : (cs C : List ℕ) (k v : ℕ)
    → ((j : ℕ) → get_or cs j 0 ≡ get_or (take k C) j 0) → k < length cs → k < length C
    → v ≡ get_or C k 0 → (j : ℕ) → get_or (set cs k v) j 0 ≡ get_or (take (k + 1) C) j 0
one_count cs C k v same room inside e =
    by_place (λ j x. x ≡ get_or (take (k + 1) C) j 0) cs k v 0 room
    (e ∙ sym (get_or-take (k + 1) C k 0 (omega arith))) other
  where
    other : (j : ℕ) → j ≢ k → get_or cs j 0 ≡ get_or (take (k + 1) C) j 0
    other j ne = elim (cases_lt j k) [
      | inl l ↦ same j ∙ (get_or-take k C j 0 l ∙ sym (get_or-take (k + 1) C j 0 (omega arith)))
      | inr g ↦ same j ∙ (get_or_past (take k C) j 0 (omega (arith, g, length-take k C))
          ∙ sym (get_or_past (take (k + 1) C) j 0 (omega (arith, g, ne, length-take (k + 1) C))))
    ]

pub count_at : (p : Program) (k : ℕ) → k < length p.semaphores
    → (get_or p.semaphores k no_semaphore).count ≡ get_or (start p).counts k 0
count_at p k l = sym (get_or-map (λ s. s.count) p.semaphores k no_semaphore 0 l)

pub count_inside : (p : Program) (k : ℕ) → k < length p.semaphores → k < length (start p).counts
count_inside p k l = omega (arith, l, length-map p.semaphores (λ s. s.count))

-- before any thread is there

abbrev pub unbegun : Mask → List ℕ → Control
unbegun threads counts = record {
  enabled = no_threads;
  unended = threads;
  stopped = no_threads;
  woken = no_threads;
  places = replicate 16 0;
  owners = replicate 8 FREE;
  counts = counts;
  mutexes = replicate 8 no_threads;
  semaphores = replicate 8 no_threads;
  lengths = replicate 8 0;
}

pub unbegun_is : (p : Program) (threads : Mask) (counts : List ℕ)
    → ((t : ℕ) → has threads t ≡ nat_lt t (length p.threads))
    → ((k : ℕ) → get_or counts k 0 ≡ get_or (start p).counts k 0)
    → IsOpenedTo p (start p) 0 (unbegun threads counts)
unbegun_is p threads counts all same = record {
  objects = record {
    owners_are = λ m. ap thread_or_none (same_all 8 m FREE)
        ∙ sym (same_all (length p.mutexes) m None);
    counts_are = same;
    lengths_are = λ n. same_all 8 n 0
        ∙ sym (ap (λ (q : List ℕ). length q) (same_all (length p.conditions) n []));
  };
  before = λ t l. absurd (omega arith);
  past = λ t g. subst (HasThreadAt p (unbegun threads counts) (start p) t)
      (sym (get_or_past (start p).threads t missing_thread g)) (missing t g);
  idle = λ t l h. record {
    unended = all t ∙ (let k : t < length p.threads = omega (arith, h, many) in
        let z : nat_lt t (length p.threads) ≡ true = grind (arith, nat_tests, k) in z);
    stopped = empty_has t;
    woken = empty_has t;
    apart = record { mutexes = λ m. nobody m t; semaphores = λ k. nobody k t };
  };
}
  where
    many : length (start p).threads ≡ length p.threads
    many = length-map p.threads _

    nobody : (m t : ℕ) → has (get_or (replicate 8 no_threads) m no_threads) t ≡ false
    nobody m t = ap (λ w. has w t) (same_all 8 m no_threads) ∙ empty_has t

    missing : (t : ℕ) → length (start p).threads ≤ t
        → HasThreadAt p (unbegun threads counts) (start p) t missing_thread
    missing t g = record {
      place = same_all 16 t 0;
      unended = all t ∙ (let k : length p.threads ≤ t = omega (arith, g, many) in
          let z : nat_lt t (length p.threads) ≡ false = grind (arith, nat_tests, k) in z);
      stopped = empty_has t;
      woken = empty_has t;
      enabled = empty_has t;
      mutexes = λ m. nobody m t;
      semaphores = λ k. nobody k t;
    }

-- one thread more

pub opened_more : (p : Program) (s : Snapshot) (k : ℕ) (c d : Control) → k < length s.threads
    → IsOpenedTo p s k c → Lands p c d s k (thread_at s k) → IsOpenedTo p s (k + 1) d
opened_more p s k c d there opened lands = record {
  objects = lands.objects;
  before = λ t l. back t (with_thread p s k t (thread_at s k) c d there lands
      (λ ne. opened.before t (omega (arith, l, ne))));
  past = λ t g. back t (with_thread p s k t (thread_at s k) c d there lands
      (λ ne. opened.past t g));
  idle = λ t l h. let o = opened.idle t (omega (arith, l)) h in
      let ne : t ≢ k = omega (arith, l) in record {
        unended = lands.others.unended t ne ∙ o.unended;
        stopped = lands.others.stopped t ne ∙ o.stopped;
        woken = lands.others.woken t ne ∙ o.woken;
        apart = record {
          mutexes = λ m. lands.others.mutexes m t ne ∙ o.apart.mutexes m;
          semaphores = λ j. lands.others.semaphores j t ne ∙ o.apart.semaphores j;
        };
      };
}
  where
    back : (t : ℕ) → HasThreadAt p d s t (get_or (set s.threads k (thread_at s k)) t missing_thread)
        → HasThreadAt p d s t (thread_at s t)
    back t h = subst (λ ts. HasThreadAt p d s t (get_or ts t missing_thread))
        (set-get_or s.threads k missing_thread) h

-- the locals of one thread more, after those of the others

module _ (w k f : ℕ) (xs ys : List ℤ) (long : length xs ≡ f + k * w) (more : length ys ≡ w) where
  rest : length (drop f xs) ≡ k * w
  rest = omega (arith, long, length-drop f xs)

  joined : drop f (xs ++ ys) ≡ drop f xs ++ ys
  joined = drop-append-le f xs ys (omega (arith, long))

  pub locals_before : (t : ℕ) → t < k → locals_at w (drop f (xs ++ ys)) t
      ≡ locals_at w (drop f xs) t
  locals_before t l =
      let e : t * w + w ≤ k * w = chunk_inside t k w (k * w) l refl in
      ap (λ z. take w (drop (t * w) z)) joined
      ∙ (ap (take w) (drop-append-le (t * w) (drop f xs) ys (omega (arith, e, rest)))
      ∙ take-append-le w (drop (t * w) (drop f xs)) ys
      (omega (arith, e, rest, length-drop (t * w) (drop f xs))))

  pub locals_new : locals_at w (drop f (xs ++ ys)) k ≡ ys
  locals_new = ap (λ z. take w (drop (k * w) z)) joined
      ∙ (ap (λ n. take w (drop n (drop f xs ++ ys))) (sym rest)
      ∙ (ap (take w) (drop-append_seam (drop f xs) ys)
      ∙ take_all w ys (omega (arith, more))))

-- a thread has room for all its locals

run_length : (is : List Instruction) (k : ℕ) (th : Thread)
    → length (local_run is k th).locals ≡ length th.locals
run_length [] k th = refl
run_length (i ∷ is) (suc k) th = run_length is k (advance th 1)
run_length (Set r e ∷ is) zero th =
    run_length is 0 (advance (with_local th r (value_of_expression th.locals e)) 1)
    ∙ length-set th.locals r (value_of_expression th.locals e)
run_length (Assert e ∷ is) zero th = elim (is_zero (value_of_expression th.locals e)) as
    (λ b. length (cond b (with_status th (Stopped FailedAssert))
    (local_run is 0 (advance th 1))).locals
    ≡ length th.locals) [
      | true ↦ refl
      | false ↦ run_length is 0 (advance th 1)
    ]
run_length (SkipIfZero e m ∷ is) zero th =
    run_length is (cond (is_zero (value_of_expression th.locals e)) m 0) (advance th 1)
run_length (Skip m ∷ is) zero th = run_length is m (advance th 1)
run_length (i ∷ is) zero th = refl

opened : (p : Program) (t : ℕ) → t < length p.threads
    → thread_at (start p) t ≡ local_run (code_of p t) 0 initial_thread
opened p t l = get_or-map (λ th. local_run th.code 0 initial_thread) p.threads t no_thread
    missing_thread l

pub opening_room : (p : Program) (t : ℕ) → t < length p.threads
    → length (thread_at (start p) t).locals ≡ LOCALS
opening_room p t l = ap (λ (x : Thread). length x.locals) (opened p t l)
    ∙ (run_length (code_of p t) 0 initial_thread ∙ length-replicate LOCALS (pos 0))

-- the opening with one thread more
pub opening_more : (p : Program) (s : Snapshot) (k : ℕ) (m n : Machine) (ys : List ℤ)
    → k < length s.threads → IsOpening p s k m
    → Lands p m.control n.control s k (thread_at s k)
    → n.values.items ≡ m.values.items ++ ys → length ys ≡ m.shape.width
    → ys ≡ take m.shape.width (thread_at s k).locals → n.shape ≡ m.shape
    → IsOpening p s (k + 1) n
opening_more p s k m n ys there h lands is more own same = record {
  control = opened_more p s k m.control n.control there h.control lands;
  fixed = f ∙ h.fixed;
  variables = (λ i. take (f i) (is i))
      ∙ (take-append-le m.shape.fixed m.values.items ys (omega (arith, h.size)) ∙ h.variables);
  locals = λ t l. (λ i. locals_at (w i) (drop (f i + length s.queues) (is i)) t)
      ∙ (go t (omega (arith, l)) ∙ ap (λ x. take x (thread_at s t).locals) (sym w));
  size = ap (λ (x : List ℤ). length x) is ∙ (length-append m.values.items ys
      ∙ (let e : (k + 1) * m.shape.width ≡ k * m.shape.width + m.shape.width =
      one_more k m.shape.width in
      let g : (k + 1) * n.shape.width ≡ (k + 1) * m.shape.width = ap (λ x. (k + 1) * x) w in
      omega (arith, e, g, more, h.size, f)));
  wide = subst (λ x. All (λ th. All (LocalsBelow x) th.code) p.threads) (sym w) h.wide;
  touches = subst (λ (x : Shape). AreTouches p x.touches) (sym same) h.touches;
  same_code = subst (λ (x : Shape). HaveSameCode p x.same_code) (sym same) h.same_code;
  with_equal = subst (λ (x : Shape). HasEachWithSome x.with_equal x.same_code) (sym same)
      h.with_equal;
}
  where
    f : n.shape.fixed ≡ m.shape.fixed
    f = ap (λ (x : Shape). x.fixed) same

    w : n.shape.width ≡ m.shape.width
    w = ap (λ (x : Shape). x.width) same

    one_more : (k x : ℕ) → (k + 1) * x ≡ k * x + x
    one_more k x = omega arith

    go : (t : ℕ) → t ≤ k
        → locals_at m.shape.width (drop (m.shape.fixed + length s.queues) (m.values.items ++ ys)) t
        ≡ take m.shape.width (thread_at s t).locals
    go t l = elim (cases_lt t k) [
      | inl a ↦ locals_before m.shape.width k (m.shape.fixed + length s.queues) m.values.items ys h.size more t a
          ∙ h.locals t a
      | inr b ↦ (let e : t ≡ k = omega (arith, l, b) in
          rw e (locals_new m.shape.width k (m.shape.fixed + length s.queues) m.values.items ys h.size more ∙ own))
    ]

-- all threads are there

pub opened_all : (p : Program) (s : Snapshot) (k : ℕ) (c : Control) → length s.threads ≤ k
    → IsOpenedTo p s k c → IsControl p c s
opened_all p s k c full opened = record {
  objects = opened.objects;
  threads = λ t. elim (cases_lt t k) [
    | inl l ↦ opened.before t l
    | inr g ↦ opened.past t (omega (arith, full, g))
  ];
}

-- all queues are empty
no_queues : (p : Program) (c : Control) (f : ℕ) (cells : List ℤ) → HasObjects c (start p)
    → AreQueues f c.lengths cells (start p).queues
no_queues p c f cells objects n l =
    let none = same_all (length p.conditions) n [] in
    ap (λ k. queued k (get_or cells (f + n) (pos 0)))
    (objects.lengths_are n ∙ ap (λ (q : List ℕ). length q) none) ∙ sym none

pub shows_start : (p : Program) (k : ℕ) (m : Machine) → IsWellFormed p → length p.threads ≤ k
    → k ≤ length p.threads → IsOpening p (start p) k m → Shows p m (start p)
shows_start p k m fine full few h = record {
  state = record {
    of = start_is_of p fine.threads (All-map (λ n. n ≤ COUNT) (λ s. s.count) p.semaphores
        fine.counts);
    control = opened_all p (start p) k m.control (omega (arith, full, many)) h.control;
    fixed_are = h.fixed;
    variables = h.variables;
    queues = no_queues p m.control m.shape.fixed m.values.items h.control.objects;
    locals = λ t l. h.locals t (omega (arith, l, many, full));
    unused = λ t l. ap (λ (x : Thread). drop m.shape.width x.locals)
        (opened p t (omega (arith, l, many))) ∙ run_unused m.shape.width (code_of p t) 0
        initial_thread (h.wide t no_thread (omega (arith, l, many)));
    size = h.size ∙ ap (λ n. m.shape.fixed + length (start p).queues + n * m.shape.width)
        (let e : k ≡ length (start p).threads = omega (arith, full, few, many) in e);
    wide = h.wide;
  };
  touches = h.touches;
  same_code = h.same_code;
  with_equal = h.with_equal;
}
  where
    many : length (start p).threads ≡ length p.threads
    many = length-map p.threads _
