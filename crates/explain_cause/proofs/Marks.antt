-- The marks are true exactly of the events in the cause.
use Rattle.std.specs.Prelude.{Bool, true, false, cond, not, ◌||◌, ◌&&◌, nat_eq, nat_lt, slice_index_or, unwrap_or, if◌then◌else◌}
use Rattle.std.proofs.Common.{◌≡◌, ◌≢◌, ◌⊎◌, inl, inr, ℕ, zero, suc, ◌+◌, ◌-◌, ◌<◌, ◌≤◌, List, [], ◌∷◌, ◌++◌, length, take, get_or, length-take, get_or-take, Option, Some, None, refl, ap, ◌∙◌, sym, subst, arith}
use Rattle.std.specs.List.{list_any, count_by}
use Rattle.std.proofs.lemmas.{Bool.{eqb-true, eq-eqb, lt-ltb, ltb-true}, List.drop_all}
use Rattle.std.proofs.lemmas.List.Folds.{list_any-append}
use Rattle.guest_code.specs.Program.{Program, code_of}
use Rattle.guest_code.specs.declared.limits.TheConstants.{THREADS, VARIABLES}
use Rattle.explain_cause.specs.Asked.{asks_for}
use Rattle.explain_cause.specs.Causes.{Marked, NoneOf, any_below, decides, ends_in, event_at, flows_on, is_missed, is_missed_by, is_needed, is_next, is_read, is_read_from, is_below, least_in, least_with, lesser, marked, marks_in, no_event, passes_by_read, soon}
use Rattle.explain_cause.specs.Events.{is_end, is_use, reads, sets_local, uses_local, writes, written_by}
use Rattle.explain_cause.specs.Needs.{AreMarks, Asks, FlowsFrom, InCause, IsDecidedBy, Misses, ReadsFrom, ReadsPast, ends, needed}
use Rattle.explain_cause.specs.{Tests.{merge_point, passes_write}, declared.event.Event.Event}
use Rattle.explain_cause.proofs.{Places.{marked_at, rest_marked}, Rows.{count_first, true_below}}
use Rattle.check_lint.specs.{Paths.is_test, Uses.{is, local_set}}

or_true : (a b : Bool) → (a || b) ≡ true → (a ≡ true) ⊎ (b ≡ true)
or_true true b h = inl refl
or_true false b h = inr h

pub and_true : (a b : Bool) → (a && b) ≡ true → (a ≡ true) × (b ≡ true)
and_true true b h = (refl, h)
and_true false b h = absurd cc

pub both_true : (a b : Bool) → a ≡ true → b ≡ true → (a && b) ≡ true
both_true a b e f = ap (λ x. x && b) e ∙ f

pub left_true : (a b : Bool) → a ≡ true → (a || b) ≡ true
left_true a b e = ap (λ x. x || b) e

pub right_true : (a b : Bool) → b ≡ true → (a || b) ≡ true
right_true true b e = refl
right_true false b e = e

not_true : (a : Bool) → not a ≡ true → a ≡ false
not_true true h = absurd cc
not_true false h = refl

not_false : (a : Bool) → a ≡ false → not a ≡ true
not_false a h = ap not h

upto : (i k : ℕ) → k ≤ i → (i ≡ k) ⊎ (k + 1 ≤ i)
upto i k l = grind (arith, l)

-- the mark of the event at a place
abbrev pub mark_at : Program → List Event → ℕ → Bool
mark_at p events k =
    is_needed p (take (k + 1) events) (rest_marked p events (k + 1)) (event_at events k)

-- an event at a place from k on is marked and so, and none before it stops the search
record Found (p : Program) (events : List Event) (so stops : Event → Bool) (k : ℕ) : Type 0 where
  place : ℕ
  from : k ≤ place
  inside : place < length events
  marks : mark_at p events place ≡ true
  is : so (event_at events place) ≡ true
  none : NoneOf events stops k place

seek : (so stops : Event → Bool) → List Marked → Bool
seek so stops ms = soon (λ m. m.mark && so m.event) stops ms

module _ (p : Program) (events : List Event) (so stops : Event → Bool) where
  sought_on : (k : ℕ) → k < length events →
      soon (λ m. m.mark && so m.event) stops (rest_marked p events k)
      ≡ ((mark_at p events k && so (event_at events k)) || (not (stops (event_at events k))
      && soon (λ m. m.mark && so m.event) stops (rest_marked p events (k + 1))))
  sought_on k l = ap (λ ms. soon (λ m. m.mark && so m.event) stops ms)
      (marked_at p events k no_event l)

  none_after : (k : ℕ) → length events ≤ k →
      soon (λ m. m.mark && so m.event) stops (rest_marked p events k) ≡ false
  none_after k l = ap (λ es. soon (λ m. m.mark && so m.event) stops (marked p (take k events) es))
      (drop_all k events l)

  found : (left k : ℕ) → k + left ≡ length events →
      soon (λ m. m.mark && so m.event) stops (rest_marked p events k) ≡ true →
      Found p events so stops k
  found zero k e h =
      absurd (let z = none_after k (let m : length events ≤ k = omega (arith, e) in m) in cc)
  found (suc left) k e h = let l : k < length events = omega (arith, e) in
      elim (or_true (mark_at p events k && so (event_at events k)) (not (stops (event_at events k))
      && soon (λ m. m.mark && so m.event) stops (rest_marked p events (k + 1)))
      (sym (sought_on k l) ∙ h)) [
        | inl here ↦ (let two = and_true (mark_at p events k) (so (event_at events k)) here in
            record {
              place = k;
              from = omega arith;
              inside = l;
              marks = two.0;
              is = two.1;
              none = λ i a b c. absurd (omega (arith, a, b));
            })
        | inr later ↦ (let two = and_true (not (stops (event_at events k)))
            (soon (λ m. m.mark && so m.event) stops (rest_marked p events (k + 1))) later in
            let f = found left (k + 1) (omega (arith, e)) two.1 in record {
              place = f.place;
              from = let a = f.from in omega (arith, a);
              inside = f.inside;
              marks = f.marks;
              is = f.is;
              none = λ i a b c. elim (upto i k a) [
                | inl here ↦ subst (λ n. stops (event_at events n) ≡ false) (sym here)
                    (not_true (stops (event_at events k)) two.0)
                | inr after ↦ f.none i after b c
              ];
            })
      ]

  sought : (left k j : ℕ) → k + left ≡ length events → k ≤ j → j < length events →
      mark_at p events j ≡ true → so (event_at events j) ≡ true → NoneOf events stops k j →
      soon (λ m. m.mark && so m.event) stops (rest_marked p events k) ≡ true
  sought zero k j e a b m s n = absurd (omega (arith, e, a, b))
  sought (suc left) k j e a b m s n = let l : k < length events = omega (arith, e) in
      sought_on k l ∙ elim (upto j k a) [
        | inl here ↦ left_true (mark_at p events k && so (event_at events k)) _
            (both_true (mark_at p events k) (so (event_at events k))
            (subst (λ i. mark_at p events i ≡ true) here m)
            (subst (λ i. so (event_at events i) ≡ true) here s))
        | inr later ↦ right_true (mark_at p events k && so (event_at events k)) _
            (both_true (not (stops (event_at events k)))
            (soon (λ m. m.mark && so m.event) stops (rest_marked p events (k + 1)))
            (not_false (stops (event_at events k))
            (n k (omega arith) (omega (arith, later)) l))
            (sought left (k + 1) j (omega (arith, e)) later b m s
            (λ i x y z. n i (omega (arith, x)) y z)))
      ]

-- the least number of an instruction of a thread
record Least (p : Program) (events : List Event) (k t m : ℕ) : Type 0 where
  place : ℕ
  from : k ≤ place
  inside : place < length events
  marks : mark_at p events place ≡ true
  thread : (event_at events place).thread ≡ t
  is : (event_at events place).instruction ≡ m

some_only : (j k : ℕ) → Some j ≡ Some k → j ≡ k
some_only j k e = ap (λ o. unwrap_or o j) e

lesser_is : (o : Option ℕ) (n m : ℕ) → lesser o n ≡ m → (n ≡ m) ⊎ (o ≡ Some m)
lesser_is None n m e = inl e
lesser_is (Some a) n m e = one (nat_lt a n) e
  where
    one : (b : Bool) → (if b then a else n) ≡ m → (n ≡ m) ⊎ (Some a ≡ Some m)
    one true e = inr (ap (λ x. Some x) e)
    one false e = inl e

module _ (p : Program) (events : List Event) (t : ℕ) where
  least_on : (k : ℕ) → k < length events → least_in (rest_marked p events k) t
      ≡ least_with (least_in (rest_marked p events (k + 1)) t) (event_at events k).instruction
      (mark_at p events k && nat_eq (event_at events k).thread t)
  least_on k l = ap (λ ms. least_in ms t) (marked_at p events k no_event l)

  least_after : (k : ℕ) → length events ≤ k → least_in (rest_marked p events k) t ≡ None
  least_after k l = ap (λ es. least_in (marked p (take k events) es) t) (drop_all k events l)

  least_later : (k m : ℕ) → Least p events (k + 1) t m → Least p events k t m
  least_later k m f = record {
    place = f.place;
    from = let a = f.from in omega (arith, a);
    inside = f.inside;
    marks = f.marks;
    thread = f.thread;
    is = f.is;
  }

  least_split : (k m : ℕ) → k < length events →
      (least_in (rest_marked p events (k + 1)) t ≡ Some m → Least p events k t m) → (b : Bool) →
      (mark_at p events k && nat_eq (event_at events k).thread t) ≡ b →
      least_with (least_in (rest_marked p events (k + 1)) t) (event_at events k).instruction b
      ≡ Some m → Least p events k t m
  least_split k m l later false own g = later g
  least_split k m l later true own g =
      let two = and_true (mark_at p events k) (nat_eq (event_at events k).thread t) own in
      elim (lesser_is (least_in (rest_marked p events (k + 1)) t)
      (event_at events k).instruction m (some_only _ m g)) [
        | inl here ↦ record {
          place = k;
          from = omega arith;
          inside = l;
          marks = two.0;
          thread = eqb-true (event_at events k).thread t two.1;
          is = here;
        }
        | inr after ↦ later after
      ]

  least_found : (left k m : ℕ) → k + left ≡ length events →
      least_in (rest_marked p events k) t ≡ Some m → Least p events k t m
  least_found zero k m e h =
      absurd (let z = least_after k (let l : length events ≤ k = omega (arith, e) in l) in cc)
  least_found (suc left) k m e h = let l : k < length events = omega (arith, e) in
      least_split k m l (λ g. least_later k m (least_found left (k + 1) m (omega (arith, e)) g))
      (mark_at p events k && nat_eq (event_at events k).thread t) refl (sym (least_on k l) ∙ h)

  -- it is there, and not above that of any event of the thread in the cause
  least_below : (left k j : ℕ) → k + left ≡ length events → k ≤ j → j < length events →
      mark_at p events j ≡ true → (event_at events j).thread ≡ t →
      (m : ℕ) × (least_in (rest_marked p events k) t ≡ Some m)
      × (m ≤ (event_at events j).instruction)
  least_below zero k j e a b m same = absurd (omega (arith, e, a, b))
  least_below (suc left) k j e a b m same = elim (upto j k a) [
    | inl here ↦ own (both_true (mark_at p events k) (nat_eq (event_at events k).thread t)
        (subst (λ i. mark_at p events i ≡ true) here m)
        (eq-eqb _ _ (subst (λ i. (event_at events i).thread ≡ t) here same))) here
    | inr after ↦ other (least_below left (k + 1) j (omega (arith, e)) after b m same)
        (mark_at p events k && nat_eq (event_at events k).thread t) refl
  ]
    where
      l : k < length events
      l = omega (arith, e)

      i : ℕ
      i = (event_at events k).instruction

      small : (o : Option ℕ) → lesser o (event_at events k).instruction
          ≤ (event_at events k).instruction
      small None = omega arith
      small (Some n) = grind arith

      smaller : (n : ℕ) → lesser (Some n) (event_at events k).instruction ≤ n
      smaller n = grind arith

      own : (mark_at p events k && nat_eq (event_at events k).thread t) ≡ true → j ≡ k →
          (m : ℕ) × (least_in (rest_marked p events k) t ≡ Some m)
          × (m ≤ (event_at events j).instruction)
      own mine here = (
        lesser (least_in (rest_marked p events (k + 1)) t)
            (event_at events k).instruction,
        least_on k l ∙ ap (λ b. least_with (least_in (rest_marked p events (k + 1)) t)
            (event_at events k).instruction b) mine,
        subst (λ n. lesser (least_in (rest_marked p events (k + 1)) t)
            (event_at events k).instruction ≤ (event_at events n).instruction) (sym here)
            (small (least_in (rest_marked p events (k + 1)) t)),
      )

      other : ((m : ℕ) × (least_in (rest_marked p events (k + 1)) t ≡ Some m)
          × (m ≤ (event_at events j).instruction)) → (b : Bool) →
          (mark_at p events k && nat_eq (event_at events k).thread t) ≡ b →
          (m : ℕ) × (least_in (rest_marked p events k) t ≡ Some m)
          × (m ≤ (event_at events j).instruction)
      other h false apart = (
        h.0,
        least_on k l
            ∙ (ap (λ b. least_with (least_in (rest_marked p events (k + 1)) t)
            (event_at events k).instruction b) apart ∙ h.1),
        h.2,
      )
      other h true mine = (
        lesser (Some h.0) (event_at events k).instruction,
        least_on k l
            ∙ (ap (λ b. least_with (least_in (rest_marked p events (k + 1)) t)
            (event_at events k).instruction b) mine
            ∙ ap (λ o. Some (lesser o (event_at events k).instruction)) h.1),
        (let x = smaller h.0 in let y = h.2 in omega (arith, x, y)),
      )

-- an end from a place on is so
record End (events : List Event) (so : Event → Bool) (k : ℕ) : Type 0 where
  place : ℕ
  from : k ≤ place
  inside : place < length events
  end : is_end (event_at events place) ≡ true
  is : so (event_at events place) ≡ true

module _ (p : Program) (events : List Event) (so : Event → Bool) where
  any_more : (es : List Event) (e : Event) (b : Bool) →
      list_any so (if b then es ++ e ∷ [] else es) ≡ (list_any so es || (b && so e))
  any_more es e true = list_any-append so es (e ∷ [])
      ∙ ap (λ b. list_any so es || b) (or_false (so e))
    where
      or_false : (b : Bool) → (b || false) ≡ b
      or_false true = refl
      or_false false = refl
  any_more es e false = sym (or_nothing (list_any so es))
    where
      or_nothing : (b : Bool) → (b || false) ≡ b
      or_nothing true = refl
      or_nothing false = refl

  ends_on : (k : ℕ) → k < length events → list_any so (ends_in (rest_marked p events k))
      ≡ (list_any so (ends_in (rest_marked p events (k + 1)))
      || (is_end (event_at events k) && so (event_at events k)))
  ends_on k l = ap (λ ms. list_any so (ends_in ms)) (marked_at p events k no_event l)
      ∙ any_more (ends_in (rest_marked p events (k + 1))) (event_at events k)
      (is_end (event_at events k))

  ends_after : (k : ℕ) → length events ≤ k →
      list_any so (ends_in (rest_marked p events k)) ≡ false
  ends_after k l =
      ap (λ es. list_any so (ends_in (marked p (take k events) es))) (drop_all k events l)

  end_found : (left k : ℕ) → k + left ≡ length events →
      list_any so (ends_in (rest_marked p events k)) ≡ true → End events so k
  end_found zero k e h =
      absurd (let z = ends_after k (let l : length events ≤ k = omega (arith, e) in l) in cc)
  end_found (suc left) k e h = let l : k < length events = omega (arith, e) in
      elim (or_true (list_any so (ends_in (rest_marked p events (k + 1))))
      (is_end (event_at events k) && so (event_at events k)) (sym (ends_on k l) ∙ h)) [
        | inl later ↦ (let f = end_found left (k + 1) (omega (arith, e)) later in record {
          place = f.place;
          from = let a = f.from in omega (arith, a);
          inside = f.inside;
          end = f.end;
          is = f.is;
        })
        | inr here ↦ (let two = and_true (is_end (event_at events k)) (so (event_at events k)) here
            in record {
              place = k;
              from = omega arith;
              inside = l;
              end = two.0;
              is = two.1;
            })
      ]

  end_seen : (left k j : ℕ) → k + left ≡ length events → k ≤ j → j < length events →
      is_end (event_at events j) ≡ true → so (event_at events j) ≡ true →
      list_any so (ends_in (rest_marked p events k)) ≡ true
  end_seen zero k j e a b m s = absurd (omega (arith, e, a, b))
  end_seen (suc left) k j e a b m s = let l : k < length events = omega (arith, e) in
      ends_on k l ∙ elim (upto j k a) [
        | inl here ↦ right_true (list_any so (ends_in (rest_marked p events (k + 1))))
            (is_end (event_at events k) && so (event_at events k))
            (both_true (is_end (event_at events k)) (so (event_at events k))
            (subst (λ i. is_end (event_at events i) ≡ true) here m)
            (subst (λ i. so (event_at events i) ≡ true) here s))
        | inr later ↦ left_true (list_any so (ends_in (rest_marked p events (k + 1))))
            (is_end (event_at events k) && so (event_at events k))
            (end_seen left (k + 1) j (omega (arith, e)) later b m s)
      ]

-- a marked event after place k is so
record Later (p : Program) (events : List Event) (k : ℕ) (R : ℕ → Type 0) : Type 0 where
  place : ℕ
  after : k < place
  inside : place < length events
  marks : mark_at p events place ≡ true
  is : R place

is_self : (x : ℕ) (o : Option ℕ) → o ≡ Some x → is x o ≡ true
is_self x o e = ap (λ z. is x z) e ∙ eq-eqb x x refl

is_only : (x : ℕ) (o : Option ℕ) → is x o ≡ true → o ≡ Some x
is_only x None h = absurd cc
is_only x (Some y) h = ap (λ z. Some z) (eqb-true y x h)

module _ (p : Program) (events : List Event) (k : ℕ) (l : k < length events) where
  rest_of : k + 1 + (length events - (k + 1)) ≡ length events
  rest_of = omega (arith, l)

  reading : (o : Option ℕ) →
      written_by (event_at events k).statement (event_at events k).deed ≡ o →
      is_read_from (rest_marked p events (k + 1)) o ≡ true →
      Later p events k (λ j. ReadsFrom events j k)
  reading None e h = absurd cc
  reading (Some x) e h =
      let f = found p events (reads x) (writes x) (length events - (k + 1)) (k + 1) rest_of h in
      record {
        place = f.place;
        after = let a = f.from in omega (arith, a);
        inside = f.inside;
        marks = f.marks;
        is = record {
          variable = x;
          reads = f.is;
          written = is_self x _ e;
          last = f.none;
        };
      }

  flowing : (o : Option ℕ) → local_set (event_at events k).statement ≡ o →
      flows_on (rest_marked p events (k + 1)) (event_at events k).thread o ≡ true →
      Later p events k (λ j. FlowsFrom events j k)
  flowing None e h = absurd cc
  flowing (Some r) e h =
      let t = (event_at events k).thread in
      let f = found p events (uses_local t r) (sets_local t r) (length events - (k + 1)) (k + 1)
      rest_of h in
      record {
        place = f.place;
        after = let a = f.from in omega (arith, a);
        inside = f.inside;
        marks = f.marks;
        is = record {
          local = r;
          uses = f.is;
          sets = both_true (nat_eq t t) _ (eq-eqb t t refl) (is_self r _ e);
          last = f.none;
        };
      }

  below_lt : (n : ℕ) (o : Option ℕ) → is_below n o ≡ true → (m : ℕ) × (o ≡ Some m) × (m < n)
  below_lt n None h = absurd cc
  below_lt n (Some m) h = (m, refl, ltb-true m n h)

  deciding : decides p (rest_marked p events (k + 1)) (event_at events k) ≡ true →
      Later p events k (λ j. IsDecidedBy p events j k)
  deciding h =
      let t = (event_at events k).thread in
      let two = and_true (is_test (event_at events k).statement) _ h in
      let m = below_lt _ (least_in (rest_marked p events (k + 1)) t) two.1 in
      let f = least_found p events t (length events - (k + 1)) (k + 1) m.0 rest_of m.1 in
      record {
        place = f.place;
        after = let a = f.from in omega (arith, a);
        inside = f.inside;
        marks = f.marks;
        is = record {
          thread = f.thread;
          test = two.0;
          within = let a = f.is in let b = m.2 in omega (arith, a, b);
        };
      }

  some_below : (f : ℕ → Bool) (n : ℕ) → any_below f n ≡ true → (u : ℕ) × (f u ≡ true)
  some_below f zero h = absurd cc
  some_below f (suc n) h = elim (or_true (any_below f n) (f n) h) [
    | inl a ↦ some_below f n a
    | inr b ↦ (n, b)
  ]

  passing : passes_by_read p (rest_marked p events (k + 1)) (event_at events k) ≡ true →
      Later p events k (λ j. ReadsPast p events j k)
  passing h =
      let some = some_below (λ x. is_read (rest_marked p events (k + 1)) x
      && passes_write p x (event_at events k)) VARIABLES h in
      let two = and_true (is_read (rest_marked p events (k + 1)) some.0) _ some.1 in
      let f = found p events (reads some.0) (writes some.0) (length events - (k + 1)) (k + 1)
      rest_of two.0 in
      record {
        place = f.place;
        after = let a = f.from in omega (arith, a);
        inside = f.inside;
        marks = f.marks;
        is = record {
          variable = some.0;
          reads = f.is;
          passed = two.1;
          last = f.none;
        };
      }

  some_counted : (f : Event → Bool) (xs : List Event) → 0 < count_by f xs →
      (i : ℕ) × (i < length xs) × (f (get_or xs i no_event) ≡ true)
  some_counted f [] m = absurd (omega (arith, m))
  some_counted f (x ∷ xs) m = one (f x) refl (some_counted f xs)
    where
      one : (b : Bool) → f x ≡ b → (0 < count_by f xs →
          (i : ℕ) × (i < length xs) × (f (get_or xs i no_event) ≡ true)) →
          (i : ℕ) × (i < length (x ∷ xs)) × (f (get_or (x ∷ xs) i no_event) ≡ true)
      one true e rest = (0, omega arith, e)
      one false e rest = let fewer : 0 < count_by f xs =
          (let c : cond {A = ℕ} (f x) 1 0 ≡ 0 = ap (λ b. cond {A = ℕ} b 1 0) e in
          let all = count_first f x xs in omega (arith, m, all, c)) in
          let more = rest fewer in
          (suc more.0, (let a = more.1 in omega (arith, a)), more.2)

  apart : (a b : ℕ) → not (nat_eq a b) ≡ true → a ≢ b
  apart a b h e = let same = eq-eqb a b e in absurd (let off = not_true (nat_eq a b) h in cc)

  of_thread : (u x : ℕ) (e : Event) → is_use u x e ≡ true → e.thread ≡ u
  of_thread u x e h = eqb-true e.thread u (and_true (nat_eq e.thread u) _ h).0

  missing : (o : Option ℕ) →
      written_by (event_at events k).statement (event_at events k).deed ≡ o →
      is_missed (take (k + 1) events) (rest_marked p events (k + 1)) (event_at events k).thread o
      ≡ true → Later p events k (λ j. Misses events j k)
  missing None e h = absurd cc
  missing (Some x) e h =
      let t = (event_at events k).thread in
      let some = some_below (is_missed_by (take (k + 1) events) (rest_marked p events (k + 1)) t x)
      THREADS h in
      let u = some.0 in
      let three = and_true (not (nat_eq u t)) _ some.1 in
      let two = and_true (is_next (rest_marked p events (k + 1)) u x) _ three.1 in
      let other = apart u t three.0 in
      let f = found p events (is_use u x) (is_use u x) (length events - (k + 1)) (k + 1) rest_of
      two.0 in
      let same = of_thread u x (event_at events f.place) f.is in
      let c = some_counted (is_use u x) (take (k + 1) events)
      (ltb-true 0 (count_by (is_use u x) (take (k + 1) events)) two.1) in
      let short : c.0 < k + 1 =
      (let a = c.1 in let b = length-take (k + 1) events in omega (arith, a, b)) in
      let there : is_use u x (event_at events c.0) ≡ true =
      sym (ap (λ e. is_use u x e) (get_or-take (k + 1) events c.0 no_event short)) ∙ c.2 in
      record {
        place = f.place;
        after = let a = f.from in omega (arith, a);
        inside = f.inside;
        marks = f.marks;
        is = record {
          variable = x;
          again = subst (λ v. is_use v x (event_at events f.place) ≡ true) (sym same) f.is;
          earlier = c.0;
          before = earlier_than c.0 short (λ (q : c.0 ≡ k). other
              (sym (of_thread u x (event_at events c.0) there)
              ∙ ap (λ i. (event_at events i).thread) q));
          used = subst (λ v. is_use v x (event_at events c.0) ≡ true) (sym same) there;
          next = subst (λ v. NoneOf events (is_use v x) (k + 1) f.place) (sym same) f.none;
          writes = is_self x _ e;
          other = λ q. other (sym same ∙ q);
        };
      }
    where
      below_or : (i k : ℕ) → i < k + 1 → (i < k) ⊎ (i ≡ k)
      below_or i k a = grind (arith, a)

      earlier_than : (i : ℕ) → i < k + 1 → (i ≡ k → ⊥) → i < k
      earlier_than i a b = elim (below_or i k a) [ inl c ↦ c | inr d ↦ absurd (b d) ]

  asking : list_any (λ end. asks_for p end (event_at events k))
      (ends_in (rest_marked p events (k + 1))) ≡ true →
      End events (λ end. asks_for p end (event_at events k)) (k + 1)
  asking h = end_found p events (λ end. asks_for p end (event_at events k))
      (length events - (k + 1)) (k + 1) rest_of h

  -- a marked event is in the cause, where those after it are
  marked_here : ((j : ℕ) → k < j → j < length events → mark_at p events j ≡ true →
      InCause p events j) → mark_at p events k ≡ true → InCause p events k
  marked_here after h = elim (or_true (is_end (event_at events k)) _ h) [
    | inl end ↦ ends k l end
    | inr r0 ↦ elim (or_true (is_read_from (rest_marked p events (k + 1))
        (written_by (event_at events k).statement (event_at events k).deed)) _ r0) [
          | inl a ↦ (let f = reading _ refl a in
              needed f.place k f.after (inl f.is) (after f.place f.after f.inside f.marks))
          | inr r1 ↦ elim (or_true (flows_on (rest_marked p events (k + 1))
              (event_at events k).thread (local_set (event_at events k).statement)) _ r1) [
                | inl a ↦ (let f = flowing _ refl a in
                    needed f.place k f.after (inr (inl f.is)) (after f.place f.after f.inside f.marks))
                | inr r2 ↦ elim (or_true (decides p (rest_marked p events (k + 1)) (event_at events k)) _
                    r2) [
                      | inl a ↦ (let f = deciding a in needed f.place k f.after (inr (inr (inl f.is)))
                          (after f.place f.after f.inside f.marks))
                      | inr r3 ↦ elim (or_true (is_missed (take (k + 1) events) (rest_marked p events (k + 1))
                          (event_at events k).thread
                          (written_by (event_at events k).statement (event_at events k).deed)) _ r3) [
                            | inl a ↦ (let f = missing _ refl a in
                                needed f.place k f.after (inr (inr (inr (inl f.is))))
                                (after f.place f.after f.inside f.marks))
                            | inr r4 ↦ elim (or_true (passes_by_read p (rest_marked p events (k + 1))
                                (event_at events k)) _ r4) [
                                  | inl a ↦ (let f = passing a in
                                      needed f.place k f.after (inr (inr (inr (inr (inl f.is)))))
                                      (after f.place f.after f.inside f.marks))
                                  | inr a ↦ (let f = asking a in
                                      let later : k < f.place = (let b = f.from in omega (arith, b)) in
                                      needed f.place k later
                                      (inr (inr (inr (inr (inr (record { end = f.end; asks = f.is }))))))
                                      (ends f.place f.inside f.end))
                                ]
                          ]
                    ]
              ]
        ]
  ]

-- each marked event is in the cause
marked_from : (p : Program) (events : List Event) (left k : ℕ) → k + left ≡ length events →
    (j : ℕ) → k ≤ j → j < length events → mark_at p events j ≡ true → InCause p events j
marked_from p events zero k e j a b m = absurd (omega (arith, e, a, b))
marked_from p events (suc left) k e j a b m = elim (upto j k a) [
  | inl here ↦ subst (λ i. InCause p events i) (sym here)
      (marked_here p events k (omega (arith, e))
      (λ i x y z. marked_from p events left (k + 1) (omega (arith, e)) i (omega (arith, x)) y z)
      (subst (λ i. mark_at p events i ≡ true) here m))
  | inr after ↦ marked_from p events left (k + 1) (omega (arith, e)) j after b m
]

-- each event in the cause is there, and is marked
pub in_run : (p : Program) (events : List Event) (k : ℕ) → InCause p events k → k < length events
in_run p events _ (ends k l e) = l
in_run p events _ (needed j k l n c) = let m = in_run p events j c in omega (arith, l, m)

module _ (p : Program) (events : List Event) (j k : ℕ) (l : k < j) (m : j < length events)
    (marks : mark_at p events j ≡ true) where
  inside : k + 1 + (length events - (k + 1)) ≡ length events
  inside = omega (arith, l, m)

  by_end : is_end (event_at events k) ≡ true → mark_at p events k ≡ true
  by_end e = left_true (is_end (event_at events k)) _ e

  by_read : ReadsFrom events j k → mark_at p events k ≡ true
  by_read r = right_true (is_end (event_at events k)) _ (left_true (is_read_from
      (rest_marked p events (k + 1))
      (written_by (event_at events k).statement (event_at events k).deed)) _
      (ap (λ o. is_read_from (rest_marked p events (k + 1)) o) (is_only r.variable _ r.written)
      ∙ sought p events (reads r.variable) (writes r.variable) (length events - (k + 1)) (k + 1) j
      inside (omega (arith, l)) m marks r.reads r.last))

  by_flow : FlowsFrom events j k → mark_at p events k ≡ true
  by_flow r = let t = (event_at events k).thread in
      right_true (is_end (event_at events k)) _ (right_true (is_read_from
      (rest_marked p events (k + 1))
      (written_by (event_at events k).statement (event_at events k).deed)) _
      (left_true (flows_on (rest_marked p events (k + 1)) t
      (local_set (event_at events k).statement)) _
      (ap (λ o. flows_on (rest_marked p events (k + 1)) t o)
      (is_only r.local _ (and_true (nat_eq t t) _ r.sets).1)
      ∙ sought p events (uses_local t r.local) (sets_local t r.local) (length events - (k + 1))
      (k + 1) j inside (omega (arith, l)) m marks r.uses r.last)))

  by_test : IsDecidedBy p events j k → mark_at p events k ≡ true
  by_test r = let t = (event_at events k).thread in
      let least = least_below p events t (length events - (k + 1)) (k + 1) j inside
      (omega (arith, l)) m marks r.thread in
      right_true (is_end (event_at events k)) _ (right_true (is_read_from
      (rest_marked p events (k + 1))
      (written_by (event_at events k).statement (event_at events k).deed)) _
      (right_true (flows_on (rest_marked p events (k + 1)) t
      (local_set (event_at events k).statement)) _
      (left_true (decides p (rest_marked p events (k + 1)) (event_at events k)) _
      (both_true (is_test (event_at events k).statement) _ r.test
      (ap (λ o. is_below (merge_point (code_of p t) (event_at events k).instruction) o) least.1
      ∙ lt-ltb least.0 (merge_point (code_of p t) (event_at events k).instruction)
      (let a = least.2 in let b = r.within in omega (arith, a, b)))))))

  counted : (f : Event → Bool) (xs : List Event) (i : ℕ) → i < length xs →
      f (get_or xs i no_event) ≡ true → 0 < count_by f xs
  counted f [] i a h = absurd (omega (arith, a))
  counted f (x ∷ xs) zero a h =
      let c : cond {A = ℕ} (f x) 1 0 ≡ 1 = ap (λ b. cond {A = ℕ} b 1 0) h in
      let all = count_first f x xs in omega (arith, c, all)
  counted f (x ∷ xs) (suc i) a h = let c = counted f xs i (omega (arith, a)) h in
      let all = count_first f x xs in omega (arith, c, all)

  by_miss : (event_at events j).thread < THREADS → Misses events j k → mark_at p events k ≡ true
  by_miss few r = let t = (event_at events k).thread in let u = (event_at events j).thread in
      let short : r.earlier < k + 1 = (let a = r.before in omega (arith, a)) in
      let many : r.earlier < length (take (k + 1) events) =
      (let a = length-take (k + 1) events in omega (arith, a, short, l, m)) in
      right_true (is_end (event_at events k)) _ (right_true (is_read_from
      (rest_marked p events (k + 1))
      (written_by (event_at events k).statement (event_at events k).deed)) _
      (right_true (flows_on (rest_marked p events (k + 1)) t
      (local_set (event_at events k).statement)) _
      (right_true (decides p (rest_marked p events (k + 1)) (event_at events k)) _
      (left_true (is_missed (take (k + 1) events) (rest_marked p events (k + 1)) t
      (written_by (event_at events k).statement (event_at events k).deed)) _
      (ap (λ o. is_missed (take (k + 1) events) (rest_marked p events (k + 1)) t o)
      (is_only r.variable _ r.writes)
      ∙ true_below (is_missed_by (take (k + 1) events) (rest_marked p events (k + 1)) t r.variable)
      THREADS u few
      (both_true (not (nat_eq u t)) _ (not_false (nat_eq u t) (unequal u t r.other))
      (both_true (is_next (rest_marked p events (k + 1)) u r.variable) _
      (sought p events (is_use u r.variable) (is_use u r.variable) (length events - (k + 1))
      (k + 1) j inside (omega (arith, l)) m marks r.again r.next)
      (lt-ltb 0 _ (counted (is_use u r.variable) (take (k + 1) events) r.earlier many
      (ap (λ e. is_use u r.variable e) (get_or-take (k + 1) events r.earlier no_event short)
      ∙ r.used))))))))))
    where
      unequal : (a b : ℕ) → (a ≡ b → ⊥) → nat_eq a b ≡ false
      unequal a b n = one (nat_eq a b) refl
        where
          one : (x : Bool) → nat_eq a b ≡ x → nat_eq a b ≡ false
          one true e = absurd (n (eqb-true a b e))
          one false e = e

  by_past : ((x : ℕ) → reads x (event_at events j) ≡ true → x < VARIABLES) →
      ReadsPast p events j k → mark_at p events k ≡ true
  by_past few r = let t = (event_at events k).thread in
      right_true (is_end (event_at events k)) _ (right_true (is_read_from
      (rest_marked p events (k + 1))
      (written_by (event_at events k).statement (event_at events k).deed)) _
      (right_true (flows_on (rest_marked p events (k + 1)) t
      (local_set (event_at events k).statement)) _
      (right_true (decides p (rest_marked p events (k + 1)) (event_at events k)) _
      (right_true (is_missed (take (k + 1) events) (rest_marked p events (k + 1)) t
      (written_by (event_at events k).statement (event_at events k).deed)) _
      (left_true (passes_by_read p (rest_marked p events (k + 1)) (event_at events k)) _
      (true_below (λ x. is_read (rest_marked p events (k + 1)) x
      && passes_write p x (event_at events k)) VARIABLES r.variable (few r.variable r.reads)
      (both_true (is_read (rest_marked p events (k + 1)) r.variable) _
      (sought p events (reads r.variable) (writes r.variable) (length events - (k + 1))
      (k + 1) j inside (omega (arith, l)) m marks r.reads r.last) r.passed)))))))

  by_ask : Asks p events j k → mark_at p events k ≡ true
  by_ask r = let t = (event_at events k).thread in
      right_true (is_end (event_at events k)) _ (right_true (is_read_from
      (rest_marked p events (k + 1))
      (written_by (event_at events k).statement (event_at events k).deed)) _
      (right_true (flows_on (rest_marked p events (k + 1)) t
      (local_set (event_at events k).statement)) _
      (right_true (decides p (rest_marked p events (k + 1)) (event_at events k)) _
      (right_true (is_missed (take (k + 1) events) (rest_marked p events (k + 1)) t
      (written_by (event_at events k).statement (event_at events k).deed)) _
      (right_true (passes_by_read p (rest_marked p events (k + 1)) (event_at events k)) _
      (end_seen p events (λ end. asks_for p end (event_at events k)) (length events - (k + 1))
      (k + 1) j inside (omega (arith, l)) m r.end r.asks))))))

complete : (p : Program) (events : List Event) →
    ((i : ℕ) → i < length events → (event_at events i).thread < THREADS) →
    ((i : ℕ) → i < length events → (x : ℕ) → reads x (event_at events i) ≡ true → x < VARIABLES) →
    (k : ℕ) → InCause p events k → mark_at p events k ≡ true
complete p events few known _ (ends k l e) = left_true (is_end (event_at events k)) _ e
complete p events few known _ (needed j k l n c) =
    let m = complete p events few known j c in
    let b = in_run p events j c in
    elim n [
      | inl r ↦ by_read p events j k l b m r
      | inr n1 ↦ elim n1 [
        | inl r ↦ by_flow p events j k l b m r
        | inr n2 ↦ elim n2 [
          | inl r ↦ by_test p events j k l b m r
          | inr n3 ↦ elim n3 [
            | inl r ↦ by_miss p events j k l b m (few j b) r
            | inr n4 ↦ elim n4 [
              | inl r ↦ by_past p events j k l b m (known j b) r
              | inr r ↦ by_ask p events j k l b m r
            ]
          ]
        ]
      ]
    ]

-- the list of the marks
mark_there : (p : Program) (events : List Event) (left i j : ℕ) → i + left ≡ length events →
    j < left → slice_index_or (marks_in (rest_marked p events i)) j false
    ≡ mark_at p events (i + j)
mark_there p events zero i j e l = absurd (omega (arith, l))
mark_there p events (suc left) i zero e l =
    ap (λ ms. slice_index_or (marks_in ms) 0 false)
    (marked_at p events i no_event (omega (arith, e)))
    ∙ ap (λ n. mark_at p events n) (let h : i ≡ i + 0 = omega arith in h)
mark_there p events (suc left) i (suc j) e l =
    ap (λ ms. slice_index_or (marks_in ms) (suc j) false)
    (marked_at p events i no_event (omega (arith, e)))
    ∙ (mark_there p events left (i + 1) j (omega (arith, e)) (omega (arith, l))
    ∙ ap (λ n. mark_at p events n) (let h : i + 1 + j ≡ i + suc j = omega arith in h))

as_many : (p : Program) (before events : List Event) →
    length (marks_in (marked p before events)) ≡ length events
as_many p before [] = refl
as_many p before (e ∷ es) = ap suc (as_many p (before ++ e ∷ []) es)

pub marks_are_the_cause : (p : Program) (events : List Event) →
    ((i : ℕ) → i < length events → (event_at events i).thread < THREADS) →
    ((i : ℕ) → i < length events → (x : ℕ) → reads x (event_at events i) ≡ true → x < VARIABLES) →
    AreMarks p events (marks_in (marked p [] events))
marks_are_the_cause p events few known = record {
  all = as_many p [] events;
  each = λ k l. (
    (λ h. marked_from p events (length events) 0 (omega arith) k (omega arith) l
        (sym (mark_there p events (length events) 0 k (omega arith) l
        ∙ ap (λ n. mark_at p events n) (let z : 0 + k ≡ k = omega arith in z)) ∙ h)),
    (λ c. mark_there p events (length events) 0 k (omega arith) l
        ∙ (ap (λ n. mark_at p events n) (let z : 0 + k ≡ k = omega arith in z)
        ∙ complete p events few known k c)),
  );
}
