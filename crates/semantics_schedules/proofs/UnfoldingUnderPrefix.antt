-- The complete schedules that begin with a prefix, and their laws.
use Rattle.std.proofs.Common.{◌≡◌, ◌≢◌, ℕ, zero, suc, ◌+◌, ◌<◌, ◌≤◌, Bool, true, false, cond, ◌&&◌, ◌||◌, nat_eq, nat_le, nat_lt, List, [], ◌∷◌, ◌++◌, length, map, Option, Some, None, refl, ap, ◌∙◌, sym, arith, inl, inr, append_assoc}
use Rattle.std.{specs.List.{filter, flat_map, list_any}, proofs.lemmas.Bool.cases_lt}
use Rattle.std.proofs.lemmas.Bool.Decides.{nat_tests}
use Rattle.std.proofs.lemmas.List.{append-nil, map-append, length-append, length-map}
use Rattle.std.proofs.lemmas.{List.Elements.filter-append, List.Folds.list_any-append, Simd.map-map}
use Rattle.guest_code.specs.Program.{Program}
use Rattle.semantics.specs.Ends.{enabled, is_terminal, is_empty}
use Rattle.semantics.specs.{Machine.{Snapshot, is_enabled, step, start}, Mask.one_if}
use Rattle.semantics.{specs.Work.{up_from, work}, proofs.TerminalStates.is_terminal-some}
use Rattle.semantics.proofs.WorkFalls.{enabled_below, work-step}
use Rattle.semantics_schedules.specs.Schedules.{state_after, runs, before, or_complete, complete_schedules, schedules_under, schedules_within, exceeds_bound, begins_with, preempts, preemptions_from, preemptions, last_after, last_of}
use Rattle.semantics_schedules.proofs.CompleteSchedulesUnfold.{complete_schedules-unfold, flat_map-filter_same}

pub and_true : (a b : Bool) → (a && b) ≡ true → (a ≡ true) × (b ≡ true)
and_true true b h = (refl, h)
and_true false b h = cc

-- on lists
module _ {A : Type 0} where
  filter_all : (test : A → Bool) (xs : List A) → ((x : A) → test x ≡ true) → filter test xs ≡ xs
  filter_all test [] h = refl
  filter_all test (x ∷ xs) h = rw (h x) (ap (λ zs. x ∷ zs) (filter_all test xs h))

  pub filter_none : (test : A → Bool) (xs : List A) → ((x : A) → test x ≡ false)
      → filter test xs ≡ []
  filter_none test [] h = refl
  filter_none test (x ∷ xs) h = rw (h x) (filter_none test xs h)

  filter_and : (a b : A → Bool) (xs : List A) → filter (λ x. a x && b x) xs ≡ filter b (filter a xs)
  filter_and a b [] = refl
  filter_and a b (x ∷ xs) = elim (a x) as
      (λ c. cond (c && b x) (x ∷ filter (λ y. a y && b y) xs) (filter (λ y. a y && b y) xs)
      ≡ filter b (cond c (x ∷ filter a xs) (filter a xs))) [
        | true ↦ ap (λ zs. cond (b x) (x ∷ zs) zs) (filter_and a b xs)
        | false ↦ filter_and a b xs
      ]

  pub filter-flat_map : {X : Type 0} (test : A → Bool) (f : X → List A) (xs : List X)
      → filter test (flat_map f xs) ≡ flat_map (λ x. filter test (f x)) xs
  filter-flat_map test f [] = refl
  filter-flat_map test f (x ∷ xs) = filter-append test (f x) (flat_map f xs) ∙
      ap (λ zs. filter test (f x) ++ zs) (filter-flat_map test f xs)

  filter-map : {X : Type 0} (test : A → Bool) (f : X → A) (xs : List X)
      → filter test (map f xs) ≡ map f (filter (λ x. test (f x)) xs)
  filter-map test f [] = refl
  filter-map test f (x ∷ xs) = elim (test (f x)) as
      (λ b. cond b (f x ∷ filter test (map f xs)) (filter test (map f xs))
      ≡ map f (cond b (x ∷ filter (λ y. test (f y)) xs) (filter (λ y. test (f y)) xs))) [
        | true ↦ ap (λ zs. f x ∷ zs) (filter-map test f xs)
        | false ↦ filter-map test f xs
      ]

  map-flat_map : {X Y : Type 0} (g : Y → A) (f : X → List Y) (xs : List X)
      → map g (flat_map f xs) ≡ flat_map (λ x. map g (f x)) xs
  map-flat_map g f [] = refl
  map-flat_map g f (x ∷ xs) = map-append g (f x) (flat_map f xs) ∙ ap (λ zs. map g (f x) ++ zs)
      (map-flat_map g f xs)

  map_same : {X : Type 0} (f g : X → A) (xs : List X) → ((x : X) → f x ≡ g x) → map f xs ≡ map g xs
  map_same f g [] h = refl
  map_same f g (x ∷ xs) h = λ i. h x i ∷ map_same f g xs h i

  map_same-self : (f : A → A) (xs : List A) → ((x : A) → f x ≡ x) → map f xs ≡ xs
  map_same-self f [] h = refl
  map_same-self f (x ∷ xs) h = λ i. h x i ∷ map_same-self f xs h i

  flat_map_none : {X : Type 0} (f : X → List A) (xs : List X) → ((x : X) → f x ≡ [])
      → flat_map f xs ≡ []
  flat_map_none f [] h = refl
  flat_map_none f (x ∷ xs) h = rw (h x) (flat_map_none f xs h)

  none_after : (test : ℕ → Bool) (f : ℕ → List A) (t first n : ℕ) → t < first
      → ((u : ℕ) → u ≢ t → f u ≡ []) → flat_map f (filter test (up_from first n)) ≡ []
  none_after test f t first zero h none = refl
  none_after test f t first (suc n) h none =
      elim (test first) as (λ b. flat_map f (cond b (first ∷ filter test (up_from (suc first) n))
      (filter test (up_from (suc first) n))) ≡ []) [
        | true ↦ (let e : f first ≡ [] = none first (omega arith) in rw e
            (none_after test f t (suc first) n (omega arith) none))
        | false ↦ none_after test f t (suc first) n (omega arith) none
      ]

  -- where f gives something at one number alone
  only_at : (test : ℕ → Bool) (f : ℕ → List A) (t first n : ℕ) → first ≤ t → t < first + n
      → test t ≡ true → ((u : ℕ) → u ≢ t → f u ≡ [])
      → flat_map f (filter test (up_from first n)) ≡ f t
  only_at test f t first zero from to h none = absurd (omega arith)
  only_at test f t first (suc n) from to h none = elim (cases_lt first t) [
    | inl l ↦
        elim (test first) as (λ b. flat_map f
        (cond b (first ∷ filter test (up_from (suc first) n))
        (filter test (up_from (suc first) n))) ≡ f t) [
          | true ↦ (let e : f first ≡ [] = none first (omega arith) in rw e
              (only_at test f t (suc first) n (omega arith) (omega arith) h none))
          | false ↦ only_at test f t (suc first) n (omega arith) (omega arith) h none
        ]
    | inr r ↦ (let same : first ≡ t = omega arith in
        rw (ap test same ∙ h) (ap (λ zs. f first ++ zs)
        (none_after test f t (suc first) n (omega arith) none) ∙
        (append-nil (f first) ∙ ap f same)))
  ]

nat_eq-itself : (t : ℕ) → nat_eq t t ≡ true
nat_eq-itself t = grind (arith, nat_tests)

nat_eq-other : (t u : ℕ) → u ≢ t → nat_eq t u ≡ false
nat_eq-other t u h = grind (arith, nat_tests)

-- a choice between the empty schedule and others, where some thread is enabled
or_complete-some : (ts : List ℕ) (L : List (List ℕ)) → is_empty ts ≡ false → or_complete ts L ≡ L
or_complete-some [] L h = cc
or_complete-some (t ∷ ts) L h = refl

or_complete-none : (ts : List ℕ) (L : List (List ℕ)) → is_empty ts ≡ true
    → or_complete ts L ≡ [] ∷ []
or_complete-none [] L h = refl
or_complete-none (t ∷ ts) L h = cc

pub complete_schedules-terminal : (p : Program) (s : Snapshot) → is_terminal p s ≡ true
    → complete_schedules p s ≡ [] ∷ []
unfolding is_terminal
complete_schedules-terminal p s h = complete_schedules-unfold p s ∙ or_complete-none _ _ h

pub complete_schedules-more : (p : Program) (s : Snapshot) → is_terminal p s ≡ false
    → complete_schedules p s ≡ flat_map (λ t. before t (complete_schedules p (step p s t)))
    (enabled p s)
unfolding is_terminal
complete_schedules-more p s h = complete_schedules-unfold p s ∙ or_complete-some _ _ h

-- the complete schedules that begin with a prefix that runs are those from the state that it leads
-- to, after it
pub under : (p : Program) (s : Snapshot) (prefix : List ℕ) → runs p s prefix ≡ true
    → filter (begins_with prefix) (complete_schedules p s)
    ≡ map (λ w. prefix ++ w) (complete_schedules p (state_after p s prefix))
unfolding enabled
under p s [] h = filter_all _ _ (λ w. refl) ∙ sym
    (map_same-self (λ w. w) (complete_schedules p s) (λ w. refl))
under p s (t ∷ prefix) h =
    let on : (is_enabled p s t ≡ true) × (runs p (step p s t) prefix ≡ true) =
    and_true (is_enabled p s t) (runs p (step p s t) prefix) h in
    let below : t < length s.threads = enabled_below p s t on.0 in
    ap (filter (begins_with (t ∷ prefix))) (complete_schedules-more p s
    (is_terminal-some p s t on.0))
    ∙ (filter-flat_map (begins_with (t ∷ prefix))
    (λ u. before u (complete_schedules p (step p s u))) (enabled p s)
    ∙ (only_at (is_enabled p s) (λ u. filter (begins_with (t ∷ prefix))
    (before u (complete_schedules p (step p s u)))) t 0 (length s.threads) (omega arith)
    (omega arith) on.0 (λ u ne. other u ne)
    ∙ (filter-map (begins_with (t ∷ prefix)) (λ w. t ∷ w) (complete_schedules p (step p s t))
    ∙ (ap (λ b. map (λ w. t ∷ w) (filter (λ w. b && begins_with prefix w)
    (complete_schedules p (step p s t)))) (nat_eq-itself t)
    ∙ (ap (map (λ w. t ∷ w)) (under p (step p s t) prefix on.1)
    ∙ map-map (λ w. t ∷ w) (λ w. prefix ++ w)
    (complete_schedules p (state_after p (step p s t) prefix)))))))
  where
    other : (u : ℕ) → u ≢ t → filter (begins_with (t ∷ prefix))
        (before u (complete_schedules p (step p s u))) ≡ []
    other u ne = filter-map (begins_with (t ∷ prefix)) (λ w. u ∷ w)
        (complete_schedules p (step p s u)) ∙ ap (map (λ w. u ∷ w))
        (filter_none _ (complete_schedules p (step p s u))
        (λ w. ap (λ b. b && begins_with prefix w) (nat_eq-other t u ne)))

state_after-append : (p : Program) (s : Snapshot) (v w : List ℕ)
    → state_after p s (v ++ w) ≡ state_after p (state_after p s v) w
state_after-append p s [] w = refl
state_after-append p s (t ∷ v) w = state_after-append p (step p s t) v w

pub runs-push : (p : Program) (s : Snapshot) (v : List ℕ) (t : ℕ) → runs p s v ≡ true
    → is_enabled p (state_after p s v) t ≡ true → runs p s (v ++ t ∷ []) ≡ true
runs-push p s [] t h e = rw e refl
runs-push p s (u ∷ v) t h e =
    let on = and_true (is_enabled p s u) (runs p (step p s u) v) h in
    rw on.0 (runs-push p (step p s u) v t on.1 e)

pub state_after-push : (p : Program) (s : Snapshot) (v : List ℕ) (t : ℕ)
    → state_after p s (v ++ t ∷ []) ≡ step p (state_after p s v) t
state_after-push p s v t = state_after-append p s v (t ∷ [])

-- preemptions of one schedule after another
pub preemptions_from-append : (p : Program) (s : Snapshot) (last : Option ℕ) (v w : List ℕ)
    → preemptions_from p s last (v ++ w) ≡ preemptions_from p s last v + preemptions_from p
    (state_after p s v) (last_after last v) w
preemptions_from-append p s last [] w = omega arith
preemptions_from-append p s last (t ∷ v) w = let r =
    preemptions_from-append p (step p s t) (Some t) v w in omega (arith, r)

-- one more step
pub preemptions-push : (p : Program) (w : List ℕ) (t : ℕ)
    → preemptions p (w ++ t ∷ []) ≡ preemptions p w + one_if
    (preempts p (state_after p (start p) w) (last_of w) t)
preemptions-push p w t = let e = preemptions_from-append p (start p) None w (t ∷ []) in omega
    (arith, e)

pub schedules_under_is : (p : Program) (prefix : List ℕ) → runs p (start p) prefix ≡ true
    → schedules_under p prefix ≡ map (λ w. prefix ++ w)
    (complete_schedules p (state_after p (start p) prefix))
unfolding schedules_under
schedules_under_is p prefix h = under p (start p) prefix h

-- the schedules under a prefix that is complete
pub schedules_under-terminal : (p : Program) (prefix : List ℕ) → runs p (start p) prefix ≡ true
    → is_terminal p (state_after p (start p) prefix) ≡ true → schedules_under p prefix ≡ prefix ∷ []
schedules_under-terminal p prefix h over =
    schedules_under_is p prefix h ∙ (ap (map (λ w. prefix ++ w))
    (complete_schedules-terminal p (state_after p (start p) prefix) over) ∙ ap (λ w. w ∷ [])
    (append-nil prefix))

-- the schedules under a prefix that goes on
pub schedules_under-more : (p : Program) (prefix : List ℕ) → runs p (start p) prefix ≡ true
    → is_terminal p (state_after p (start p) prefix) ≡ false
    → schedules_under p prefix ≡ flat_map (λ t. schedules_under p (prefix ++ t ∷ []))
    (enabled p (state_after p (start p) prefix))
unfolding enabled
schedules_under-more p prefix h more =
    schedules_under_is p prefix h
    ∙ (ap (map (λ w. prefix ++ w)) (complete_schedules-more p (state_after p (start p) prefix) more)
    ∙ (map-flat_map (λ w. prefix ++ w) (λ t. before t
    (complete_schedules p (step p (state_after p (start p) prefix) t)))
    (enabled p (state_after p (start p) prefix))
    ∙ flat_map-filter_same (is_enabled p (state_after p (start p) prefix)) _ _
    (up_from 0 (length (state_after p (start p) prefix).threads)) child))
  where
    child : (t : ℕ) → is_enabled p (state_after p (start p) prefix) t ≡ true
        → map (λ w. prefix ++ w) (before t (complete_schedules p
        (step p (state_after p (start p) prefix) t))) ≡ schedules_under p (prefix ++ t ∷ [])
    child t e =
        map-map (λ w. prefix ++ w) (λ w. t ∷ w)
        (complete_schedules p (step p (state_after p (start p) prefix) t))
        ∙ (map_same _ _ (complete_schedules p (step p (state_after p (start p) prefix) t))
        (λ w. sym (append_assoc prefix (t ∷ []) w))
        ∙ (ap (λ s. map (λ w. (prefix ++ t ∷ []) ++ w) (complete_schedules p s))
        (sym (state_after-push p (start p) prefix t))
        ∙ sym (schedules_under_is p (prefix ++ t ∷ []) (runs-push p (start p) prefix t h e))))

-- the laws within a bound
pub schedules_within-terminal : (p : Program) (prefix : List ℕ) (bound : ℕ)
    → runs p (start p) prefix ≡ true → is_terminal p (state_after p (start p) prefix) ≡ true
    → schedules_within p prefix bound ≡ cond (nat_le (preemptions p prefix) bound) (prefix ∷ []) []
unfolding schedules_within
schedules_within-terminal p prefix bound h over =
    ap (filter (λ w. nat_le (preemptions p w) bound)) (schedules_under-terminal p prefix h over)

pub schedules_within-more : (p : Program) (prefix : List ℕ) (bound : ℕ)
    → runs p (start p) prefix ≡ true → is_terminal p (state_after p (start p) prefix) ≡ false
    → schedules_within p prefix bound ≡ flat_map (λ t. schedules_within p (prefix ++ t ∷ []) bound)
    (enabled p (state_after p (start p) prefix))
unfolding schedules_within
schedules_within-more p prefix bound h more =
    ap (filter (λ w. nat_le (preemptions p w) bound)) (schedules_under-more p prefix h more) ∙
    filter-flat_map (λ w. nat_le (preemptions p w) bound)
    (λ t. schedules_under p (prefix ++ t ∷ [])) (enabled p (state_after p (start p) prefix))

pub schedules_within-past : (p : Program) (prefix : List ℕ) (bound : ℕ)
    → runs p (start p) prefix ≡ true → bound < preemptions p prefix
    → schedules_within p prefix bound ≡ []
unfolding schedules_within
schedules_within-past p prefix bound h past =
    ap (filter (λ w. nat_le (preemptions p w) bound)) (schedules_under_is p prefix h)
    ∙ (filter-map (λ w. nat_le (preemptions p w) bound) (λ w. prefix ++ w)
    (complete_schedules p (state_after p (start p) prefix))
    ∙ ap (map (λ w. prefix ++ w)) (filter_none _
    (complete_schedules p (state_after p (start p) prefix)) (λ w.
    let e = preemptions_from-append p (start p) None prefix w in
    grind (arith, nat_tests, e, past))))

list_any-flat_map : {A X : Type 0} (test : A → Bool) (f : X → List A) (xs : List X)
    → list_any test (flat_map f xs) ≡ list_any (λ x. list_any test (f x)) xs
list_any-flat_map test f [] = refl
list_any-flat_map test f (x ∷ xs) = list_any-append test (f x) (flat_map f xs) ∙
    ap (λ b. list_any test (f x) || b) (list_any-flat_map test f xs)

pub exceeds_bound-terminal : (p : Program) (prefix : List ℕ) (bound : ℕ)
    → runs p (start p) prefix ≡ true → is_terminal p (state_after p (start p) prefix) ≡ true
    → exceeds_bound p prefix bound ≡ nat_lt bound (preemptions p prefix)
unfolding exceeds_bound
exceeds_bound-terminal p prefix bound h over =
    ap (list_any (λ w. nat_lt bound (preemptions p w))) (schedules_under-terminal p prefix h over)
    ∙ or_false (nat_lt bound (preemptions p prefix))
  where
    or_false : (b : Bool) → (b || false) ≡ b
    or_false true = refl
    or_false false = refl

pub exceeds_bound-more : (p : Program) (prefix : List ℕ) (bound : ℕ)
    → runs p (start p) prefix ≡ true → is_terminal p (state_after p (start p) prefix) ≡ false
    → exceeds_bound p prefix bound ≡ list_any (λ t. exceeds_bound p (prefix ++ t ∷ []) bound)
    (enabled p (state_after p (start p) prefix))
unfolding exceeds_bound
exceeds_bound-more p prefix bound h more =
    ap (list_any (λ w. nat_lt bound (preemptions p w))) (schedules_under-more p prefix h more) ∙
    list_any-flat_map (λ w. nat_lt bound (preemptions p w))
    (λ t. schedules_under p (prefix ++ t ∷ [])) (enabled p (state_after p (start p) prefix))

-- the first that passes
first_passing : (test : ℕ → Bool) (xs : List ℕ) → is_empty (filter test xs) ≡ false → (t : ℕ)
    × (rest : List ℕ) × (filter test xs ≡ t ∷ rest) × (test t ≡ true)
first_passing test [] h = cc
first_passing test (x ∷ xs) h = elim (test x) as
    (λ b. test x ≡ b → is_empty (cond b (x ∷ filter test xs) (filter test xs)) ≡ false → (t : ℕ)
    × (rest : List ℕ) × (cond b (x ∷ filter test xs) (filter test xs) ≡ t ∷ rest)
    × (test t ≡ true)) [
      | true ↦ λ e _. (x, filter test xs, refl, e)
      | false ↦ λ e k. first_passing test xs k
    ] refl h

not_over : (p : Program) (s : Snapshot) → is_terminal p s ≡ false → is_empty (enabled p s) ≡ false
unfolding is_terminal
not_over p s h = h

-- where a state isn't over, some thread is enabled
pub first_enabled : (p : Program) (s : Snapshot) → is_terminal p s ≡ false → (t : ℕ)
    × (is_enabled p s t ≡ true)
unfolding enabled
first_enabled p s more = let first = first_passing (is_enabled p s) (up_from 0 (length s.threads))
    (not_over p s more) in (first.0, first.3)

-- some complete schedule goes on from every state
pub all_some : (n : ℕ) (p : Program) (s : Snapshot) → work p s < n
    → 0 < length (complete_schedules p s)
unfolding enabled
all_some zero p s less = absurd (omega arith)
all_some (suc n) p s less = elim (is_terminal p s) as
    (λ b. is_terminal p s ≡ b → 0 < length (complete_schedules p s)) [
      | true ↦ λ over. let e : length (complete_schedules p s) ≡ 1 =
          ap length (complete_schedules-terminal p s over) in omega arith
      | false ↦ λ more.
          let first = first_passing (is_enabled p s) (up_from 0 (length s.threads))
          (not_over p s more) in
          let falls : work p (step p s first.0) < work p s = work-step p s first.0 first.3 in
          let rest : List (List ℕ) = flat_map (λ t. before t (complete_schedules p (step p s t)))
          first.1 in
          let e : length (complete_schedules p s)
          ≡ length (before first.0 (complete_schedules p (step p s first.0)) ++ rest) =
          ap length (complete_schedules-more p s more) ∙
          ap (λ ts. length (flat_map (λ t. before t (complete_schedules p (step p s t))) ts))
          first.2 in
          let f = length-append (before first.0 (complete_schedules p (step p s first.0))) rest in
          let g : length (before first.0 (complete_schedules p (step p s first.0)))
          ≡ length (complete_schedules p (step p s first.0)) =
          length-map (complete_schedules p (step p s first.0)) (λ w. first.0 ∷ w) in
          let r : 0 < length (complete_schedules p (step p s first.0)) =
          all_some n p (step p s first.0) (omega arith) in
          omega arith
    ] refl

any_everywhere : {A : Type 0} (test : A → Bool) (xs : List A) → 0 < length xs
    → ((x : A) → test x ≡ true) → list_any test xs ≡ true
any_everywhere test [] some h = absurd (omega arith)
any_everywhere test (x ∷ xs) some h = rw (h x) refl

list_any-map : {A X : Type 0} (test : A → Bool) (f : X → A) (xs : List X)
    → list_any test (map f xs) ≡ list_any (λ x. test (f x)) xs
list_any-map test f [] = refl
list_any-map test f (x ∷ xs) = ap (λ b. test (f x) || b) (list_any-map test f xs)

-- under a prefix that has more preemptions itself, every schedule has, and there is one
pub exceeds_bound-past : (p : Program) (prefix : List ℕ) (bound : ℕ)
    → runs p (start p) prefix ≡ true → bound < preemptions p prefix
    → exceeds_bound p prefix bound ≡ true
unfolding exceeds_bound
exceeds_bound-past p prefix bound h past =
    ap (list_any (λ w. nat_lt bound (preemptions p w))) (schedules_under_is p prefix h)
    ∙ (list_any-map (λ w. nat_lt bound (preemptions p w)) (λ w. prefix ++ w)
    (complete_schedules p (state_after p (start p) prefix))
    ∙ any_everywhere _ (complete_schedules p (state_after p (start p) prefix))
    (all_some (suc (work p (state_after p (start p) prefix))) p
    (state_after p (start p) prefix) (omega arith)) (λ w.
    let e = preemptions_from-append p (start p) None prefix w in
    grind (arith, nat_tests, e, past)))
