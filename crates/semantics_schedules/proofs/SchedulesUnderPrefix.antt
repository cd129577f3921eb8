-- What lies under a prefix, and under several.
use Rattle.std.proofs.Common.{◌≡◌, ◌↔◌, ◌⊎◌, inl, inr, ℕ, ◌<◌, ◌≤◌, Bool, true, false, cond, ◌&&◌, nat_eq, nat_lt, nat_le, List, [], ◌∷◌, ◌++◌, refl, ap, ◌∙◌, sym, arith, subst}
use Rattle.std.{specs.List.{filter, Contains}, proofs.lemmas.Bool.{and_parts, and_from}}
use Rattle.std.proofs.lemmas.Bool.Decides.{nat_tests}
use Rattle.guest_code.specs.Program.{Program}
use Rattle.semantics.specs.Ends.{is_terminal, enabled}
use Rattle.semantics.specs.Machine.{Snapshot, is_enabled, step, start}
use Rattle.semantics.proofs.ListMembers.{in_contains, contains_in, in_filter, from_filter}
use Rattle.semantics.proofs.TerminalStates.{is_terminal-some, is_terminal-none}
use Rattle.semantics_schedules.specs.Order.{is_complete, precedes}
use Rattle.semantics_schedules.specs.Schedules.{state_after, runs, complete_schedules, schedules_under, schedules_within, exceeds_bound, begins_with, preemptions}
use Rattle.semantics_schedules.proofs.ReducedSchedules.{among, from_enabled, any_in, in_any, eq_of, schedules_cut_at, in_all, before_precedes}
use Rattle.semantics_schedules.proofs.SleepSets.{Before, Before.{lower, after_same}}

-- who begins with whom

pub begins_itself : (v : List ℕ) → begins_with v v ≡ true
begins_itself [] = refl
begins_itself (t ∷ v) = and_from (nat_eq t t) _ (grind (arith, nat_tests)) (begins_itself v)

pub begins_longer : (v w : List ℕ) → begins_with v (v ++ w) ≡ true
begins_longer [] w = refl
begins_longer (t ∷ v) w = and_from (nat_eq t t) _ (grind (arith, nat_tests)) (begins_longer v w)

pub begins_further : (u v w : List ℕ) → begins_with u v ≡ true → begins_with v w ≡ true
    → begins_with u w ≡ true
begins_further [] v w h k = refl
begins_further (t ∷ u) [] w h k = cc
begins_further (t ∷ u) (x ∷ v) [] h k = cc
begins_further (t ∷ u) (x ∷ v) (y ∷ w) h k =
    let a = and_parts (nat_eq t x) (begins_with u v) h in
    let b = and_parts (nat_eq x y) (begins_with v w) k in
    let e : t ≡ y = eq_of t x a.0 ∙ eq_of x y b.0 in
    and_from (nat_eq t y) _ (grind (arith, nat_tests, e)) (begins_further u v w a.1 b.1)

-- two that begin one schedule: the one begins with the other
pub begin_both : (u v w : List ℕ) → begins_with u w ≡ true → begins_with v w ≡ true
    → (begins_with u v ≡ true) ⊎ (begins_with v u ≡ true)
begin_both [] v w h k = inl refl
begin_both (t ∷ u) [] w h k = inr refl
begin_both (t ∷ u) (x ∷ v) [] h k = cc
begin_both (t ∷ u) (x ∷ v) (y ∷ w) h k =
    let a = and_parts (nat_eq t y) (begins_with u w) h in
    let b = and_parts (nat_eq x y) (begins_with v w) k in
    let e : t ≡ x = eq_of t y a.0 ∙ sym (eq_of x y b.0) in
    elim (begin_both u v w a.1 b.1) [
      | inl c ↦ inl (and_from (nat_eq t x) _ (grind (arith, nat_tests, e)) c)
      | inr c ↦ inr (and_from (nat_eq x t) _ (grind (arith, nat_tests, e)) c)
    ]

-- what lies under a prefix

pub in_under : (p : Program) (prefix w : List ℕ)
    → ((is_complete p (start p) w ≡ true) × (begins_with prefix w ≡ true)) ↔ Contains
    (schedules_under p prefix) w
unfolding schedules_under
in_under p prefix w = (
  λ h. in_contains _ w
      (in_filter (begins_with prefix) (complete_schedules p (start p)) w
      (schedules_cut_at p (start p) w h.0) h.1),
  λ c. from c,
)
  where
    from : Contains (filter (begins_with prefix) (complete_schedules p (start p))) w
        → (is_complete p (start p) w ≡ true) × (begins_with prefix w ≡ true)
    from c = let r = from_filter (begins_with prefix) (complete_schedules p (start p)) w
        (contains_in _ w c) in (in_all p (start p) w r.0, r.1)

pub in_within : (p : Program) (prefix : List ℕ) (bound : ℕ) (w : List ℕ)
    → (Contains (schedules_under p prefix) w × (preemptions p w ≤ bound)) ↔ Contains
    (schedules_within p prefix bound) w
unfolding schedules_within
in_within p prefix bound w = (
  λ h. let le : preemptions p w ≤ bound = h.1 in in_contains _ w
      (in_filter (λ v. nat_le (preemptions p v) bound) (schedules_under p prefix) w
      (contains_in (schedules_under p prefix) w h.0) (grind (arith, nat_tests, le))),
  λ c. from c,
)
  where
    from : Contains (filter (λ v. nat_le (preemptions p v) bound) (schedules_under p prefix)) w
        → Contains (schedules_under p prefix) w × (preemptions p w ≤ bound)
    from c = let r = from_filter (λ v. nat_le (preemptions p v) bound) (schedules_under p prefix) w
        (contains_in _ w c) in let e : nat_le (preemptions p w) bound ≡ true =
        r.1 in (in_contains (schedules_under p prefix) w r.0, grind (arith, nat_tests, e))

filter-filter : {A : Type 0} (a b : A → Bool) (xs : List A) → ((x : A) → b x ≡ true → a x ≡ true)
    → filter b (filter a xs) ≡ filter b xs
filter-filter a b [] h = refl
filter-filter {A} a b (x ∷ xs) h = go (a x) (b x) refl refl (filter-filter a b xs h)
  where
    go : (c d : Bool) → a x ≡ c → b x ≡ d → filter b (filter a xs) ≡ filter b xs
        → filter b (cond c (x ∷ filter a xs) (filter a xs)) ≡ cond d (x ∷ filter b xs) (filter b xs)
    go true d e f r = λ i. cond (f i) (x ∷ r i) (r i)
    go false true e f r = (let g : a x ≡ true = h x f in cc)
    go false false e f r = r

-- under a longer prefix lie those of a shorter one that begin with it
pub schedules_under-longer : (p : Program) (x y : List ℕ) → begins_with x y ≡ true
    → schedules_under p y ≡ filter (begins_with y) (schedules_under p x)
unfolding schedules_under
schedules_under-longer p x y h = sym (filter-filter (begins_with x) (begins_with y)
    (complete_schedules p (start p)) (λ w k. begins_further x y w h k))

filter-swap : {A : Type 0} (a b : A → Bool) (xs : List A)
    → filter a (filter b xs) ≡ filter b (filter a xs)
filter-swap a b [] = refl
filter-swap {A} a b (x ∷ xs) = go (a x) (b x) refl refl (filter-swap a b xs)
  where
    go : (c d : Bool) → a x ≡ c → b x ≡ d → filter a (filter b xs) ≡ filter b (filter a xs)
        → filter a (cond d (x ∷ filter b xs) (filter b xs))
        ≡ filter b (cond c (x ∷ filter a xs) (filter a xs))
    go true true e f r = rw e (rw f (ap (λ ys. x ∷ ys) r))
    go true false e f r = rw f r
    go false true e f r = rw e r
    go false false e f r = r

pub schedules_within-longer : (p : Program) (x y : List ℕ) (bound : ℕ) → begins_with x y ≡ true
    → schedules_within p y bound ≡ filter (begins_with y) (schedules_within p x bound)
unfolding schedules_within
schedules_within-longer p x y bound h = ap (filter (λ w. nat_le (preemptions p w) bound))
    (schedules_under-longer p x y h) ∙ filter-swap (λ w. nat_le (preemptions p w) bound)
    (begins_with y) (schedules_under p x)

-- the schedules under a smaller thread come before those under a greater one

before_at : (x v w : List ℕ) (t u : ℕ) → t < u → begins_with (x ++ t ∷ []) v ≡ true
    → begins_with (x ++ u ∷ []) w ≡ true → Before v w
before_at [] [] w t u l h k = cc
before_at [] (a ∷ v) [] t u l h k = cc
before_at [] (a ∷ v) (b ∷ w) t u l h k =
    let e : t ≡ a = eq_of t a (and_parts (nat_eq t a) true h).0 in
    let f : u ≡ b = eq_of u b (and_parts (nat_eq u b) true k).0 in
    lower (omega arith)
before_at (y ∷ x) [] w t u l h k = cc
before_at (y ∷ x) (a ∷ v) [] t u l h k = cc
before_at (y ∷ x) (a ∷ v) (b ∷ w) t u l h k =
    let m = and_parts (nat_eq y a) (begins_with (x ++ t ∷ []) v) h in
    let n = and_parts (nat_eq y b) (begins_with (x ++ u ∷ []) w) k in
    let e : a ≡ b = sym (eq_of y a m.0) ∙ eq_of y b n.0 in
    subst (λ c. Before (a ∷ v) (c ∷ w)) e (after_same (before_at x v w t u l m.1 n.1))

pub smaller_first : (x v w : List ℕ) (t u : ℕ) → t < u → begins_with (x ++ t ∷ []) v ≡ true
    → begins_with (x ++ u ∷ []) w ≡ true → precedes v w ≡ true
smaller_first x v w t u l h k = before_precedes (before_at x v w t u l h k)

-- a schedule is complete exactly where it runs and nothing is enabled after it

pub complete_runs : (p : Program) (s : Snapshot) (w : List ℕ)
    → is_complete p s w ≡ (runs p s w && is_terminal p (state_after p s w))
complete_runs p s [] = refl
complete_runs p s (t ∷ w) = ap (λ b. is_enabled p s t && b) (complete_runs p (step p s t) w) ∙ sym
    (and_assoc (is_enabled p s t) (runs p (step p s t) w)
    (is_terminal p (state_after p (step p s t) w)))
  where
    and_assoc : (a b c : Bool) → ((a && b) && c) ≡ (a && (b && c))
    and_assoc true b c = refl
    and_assoc false b c = refl

pub complete_is : (p : Program) (s : Snapshot) (w : List ℕ)
    → (is_complete p s w ≡ true) ↔ ((runs p s w ≡ true)
    × (is_terminal p (state_after p s w) ≡ true))
complete_is p s w = (
  λ h. and_parts (runs p s w) (is_terminal p (state_after p s w))
      (sym (complete_runs p s w) ∙ h),
  λ k. complete_runs p s w ∙ and_from (runs p s w)
      (is_terminal p (state_after p s w)) k.0 k.1,
)

-- one goes beyond

pub beyond_is : (p : Program) (prefix : List ℕ) (bound : ℕ)
    → (exceeds_bound p prefix bound ≡ true) ↔
    ((w : List ℕ) × Contains (schedules_under p prefix) w × (bound < preemptions p w))
unfolding exceeds_bound
beyond_is p prefix bound = (
  λ h.
      let r = any_in (λ w. nat_lt bound (preemptions p w)) (schedules_under p prefix) h in
      let e : nat_lt bound (preemptions p r.0) ≡ true = r.2 in
      (r.0, in_contains (schedules_under p prefix) r.0 r.1, grind (arith, nat_tests, e)),
  λ k.
      let l : bound < preemptions p k.0 = k.2 in
      in_any (λ w. nat_lt bound (preemptions p w)) (schedules_under p prefix) k.0
      (contains_in (schedules_under p prefix) k.0 k.1) (grind (arith, nat_tests, l)),
)

-- who is enabled

pub listed : (p : Program) (s : Snapshot) (t : ℕ)
    → (is_enabled p s t ≡ true) ↔ Contains (enabled p s) t
listed p s t = (
  λ h. in_contains (enabled p s) t (among p s t h),
  λ c. from_enabled p s t (contains_in (enabled p s) t c),
)

pub over_nobody : (p : Program) (s : Snapshot)
    → (is_terminal p s ≡ true) ↔ ((t : ℕ) → is_enabled p s t ≡ false)
over_nobody p s = (λ h t. none t h (is_enabled p s t) refl, λ k. is_terminal-none p s (λ t l. k t))
  where
    none : (t : ℕ) → is_terminal p s ≡ true → (b : Bool) → is_enabled p s t ≡ b
        → is_enabled p s t ≡ false
    none t h true e = (let f : is_terminal p s ≡ false = is_terminal-some p s t e in cc)
    none t h false e = e
