-- Who sleeps after a step.
use Rattle.std.proofs.Common.{◌≡◌, ◌≢◌, ◌<◌, ℕ, Bool, true, false, not, ◌&&◌, ◌||◌, ◌⊎◌, nat_eq, nat_lt, List, [], length, map, get_or, Option, Some, None, Vec, Global, refl, ap, ◌∙◌, sym, arith, inl, inr}
use Rattle.std.proofs.lemmas.Bool.{cases_order, Decides.nat_tests}
use Rattle.std.proofs.lemmas.List.{get_or-map, length-map}
use Rattle.guest_code.specs.Program.{Program, code_of, no_thread}
use Rattle.guest_code.specs.declared.program.Instruction.{Instruction, TheVariants.Skip}
use Rattle.semantics.specs.Machine.{Snapshot, is_enabled, next_of, can_do}
use Rattle.semantics.specs.{Mask.has, declared.mask.Mask.Mask, declared.state.Action.Action}
use Rattle.semantics.proofs.WorkFalls.{enabled_below}
use Rattle.semantics_schedules.specs.Sleep.{apart, independent, next_sleep_set}
use Rattle.semantics_schedules.proofs.DependentSteps.{independent-itself}
use Rattle.semantics_machine.specs.{Refinement.Shows, Touches.{touch_of, touches_at}}
use Rattle.semantics_machine.specs.declared.{machine.Machine.Machine, touch.Touch.Touch}
use Rattle.semantics_machine.proofs.Objects.{and_false, can_held}
use Rattle.semantics_machine.proofs.WholeSteps.{here_inside, here_next, here_retakes}

-- the set of the enabled threads
pub enabled_are : (p : Program) (m : Machine) (s : Snapshot) → Shows p m s
    → (t : ℕ) → has m.control.enabled t ≡ is_enabled p s t
enabled_are p m s shows t = (shows.state.control.threads t).enabled ∙ can_held s (next_of p s t)

-- what it says of two tests that both hold
pub both_true : (a b : Bool) → (a && b) ≡ true → (a ≡ true) × (b ≡ true)
both_true true b h = (refl, h)
both_true false b h = cc

module _ (p : Program) (s : Snapshot) (Z : ℕ → Bool) (t v : ℕ) where
  itself : v ≡ t → false ≡ next_sleep_set p s Z t v
  itself e = sym (ap (λ b. is_enabled p s v && ((Z v || nat_lt v t) && b))
      (ap (independent p s t) e ∙ independent-itself p s t)
      ∙ (ap (λ b. is_enabled p s v && b) (and_false (Z v || nat_lt v t))
      ∙ and_false (is_enabled p s v)))

  left_out : {e : Bool} → e ≡ is_enabled p s v → (e && (Z v || nat_lt v t)) ≡ false
      → false ≡ next_sleep_set p s Z t v
  left_out same h = go (is_enabled p s v) (Z v || nat_lt v t) (independent p s t v)
      ((λ i. sym same i && (Z v || nat_lt v t)) ∙ h)
    where
      go : (a b c : Bool) → (a && b) ≡ false → false ≡ (a && (b && c))
      go true true c g = cc
      go true false c g = refl
      go false b c g = refl

  pub asleep_where : {a : Bool} → is_enabled p s v ≡ true → (Z v || nat_lt v t) ≡ true → t ≢ v
      → a ≡ apart (next_of p s t) (next_of p s v) → a ≡ next_sleep_set p s Z t v
  unfolding independent
  asleep_where on h ne e = e ∙ sym (λ i. on i && (h i && (not (differ i)
      && apart (next_of p s t) (next_of p s v))))
    where
      differ : nat_eq t v ≡ false
      differ = grind (arith, nat_tests, ne)

-- none sleeps after a step of t that isn't among the other enabled threads which slept or come
-- before t
pub untried : (p : Program) (m : Machine) (s : Snapshot) (Z : ℕ → Bool) (t : ℕ) (tried : Mask)
    → Shows p m s
    → ((v : ℕ) → v ≢ t → has tried v ≡ (has m.control.enabled v && (Z v || nat_lt v t)))
    → (v : ℕ) → has tried v ≡ false → false ≡ next_sleep_set p s Z t v
untried p m s Z t tried shows others v h = elim (cases_order v t) [
  | inl e ↦ itself p s Z t v e
  | inr (inl l) ↦ (let ne : v ≢ t = omega (arith, l) in
      left_out p s Z t v (enabled_are p m s shows v) (sym (others v ne) ∙ h))
  | inr (inr l) ↦ (let ne : v ≢ t = omega (arith, l) in
      left_out p s Z t v (enabled_are p m s shows v) (sym (others v ne) ∙ h))
]

-- what is known of two steps by what each touches
pub touches_apart : (p : Program) (s : Snapshot) (t v : ℕ) (x y : Touch) (r : Bool)
    → is_enabled p s t ≡ true → is_enabled p s v ≡ true
    → x ≡ touch_of (next_of p s t) → y ≡ touch_of (next_of p s v)
    → ((a b : Action) → x ≡ touch_of (Some a) → y ≡ touch_of (Some b)
    → r ≡ apart (Some a) (Some b))
    → r ≡ apart (next_of p s t) (next_of p s v)
touches_apart p s t v x y r on both e f h = go (next_of p s t) (next_of p s v) on both e f
  where
    go : (o q : Option Action) → can_do s o ≡ true → can_do s q ≡ true
        → x ≡ touch_of o → y ≡ touch_of q → r ≡ apart o q
    go (Some a) (Some b) i j e f = h a b e f
    go None q i j e f = cc
    go (Some a) None i j e f = cc

-- what the step of an enabled thread touches, as it is kept
module _ (p : Program) (m : Machine) (s : Snapshot) (t : ℕ) (shows : Shows p m s)
    (on : is_enabled p s t ≡ true) where
  there : t < length p.threads
  there = let l = enabled_below p s t on in omega (arith, l, shows.state.of.threads)

  abbrev rows : List (Vec (List Touch) Global)
  rows = m.shape.touches.threads.items

  pub row_there : t < length rows
  row_there = omega (
    arith,
    there,
    length-map rows (λ v. v.items),
    length-map p.threads (λ th. map touches_at th.code),
    ap (λ (xs : List (List (List Touch))). length xs) shows.touches.threads,
  )

  row : (d : Vec (List Touch) Global) → (get_or rows t d).items ≡ map touches_at (code_of p t)
  row d = sym (get_or-map (λ v. v.items) rows t d [] row_there)
      ∙ (ap (λ xs. get_or xs t []) shows.touches.threads
      ∙ get_or-map (λ th. map touches_at th.code) p.threads t no_thread [] there)

  pub place_there : (d : Vec (List Touch) Global) → get_or m.control.places t 0
      < length (get_or rows t d).items
  place_there d = omega (
    arith,
    inside,
    ap (λ (xs : List (List Touch)). length xs) (row d),
    length-map (code_of p t) touches_at,
  )
    where
      inside : get_or m.control.places t 0 < length (code_of p t)
      inside = here_inside p s t m.control (code_of p t) (Skip 0) shows.state.control on refl

  abbrev here : Instruction
  here = get_or (code_of p t) (get_or m.control.places t 0) (Skip 0)

  kept : (d : Vec (List Touch) Global) (e : List Touch)
      → get_or (get_or rows t d).items (get_or m.control.places t 0) e ≡ touches_at here
  kept d e = ap (λ xs. get_or xs (get_or m.control.places t 0) e) (row d)
      ∙ get_or-map touches_at (code_of p t) (get_or m.control.places t 0) (Skip 0) e
      (here_inside p s t m.control (code_of p t) (Skip 0) shows.state.control on refl)

  -- by whether the thread was woken
  pub touches_running : (d : Vec (List Touch) Global) (e : List Touch)
      → has m.control.woken t ≡ false
      → get_or (get_or (get_or rows t d).items (get_or m.control.places t 0) e) 0 (touch_of None)
      ≡ touch_of (next_of p s t)
  touches_running d e asleep = ap (λ xs. get_or xs 0 (touch_of None)) (kept d e)
      ∙ ap touch_of (sym (here_next p s t m.control (code_of p t) (Skip 0) shows.state.control on
      refl asleep))

  pub touches_woken : (d : Vec (List Touch) Global) (e : List Touch)
      → has m.control.woken t ≡ true
      → get_or (get_or (get_or rows t d).items (get_or m.control.places t 0) e) 1 (touch_of None)
      ≡ touch_of (next_of p s t)
  touches_woken d e woke = ap (λ xs. get_or xs 1 (touch_of None)) (kept d e)
      ∙ ap touch_of (sym (here_retakes p s t m.control (code_of p t) (Skip 0) shows.state.control
      on refl woke))

-- a test holds or not
pub either : (b : Bool) → (b ≡ true) ⊎ (b ≡ false)
either true = inl refl
either false = inr refl
