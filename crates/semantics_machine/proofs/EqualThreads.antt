-- Threads that can be swapped, and those that are hidden.
use Rattle.std.specs.Prelude.{IsTrue, option_map}
use Rattle.std.proofs.Common.{◌≡◌, ◌≢◌, ◌↔◌, ◌⊎◌, inl, inr, ℕ, ℤ, zero, suc, ◌+◌, ◌<◌, Bool, true, false, not, cond, ◌&&◌, ◌||◌, nat_eq, List, [], ◌∷◌, ◌++◌, map, take, drop, length, get_or, slice_get, Option, Some, None, refl, ap, ◌∙◌, sym, subst, arith}
use Rattle.std.{specs.Cmp.both_ways as agree, proofs.Math.ListN.get_or-map}
use mathlib.Core.Bool.{beq}
use Rattle.std.proofs.lemmas.Bool.{false≢true, cases_eq, cases_lt, eq-eqb, ne_eqb, eqb-false, and_parts, and_from, or_parts, or_from, not-true}
use Rattle.std.proofs.lemmas.List.{take-append-drop, get_or_past}
use Rattle.std.specs.Cmp.Lexicographic.{pointwise, pointwise_decides}
use Rattle.guest_code.specs.{Program.{Program, code_of}, Same.same_instruction}
use Rattle.guest_code.specs.contracts.program.InstructionEq.TheImpl.Laws.{laws-law as instruction_laws}
use Rattle.guest_code.specs.declared.program.Instruction.{Instruction}
use Rattle.guest_code.proofs.InstructionEquality.{instruction_is}
use Rattle.semantics.specs.Machine.{Snapshot, thread_at, missing_thread, owner_of, next_of, is_enabled, can_do, action_at}
use Rattle.semantics.specs.{Mask.{has, HasEnabled}, Waiters.In, declared.mask.Mask.Mask}
use Rattle.semantics.specs.declared.state.{Action.Action, Thread.Thread}
use Rattle.semantics.specs.declared.state.Status.{Status}
use Rattle.semantics.specs.declared.state.Status.TheVariants.{Running, Waiting, Woken, Ended, Stopped}
use Rattle.semantics.proofs.{QueuesHoldWaiters.other, WorkFalls.enabled_below}
use Rattle.semantics_schedules.specs.EqualThreads.{AreEqual, StandsFor, is_hidden, is_last}
use Rattle.semantics_schedules.specs.Renaming.{swapped, Renamed}
use Rattle.semantics_schedules.proofs.{HiddenThreads.hidden_is, SwappedThreads.{swapped_first, swap_keeps}}
use Rattle.semantics_machine.specs.Refinement.{Shows, HasSameCode, is_woken}
use Rattle.semantics_machine.specs.{declared.machine.Machine.Machine, inner.Alike.IsAbout}

-- lists

in_place : {A : Type 0} (xs : List A) (x d : A) → In xs x → (k : ℕ) × (get_or xs k d ≡ x)
in_place [] x d h = absurd h
in_place (y ∷ ys) x d (inl e) = (0, e)
in_place (y ∷ ys) x d (inr h) = let r = in_place ys x d h in (suc r.0, r.1)

map_same : {A : Type 0} (f : A → A) (xs : List A) → ((x : A) → In xs x → f x ≡ x) → map f xs ≡ xs
map_same f [] h = refl
map_same f (x ∷ xs) h = λ i. h x (inl refl) i ∷ map_same f xs (λ y m. h y (inr m)) i

-- tests of which one has the answer of the other, or not

pub one_answer : (a b : Bool) → not (beq a b) ≡ false → a ≡ b
one_answer true true h = refl
one_answer false false h = refl
one_answer true false h = cc
one_answer false true h = cc

pub two_answers : (a b : Bool) → not (beq a b) ≡ true → a ≡ b → ⊥
two_answers true true h e = cc
two_answers false false h e = cc
two_answers true false h e = cc
two_answers false true h e = cc

-- two threads that are about to do something

swapped_other : (t u v : ℕ) → v ≢ t → v ≢ u → swapped t u v ≡ v
swapped_other t u v d e = ap (λ b. cond b u (cond (nat_eq v u) t v)) (ne_eqb v t d)
    ∙ ap (λ b. cond b t v) (ne_eqb v u e)

swapped_second : (t u : ℕ) → swapped t u u ≡ t
swapped_second t u = elim (cases_eq u t) [
  | inl e ↦ subst (λ v. swapped v u u ≡ v) e
      (ap (λ b. cond b u (cond (nat_eq u u) u u)) (eq-eqb u u refl))
  | inr d ↦ ap (λ b. cond b u (cond (nat_eq u u) t u)) (ne_eqb u t d)
      ∙ ap (λ b. cond b t u) (eq-eqb u u refl)
]

-- they run or were woken
same_status : (a b : Status) (o q : Option Instruction) (x y : Action) → action_at a o ≡ Some x
    → action_at b q ≡ Some y → is_woken a ≡ is_woken b → a ≡ b
same_status Running Running o q x y h k e = refl
same_status Woken Woken o q x y h k e = refl
same_status _ _ o q x y h k e = cc

module _ (p : Program) (m : Machine) (s : Snapshot) (t u : ℕ) (shows : Shows p m s)
    (about_t : IsAbout p s t) (about_u : IsAbout p s u) (two : t ≢ u) where
  abbrev mine : ℕ → List ℤ
  mine v = take m.shape.width (thread_at s v).locals

  module _ (r : Renamed (swapped t u) s s) where
    same : thread_at s t ≡ thread_at s u
    same = sym (r.threads t) ∙ ap (thread_at s) (swapped_first t u)

    pub same_place : get_or m.control.places t 0 ≡ get_or m.control.places u 0
    same_place = (shows.state.control.threads t).place ∙ (ap (λ (x : Thread). x.pc) same
        ∙ sym (shows.state.control.threads u).place)

    pub same_woken : has m.control.woken t ≡ has m.control.woken u
    same_woken = (shows.state.control.threads t).woken
        ∙ (ap (λ (x : Thread). is_woken x.status) same ∙ sym (shows.state.control.threads u).woken)

    pub same_locals : mine t ≡ mine u
    same_locals = ap (λ (x : Thread). take m.shape.width x.locals) same

    turned : (k v : ℕ) → owner_of s k ≡ Some v → swapped t u v ≡ v
    turned k v e = let h : Some (swapped t u v) ≡ Some v =
        sym (ap (λ xs. get_or xs k None) r.owners
        ∙ (get_or-map (option_map (swapped t u)) s.owners k None ∙ ap (option_map (swapped t u)) e))
        ∙ e in cc

    pub first_owns_none : (k : ℕ) → owner_of s k ≡ Some t → ⊥
    first_owns_none k e = two (sym (sym (swapped_first t u) ∙ turned k t e))

    pub second_owns_none : (k : ℕ) → owner_of s k ≡ Some u → ⊥
    second_owns_none k e = two (sym (swapped_second t u) ∙ turned k u e)

  pub alike : get_or m.control.places t 0 ≡ get_or m.control.places u 0
      → has m.control.woken t ≡ has m.control.woken u
      → ((k : ℕ) → owner_of s k ≡ Some t → ⊥) → ((k : ℕ) → owner_of s k ≡ Some u → ⊥)
      → t < length s.threads → u < length s.threads → mine t ≡ mine u
      → Renamed (swapped t u) s s
  alike place woken none_t none_u in_t in_u locals = swap_keeps s t u
      (map_same (option_map (swapped t u)) s.owners owner)
      (map_same (map (swapped t u)) s.queues (λ q h. map_same (swapped t u) q (queued q h)))
      (λ i. record { pc = pcs i; locals = all i; status = statuses i })
    where
      pcs : (thread_at s t).pc ≡ (thread_at s u).pc
      pcs = sym (shows.state.control.threads t).place
          ∙ (place ∙ (shows.state.control.threads u).place)

      statuses : (thread_at s t).status ≡ (thread_at s u).status
      statuses = same_status _ _ _ _ about_t.0 about_u.0 about_t.1 about_u.1
          (sym (shows.state.control.threads t).woken
          ∙ (woken ∙ (shows.state.control.threads u).woken))

      all : (thread_at s t).locals ≡ (thread_at s u).locals
      all = sym (take-append-drop m.shape.width (thread_at s t).locals)
          ∙ ((λ i. locals i ++ (shows.state.unused t in_t ∙ sym (shows.state.unused u in_u)) i)
          ∙ take-append-drop m.shape.width (thread_at s u).locals)

      owner : (o : Option ℕ) → In s.owners o → option_map (swapped t u) o ≡ o
      owner None h = refl
      owner (Some v) h =
          let at = in_place s.owners (Some v) None h in
          ap (λ (k : ℕ). Some k) (swapped_other t u v
          (λ e. none_t at.0 (at.1 ∙ ap (λ (k : ℕ). Some k) e))
          (λ e. none_u at.0 (at.1 ∙ ap (λ (k : ℕ). Some k) e)))

      queued : (q : List ℕ) → In s.queues q → (v : ℕ) → In q v → swapped t u v ≡ v
      queued q h v k =
          let at = in_place s.queues q [] h in
          let waits = shows.state.of.waiters.waits at.0 v (subst (λ x. In x v) (sym at.1) k) in
          swapped_other t u v (other p s t v at.0 about_t.0 about_t.1 waits)
          (other p s u v at.0 about_u.0 about_u.1 waits)

-- sets

-- one without a member
module _ (old new : Mask) (x : ℕ) (out : has new x ≡ false)
    (others : (u : ℕ) → u ≢ x → has new u ≡ has old u) where
  pub kept_of : (u : ℕ) → has new u ≡ true → has old u ≡ true
  kept_of u h = elim (cases_eq u x) [
    | inl e ↦ absurd (false≢true (sym (ap (has new) e ∙ out) ∙ h))
    | inr ne ↦ sym (others u ne) ∙ h
  ]

  pub gone_of : (u : ℕ) → has new u ≡ false → (u ≡ x) ⊎ ((u ≢ x) × (has old u ≡ false))
  gone_of u h = elim (cases_eq u x) [
    | inl e ↦ inl e
    | inr ne ↦ inr (ne, sym (others u ne) ∙ h)
  ]

-- threads of one code
module _ (p : Program) (t k : ℕ) (old new : Mask) (r : Bool)
    (same : (r ≡ true) ↔ (code_of p k ≡ code_of p t)) (at : has new k ≡ r)
    (others : (u : ℕ) → u ≢ k → has new u ≡ has old u)
    (known : (u : ℕ) → (has old u ≡ true) ↔ ((u < k) × (code_of p u ≡ code_of p t))) where
  pub one_more_code : (u : ℕ)
      → (has new u ≡ true) ↔ ((u < k + 1) × (code_of p u ≡ code_of p t))
  one_more_code u = elim (cases_eq u k) [
    | inl e ↦ (
      λ h. (
        omega (arith, e),
        ap (code_of p) e ∙ same.0 (sym at ∙ (sym (ap (has new) e) ∙ h)),
      ),
      λ h. ap (has new) e ∙ (at ∙ same.1 (sym (ap (code_of p) e) ∙ h.1)),
    )
    | inr ne ↦ (
      λ h. let r = (known u).0 (sym (others u ne) ∙ h) in (omega (arith, r.0), r.1),
      λ h. others u ne ∙ (known u).1 (omega (arith, h.0, ne), h.1),
    )
  ]

pub codes_decide : (xs ys : List Instruction) → (pointwise same_instruction xs ys ≡ true)
    ↔ (xs ≡ ys)
codes_decide = pointwise_decides (λ a b. (
  instruction_is a b,
  λ e. subst (λ x. same_instruction a x ≡ true) e (instruction_laws.refl a),
))

-- hidden threads

pub about : (p : Program) (s : Snapshot) (t : ℕ) → is_enabled p s t ≡ true → IsAbout p s t
about p s t on = go (next_of p s t) on
  where
    go : (o : Option Action) → can_do s o ≡ true → (a : Action) × (o ≡ Some a)
    go (Some a) h = (a, refl)
    go None h = cc

pub there : (p : Program) (s : Snapshot) (t : ℕ) → IsAbout p s t → t < length s.threads
there p s t h = elim (cases_lt t (length s.threads)) [
  | inl l ↦ l
  | inr past ↦ (let a = h.1 in let none : next_of p s t ≡ None =
      rw (get_or_past s.threads t missing_thread past) refl in cc)
]

last_is : (last : Option ℕ) (t : ℕ) → is_last last t ≡ false → last ≢ Some t
last_is None t h e = cc
last_is (Some v) t h e = eqb-false v t h (let same : v ≡ t = cc in same)

other_is : (last : Option ℕ) (t : ℕ) → last ≢ Some t → is_last last t ≡ false
other_is None t d = refl
other_is (Some v) t d = ne_eqb v t (λ e. d (ap (λ (k : ℕ). Some k) e))

-- who is enabled, but for the last thread
module _ (p : Program) (s : Snapshot) (enabled others : Mask) (last : Option ℕ)
    (on : HasEnabled enabled p s)
    (are : (t : ℕ) → has others t ≡ (has enabled t && not (is_last last t))) where
  pub from_others : (t : ℕ) → has others t ≡ true → (is_enabled p s t ≡ true) × (last ≢ Some t)
  from_others t h =
      let both = and_parts (has enabled t) _ (sym (are t) ∙ h) in
      (sym (on t) ∙ both.0, last_is last t (not-true _ both.1))

  to_others : (t : ℕ) → is_enabled p s t ≡ true → last ≢ Some t → has others t ≡ true
  to_others t e d = are t ∙ and_from (has enabled t) _ (on t ∙ e) (ap not (other_is last t d))

  -- no other is hidden
  pub seen : (t : ℕ) → has others t ≡ false → false ≡ is_hidden p s last t
  seen t h = agree _ _ (λ e. absurd (false≢true e)) (λ e.
      let r = (hidden_is p s last t).0 e in
      let same : thread_at s r.0 ≡ thread_at s t =
      sym (r.2.equal.same.threads r.0) ∙ ap (thread_at s) (swapped_first r.0 t) in
      absurd (false≢true (sym h ∙ to_others t
      ((λ i. can_do s (action_at (sym same i).status
      (slice_get (sym r.2.equal.code i) (sym same i).pc))) ∙ r.1) r.2.neither.1)))

  -- nor one of whose code no lower one is
  pub alone : (t : ℕ) (code : Mask) → HasSameCode p t code
      → ((u : ℕ) → u < t → has code u ≡ false) → false ≡ is_hidden p s last t
  alone t code same none = agree _ _ (λ e. absurd (false≢true e)) (λ e.
      let r = (hidden_is p s last t).0 e in
      absurd (false≢true (sym (none r.0 r.2.lower) ∙ (same r.0).1 (r.2.lower, r.2.equal.code))))

  -- the lower ones are others, and about to do something
  pub among : (t : ℕ) (code low : Mask) → HasSameCode p t code
      → ((u : ℕ) → has low u ≡ (has others u && has code u))
      → (u : ℕ) → has low u ≡ true → (u ≢ t) × IsAbout p s u
  among t code low same both u h =
      let in_both = and_parts (has others u) _ (sym (both u) ∙ h) in
      let l : u < t = ((same u).0 in_both.1).0 in
      (omega (arith, l), about p s u (from_others u in_both.0).0)

  -- one of them is where it can be swapped with a lower one that has its code
  pub hidden_where : (t : ℕ) (code low : Mask) (r : Bool) → has others t ≡ true
      → HasSameCode p t code → ((u : ℕ) → has low u ≡ (has others u && has code u))
      → (IsTrue r ↔ ((u : ℕ) × (has low u ≡ true) × Renamed (swapped u t) s s))
      → r ≡ is_hidden p s last t
  hidden_where t code low r h same both is = agree _ _
      (λ e.
      let one = is.0 e in
      let in_both = and_parts (has others one.0) _ (sym (both one.0) ∙ one.1) in
      let free = from_others one.0 in_both.0 in
      let lower = (same one.0).0 in_both.1 in
      (hidden_is p s last t).1 (
        one.0,
        free.0,
        record {
          lower = lower.0;
          equal = record { code = lower.1; same = one.2 };
          neither = (free.1, (from_others t h).1);
        },
      ))
      (λ e.
      let one = (hidden_is p s last t).0 e in
      is.1 (
        one.0,
        both one.0 ∙ and_from (has others one.0) _
            (to_others one.0 one.1 one.2.neither.0)
            ((same one.0).1 (one.2.lower, one.2.equal.code)),
        one.2.equal.same,
      ))
