-- The list of all complete schedules rises, holds each once, and none of them begins another.
use Rattle.std.proofs.Common.{◌≡◌, ℕ, zero, suc, ◌<◌, ◌≤◌, ◌⊎◌, inl, inr, Bool, true, false, cond, nat_eq, List, [], ◌∷◌, ◌++◌, length, get_or, refl, sym, arith, subst}
use Rattle.std.{specs.List.{filter, flat_map}, proofs.lemmas.Bool.{and_parts, cases_order}}
use Rattle.guest_code.specs.Program.{Program}
use Rattle.semantics.specs.Ends.{enabled, is_terminal}
use Rattle.semantics.specs.{Machine.{Snapshot, step, is_enabled}, Waiters.In, Work.{up_from, work}}
use Rattle.semantics.proofs.ListMembers.{at_in, in_either, from_map, contains_in}
use Rattle.semantics.proofs.{TerminalStates.is_terminal-some, WorkFalls.work-step}
use Rattle.semantics_schedules.specs.Order.{is_complete}
use Rattle.semantics_schedules.specs.Rising.{IsRising, HasEachOnce, IsPrefixFree}
use Rattle.semantics_schedules.specs.Schedules.{before, complete_schedules, begins_with}
use Rattle.semantics_schedules.proofs.ReducedSchedules.{before_precedes, not_before, eq_of, in_all}
use Rattle.semantics_schedules.proofs.SleepSets.{Before, Before.{lower, after_same}}
use Rattle.semantics_schedules.proofs.UnfoldingUnderPrefix.{complete_schedules-more, complete_schedules-terminal}

-- each comes before those after it, by recursion
abbrev pub Rises : List (List ℕ) → Type 0
Rises [] = Unit {0}
Rises (w ∷ L) = ((v : List ℕ) → In L v → Before w v) × Rises L

-- one rising list after another, where each of the first comes before each of the second
rises_append : (K L : List (List ℕ)) → Rises K → Rises L
    → ((v w : List ℕ) → In K v → In L w → Before v w) → Rises (K ++ L)
rises_append [] L k l low = l
rises_append (w ∷ K) L k l low = (
  λ v i. elim (in_either K L v i)
      [ inl a ↦ k.0 v a | inr b ↦ low w v (inl refl) b ],
  rises_append K L k.1 l (λ u v i j. low u v (inr i) j),
)

rises_before : (t : ℕ) (L : List (List ℕ)) → Rises L → Rises (before t L)
rises_before t [] r = tt
rises_before t (w ∷ L) r = (
  λ v i. let a : (u : List ℕ) × In L u
      × (t ∷ u ≡ v) = from_map (λ u. t ∷ u) L v i in subst (Before (t ∷ w)) a.2
      (after_same (r.0 a.0 a.1)),
  rises_before t L r.1,
)

-- the members after the threads from a first one on begin with such a thread
record Heads (first : ℕ) (w : List ℕ) : Type 0 where
  head : ℕ
  tail : List ℕ
  is : head ∷ tail ≡ w
  from : first ≤ head

heads_before : (t first : ℕ) (L : List (List ℕ)) (w : List ℕ) → first ≤ t → In (before t L) w
    → Heads first w
heads_before t first L w h i = let a : (u : List ℕ) × In L u × (t ∷ u ≡ w) =
    from_map (λ u. t ∷ u) L w i in record { head = t; tail = a.0; is = a.2; from = h }

heads : (test : ℕ → Bool) (f : ℕ → List (List ℕ)) (first n : ℕ) (w : List ℕ)
    → In (flat_map (λ t. before t (f t)) (filter test (up_from first n))) w → Heads first w
heads test f first zero w i = absurd i
heads test f first (suc n) w i = go (test first) i (λ k. later (heads test f (suc first) n w k))
  where
    later : Heads (suc first) w → Heads first w
    later h = record {
      head = h.head;
      tail = h.tail;
      is = h.is;
      from = let a : suc first ≤ h.head = h.from in omega arith;
    }

    go : (b : Bool) → In (flat_map (λ t. before t (f t))
        (cond b (first ∷ filter test (up_from (suc first) n))
        (filter test (up_from (suc first) n)))) w
        → (In (flat_map (λ t. before t (f t)) (filter test (up_from (suc first) n))) w
        → Heads first w) → Heads first w
    go true k g = elim (in_either (before first (f first))
        (flat_map (λ t. before t (f t)) (filter test (up_from (suc first) n))) w k) [
          | inl a ↦ heads_before first first (f first) w (omega arith) a
          | inr b ↦ g b
        ]
    go false k g = g k

rises_flat : (test : ℕ → Bool) (f : ℕ → List (List ℕ)) (first n : ℕ)
    → ((t : ℕ) → test t ≡ true → Rises (f t))
    → Rises (flat_map (λ t. before t (f t)) (filter test (up_from first n)))
rises_flat test f first zero h = tt
rises_flat test f first (suc n) h = go (test first) refl (rises_flat test f (suc first) n h)
  where
    low : (v w : List ℕ) → In (before first (f first)) v
        → In (flat_map (λ t. before t (f t)) (filter test (up_from (suc first) n))) w → Before v w
    low v w i j =
        let a : (u : List ℕ) × In (f first) u × (first ∷ u ≡ v) =
        from_map (λ u. first ∷ u) (f first) v i in
        let b : Heads (suc first) w = heads test f (suc first) n w j in
        let l : suc first ≤ b.head = b.from in
        let c : Before (first ∷ a.0) (b.head ∷ b.tail) = lower (omega arith) in
        subst (λ x. Before x w) a.2 (subst (Before (first ∷ a.0)) b.is c)

    go : (b : Bool) → test first ≡ b → Rises
        (flat_map (λ t. before t (f t)) (filter test (up_from (suc first) n)))
        → Rises (flat_map (λ t. before t (f t))
        (cond b (first ∷ filter test (up_from (suc first) n))
        (filter test (up_from (suc first) n))))
    go true e r = rises_append (before first (f first)) _
        (rises_before first (f first) (h first e)) r low
    go false e r = r

one_rises : (w : List ℕ) → Rises (w ∷ [])
one_rises w = (λ v i. absurd i, tt)

all_rise_up_to : (n : ℕ) (p : Program) (s : Snapshot) → work p s < n
    → Rises (complete_schedules p s)
unfolding enabled
all_rise_up_to zero p s less = absurd (omega arith)
all_rise_up_to (suc n) p s less = elim (is_terminal p s) as
    (λ b. is_terminal p s ≡ b → Rises (complete_schedules p s)) [
      | true ↦ λ over. subst Rises (sym (complete_schedules-terminal p s over)) (one_rises [])
      | false ↦ λ more. subst Rises (sym (complete_schedules-more p s more))
          (rises_flat (is_enabled p s) (λ t. complete_schedules p (step p s t)) 0 (length s.threads)
          (λ t e.
          let falls : work p (step p s t) < work p s = work-step p s t e in
          all_rise_up_to n p (step p s t) (omega arith)))
    ] refl

pub rises_all : (p : Program) (s : Snapshot) → Rises (complete_schedules p s)
rises_all p s = all_rise_up_to (suc (work p s)) p s (omega arith)

-- by places

before_at : (L : List (List ℕ)) → Rises L → (i j : ℕ) → i < j → j < length L
    → Before (get_or L i []) (get_or L j [])
before_at [] r i j h k = absurd (omega arith)
before_at (w ∷ L) r i zero h k = absurd (omega arith)
before_at (w ∷ L) r zero (suc j) h k = r.0 (get_or L j []) (at_in L j [] (omega arith))
before_at (w ∷ L) r (suc i) (suc j) h k = before_at L r.1 i j (omega arith) (omega arith)

pub rising : (L : List (List ℕ)) → Rises L → IsRising L
rising L r i j h k = before_precedes (before_at L r i j h k)

pub all_rise : (p : Program) (s : Snapshot) → IsRising (complete_schedules p s)
all_rise p s = rising (complete_schedules p s) (rises_all p s)

pub all_once : (p : Program) (s : Snapshot) → HasEachOnce (complete_schedules p s)
all_once p s i j h k e = go (cases_order i j)
  where
    go : (i ≡ j) ⊎ ((i < j) ⊎ (j < i)) → i ≡ j
    go (inl same) = same
    go (inr (inl l)) = absurd (not_before (before_at (complete_schedules p s) (rises_all p s) i j l
        k) e)
    go (inr (inr l)) = absurd (not_before (before_at (complete_schedules p s) (rises_all p s) j i l
        h) (sym e))

-- a complete schedule begins no other one
whole : (p : Program) (s : Snapshot) (v w : List ℕ) → is_complete p s v ≡ true
    → is_complete p s w ≡ true → begins_with v w ≡ true → v ≡ w
whole p s [] [] h k b = refl
whole p s [] (u ∷ w) h k b = let on = and_parts (is_enabled p s u) (is_complete p (step p s u) w) k
    in let more : is_terminal p s ≡ false = is_terminal-some p s u on.0 in cc
whole p s (t ∷ v) [] h k b = cc
whole p s (t ∷ v) (u ∷ w) h k b =
    let same = and_parts (nat_eq t u) (begins_with v w) b in
    let e : t ≡ u = eq_of t u same.0 in
    let on = and_parts (is_enabled p s t) (is_complete p (step p s t) v) h in
    let to = and_parts (is_enabled p s u) (is_complete p (step p s u) w) k in
    let rest : v ≡ w = whole p (step p s t) v w on.1
    (subst (λ x. is_complete p (step p s x) w ≡ true) (sym e) to.1) same.1 in
    λ i. e i ∷ rest i

pub all_prefix_free : (p : Program) (s : Snapshot) → IsPrefixFree (complete_schedules p s)
all_prefix_free p s v w c d b = whole p s v w
    (in_all p s v (contains_in (complete_schedules p s) v c))
    (in_all p s w (contains_in (complete_schedules p s) w d)) b
