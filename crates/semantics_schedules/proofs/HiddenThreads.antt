-- The tests find the equal threads, and those for which another one stands.
use Rattle.std.specs.Prelude.{option_map}
use Rattle.std.proofs.Common.{◌≡◌, ◌≢◌, ◌↔◌, ℕ, ◌<◌, Bool, true, false, not, nat_eq, List, map, Option, Some, None, refl, ap, ◌∙◌, sym, subst}
use Rattle.std.specs.Bool.{Decides}
use Rattle.std.specs.Cmp.{IsEquivalence, unsigned_Decides, signed_Decides, nat_eq_equiv}
use Rattle.std.specs.Cmp.Lexicographic.{pointwise_decides, bytes_decides, options_equiv}
use Rattle.std.specs.Option.{option_eq}
use Rattle.std.proofs.lemmas.Bool.{false≢true, eqb-false, ne_eqb, and_parts, and_from, or_parts, or_from, not-true}
use Rattle.std.proofs.lemmas.Bool.Decides.{Decides-and, Decides-like, Decides-below_or}
use Rattle.guest_code.specs.{Program.{Program, code_of}, Same.same_instruction}
use Rattle.guest_code.specs.contracts.program.InstructionEq.TheImpl.Laws.{laws-law as instruction-laws}
use Rattle.guest_code.proofs.InstructionEquality.{instruction_is}
use Rattle.semantics.specs.Machine.{Snapshot, is_enabled, thread_at}
use Rattle.semantics.specs.contracts.state.StatusEq.TheImpl.Laws.{laws-law as status-laws}
use Rattle.semantics.specs.contracts.state.StatusPartialEq.TheImpl.{eq-value as same-status}
use Rattle.semantics.specs.contracts.state.StopPartialEq.TheImpl.{eq-value as same-stop}
use Rattle.semantics.specs.declared.state.Status.{Status}
use Rattle.semantics.specs.declared.state.Status.TheVariants.{Running, Waiting, Woken, Ended, Stopped}
use Rattle.semantics.specs.declared.state.Stop.{Stop}
use Rattle.semantics.specs.declared.state.Stop.TheVariants.{Assert as FailedAssert, NotHeld, SemFull}
use Rattle.semantics.specs.declared.state.Thread.{Thread}
use Rattle.semantics_schedules.specs.EqualThreads.{AreEqual, StandsFor, have_same_code, stand_alike, are_equal, is_last, any_below, is_stand_in, is_hidden}
use Rattle.semantics_schedules.specs.Renaming.{swapped}
use Rattle.semantics_schedules.proofs.SwappedThreads.{swapped_first, swap_keeps}

-- what derived tests tell

decides : {A : Type 0} (same : A → A → Bool) → IsEquivalence same
    → ((a b : A) → same a b ≡ true → a ≡ b) → (a b : A) → Decides (same a b) (a ≡ b)
decides same laws is a b = (is a b, λ e. subst (λ x. same a x ≡ true) e (laws.refl a))

owner_is : (a b : Option ℕ) → option_eq nat_eq a b ≡ true → a ≡ b
owner_is None None e = refl
owner_is (Some t) (Some u) e = ap (λ (k : ℕ). Some k) ((unsigned_Decides t u).0 e)
owner_is _ _ e = absurd (false≢true e)

stop_is : (a b : Stop) → same-stop.it a b ≡ true → a ≡ b
stop_is FailedAssert FailedAssert e = refl
stop_is NotHeld NotHeld e = refl
stop_is SemFull SemFull e = refl
stop_is _ _ e = absurd (false≢true e)

status_is : (a b : Status) → same-status.it a b ≡ true → a ≡ b
status_is Running Running e = refl
status_is (Waiting c) (Waiting d) e = ap (λ (k : ℕ). Waiting k) ((unsigned_Decides c d).0 e)
status_is Woken Woken e = refl
status_is Ended Ended e = refl
status_is (Stopped a) (Stopped b) e = ap (λ (why : Stop). Stopped why) (stop_is a b e)
status_is _ _ e = absurd (false≢true e)

-- equal threads

code_decides : (p : Program) (t u : ℕ) → Decides (have_same_code p t u) (code_of p t ≡ code_of p u)
code_decides p t u = pointwise_decides
    (decides same_instruction instruction-laws instruction_is) (code_of p t) (code_of p u)

thread_decides : (a b : Thread) → Decides (stand_alike a b) (a ≡ b)
thread_decides a b = Decides-like (stand_alike a b) from
    (λ e. (
      ap (λ (x : Thread). x.pc) e,
      (ap (λ (x : Thread). x.locals) e, ap (λ (x : Thread). x.status) e),
    ))
    (Decides-and _ _ (unsigned_Decides a.pc b.pc) (Decides-and _ _
    (pointwise_decides signed_Decides a.locals b.locals)
    (decides same-status.it status-laws status_is a.status b.status)))
  where
    from : (a.pc ≡ b.pc) × ((a.locals ≡ b.locals) × (a.status ≡ b.status)) → a ≡ b
    from h = λ i. record { pc = h.0 i; locals = h.1.0 i; status = h.1.1 i }

pub equal_decides : (p : Program) (s : Snapshot) (t u : ℕ)
    → (are_equal p s t u ≡ true) ↔ AreEqual p s t u
unfolding are_equal
equal_decides p s t u = Decides-like _ from to (Decides-and _ _ (code_decides p t u)
    (Decides-and _ _ (pointwise_decides
    (decides (option_eq nat_eq) (options_equiv nat_eq_equiv) owner_is) owners s.owners)
    (Decides-and _ _ (pointwise_decides bytes_decides queues s.queues)
    (thread_decides (thread_at s t) (thread_at s u)))))
  where
    owners : List (Option ℕ)
    owners = map (option_map (swapped t u)) s.owners

    queues : List (List ℕ)
    queues = map (map (swapped t u)) s.queues

    from : (code_of p t ≡ code_of p u) × ((owners ≡ s.owners) × ((queues ≡ s.queues)
        × (thread_at s t ≡ thread_at s u))) → AreEqual p s t u
    from h = record { code = h.0; same = swap_keeps s t u h.1.0 h.1.1.0 h.1.1.1 }

    to : AreEqual p s t u → (code_of p t ≡ code_of p u) × ((owners ≡ s.owners)
        × ((queues ≡ s.queues) × (thread_at s t ≡ thread_at s u)))
    to e = (
      e.code,
      (
        sym e.same.owners,
        (
          sym e.same.queues,
          sym (e.same.threads t) ∙ ap (thread_at s) (swapped_first t u),
        ),
      ),
    )

-- hidden threads

last_is : (last : Option ℕ) (t : ℕ) → is_last last t ≡ false → last ≢ Some t
last_is None t h e = cc
last_is (Some v) t h e = eqb-false v t h (let same : v ≡ t = cc in same)

other_is : (last : Option ℕ) (t : ℕ) → last ≢ Some t → is_last last t ≡ false
other_is None t d = refl
other_is (Some v) t d = ne_eqb v t (λ e. d (ap (λ (k : ℕ). Some k) e))

below_decides : (test : ℕ → Bool) (n : ℕ)
    → Decides (any_below test n) ((k : ℕ) × (k < n) × (test k ≡ true))
below_decides test = Decides-below_or test (λ k. test k ≡ true) (any_below test)
    (λ k. (λ h. h, λ h. h)) refl (λ _. refl)

pub hidden_is : (p : Program) (s : Snapshot) (last : Option ℕ) (t : ℕ)
    → (is_hidden p s last t ≡ true)
    ↔ ((u : ℕ) × (is_enabled p s u ≡ true) × StandsFor p s last u t)
unfolding is_hidden
hidden_is p s last t = (from, to)
  where
    from : is_hidden p s last t ≡ true
        → (u : ℕ) × (is_enabled p s u ≡ true) × StandsFor p s last u t
    from h =
        let m = (below_decides (is_stand_in p s last t) t).0 h in
        let n = and_parts (is_enabled p s m.0) _ m.2 in
        let o = and_parts (are_equal p s m.0 t) _ n.1 in
        let q = or_parts (is_last last m.0) (is_last last t) (not-true _ o.1) in (
          m.0,
          n.0,
          record {
            lower = m.1;
            equal = (equal_decides p s m.0 t).0 o.0;
            neither = (last_is last m.0 q.0, last_is last t q.1);
          },
        )

    to : (u : ℕ) × (is_enabled p s u ≡ true) × StandsFor p s last u t
        → is_hidden p s last t ≡ true
    to m = (below_decides (is_stand_in p s last t) t).1 (
      m.0,
      m.2.lower,
      and_from (is_enabled p s m.0) _ m.1
          (and_from (are_equal p s m.0 t) _ ((equal_decides p s m.0 t).1 m.2.equal)
          (ap not (or_from (is_last last m.0) (is_last last t)
          (other_is last m.0 m.2.neither.0) (other_is last t m.2.neither.1)))),
    )
