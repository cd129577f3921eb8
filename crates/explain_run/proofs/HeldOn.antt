-- Who owns a mutex since which step, from one step to the next.
use Rattle.std.proofs.Common.{◌≡◌, ◌≢◌, ◌⊎◌, ℕ, ◌+◌, ◌≤◌, Bool, true, false, nat_eq, List, Option, Some, None, refl, ap, ◌∙◌, sym, subst, inl, inr, arith}
use Rattle.std.specs.Prelude.{unwrap_or}
use Rattle.std.proofs.lemmas.Bool.Decides.{nat_tests}
use Rattle.guest_code.specs.Program.{Program}
use Rattle.explain_run.specs.declared.explanation.Holder.{Holder}
use Rattle.explain_run.specs.Holders.{owner_at, HoldsSince, IsHeldBy}
use Rattle.explain_run.specs.inner.Carrying.{holder_after, kept_or_new}

-- a thread that takes a mutex by the step at place k
taken : (p : Program) (w : List ℕ) (k m t : ℕ) → owner_at p w m (k + 1) ≡ Some t →
    owner_at p w m k ≢ Some t → HoldsSince p w (k + 1) m (record { thread = t; since = k })
taken p w k m t now before = record {
  ran = omega arith;
  since = λ j after upto. let e : j ≡ k + 1 = omega (arith, after, upto) in
      ap (owner_at p w m) e ∙ now;
  before = before;
}

-- a thread that owns it still
kept : (p : Program) (w : List ℕ) (k m : ℕ) (h : Holder) → HoldsSince p w k m h →
    owner_at p w m (k + 1) ≡ Some h.thread → HoldsSince p w (k + 1) m h
kept p w k m h old now = record {
  ran = let l = old.ran in omega (arith, l);
  since = λ j after upto. elim (upto_next j k upto) [
    | inl earlier ↦ old.since j after earlier
    | inr e ↦ ap (owner_at p w m) e ∙ now
  ];
  before = old.before;
}
  where
    upto_next : (j n : ℕ) → j ≤ n + 1 → (j ≤ n) ⊎ (j ≡ n + 1)
    upto_next j n l = grind (arith, l)

only : (g h : Holder) → Some g ≡ Some h → g ≡ h
only g h e = ap (λ o. unwrap_or o g) e

same_thread : (a b : ℕ) → nat_eq a b ≡ true → a ≡ b
same_thread a b h = grind (arith, nat_tests, h)

other_thread : (a b : ℕ) → nat_eq a b ≡ false → a ≢ b
other_thread a b h e = grind (arith, nat_tests, h, e)

-- the thread had it, and owns it still or another one does
kept_or_taken : (p : Program) (w : List ℕ) (k m t : ℕ) (g : Holder) → HoldsSince p w k m g →
    owner_at p w m (k + 1) ≡ Some t → (b : Bool) → nat_eq g.thread t ≡ b →
    HoldsSince p w (k + 1) m (kept_or_new g t k)
kept_or_taken p w k m t g old now true h =
    subst (HoldsSince p w (k + 1) m) (sym chosen)
    (kept p w k m g old (now ∙ ap (λ u. Some u) (sym (same_thread g.thread t h))))
  where
    chosen : kept_or_new g t k ≡ g
    chosen = rw h refl
kept_or_taken p w k m t g old now false h =
    subst (HoldsSince p w (k + 1) m) (sym chosen) (taken p w k m t now
    (λ e. other_thread g.thread t h
    (ap (λ o. unwrap_or o t) (sym (old.since k old.ran (let l : k ≤ k = omega arith in l)) ∙ e))))
  where
    chosen : kept_or_new g t k ≡ record { thread = t; since = k }
    chosen = rw h refl

followed : (p : Program) (w : List ℕ) (k m : ℕ) (h : Option Holder) (owner : Option ℕ) →
    IsHeldBy p w k m h → owner_at p w m (k + 1) ≡ owner →
    IsHeldBy p w (k + 1) m (holder_after h owner k)
followed p w k m h None old now = record {
  nobody = λ e. now;
  somebody = λ g e. absurd cc;
}
followed p w k m None (Some t) old now = record {
  nobody = λ e. absurd cc;
  somebody = λ g e. subst (HoldsSince p w (k + 1) m) (only _ g e)
      (taken p w k m t now (λ d. absurd (none_is_not_some t (sym (old.nobody refl) ∙ d))));
}
  where
    none_is_not_some : (u : ℕ) → None ≢ Some u
    none_is_not_some u e = cc
followed p w k m (Some h) (Some t) old now = record {
  nobody = λ e. absurd cc;
  somebody = λ g e. subst (HoldsSince p w (k + 1) m) (only _ g e)
      (kept_or_taken p w k m t h (old.somebody h refl) now (nat_eq h.thread t) refl);
}

-- the owner of a mutex after one more step
pub held_on : (p : Program) (w : List ℕ) (k m : ℕ) (h new : Option Holder) (owner : Option ℕ) →
    IsHeldBy p w k m h → owner_at p w m (k + 1) ≡ owner → new ≡ holder_after h owner k →
    IsHeldBy p w (k + 1) m new
held_on p w k m h new owner old now e =
    subst (IsHeldBy p w (k + 1) m) (sym e) (followed p w k m h owner old now)

-- at the start nobody owns any
pub held_by_none : (p : Program) (w : List ℕ) (m : ℕ) (h : Option Holder) → h ≡ None →
    owner_at p w m 0 ≡ None → IsHeldBy p w 0 m h
held_by_none p w m h e free = record {
  nobody = λ _. free;
  somebody = λ g d. absurd (none_is_not_some g (sym e ∙ d));
}
  where
    none_is_not_some : (u : Holder) → None ≢ Some u
    none_is_not_some u e = cc
