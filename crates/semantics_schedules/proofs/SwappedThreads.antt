-- Swapping two equal threads is a renaming, so what a step of the greater leads to is met earlier,
-- by a step of the lower.
use Rattle.std.specs.Prelude.{option_map}
use Rattle.std.proofs.Common.{◌≡◌, ◌≢◌, ℕ, ◌<◌, inl, inr, Bool, true, false, cond, nat_eq, List, ◌∷◌, map, Option, Some, None, refl, ap, ◌∙◌, sym, subst}
use Rattle.std.proofs.lemmas.Bool.{cases_eq, eqb-true, eq-eqb, ne_eqb}
use Rattle.guest_code.specs.Program.{Program, code_of}
use Rattle.semantics.specs.Machine.{Snapshot, thread_at}
use Rattle.semantics_schedules.specs.EqualThreads.{AreEqual, StandsFor}
use Rattle.semantics_schedules.specs.Order.{is_complete, end_from}
use Rattle.semantics_schedules.specs.Renaming.{swapped, IsRenaming, Renamed}
use Rattle.semantics_schedules.specs.Schedules.{preemptions_from}
use Rattle.semantics_schedules.proofs.RenamedStates.{complete_renamed, preemptions_renamed, end_renamed}
use Rattle.semantics_schedules.proofs.SleepSets.{Before, Before.lower}

pub swapped_first : (t u : ℕ) → swapped t u t ≡ u
swapped_first t u = ap (λ b. cond b u (cond (nat_eq t u) t t)) (eq-eqb t t refl)

swapped_second : (t u : ℕ) → swapped t u u ≡ t
swapped_second t u = go (nat_eq u t) refl
  where
    go : (b : Bool) → nat_eq u t ≡ b → cond b u (cond (nat_eq u u) t u) ≡ t
    go true e = eqb-true u t e
    go false e = ap (λ b. cond b t u) (eq-eqb u u refl)

swapped_other : (t u v : ℕ) → v ≢ t → v ≢ u → swapped t u v ≡ v
swapped_other t u v d e = ap (λ b. cond b u (cond (nat_eq v u) t v)) (ne_eqb v t d)
    ∙ ap (λ b. cond b t v) (ne_eqb v u e)

-- what holds of both and of every other number holds of each
each : (t u : ℕ) (P : ℕ → Type 0) → P t → P u → ((v : ℕ) → v ≢ t → v ≢ u → P v)
    → (v : ℕ) → P v
each t u P a b c v = elim (cases_eq v t) [
  | inl e ↦ subst P (sym e) a
  | inr d ↦ elim (cases_eq v u) [ inl e ↦ subst P (sym e) b | inr e ↦ c v d e ]
]

-- where swapping two threads changes no owner and no queue, and they are alike, it changes nothing
pub swap_keeps : (s : Snapshot) (t u : ℕ) → map (option_map (swapped t u)) s.owners ≡ s.owners
    → map (map (swapped t u)) s.queues ≡ s.queues → thread_at s t ≡ thread_at s u
    → Renamed (swapped t u) s s
swap_keeps s t u owners queues alike = record {
  vars = refl;
  owners = sym owners;
  queues = sym queues;
  counts = refl;
  threads = each t u (λ v. thread_at s (swapped t u v) ≡ thread_at s v)
      (ap (thread_at s) (swapped_first t u) ∙ sym alike)
      (ap (thread_at s) (swapped_second t u) ∙ alike)
      (λ v a b. ap (thread_at s) (swapped_other t u v a b));
}

swap_renames : (p : Program) (s : Snapshot) (t u : ℕ) → AreEqual p s t u
    → IsRenaming p (swapped t u)
swap_renames p s t u e = record {
  back = each t u (λ k. swapped t u (swapped t u k) ≡ k)
      (ap (swapped t u) (swapped_first t u) ∙ swapped_second t u)
      (ap (swapped t u) (swapped_second t u) ∙ swapped_first t u)
      (λ v a b. ap (swapped t u) (swapped_other t u v a b) ∙ swapped_other t u v a b);
  code = each t u (λ k. code_of p (swapped t u k) ≡ code_of p k)
      (ap (code_of p) (swapped_first t u) ∙ sym e.code)
      (ap (code_of p) (swapped_second t u) ∙ e.code)
      (λ v a b. ap (code_of p) (swapped_other t u v a b));
}

other_stays : (t u : ℕ) (last : Option ℕ) → last ≢ Some t → last ≢ Some u
    → option_map (swapped t u) last ≡ last
other_stays t u None d e = refl
other_stays t u (Some v) d e = ap (λ (k : ℕ). Some k)
    (swapped_other t u v (λ q. d (ap (λ (k : ℕ). Some k) q)) (λ q. e (ap (λ (k : ℕ). Some k) q)))

-- a complete schedule comes earlier, with the same end view and as many preemptions
abbrev pub Earlier : Program → Snapshot → Option ℕ → List ℕ → Type 0
Earlier p s last w = (v : List ℕ) × (is_complete p s v ≡ true) × Before v w
    × (end_from p s v ≡ end_from p s w)
    × (preemptions_from p s last v ≡ preemptions_from p s last w)

pub met_earlier : (p : Program) (s : Snapshot) (last : Option ℕ) (u t : ℕ) (w : List ℕ)
    → StandsFor p s last u t → is_complete p s (t ∷ w) ≡ true → Earlier p s last (t ∷ w)
met_earlier p s last u t w a c =
    let f : ℕ → ℕ = swapped u t in
    let g = swap_renames p s u t a.equal in
    let e = a.equal.same in (
      map f (t ∷ w),
      complete_renamed p f g (t ∷ w) s s e ∙ c,
      lower (subst (λ k. k < t) (sym (swapped_second u t)) a.lower),
      end_renamed p f g (t ∷ w) s s e,
      ap (λ o. preemptions_from p s o (map f (t ∷ w)))
          (sym (other_stays u t last a.neither.0 a.neither.1))
          ∙ preemptions_renamed p f g (t ∷ w) s s e last,
    )
