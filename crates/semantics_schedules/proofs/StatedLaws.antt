-- The laws in the form that is stated of them.
use Rattle.std.proofs.Common.{◌≡◌, ◌↔◌, ◌⊎◌, inl, inr, ℕ, Bool, true, List, ◌∷◌, Option, None, map}
use Rattle.std.specs.List.{Contains}
use Rattle.guest_code.specs.Program.{Program}
use Rattle.semantics.specs.{Machine.Snapshot, View.View}
use Rattle.semantics.proofs.ListMembers.{in_contains, contains_in}
use Rattle.semantics_schedules.specs.EqualThreads.{Hiding, is_unhidden}
use Rattle.semantics_schedules.specs.Order.{is_complete, precedes, end_from}
use Rattle.semantics_schedules.specs.Schedules.{complete_schedules, state_after}
use Rattle.semantics_schedules.specs.Sleep.{is_kept, reduced_schedules, none_asleep, IsMetEarlier, IsMetAsleep}
use Rattle.semantics_schedules.proofs.ReducedSchedules.{before_precedes, schedules_cut_at, in_all, reduced_represent}
use Rattle.semantics_schedules.proofs.SleepSets.{Kept, hides_nobody, plain_law}
use Rattle.semantics_schedules.proofs.SleepSets.Kept.{left, earlier, asleep_first}

pub complete : (p : Program) (s : Snapshot) (w : List ℕ)
    → (is_complete p s w ≡ true) ↔ Contains (complete_schedules p s) w
complete p s w = (
  λ h. in_contains (complete_schedules p s) w (schedules_cut_at p s w h),
  λ c. in_all p s w (contains_in (complete_schedules p s) w c),
)

-- what a schedule that isn't kept is met by; the key of a state is the state, or its end view
pub stated : {K : Type 0} (key : Snapshot → K) (p : Program) (H : Hiding) (s : Snapshot)
    (last : Option ℕ) (Z : ℕ → Bool) (w : List ℕ) → Kept key p H s last Z w
    → ((is_kept p s Z w ≡ true) × (is_unhidden H p s last w ≡ true))
    ⊎ (((v : List ℕ) × (is_complete p s v ≡ true) × (precedes v w ≡ true)
    × (key (state_after p s v) ≡ key (state_after p s w)))
    ⊎ ((t : ℕ) × (v : List ℕ) × (is_complete p s (t ∷ v) ≡ true) × (Z t ≡ true)
    × (key (state_after p s (t ∷ v)) ≡ key (state_after p s w))))
stated key p H s last Z w (left l m) = inl (l, m)
stated key p H s last Z w (earlier v c b e) = inr (inl (v, c, before_precedes b, e))
stated key p H s last Z w (asleep_first t v c z e) = inr (inr (t, v, c, z, e))

pub keeps : (p : Program) (s : Snapshot) (Z : ℕ → Bool) (w : List ℕ) → is_complete p s w ≡ true
    → (is_kept p s Z w ≡ true) ⊎ (IsMetEarlier p s w ⊎ IsMetAsleep p s Z w)
keeps p s Z w h = elim (stated (λ x. x) p hides_nobody s None Z w (plain_law p s Z w h))
    [ inl k ↦ inl k.0 | inr e ↦ inr e ]

pub views : (p : Program) (s : Snapshot) (x : View)
    → Contains (map (end_from p s) (complete_schedules p s)) x ↔ Contains
    (map (end_from p s) (reduced_schedules p s none_asleep)) x
views p s x = let r = (reduced_represent p s).ends x in (r.1, r.0)
