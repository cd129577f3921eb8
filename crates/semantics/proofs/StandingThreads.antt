-- Where a thread is that is about to take a step.
use Rattle.std.proofs.Common.{◌≡◌, ◌∙◌, ℕ, true, false, inl, inr, length, None, refl, ap}
use Rattle.std.proofs.lemmas.{Bool.cases_lt, Option.slice_get_past}
use Rattle.guest_code.specs.Program.{Program, code_of}
use Rattle.semantics.specs.Machine.{Snapshot, can_do, action_at, is_enabled, thread_at}
use Rattle.semantics.specs.{Reachable.StandsInCode, declared.state.Status.Status}
use Rattle.semantics.specs.declared.state.Status.TheVariants.{Running, Waiting, Woken, Ended, Stopped}

none_past : (status : Status) → action_at status None ≡ None
none_past Running = refl
none_past Woken = refl
none_past (Waiting c) = refl
none_past Ended = refl
none_past (Stopped why) = refl

-- an enabled thread is not at the end of its code
pub enabled_stands : (p : Program) (s : Snapshot) (t : ℕ) → is_enabled p s t ≡ true
    → StandsInCode p s t
enabled_stands p s t h = elim (cases_lt (thread_at s t).pc (length (code_of p t))) [
  | inl l ↦ l
  | inr g ↦ (let e : is_enabled p s t ≡ false =
      ap (λ o. can_do s (action_at (thread_at s t).status o))
      (slice_get_past (code_of p t) (thread_at s t).pc g)
      ∙ ap (can_do s) (none_past (thread_at s t).status) in cc)
]
