-- The reduced schedules are the complete ones that are kept.
use Rattle.std.proofs.Common.{◌≡◌, ◌↔◌, ℕ, Bool, true, not, ◌&&◌, List, [], ◌∷◌}
use Rattle.std.{specs.List.{Contains, filter}, proofs.lemmas.Bool.{and_parts, and_from}}
use Rattle.guest_code.specs.Program.{Program}
use Rattle.semantics.specs.Machine.{Snapshot, step, is_enabled}
use Rattle.semantics.proofs.ListMembers.{in_contains, contains_in, in_filter, from_filter}
use Rattle.semantics_schedules.specs.{Order.is_complete, Schedules.complete_schedules}
use Rattle.semantics_schedules.specs.Sleep.{is_kept, next_sleep_set, reduced_schedules}

pub reduced_members : (p : Program) (s : Snapshot) (Z : ℕ → Bool) (w : List ℕ)
    → Contains (reduced_schedules p s Z) w
    ↔ (Contains (complete_schedules p s) w × (is_kept p s Z w ≡ true))
unfolding reduced_schedules
reduced_members p s Z w = (from, to)
  where
    all : List (List ℕ)
    all = complete_schedules p s

    from : Contains (filter (is_kept p s Z) all) w → Contains all w × (is_kept p s Z w ≡ true)
    from c =
        let r = from_filter (is_kept p s Z) all w (contains_in _ w c) in
        (in_contains all w r.0, r.1)

    to : Contains all w × (is_kept p s Z w ≡ true) → Contains (filter (is_kept p s Z) all) w
    to b = in_contains _ w (in_filter (is_kept p s Z) all w (contains_in all w b.0) b.1)

pub kept_complete : (p : Program) (s : Snapshot) (Z : ℕ → Bool) (w : List ℕ)
    → is_kept p s Z w ≡ true → is_complete p s w ≡ true
kept_complete p s Z [] h = h
kept_complete p s Z (t ∷ w) h =
    let rest : Bool = is_kept p (step p s t) (next_sleep_set p s Z t) w in
    let a = and_parts (is_enabled p s t) (not (Z t) && rest) h in
    let b = and_parts (not (Z t)) rest a.1 in
    let c = kept_complete p (step p s t) (next_sleep_set p s Z t) w b.1 in
    and_from (is_enabled p s t) (is_complete p (step p s t) w) a.0 c
