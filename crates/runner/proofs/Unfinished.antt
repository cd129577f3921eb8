-- Where a search was cut short at a bound, schedules are left to be tried, or the next bound.
use Rattle.std.proofs.Common.{◌≡◌, ◌⊎◌, inl, inr, ℕ, ◌<◌, ◌≤◌, Bool, List, [], ◌∷◌, ◌++◌, length}
use Rattle.std.proofs.Common.{length-append, Option, refl, ap, ◌∙◌, arith}
use Rattle.std.{specs.List.{flat_map, Contains}, proofs.lemmas.List.Elements.All-head}
use Rattle.std.proofs.lemmas.List.Sorted.{length_permutation}
use Rattle.guest_code.specs.Program.{Program}
use Rattle.semantics_schedules.specs.Schedules.{preemptions, schedules_within}
use Rattle.semantics_schedules.proofs.PrefixesExtend.{extends_within}
use Rattle.walk_items.specs.{Items.{ItemView, root_of, schedules_of}, Walks.{IsBelow, IsSplit}}
use Rattle.walk_items.specs.declared.mode.Mode.TheVariants.{Bounded}
use Rattle.walk_items.proofs.Splits.{root_within, split_moved}
use Rattle.walk_summary.specs.Summaries.{SummaryView, cut, sum_of, with_beyond}
use Rattle.runner_report.specs.Reports.{IsFollowed, IsCutShort}
use Rattle.runner_report.specs.declared.{options.Search.TheVariants.UpTo, report.Cause.Cause}

counted : (p : Program) (L : List (List ℕ)) (b : Bool)
    → (with_beyond (sum_of p L) b).tried ≡ cut (length L)
unfolding sum_of
counted p L b = refl

not_empty : (L : List (List ℕ)) (w : List ℕ) → Contains L w → 0 < length L
not_empty L w c = let k = c.1 in omega (arith, k)

-- an open item has a schedule within the bound, which was not tried
still_open : (p : Program) (bound : ℕ) (sum : SummaryView) (i : ItemView)
    (is deferred : List ItemView) → IsSplit (Bounded bound) (root_of p) sum (i ∷ is) deferred
    → sum.tried < length (schedules_within p [] bound)
still_open p bound sum i is deferred h =
    let fits : preemptions i.program i.prefix ≤ bound =
    All-head (λ (r : ItemView). preemptions r.program r.prefix ≤ bound) i is h.cut.within in
    let some = extends_within i.program i.prefix bound
    (All-head (IsBelow (root_of p)) i (is ++ deferred) h.below).item fits in
    let one : 0 < length own = not_empty own some.0 some.1 in
    let all : length (h.tried ++ (own ++ rest)) ≡ length (schedules_within p [] bound) =
    length_permutation _ _ (split_moved (Bounded bound) (root_of p) sum (i ∷ is) deferred
    (root_within (Bounded bound) p) h) in
    let both = length-append h.tried (own ++ rest) in
    let more = length-append own rest in
    let few : sum.tried ≡ cut (length h.tried) =
    ap (λ (t : SummaryView). t.tried) h.sum ∙ counted p h.tried sum.beyond in
    omega (arith, one, all, both, more, few)
  where
    own : List (List ℕ)
    own = schedules_within i.program i.prefix bound

    rest : List (List ℕ)
    rest = flat_map (schedules_of (Bounded bound)) is

pub unfinished : (may : Bool) (p : Program) (last bound : ℕ) (limit : Option ℕ)
    (sum : SummaryView) (cause : Cause)
    → IsCutShort may p (UpTo last) (Bounded bound) limit sum cause
    → (sum.tried < length (schedules_within p [] bound)) ⊎ IsFollowed p (UpTo last) (Bounded bound)
unfinished may p last bound limit sum cause h = go h.items.0 h.items.2 h.left
  where
    go : (open_items : List ItemView)
        → IsSplit (Bounded bound) (root_of p) sum open_items h.items.1
        → (open_items ≡ [] → IsFollowed p (UpTo last) (Bounded bound))
        → (sum.tried < length (schedules_within p [] bound))
        ⊎ IsFollowed p (UpTo last) (Bounded bound)
    go [] split left = inr (left refl)
    go (i ∷ is) split left = inl (still_open p bound sum i is h.items.1 split)
