-- The sum of a list of complete schedules, one schedule more, the join of two sums, and when one is
-- bounded by another.
use Rattle.std.specs.Prelude.{◌≡◌, ℕ, ℤ, ◌+◌, ◌-◌, ◌^◌, ◌≤◌, min, nat_lt, Bool, true, false, ◌||◌, List, [], ◌∷◌, ◌++◌, length, map, filter, count_by, Option, Some, None, is_some, option_map, if◌then◌else◌, All, Contains}
use Rattle.std.specs.{FinMap.Entries.by_order, List.Sorted.IsStrictlySortedBy}
use Rattle.std.specs.declared.{alloc.Global.Global, vec.Vec.Vec}
use Rattle.semantics.specs.{View.{View, view_cmp, is_bad}, declared.view.Kind.Kind}
use Rattle.semantics.specs.declared.view.Kind.TheVariants.{Done, Failed, Stuck}
use Rattle.guest_code.specs.Program.{Program}
use Rattle.semantics_schedules.specs.Order.{end_of, lesser, least}
use Rattle.walk_summary.specs.declared.summary.Counts.{Counts}

-- what contracts see of a summary: how many schedules were tried, how many of them failed and how
-- many got stuck, whether some schedule is beyond the bound, the least bad schedule, the end views
pub record SummaryView : Type 0 where
  pub tried : ℕ
  pub failed : ℕ
  pub stuck : ℕ
  pub beyond : Bool
  pub first_bad : Option (List ℕ)
  pub ends : List View

-- what contracts see of a schedule that may be missing
abbrev pub schedule_view : Option (Vec ℕ Global) → Option (List ℕ)
schedule_view schedule = option_map (λ v. v.items) schedule

-- what contracts see of a summary of these parts
abbrev pub summary_view : ℕ → ℕ → ℕ → Bool → Option (Vec ℕ Global) → Vec View Global → SummaryView
summary_view tried failed stuck beyond first_bad ends = record {
  tried = tried;
  failed = failed;
  stuck = stuck;
  beyond = beyond;
  first_bad = schedule_view first_bad;
  ends = ends.items;
}

-- the same, of counts that are together
abbrev pub summary_of : Counts → Bool → Option (Vec ℕ Global) → Vec View Global → SummaryView
summary_of counts beyond first_bad ends =
    summary_view counts.tried counts.failed counts.stuck beyond first_bad ends

-- the greatest count
abbrev pub greatest_count : ℕ
greatest_count = 2 ^ 64 - 1

-- a number, cut at the greatest count
abbrev pub cut : ℕ → ℕ
cut n = min n greatest_count

abbrev pub is_failed : Kind → Bool
is_failed Done = false
is_failed Failed = true
is_failed Stuck = false

abbrev pub is_stuck : Kind → Bool
is_stuck Done = false
is_stuck Failed = false
is_stuck Stuck = true

-- how a complete schedule of the program ends
abbrev pub end_kind : Program → List ℕ → Kind
end_kind p w = (end_of p w).kind

-- one more view in a strictly sorted list, unless it is there
abbrev pub with_view : View → List View → List View
with_view v [] = v ∷ []
with_view v (w ∷ ws) = by_order (view_cmp v w) (v ∷ w ∷ ws) (w ∷ ws) (w ∷ with_view v ws)

-- these views, sorted, each once
abbrev pub sorted_views : List View → List View
sorted_views [] = []
sorted_views (v ∷ vs) = with_view v (sorted_views vs)

-- the sum of a list of complete schedules of a program
unfoldable pub sum_of : Program → List (List ℕ) → SummaryView
sum_of p L = record {
  tried = cut (length L);
  failed = cut (count_by (λ w. is_failed (end_kind p w)) L);
  stuck = cut (count_by (λ w. is_stuck (end_kind p w)) L);
  beyond = false;
  first_bad = least (filter (λ w. is_bad (end_kind p w)) L);
  ends = sorted_views (map (end_of p) L);
}

-- the sum of no schedule
abbrev pub nothing : SummaryView
nothing = record { tried = 0; failed = 0; stuck = 0; beyond = false; first_bad = None; ends = [] }

-- the view of a kind and values of the variables
abbrev pub end_with : Kind → List ℤ → View
end_with kind values = record { kind = kind; vars = values }

-- one more where it is to be counted, cut at the greatest count
abbrev pub counted_if : Bool → ℕ → ℕ
counted_if counted n = if counted then cut (n + 1) else n

-- one more schedule where it is bad: the lesser of the two
abbrev pub first_bad_with : Bool → Option (List ℕ) → List ℕ → Option (List ℕ)
first_bad_with bad first w = if bad then lesser first (Some w) else first

-- one more complete schedule, which ends so
unfoldable pub added : SummaryView → List ℕ → View → SummaryView
added s w v = record {
  tried = cut (s.tried + 1);
  failed = counted_if (is_failed v.kind) s.failed;
  stuck = counted_if (is_stuck v.kind) s.stuck;
  beyond = s.beyond;
  first_bad = first_bad_with (is_bad v.kind) s.first_bad w;
  ends = with_view v s.ends;
}

-- two sums as one: counts added and cut, "or" of `beyond`, the lesser bad schedule, the end views
-- of both
unfoldable pub join : SummaryView → SummaryView → SummaryView
join a b = record {
  tried = cut (a.tried + b.tried);
  failed = cut (a.failed + b.failed);
  stuck = cut (a.stuck + b.stuck);
  beyond = a.beyond || b.beyond;
  first_bad = lesser a.first_bad b.first_bad;
  ends = sorted_views (a.ends ++ b.ends);
}

-- the same, with this for `beyond`
abbrev pub with_beyond : SummaryView → Bool → SummaryView
with_beyond a b = record a { beyond = b }

-- what every summary keeps: counts that are cut, end views that are strictly sorted, and a bad
-- schedule exactly where some failed or got stuck
pub record IsSummary (t : SummaryView) : Type 0 where
  pub tried : t.tried ≤ greatest_count
  pub failed : t.failed ≤ greatest_count
  pub stuck : t.stuck ≤ greatest_count
  pub ends : IsStrictlySortedBy view_cmp t.ends
  pub first_bad : is_some t.first_bad ≡ (nat_lt 0 t.failed || nat_lt 0 t.stuck)

-- one summary is bounded by another: it has the same first bad schedule, no greater counts, and its
-- end views are among the other's
pub record IsBoundedBy (part all : SummaryView) : Type 0 where
  pub first_bad : part.first_bad ≡ all.first_bad
  pub tried : part.tried ≤ all.tried
  pub failed : part.failed ≤ all.failed
  pub stuck : part.stuck ≤ all.stuck
  pub ends : All (λ v. Contains all.ends v) part.ends
