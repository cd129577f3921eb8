-- Where no schedule is beyond a bound, a greater one makes no difference.
use Rattle.std.proofs.Common.{◌≡◌, ℕ, ◌≤◌, Bool, false, ◌||◌, nat_le, nat_lt, List, [], ◌∷◌, refl}
use Rattle.std.proofs.Common.{sym, ◌∙◌, arith, inl, inr}
use Rattle.std.{specs.List.{filter, list_any}, proofs.lemmas.Bool.Decides.nat_tests}
use Rattle.semantics.specs.Waiters.{In}
use Rattle.semantics_schedules.specs.Schedules.{preemptions, schedules_under, schedules_within, exceeds_bound}
use Rattle.walk_items.specs.{Items.{ItemView, item_sum}, declared.mode.Mode.TheVariants.Bounded}
use Rattle.walk_items.proofs.Filters.{filter_same}
use Rattle.walk_summary.specs.Summaries.{sum_of, with_beyond}
use Rattle.walk_cover.proofs.Listed.{all_off}

none_passes : {A : Type 0} (test : A → Bool) (xs : List A) →
    ((x : A) → In xs x → test x ≡ false) → list_any test xs ≡ false
none_passes test [] h = refl
none_passes test (x ∷ xs) h =
    λ k. h x (inl refl) k || none_passes test xs (λ y m. h y (inr m)) k

pub settled_sum : (i : ItemView) (b c : ℕ) → b ≤ c → (item_sum (Bounded b) i).beyond ≡ false →
    item_sum (Bounded c) i ≡ item_sum (Bounded b) i
unfolding schedules_within exceeds_bound
settled_sum i b c le off =
    λ k. with_beyond (sum_of i.program (same k)) (none k)
  where
    all : List (List ℕ)
    all = schedules_under i.program i.prefix

    few : (w : List ℕ) → In all w → nat_lt b (preemptions i.program w) ≡ false
    few w m = all_off (λ v. nat_lt b (preemptions i.program v)) all off w m

    same : filter (λ w. nat_le (preemptions i.program w) c) all
        ≡ filter (λ w. nat_le (preemptions i.program w) b) all
    same = filter_same (λ w. nat_le (preemptions i.program w) c)
        (λ w. nat_le (preemptions i.program w) b) all
        (λ w m. let h = few w m in grind (arith, nat_tests, h, le))

    beyond : list_any (λ w. nat_lt c (preemptions i.program w)) all ≡ false
    beyond = none_passes (λ w. nat_lt c (preemptions i.program w)) all
        (λ w m. let h = few w m in grind (arith, nat_tests, h, le))

    none : list_any (λ w. nat_lt c (preemptions i.program w)) all
        ≡ list_any (λ w. nat_lt b (preemptions i.program w)) all
    none = λ k. (beyond ∙ sym off) k
