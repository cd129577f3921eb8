-- What is left of a program's schedules where equal threads are tried once says what all say.
use Rattle.std.proofs.Common.{◌≡◌, ℕ, List, map, refl, sym, subst, None}
use Rattle.guest_code.specs.Program.{Program}
use Rattle.semantics.specs.Machine.{start}
use Rattle.semantics_schedules.specs.EqualThreads.{reduced_once}
use Rattle.semantics_schedules.specs.Order.{end_of}
use Rattle.semantics_schedules.specs.Represents.{Represents}
use Rattle.semantics_schedules.specs.Sleep.{none_asleep}
use Rattle.semantics_schedules.proofs.EqualThreadsOnce.{once_represents_within, once_represents_reduced}
use Rattle.semantics_schedules.proofs.ReducedSchedules.{same_answers}
use Rattle.walk_items.specs.Items.{root_of, schedules_of, goes_beyond, whole}
use Rattle.walk_items.specs.{Once.{SaysTheSame, once_of}, declared.mode.Mode.Mode}
use Rattle.walk_items.specs.declared.mode.Mode.TheVariants.{Bounded, Reduced, BoundedOnce, ReducedOnce}
use Rattle.walk_items.proofs.Unhidden.{unhidden_beyond}
use Rattle.walk_items.proofs.WalkedItems.{root_set, root_pruned, root_once_set, root_once_pruned}
use Rattle.walk_summary.specs.Summaries.{sum_of}
use Rattle.walk_summary.proofs.SortedViews.{sorted_views-alike}

module _ (p : Program) where
  itself : (L : List (List ℕ)) → Represents p (start p) L L
  itself L = record { own = λ w c. c; least_bad = refl; ends = λ x. (λ c. c, λ c. c) }

  pub represents_root : (mode : Mode) → Represents p (start p)
      (schedules_of (once_of mode) (root_of p)) (schedules_of mode (root_of p))
  represents_root (Bounded bound) =
      subst (λ L. Represents p (start p) L (schedules_of (Bounded bound) (root_of p)))
      (sym (root_once_set p bound))
      (subst (Represents p (start p) _) (sym (root_set p bound))
      ((once_represents_within p (start p) None).within bound))
  represents_root Reduced =
      subst (λ L. Represents p (start p) L (schedules_of Reduced (root_of p)))
      (sym (root_once_pruned p))
      (subst (Represents p (start p) (reduced_once p (start p) none_asleep)) (sym (root_pruned p))
      (once_represents_reduced p (start p)))
  represents_root (BoundedOnce bound) = itself (schedules_of (BoundedOnce bound) (root_of p))
  represents_root ReducedOnce = itself (schedules_of ReducedOnce (root_of p))

  beyond_root : (mode : Mode) →
      goes_beyond (once_of mode) (root_of p) ≡ goes_beyond mode (root_of p)
  beyond_root (Bounded bound) = unhidden_beyond (root_of p) bound refl
  beyond_root Reduced = refl
  beyond_root (BoundedOnce bound) = refl
  beyond_root ReducedOnce = refl

  pub says_the_same : (mode : Mode) → SaysTheSame (whole p (once_of mode)) (whole p mode)
  unfolding sum_of
  says_the_same mode = let r = represents_root mode in record {
    first_bad = r.least_bad;
    ends = sorted_views-alike (map (end_of p) (schedules_of (once_of mode) (root_of p)))
        (map (end_of p) (schedules_of mode (root_of p)))
        (λ test. sym (same_answers p (start p) _ _ r test));
    beyond = beyond_root mode;
  }
