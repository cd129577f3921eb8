-- A single item as a walk: not begun, complete, one step further, and past its bound.
use Rattle.std.proofs.Common.{◌≡◌, ℕ, ◌≤◌, ◌<◌, Bool, true, false, cond, ◌||◌, nat_le, nat_lt}
use Rattle.std.proofs.Common.{[], ◌∷◌, ◌++◌, map, refl, ap, ◌∙◌, sym, subst, arith, IsPermutation}
use Rattle.std.{specs.List.{Contains, filter, list_any}, proofs.lemmas.Bool.Decides.nat_tests}
use Rattle.std.proofs.lemmas.List.{append-nil, Elements.{All-nil, All-cons}}
use Rattle.std.proofs.lemmas.List.Sorted.{IsPermutation-refl}
use Rattle.semantics.specs.{Ends.is_terminal, Mask.has, Reachable.IsOf}
use Rattle.semantics_schedules.specs.Schedules.{preemptions}
use Rattle.semantics_schedules.proofs.SleepSets.{reduced_schedules-terminal}
use Rattle.semantics_schedules.proofs.UnfoldingUnderPrefix.{schedules_under-terminal}
use Rattle.walk_items.specs.Children.{state_of, passes_bound, children_of, children, past_children}
use Rattle.walk_items.specs.Items.{ItemView, IsItem, schedules_of, everything, goes_beyond}
use Rattle.walk_items.specs.Walks.{IsWalked, IsBelow, IsDeferred, IsCutAt, IsPruned, IsCut, IsPastBound, walk_past_bound, IsWithin}
use Rattle.walk_items.specs.{Once.up_to, declared.mode.Mode.Mode}
use Rattle.walk_items.specs.declared.mode.Mode.TheVariants.{Bounded, Reduced, BoundedOnce, ReducedOnce}
use Rattle.walk_items.proofs.Children.{own_is, beyond_is, bounded_none, bounded_beyond}
use Rattle.walk_items.proofs.Children.{children_schedules, children_all, children_beyond}
use Rattle.walk_items.proofs.Children.{children_below, children_apart, children_within}
use Rattle.walk_items.proofs.Children.{children_deferred, children_pruned, reduced_past}
use Rattle.walk_items.proofs.Children.{children_pruned_once, once_past}
use Rattle.walk_items.proofs.{Splits.split_open, Unhidden.once_terminal, WalkedItems.HasItsOf}
use Rattle.walk_summary.specs.Summaries.{nothing, sum_of, with_beyond}

-- a walk that has not begun: the item is its own rest

pub open_walked : (mode : Mode) (i : ItemView) → IsItem i → IsWithin mode i →
    IsWalked (record {
      mode = mode;
      item = i;
      part = nothing;
      rest = i ∷ [];
      deferred = [];
    })
unfolding split_open
open_walked mode i h fits = record {
  split = split_open mode i h fits;
  schedules = sym (append-nil (schedules_of mode i));
}

-- a complete schedule

bounded_leaf : (once : Bool) (bound : ℕ) (i : ItemView) → IsItem i →
    is_terminal i.program (state_of i) ≡ true →
    everything (up_to once bound) i ≡ i.prefix ∷ []
bounded_leaf false bound i h over = schedules_under-terminal i.program i.prefix h over
bounded_leaf true bound i h over = once_terminal (BoundedOnce bound) i over

bounded_leaf_schedules : (once : Bool) (bound : ℕ) (i : ItemView) → IsItem i →
    is_terminal i.program (state_of i) ≡ true → preemptions i.program i.prefix ≤ bound →
    schedules_of (up_to once bound) i ≡ i.prefix ∷ []
bounded_leaf_schedules once bound i h over few =
    let n : ℕ = preemptions i.program i.prefix in
    let le : nat_le n bound ≡ true = grind (arith, nat_tests, few) in
    own_is once bound i
    ∙ (ap (filter (λ w. nat_le (preemptions i.program w) bound)) (bounded_leaf once bound i h over)
    ∙ ap (λ b. cond b (i.prefix ∷ []) []) le)

bounded_leaf_beyond : (once : Bool) (bound : ℕ) (i : ItemView) → IsItem i →
    is_terminal i.program (state_of i) ≡ true → preemptions i.program i.prefix ≤ bound →
    goes_beyond (up_to once bound) i ≡ false
bounded_leaf_beyond once bound i h over few =
    let n : ℕ = preemptions i.program i.prefix in
    let lt : nat_lt bound n ≡ false = grind (arith, nat_tests, few) in
    beyond_is once bound i
    ∙ (ap (list_any (λ w. nat_lt bound (preemptions i.program w)))
    (bounded_leaf once bound i h over) ∙ ap (λ b. b || false) lt)

pub leaf_schedules : (mode : Mode) (i : ItemView) → IsItem i →
    is_terminal i.program (state_of i) ≡ true → IsWithin mode i →
    schedules_of mode i ≡ i.prefix ∷ []
leaf_schedules (Bounded bound) i h over fits = bounded_leaf_schedules false bound i h over fits
leaf_schedules Reduced i h over fits =
    ap (map (λ w. i.prefix ++ w))
    (reduced_schedules-terminal i.program (state_of i) (has i.mask) over)
    ∙ ap (λ w. w ∷ []) (append-nil i.prefix)
leaf_schedules (BoundedOnce bound) i h over fits = bounded_leaf_schedules true bound i h over fits
leaf_schedules ReducedOnce i h over fits = once_terminal ReducedOnce i over

leaf_beyond : (mode : Mode) (i : ItemView) → IsItem i →
    is_terminal i.program (state_of i) ≡ true → IsWithin mode i → goes_beyond mode i ≡ false
leaf_beyond (Bounded bound) i h over fits = bounded_leaf_beyond false bound i h over fits
leaf_beyond Reduced i h over fits = refl
leaf_beyond (BoundedOnce bound) i h over fits = bounded_leaf_beyond true bound i h over fits
leaf_beyond ReducedOnce i h over fits = refl

leaf_all : (mode : Mode) (i : ItemView) → IsItem i →
    is_terminal i.program (state_of i) ≡ true → IsWithin mode i →
    everything mode i ≡ i.prefix ∷ []
leaf_all (Bounded bound) i h over fits = bounded_leaf false bound i h over
leaf_all Reduced i h over fits = leaf_schedules Reduced i h over fits
leaf_all (BoundedOnce bound) i h over fits = bounded_leaf true bound i h over
leaf_all ReducedOnce i h over fits = once_terminal ReducedOnce i over

nothing_at : (bound : ℕ) → IsCutAt bound [] []
nothing_at bound = record {
  within = All-nil (λ r. preemptions r.program r.prefix ≤ bound);
  past = All-nil (IsDeferred bound);
}

nothing_pruned : (mode : Mode) (i : ItemView) → IsPruned mode i [] []
nothing_pruned mode i = record { none = refl; schedules = All-nil (HasItsOf mode i) }

leaf_cut : (mode : Mode) (i : ItemView) → IsCut mode i [] []
leaf_cut (Bounded bound) i = nothing_at bound
leaf_cut Reduced i = nothing_pruned Reduced i
leaf_cut (BoundedOnce bound) i = nothing_at bound
leaf_cut ReducedOnce i = nothing_pruned ReducedOnce i

pub leaf_walked : (mode : Mode) (i : ItemView) → IsItem i →
    is_terminal i.program (state_of i) ≡ true → IsWithin mode i →
    IsWalked (record {
      mode = mode;
      item = i;
      part = sum_of i.program (i.prefix ∷ []);
      rest = [];
      deferred = [];
    })
unfolding sum_of
leaf_walked mode i h over fits = record {
  split = record {
    tried = i.prefix ∷ [];
    own = All-cons (Contains (schedules_of mode i)) i.prefix []
        (subst (λ L. Contains L i.prefix) (sym (leaf_schedules mode i h over fits))
        (0, omega arith, refl)) (All-nil (Contains (schedules_of mode i)));
    sum = refl;
    all = λ within. subst (IsPermutation (everything mode i)) (leaf_all mode i h over fits)
        (IsPermutation-refl (everything mode i));
    beyond = leaf_beyond mode i h over fits;
    below = All-nil (IsBelow i);
    apart = λ v. omega arith;
    cut = leaf_cut mode i;
  };
  schedules = leaf_schedules mode i h over fits;
}

-- an item that goes on: its children take its place

node_cut : (mode : Mode) (i : ItemView) → IsItem i → IsOf i.program (state_of i) →
    IsWithin mode i → IsCut mode i (children mode i) (past_children mode i)
node_cut (Bounded bound) i h of fits = record {
  within = children_within false bound i;
  past = children_deferred false bound i fits;
}
node_cut Reduced i h of fits = record {
  none = ap (children_of Reduced i) (reduced_past i);
  schedules = children_pruned i h of;
}
node_cut (BoundedOnce bound) i h of fits = record {
  within = children_within true bound i;
  past = children_deferred true bound i fits;
}
node_cut ReducedOnce i h of fits = record {
  none = ap (children_of ReducedOnce i) (once_past i);
  schedules = children_pruned_once i h of;
}

pub node_walked : (mode : Mode) (i : ItemView) → IsItem i → IsOf i.program (state_of i) →
    is_terminal i.program (state_of i) ≡ false → IsWithin mode i →
    IsWalked (record {
      mode = mode;
      item = i;
      part = with_beyond nothing (passes_bound mode i);
      rest = children mode i;
      deferred = past_children mode i;
    })
unfolding sum_of
node_walked mode i h of more fits = record {
  split = record {
    tried = [];
    own = All-nil (Contains (schedules_of mode i));
    sum = refl;
    all = λ within. children_all mode i h of more;
    beyond = children_beyond mode i h more;
    below = children_below mode i h;
    apart = children_apart mode i;
    cut = node_cut mode i h of fits;
  };
  schedules = children_schedules mode i h of more;
}

-- an item whose own prefix is past the bound has nothing to try

bounded_past_walked : (once : Bool) (bound : ℕ) (i : ItemView) → IsItem i →
    bound < preemptions i.program i.prefix → (IsWithin (up_to once bound) i → ⊥) →
    IsCut (up_to once bound) i [] [] → IsWalked (walk_past_bound (up_to once bound) i)
unfolding sum_of
bounded_past_walked once bound i h past outside cut = record {
  split = record {
    tried = [];
    own = All-nil (Contains (schedules_of (up_to once bound) i));
    sum = refl;
    all = λ fits. absurd (outside fits);
    beyond = bounded_beyond once bound i h past;
    below = All-nil (IsBelow i);
    apart = λ v. omega arith;
    cut = cut;
  };
  schedules = bounded_none once bound i past;
}

pub past_walked : (mode : Mode) (i : ItemView) → IsItem i → IsPastBound mode i →
    IsWalked (walk_past_bound mode i)
past_walked (Bounded bound) i h past =
    bounded_past_walked false bound i h past (λ fits. omega (arith, fits, past)) (nothing_at bound)
past_walked Reduced i h past = absurd past
past_walked (BoundedOnce bound) i h past =
    bounded_past_walked true bound i h past (λ fits. omega (arith, fits, past)) (nothing_at bound)
past_walked ReducedOnce i h past = absurd past
