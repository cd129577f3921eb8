use Rattle.std.specs.Prelude.{All, Contains}
use Rattle.std.proofs.Common.{subst, ℕ, Bool, true, false, ◌≤◌}
use Rattle.semantics.specs.Machine.{start}
use Rattle.semantics_schedules.specs.Schedules.{preemptions}
use Rattle.book.specs.Books.{BookView}
use Rattle.semantics_schedules.proofs.{SchedulesUnderPrefix.in_under, StatedLaws.complete}
use Rattle.walk_items.specs.{Walks.{IsBelow, IsCut, IsDeferred, IsSplit, IsWithin}, Items.everything, Once.up_to, declared.mode.Mode.Mode}
use Rattle.walk_items.proofs.{ListParts.all_right, Splits.split_past}
use Rattle.book.proofs.laws.past_the_bound_is_open_or_deferred.Goals as goal

pub returns-clause-all : goal.returns-clause-all
returns-clause-all c = λ b bound v e h m at k.
    split_past false bound b.of b.finished b.open_items b.deferred
    (subst (λ (n : Mode). IsSplit n b.of b.finished b.open_items b.deferred) e h.split)
    (subst (λ (m : Mode). IsWithin m b.of) e h.within) v
    ((in_under b.of.program b.of.prefix v).0
    ((complete b.of.program (start b.of.program) v).1 m, at)) k

pub returns-clause-once : goal.returns-clause-once
returns-clause-once c = λ b bound v e h m k.
    split_past true bound b.of b.finished b.open_items b.deferred
    (subst (λ (n : Mode). IsSplit n b.of b.finished b.open_items b.deferred) e h.split)
    (subst (λ (m : Mode). IsWithin m b.of) e h.within) v
    (subst (λ (n : Mode). Contains (everything n b.of) v) e m) k

pub returns-clause-within : goal.returns-clause-within
returns-clause-within c = λ b once bound e h. go b bound once
    (subst (λ (n : Mode). IsCut n b.of b.open_items b.deferred) e h.split.cut)
  where
    go : (b : BookView) (bound : ℕ) (o : Bool) → IsCut (up_to o bound) b.of b.open_items b.deferred
        → All (λ i. preemptions i.program i.prefix ≤ bound) b.open_items
    go b bound false k = k.within
    go b bound true k = k.within

pub returns-clause-below : goal.returns-clause-below
returns-clause-below c = λ b h.
    all_right (IsBelow b.of) b.open_items b.deferred h.split.below

pub returns-clause-past : goal.returns-clause-past
returns-clause-past c = λ b once bound e h. go b bound once
    (subst (λ (n : Mode). IsCut n b.of b.open_items b.deferred) e h.split.cut)
  where
    go : (b : BookView) (bound : ℕ) (o : Bool) → IsCut (up_to o bound) b.of b.open_items b.deferred
        → All (IsDeferred bound) b.deferred
    go b bound false k = k.past
    go b bound true k = k.past
