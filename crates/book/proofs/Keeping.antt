-- What the calls of a book keep where no item was dropped.
use Rattle.std.proofs.Common.{◌≡◌, ℕ, ◌<◌, ◌≤◌, Bool, true, false, List, [], ◌++◌, take, drop, suc, refl, ap, sym, ◌∙◌, subst, arith}
use Rattle.semantics_schedules.specs.Schedules.{preemptions}
use Rattle.walk_items.specs.Items.{ItemView, IsItem, item_sum}
use Rattle.walk_items.specs.Walks.{WalkView, IsWalked, IsSplit, IsWithin, listed_if}
use Rattle.walk_items.specs.declared.{limits.TheConstants.BOUND, mode.Mode.Mode}
use Rattle.walk_items.specs.declared.mode.Mode.TheVariants.{Bounded, Reduced, BoundedOnce, ReducedOnce}
use Rattle.walk_items.proofs.Listed.{listed_none}
use Rattle.walk_items.proofs.Splits.{split_open, split_further, split_next, split_closed}
use Rattle.book.specs.Books.{BookView, IsBook, Keeps, KeepsWhere, with_deferred, IsWalkOf, IsOpenAt}
use Rattle.book.specs.Books.{opening_of, settled, raised, bound_of}
use Rattle.book.proofs.Lists.{parted}

pub opens : (item : ItemView) (mode : Mode) (quick : Bool) → IsItem item → IsWithin mode item →
    Keeps (opening_of item mode quick)
opens item mode quick runs fits = record {
  put = [];
  listed = refl;
  split = record { within = fits; split = split_open mode item runs fits };
}

-- where what is put off is listed, the list is all of it
pub all_listed : (b : BookView) → Keeps b → b.lists ≡ true → KeepsWhere b.dropped b
all_listed b h lists =
    subst (λ (put : List ItemView). KeepsWhere b.dropped (with_deferred b put))
    (sym (h.listed ∙ ap (λ l. listed_if l h.put) lists)) h.split

pub settles : (b : BookView) (w : WalkView) (place : ℕ) → IsBook b → IsWalked w → IsWalkOf b w →
    IsOpenAt b w.item place → IsBook (with_deferred (settled b w place) (b.deferred ++ w.deferred))
settles b w place book walk of at = record {
  within = book.within;
  split = split_further b.mode b.of w.item b.finished w.part
      (take place b.open_items) (drop (suc place) b.open_items) b.deferred w.rest w.deferred
      (subst (λ (is : List ItemView). IsSplit b.mode b.of b.finished is b.deferred)
      (parted b.open_items place w.item at.0 at.1) book.split)
      (subst (λ (m : Mode). IsSplit m w.item w.part w.rest w.deferred) (sym of.0) walk.split);
}

raises_split : (b : BookView) → IsBook b → b.open_items ≡ [] → bound_of b.mode < BOUND →
    IsBook (raised b)
raises_split b book none low = go b.mode book.within book.split low
  where
    go : (mode : Mode) → IsWithin mode b.of →
        IsSplit mode b.of b.finished b.open_items b.deferred → bound_of mode < BOUND →
        IsBook (raised (record b { mode = mode }))
    go (Bounded bound) fits h l = record {
      within = let few : preemptions b.of.program b.of.prefix ≤ bound = fits in omega (arith, few);
      split = split_next false bound b.of b.finished b.open_items b.deferred fits none h;
    }
    go Reduced fits h l = absurd (omega (arith, l))
    go (BoundedOnce bound) fits h l = record {
      within = let few : preemptions b.of.program b.of.prefix ≤ bound = fits in omega (arith, few);
      split = split_next true bound b.of b.finished b.open_items b.deferred fits none h;
    }
    go ReducedOnce fits h l = absurd (omega (arith, l))

pub raises : (b : BookView) → Keeps b → b.lists ≡ true → b.dropped ≡ false → b.open_items ≡ [] →
    bound_of b.mode < BOUND → Keeps (raised b)
raises b h lists all none low = record {
  put = [];
  listed = sym (listed_none b.lists);
  split = subst (λ (d : Bool). KeepsWhere d (raised b)) (sym all)
      (raises_split b (subst (λ (d : Bool). KeepsWhere d b) all (all_listed b h lists)) none low);
}

pub closes : (b : BookView) → IsBook b → b.open_items ≡ [] → b.finished ≡ item_sum b.mode b.of
closes b book none =
    split_closed b.mode b.of b.finished b.open_items b.deferred book.within book.split none
