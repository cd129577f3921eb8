-- What is known of a book that goes on to the next bound, and of the levels that are kept.
use Rattle.std.proofs.Common.{◌≡◌, ◌∙◌, ℕ, ◌+◌, ◌<◌, ◌≤◌, Bool, true, false, ap, sym, inl, inr, refl}
use Rattle.std.proofs.Common.{subst, arith, List, [], ◌∷◌, ◌++◌, length, length-append, Option, Some, None}
use Rattle.std.proofs.Common.{Vec, Global}
use Rattle.std.proofs.lemmas.Bool.{cases_lt, Decides.nat_tests}
use Rattle.guest_code.specs.Program.{Program}
use Rattle.semantics_schedules.specs.Schedules.{preemptions}
use Rattle.walk_items.specs.{Items.{root_of, ItemView, IsItem, item_sum}, Once.up_to, Walks.IsWithin}
use Rattle.walk_items.specs.declared.{limits.TheConstants.BOUND, mode.Mode.Mode}
use Rattle.walk_items.specs.declared.mode.Mode.TheVariants.{Bounded, Reduced}
use Rattle.walk_items.specs.declared.mode.Mode.TheVariants.{BoundedOnce, ReducedOnce}
use Rattle.walk_items.proofs.WalkedItems.{past_none, past_beyond}
use Rattle.walk_summary.specs.Summaries.{SummaryView, nothing, with_beyond, sum_of}
use Rattle.walk_summary.proofs.SumsJoin.{sum_of_none}
use Rattle.book.specs.Books.{BookView, Keeps, IsAtLastBound, Raises, bound_of, next_mode, opening_of}
use Rattle.book.proofs.BoundedSums.{closed_sum, clean_kept_all}
use Rattle.runner_report.specs.{Promises.{IsSearch, first_mode}, declared.level.Level.Level}
use Rattle.runner_report.specs.declared.options.{Options.Options, Search.Search}
use Rattle.runner_report.specs.declared.options.Search.TheVariants.{UpTo, Unbounded}
use Rattle.runner_report.specs.declared.report.Cause.TheVariants.{Limit, Stopped}
use Rattle.runner.specs.Levels.{IsModeOf, GoesOn, IsPassed, HasPassed, IsPassedLevel, ArePassedFrom}
use Rattle.runner.specs.Levels.{AreBelow}
use Rattle.runner.specs.declared.{course.Course.Course, judge.Ending.Ending}
use Rattle.runner.specs.declared.judge.Ending.TheVariants.{Whole, Cut}
use Rattle.runner.specs.inner.Judging.{IsAt, AreKept, HasKept, level_at, begun, lists_at}
use Rattle.runner.specs.inner.Judging.{bounds_left, IsCourse, HasEnded, Ends}

below : (last bound : ℕ) → bound ≤ last → (bound ≡ last → ⊥) → bound < last
below last bound le ne = omega (arith, le, ne)

-- another bound follows the mode
abbrev pub HasNext : Search → Mode → Type 0
HasNext (UpTo last) (Bounded bound) = bound < last
HasNext (UpTo last) (BoundedOnce bound) = bound < last
HasNext (UpTo last) Reduced = ⊥
HasNext (UpTo last) ReducedOnce = ⊥
HasNext Unbounded mode = ⊥

pub has_next : (once : Bool) (search : Search) (mode : Mode) (sum : SummaryView)
    → IsModeOf once search mode → GoesOn search mode sum → HasNext search mode
has_next once (UpTo last) (Bounded bound) sum of on = below last bound of.1 on.more
has_next once (UpTo last) (BoundedOnce bound) sum of on = below last bound of.1 on.more
has_next once (UpTo last) Reduced sum of on = absurd of
has_next once (UpTo last) ReducedOnce sum of on = absurd of
has_next once Unbounded (Bounded bound) sum of on = absurd of
has_next once Unbounded (BoundedOnce bound) sum of on = absurd of
has_next once Unbounded Reduced sum of on = absurd (on.more tt)
has_next once Unbounded ReducedOnce sum of on = absurd (on.more tt)

next_listed : (search : Search) (mode : Mode) → HasNext search mode → lists_at search mode ≡ true
next_listed (UpTo last) (Bounded bound) h = let l : bound < last = h in grind (arith, nat_tests, l)
next_listed (UpTo last) (BoundedOnce bound) h =
    let l : bound < last = h in grind (arith, nat_tests, l)
next_listed (UpTo last) Reduced h = absurd h
next_listed (UpTo last) ReducedOnce h = absurd h
next_listed Unbounded mode h = absurd h

next_low : (search : Search) (mode : Mode) → HasNext search mode → IsSearch search
    → BOUND ≤ bound_of mode → ⊥
next_low (UpTo last) (Bounded bound) h known high = omega (arith, h, known, high)
next_low (UpTo last) (BoundedOnce bound) h known high = omega (arith, h, known, high)
next_low (UpTo last) Reduced h known high = absurd h
next_low (UpTo last) ReducedOnce h known high = absurd h
next_low Unbounded mode h known high = absurd h

next_of : (once : Bool) (search : Search) (mode : Mode) → IsModeOf once search mode
    → HasNext search mode → IsModeOf once search (next_mode mode)
next_of once (UpTo last) (Bounded bound) of h = (of.0, omega (arith, h))
next_of once (UpTo last) (BoundedOnce bound) of h = (of.0, omega (arith, h))
next_of once (UpTo last) Reduced of h = absurd h
next_of once (UpTo last) ReducedOnce of h = absurd h
next_of once Unbounded mode of h = absurd h

pub next_less : (search : Search) (mode : Mode) → HasNext search mode
    → bounds_left search (next_mode mode) < bounds_left search mode
next_less (UpTo last) (Bounded bound) h = omega (arith, h)
next_less (UpTo last) (BoundedOnce bound) h = omega (arith, h)
next_less (UpTo last) Reduced h = absurd h
next_less (UpTo last) ReducedOnce h = absurd h
next_less Unbounded mode h = absurd h

-- a book may be raised whose search goes on
pub not_at_last : (i : ItemView) (o : Options) (b : BookView) → IsSearch o.search → IsAt i o b
    → HasNext o.search b.mode → IsAtLastBound b → ⊥
not_at_last i o b known at h (inl off) =
    let no : true ≡ false = sym (next_listed o.search b.mode h) ∙ sym at.is.lists ∙ off in cc
not_at_last i o b known at h (inr high) = next_low o.search b.mode h known high

-- where nothing is open and the search goes on, all of the bound was tried
pub whole_here : (b : BookView) (search : Search) → Keeps b → b.open_items ≡ []
    → GoesOn search b.mode b.finished → b.finished ≡ item_sum b.mode b.of
whole_here b search keeps closed on =
    closed_sum b keeps (clean_kept_all b keeps on.none) closed

-- and the bound is passed

passed_here : (once : Bool) (i : ItemView) (search : Search) (bound : ℕ) (sum : SummaryView)
    → sum ≡ item_sum (up_to once bound) i → GoesOn search (up_to once bound) sum
    → IsPassed once i bound
passed_here once i search bound sum is on = record {
  none = ap (λ (t : SummaryView). t.first_bad) (sym is) ∙ on.none;
  beyond = ap (λ (t : SummaryView). t.beyond) (sym is) ∙ on.beyond;
}

one_more_passed : (once : Bool) (i : ItemView) (bound : ℕ)
    → ((b : ℕ) → b < bound → IsPassed once i b) → IsPassed once i bound
    → (b : ℕ) → b < bound + 1 → IsPassed once i b
one_more_passed once i bound below here b l = elim (cases_lt b bound) [
  | inl lower ↦ below b lower
  | inr le ↦ subst (IsPassed once i) (omega (arith, l, le)) here
]

next_passed : (i : ItemView) (search : Search) (mode : Mode) (sum : SummaryView)
    → HasNext search mode → sum ≡ item_sum mode i → GoesOn search mode sum → HasPassed i mode
    → HasPassed i (next_mode mode)
next_passed i (UpTo last) (Bounded bound) sum h is on below =
    one_more_passed false i bound below (passed_here false i (UpTo last) bound sum is on)
next_passed i (UpTo last) (BoundedOnce bound) sum h is on below =
    one_more_passed true i bound below (passed_here true i (UpTo last) bound sum is on)
next_passed i (UpTo last) Reduced sum h is on below = absurd h
next_passed i (UpTo last) ReducedOnce sum h is on below = absurd h
next_passed i Unbounded mode sum h is on below = absurd h

-- the book at the next bound
pub raised_at : (old new b : BookView) (o : Options) → Keeps old → IsAt old.of o old
    → old.open_items ≡ [] → GoesOn o.search old.mode old.finished → Raises old new
    → b ≡ begun o.search new → IsAt old.of o b
raised_at old new b o keeps at closed on raises is =
    subst (λ (x : BookView). IsAt old.of o x)
    (sym (is ∙ ap (begun o.search) raises.book)) (record {
      is = record { of = refl; mode = refl; quick = at.is.quick; lists = refl };
      of = next_of o.symmetry o.search old.mode at.of next;
      passed = next_passed old.of o.search old.mode old.finished next
          (whole_here old o.search keeps closed on) on at.passed;
    })
  where
    next : HasNext o.search old.mode
    next = has_next o.symmetry o.search old.mode old.finished at.of on

-- the levels of the bounds below, and one more

one_more_from : (i : ItemView) (from : ℕ) (ls : List Level) (l : Level) → ArePassedFrom i from ls
    → IsPassedLevel i (from + length ls) l → ArePassedFrom i from (ls ++ l ∷ [])
one_more_from i from [] l h more = (subst (λ n. IsPassedLevel i n l) (omega arith) more, tt)
one_more_from i from (k ∷ ks) l h more = (
  h.0,
  one_more_from i (from + 1) ks l h.1
      (subst (λ n. IsPassedLevel i n l) (omega arith) more),
)

pub one_more_below : (i : ItemView) (bound : ℕ) (ls : List Level) (l : Level)
    → AreBelow i (Bounded bound) ls → IsPassedLevel i bound l
    → AreBelow i (Bounded (bound + 1)) (ls ++ l ∷ [])
one_more_below i bound ls l below more =
    let n = below.0 in
    let all = length-append ls (l ∷ []) in (
      omega (arith, all, n),
      one_more_from i 0 ls l below.1 (subst (λ k. IsPassedLevel i k l) (omega (arith, n)) more),
    )

next_below : (i : ItemView) (search : Search) (mode : Mode) (sum : SummaryView) (ls : List Level)
    → HasNext search mode → sum ≡ item_sum mode i → GoesOn search mode sum → AreBelow i mode ls
    → AreBelow i (next_mode mode) (ls ++ level_at mode sum None ∷ [])
next_below i (UpTo last) (Bounded bound) sum ls h is on below =
    one_more_below i bound ls (level_at (Bounded bound) sum None) below (record {
      at = refl;
      summary = is;
      cause = refl;
      passed = passed_here false i (UpTo last) bound sum is on;
    })
next_below i (UpTo last) (BoundedOnce bound) sum ls h is on below = absurd below
next_below i (UpTo last) Reduced sum ls h is on below = absurd h
next_below i (UpTo last) ReducedOnce sum ls h is on below = absurd h
next_below i Unbounded mode sum ls h is on below = absurd h

pub level_kept : (keeps : Bool) (b : BookView) (o : Options)
    (old new : Option (Vec Level Global)) → Keeps b → IsAt b.of o b → b.open_items ≡ []
    → GoesOn o.search b.mode b.finished → HasKept b old new → AreKept keeps b.of b.mode old
    → AreKept keeps b.of (next_mode b.mode) new
level_kept keeps b o (Some old) (Some new) book at closed on kept levels = (
  levels.0,
  subst (AreBelow b.of (next_mode b.mode)) (sym kept)
      (next_below b.of o.search b.mode b.finished old.items
      (has_next o.symmetry o.search b.mode b.finished at.of on) (whole_here b o.search book closed on) on
      levels.1),
)
level_kept keeps b o None None book at closed on kept levels = levels
level_kept keeps b o (Some old) None book at closed on kept levels = absurd kept
level_kept keeps b o None (Some new) book at closed on kept levels = absurd kept

-- a bound that an item's own prefix exceeds is passed

past_sum : (i : ItemView) (bound : ℕ) → IsItem i → bound < preemptions i.program i.prefix
    → item_sum (Bounded bound) i ≡ with_beyond nothing true
past_sum i bound h past =
    (λ k. with_beyond (sum_of i.program (past_none false i bound h past k))
    (past_beyond false i bound h past k))
    ∙ ap (λ (t : SummaryView). with_beyond t true) (sum_of_none i.program)

pub past_passed : (i : ItemView) (bound : ℕ) → IsItem i → bound < preemptions i.program i.prefix
    → IsPassed false i bound
past_passed i bound h past =
    let is = past_sum i bound h past in
    record {
      none = ap (λ (t : SummaryView). t.first_bad) is;
      beyond = ap (λ (t : SummaryView). t.beyond) is;
    }

pub past_level : (i : ItemView) (bound : ℕ) (l : Level) → IsItem i
    → bound < preemptions i.program i.prefix
    → l ≡ record { bound = Some bound; summary = with_beyond nothing true; cause = None }
    → IsPassedLevel i bound l
past_level i bound l h past is = record {
  at = ap (λ (x : Level). x.bound) is;
  summary = ap (λ (x : Level). x.summary) is ∙ sym (past_sum i bound h past);
  cause = ap (λ (x : Level). x.cause) is;
  passed = past_passed i bound h past;
}

-- where a search begins

pub first_of : (once : Bool) (search : Search) → IsModeOf once search (first_mode once search 0)
first_of false (UpTo last) = (refl, omega arith)
first_of true (UpTo last) = (refl, omega arith)
first_of false Unbounded = refl
first_of true Unbounded = refl

pub none_passed : (once : Bool) (i : ItemView) (search : Search)
    → HasPassed i (first_mode once search 0)
none_passed false i (UpTo last) = λ b l. absurd (omega (arith, l))
none_passed true i (UpTo last) = λ b l. absurd (omega (arith, l))
none_passed false i Unbounded = tt
none_passed true i Unbounded = tt

pub first_within : (i : ItemView) (search : Search) (k : ℕ) → k ≡ preemptions i.program i.prefix
    → IsWithin (first_mode false search k) i
first_within i (UpTo last) k is = omega (arith, is)
first_within i Unbounded k is = tt

pub first_passed : (i : ItemView) (search : Search) (k : ℕ) → IsItem i
    → k ≡ preemptions i.program i.prefix → HasPassed i (first_mode false search k)
first_passed i (UpTo last) k h is = λ b l. past_passed i b h (omega (arith, is, l))
first_passed i Unbounded k h is = tt

pub opened_at : (i : ItemView) (o : Options) (mode : Mode) (old b : BookView)
    → old ≡ opening_of i mode o.quick → IsModeOf o.symmetry o.search mode → HasPassed i mode
    → b ≡ begun o.search old → IsAt i o b
opened_at i o mode old b opened of passed is =
    subst (λ (x : BookView). IsAt i o x) (sym (is ∙ ap (begun o.search) opened)) (record {
      is = record { of = refl; mode = refl; quick = refl; lists = refl };
      of = of;
      passed = passed;
    })

-- levels that are kept, of an item and a mode that are known by other names
pub kept_on : (keeps : Bool) (i j : ItemView) (m n : Mode) (levels : Option (Vec Level Global))
    → j ≡ i → n ≡ m → AreKept keeps i m levels → AreKept keeps j n levels
kept_on keeps i j m n levels of at h =
    subst (λ (x : Mode). AreKept keeps j x levels) (sym at)
    (subst (λ (x : ItemView). AreKept keeps x m levels) (sym of) h)

-- what is known of a course where its search begins, and where it has ended

pub course_at : (i : ItemView) (o : Options) (keeps : Bool) (c : Course) → IsCourse i o keeps c
    → IsAt c.book.of c.options c.book
course_at i o keeps c h =
    subst (λ (x : Options). IsAt c.book.of x c.book) (sym h.options)
    (subst (λ (x : ItemView). IsAt x o c.book) (sym h.at.is.of) h.at)

pub course_itself : (i : ItemView) (o : Options) (keeps : Bool) (c : Course) → IsCourse i o keeps c
    → IsCourse c.book.of c.options keeps c
course_itself i o keeps c h = record {
  options = refl;
  at = course_at i o keeps c h;
  levels = kept_on keeps i c.book.of c.book.mode c.book.mode c.levels h.at.is.of refl h.levels;
}

pub ended_at : (i : ItemView) (o : Options) (keeps may : Bool) (c : Course) (r : Course × Ending)
    → IsCourse i o keeps c → HasEnded may c r → IsCourse i o keeps r.0 × Ends may o r.0.book r.1
ended_at i o keeps may c r h ended = (
  record {
    options = ended.options ∙ h.options;
    at = subst (λ (x : ItemView). IsAt x o r.0.book) h.at.is.of
        (subst (λ (x : Options). IsAt c.book.of x r.0.book) h.options ended.at);
    levels = subst (λ (x : ItemView). AreKept keeps x r.0.book.mode r.0.levels) h.at.is.of
        (ended.levels keeps (subst (λ (x : ItemView). AreKept keeps x c.book.mode c.levels)
        (sym h.at.is.of) h.levels));
  },
  subst (λ (x : Options). Ends may x r.0.book r.1) h.options ended.ends,
)

-- the same where the item is a program's root
pub report_ready : (p q : Program) (o : Options) (may : Bool) (c : Course) (r : Course × Ending)
    → q ≡ p → IsCourse (root_of p) o false c → HasEnded may c r
    → IsAt (root_of q) o r.0.book × Ends may o r.0.book r.1
report_ready p q o may c r same h ended =
    let both = ended_at (root_of p) o false may c r h ended in
    (subst (λ x. IsAt (root_of x) o r.0.book) (sym same) both.0.at, both.1)

-- who may have been stopped
pub ends_weaker : (stopped may : Bool) (o : Options) (b : BookView) (ending : Ending)
    → (stopped ≡ true → may ≡ true) → Ends stopped o b ending → Ends may o b ending
ends_weaker stopped may o b Whole h ends = ends
ends_weaker stopped may o b (Cut Limit) h ends = ends
ends_weaker stopped may o b (Cut Stopped) h ends = (h ends.0, ends.1)

-- the same options, but not quick, and with all threads
abbrev pub plainly : Options → Options
plainly o = record o { quick = false; symmetry = false }
