-- Sums of lists of schedules: a list followed by another has the join of their sums, and what each
-- sum keeps.
use Rattle.std.proofs.Common.{◌≡◌, ◌↔◌, ◌⊎◌, ℕ, ◌+◌, ◌≤◌, ◌<◌, inl, inr, ⊎_elim, Bool, true, false, cond, ◌||◌, nat_lt, List, [], ◌∷◌, ◌++◌, length, map, Option, Some, None, is_some, refl, ap, ◌∙◌, sym, subst, arith, length-append}
use Rattle.std.specs.List.{filter, count_by, list_any, Contains, Sorted.IsStrictlySortedBy}
use Rattle.std.proofs.Math.Bool.{or_comm, or_assoc, or-false, or-true}
use Rattle.std.proofs.lemmas.{Bool.cases_lt, Bool.Decides.nat_tests, List.{map-append, append-nil}}
use Rattle.std.proofs.lemmas.List.{Elements.filter-append, Sums.{sum_by-append, length-filter}}
use Rattle.semantics.specs.{View.{View, view_cmp, is_bad}, declared.view.Kind.Kind}
use Rattle.semantics.specs.declared.view.Kind.TheVariants.{Done, Failed, Stuck}
use Rattle.guest_code.specs.Program.{Program}
use Rattle.semantics_schedules.specs.Order.{end_of, lesser, least, precedes}
use Rattle.walk_summary.specs.Summaries.{SummaryView, IsSummary, nothing, cut, greatest_count, is_failed, is_stuck, end_kind, with_view, sorted_views, sum_of, join, with_beyond, added, counted_if, first_bad_with}
use Rattle.walk_summary.proofs.LesserSchedules.{lesser_assoc, lesser_comm, lesser_none, least-append}
use Rattle.walk_summary.proofs.SortedViews.{sorted_views-append, sorted_views-comm, sorted_views-assoc, sorted_views-sorted, sorted_already, with_view-sorted, sorted_views-members, sorted_views-either}

cut_add : (a b : ℕ) → cut (a + b) ≡ cut (cut a + cut b)
cut_add a b = omega arith

count_by-append : {A : Type 0} (test : A → Bool) (xs ys : List A) →
    count_by test (xs ++ ys) ≡ count_by test xs + count_by test ys
count_by-append test xs ys = sum_by-append _ xs ys

cut_count : (test : List ℕ → Bool) (K L : List (List ℕ)) →
    cut (count_by test (K ++ L)) ≡ cut (cut (count_by test K) + cut (count_by test L))
cut_count test K L = ap cut (count_by-append test K L) ∙ cut_add (count_by test K) (count_by test L)

-- the sum of a list followed by another is the join of their sums
pub sum_of-append : (p : Program) (K L : List (List ℕ)) →
    sum_of p (K ++ L) ≡ join (sum_of p K) (sum_of p L)
unfolding sum_of join
sum_of-append p K L = λ i. record {
  tried = (ap cut (length-append K L) ∙ cut_add (length K) (length L)) i;
  failed = cut_count (λ w. is_failed (end_kind p w)) K L i;
  stuck = cut_count (λ w. is_stuck (end_kind p w)) K L i;
  beyond = false;
  first_bad = (ap least (filter-append (λ w. is_bad (end_kind p w)) K L)
      ∙ least-append (filter (λ w. is_bad (end_kind p w)) K)
      (filter (λ w. is_bad (end_kind p w)) L)) i;
  ends = (ap sorted_views (map-append (end_of p) K L)
      ∙ sorted_views-append (map (end_of p) K) (map (end_of p) L)) i;
}

pub sum_of-beyond : (p : Program) (L : List (List ℕ)) → sum_of p L ≡ with_beyond (sum_of p L) false
unfolding sum_of
sum_of-beyond p L = refl

pub join_comm : (a b : SummaryView) → join a b ≡ join b a
unfolding join
join_comm a b = λ i. record {
  tried = (let e : cut (a.tried + b.tried) ≡ cut (b.tried + a.tried) = omega arith in e) i;
  failed = (let e : cut (a.failed + b.failed) ≡ cut (b.failed + a.failed) = omega arith in e) i;
  stuck = (let e : cut (a.stuck + b.stuck) ≡ cut (b.stuck + a.stuck) = omega arith in e) i;
  beyond = or_comm a.beyond b.beyond i;
  first_bad = lesser_comm a.first_bad b.first_bad i;
  ends = sorted_views-comm a.ends b.ends i;
}

cut_assoc : (a b c : ℕ) → cut (cut (a + b) + c) ≡ cut (a + cut (b + c))
cut_assoc a b c = omega arith

pub join_assoc : (a b c : SummaryView) → join (join a b) c ≡ join a (join b c)
unfolding join
join_assoc a b c = λ i. record {
  tried = cut_assoc a.tried b.tried c.tried i;
  failed = cut_assoc a.failed b.failed c.failed i;
  stuck = cut_assoc a.stuck b.stuck c.stuck i;
  beyond = or_assoc a.beyond b.beyond c.beyond i;
  first_bad = lesser_assoc a.first_bad b.first_bad c.first_bad i;
  ends = sorted_views-assoc a.ends b.ends c.ends i;
}

cut_already : (n : ℕ) → n ≤ greatest_count → cut (n + 0) ≡ n
cut_already n h = omega arith

pub sum_of_none : (p : Program) → sum_of p [] ≡ nothing
unfolding sum_of
sum_of_none p = refl

pub join_nothing : (a : SummaryView) → IsSummary a → join a nothing ≡ a
unfolding join
join_nothing a h = λ i. record {
  tried = cut_already a.tried h.tried i;
  failed = cut_already a.failed h.failed i;
  stuck = cut_already a.stuck h.stuck i;
  beyond = or-false a.beyond i;
  first_bad = lesser_none a.first_bad i;
  ends = (ap sorted_views (append-nil a.ends) ∙ sorted_already a.ends h.ends) i;
}

-- what every summary keeps

small : (n : ℕ) → cut n ≤ greatest_count
small n = omega arith

some_least : (test : List ℕ → Bool) (L : List (List ℕ)) →
    is_some (least (filter test L)) ≡ list_any test L
some_least test [] = refl
some_least test (w ∷ L) =
    elim (test w) as
    (λ b. is_some (least (cond b (w ∷ filter test L) (filter test L))) ≡ (b || list_any test L)) [
      | true ↦ some_lesser w (least (filter test L))
      | false ↦ some_least test L
    ]
  where
    some_lesser : (w : List ℕ) (o : Option (List ℕ)) → is_some (lesser (Some w) o) ≡ true
    some_lesser w None = refl
    some_lesser w (Some v) =
        elim (precedes v w) as
        (λ b. is_some (cond b (Some v) (Some w)) ≡ true) [ true ↦ refl | false ↦ refl ]

some_counted : (test : List ℕ → Bool) (L : List (List ℕ)) →
    nat_lt 0 (count_by test L) ≡ list_any test L
some_counted test [] = refl
some_counted test (w ∷ L) = ap (nat_lt 0) (count_by-append test (w ∷ []) L)
    ∙ first (test w) (some_counted test L)
  where
    first : (b : Bool) → nat_lt 0 (count_by test L) ≡ list_any test L →
        nat_lt 0 ((0 + cond b 1 0) + count_by test L) ≡ (b || list_any test L)
    first true h = grind (arith, nat_tests)
    first false h = let e : (0 + 0) + count_by test L ≡ count_by test L = omega arith in
        ap (nat_lt 0) e ∙ h

cut_some : (n : ℕ) → nat_lt 0 (cut n) ≡ nat_lt 0 n
cut_some n = elim (cases_lt 0 n) [
  | inl l ↦ (let a : nat_lt 0 n ≡ true = grind (arith, nat_tests, l) in
      let m : 0 < cut n = omega arith in
      let b : nat_lt 0 (cut n) ≡ true = grind (arith, nat_tests, m) in b ∙ sym a)
  | inr g ↦ (let a : nat_lt 0 n ≡ false = grind (arith, nat_tests, g) in
      let m : cut n ≤ 0 = omega arith in
      let b : nat_lt 0 (cut n) ≡ false = grind (arith, nat_tests, m) in b ∙ sym a)
]

or_shuffle : (a b c d : Bool) → ((a || b) || (c || d)) ≡ ((a || c) || (b || d))
or_shuffle true b c d = refl
or_shuffle false true true d = refl
or_shuffle false true false d = refl
or_shuffle false false c d = refl

-- a test that holds where one of two does
any_either : {A : Type 0} (test f g : A → Bool) (xs : List A) → ((x : A) → test x ≡ (f x || g x)) →
    list_any test xs ≡ (list_any f xs || list_any g xs)
any_either test f g [] h = refl
any_either test f g (x ∷ xs) h =
    (λ i. h x i || any_either test f g xs h i)
    ∙ or_shuffle (f x) (g x) (list_any f xs) (list_any g xs)

bad_is : (k : Kind) → is_bad k ≡ (is_failed k || is_stuck k)
bad_is Done = refl
bad_is Failed = refl
bad_is Stuck = refl

pub sum_kept : (p : Program) (L : List (List ℕ)) (b : Bool) → IsSummary (with_beyond (sum_of p L) b)
unfolding sum_of
sum_kept p L b = record {
  tried = small (length L);
  failed = small (count_by (λ w. is_failed (end_kind p w)) L);
  stuck = small (count_by (λ w. is_stuck (end_kind p w)) L);
  ends = sorted_views-sorted (map (end_of p) L);
  first_bad = some_least (λ w. is_bad (end_kind p w)) L
      ∙ (any_either (λ w. is_bad (end_kind p w)) (λ w. is_failed (end_kind p w))
      (λ w. is_stuck (end_kind p w)) L (λ w. bad_is (end_kind p w))
      ∙ (λ i. sym (cut_some (count_by (λ w. is_failed (end_kind p w)) L)
      ∙ some_counted (λ w. is_failed (end_kind p w)) L) i || sym
      (cut_some (count_by (λ w. is_stuck (end_kind p w)) L)
      ∙ some_counted (λ w. is_stuck (end_kind p w)) L) i));
}

-- a summary of no schedule keeps it too
pub nothing_kept : (tried failed stuck : ℕ) (beyond : Bool) (ends : List View) →
    tried ≡ 0 → failed ≡ 0 → stuck ≡ 0 → ends ≡ [] →
    IsSummary (record {
      tried = tried;
      failed = failed;
      stuck = stuck;
      beyond = beyond;
      first_bad = None;
      ends = ends;
    })
nothing_kept tried failed stuck beyond ends e f g h = record {
  tried = omega (arith, e);
  failed = omega (arith, f);
  stuck = omega (arith, g);
  ends = subst (IsStrictlySortedBy view_cmp) (sym h) (sorted_views-sorted []);
  first_bad = λ k. nat_lt 0 (sym f k) || nat_lt 0 (sym g k);
}

-- and so does one whose end views were taken out, or none of them
pub left_kept : (t : SummaryView) (left : List View) → IsSummary t →
    (left ≡ []) ⊎ (left ≡ t.ends) → IsSummary (record t { ends = left })
left_kept t left h is = record {
  tried = h.tried;
  failed = h.failed;
  stuck = h.stuck;
  ends = ⊎_elim
      (λ e. subst (IsStrictlySortedBy view_cmp) (sym e) (sorted_views-sorted []))
      (λ e. subst (IsStrictlySortedBy view_cmp) (sym e) h.ends) is;
  first_bad = h.first_bad;
}

-- and one that has no bad schedule any more
pub none_bad_kept : (t : SummaryView) (failed stuck : ℕ) (first : Option (List ℕ)) →
    IsSummary t → failed ≡ 0 → stuck ≡ 0 → first ≡ None →
    IsSummary (record t { failed = failed; stuck = stuck; first_bad = first })
none_bad_kept t failed stuck first h f g e = record {
  tried = h.tried;
  failed = omega (arith, f);
  stuck = omega (arith, g);
  ends = h.ends;
  first_bad = ap is_some e ∙ (λ k. nat_lt 0 (sym f k) || nat_lt 0 (sym g k));
}

lesser_some : (a b : Option (List ℕ)) → is_some (lesser a b) ≡ (is_some a || is_some b)
lesser_some None b = refl
lesser_some (Some v) None = refl
lesser_some (Some v) (Some w) =
    elim (precedes w v) as
    (λ b. is_some (cond b (Some w) (Some v)) ≡ true) [ true ↦ refl | false ↦ refl ]

both_some : (m n : ℕ) → nat_lt 0 (cut (m + n)) ≡ (nat_lt 0 m || nat_lt 0 n)
both_some m n = cut_some (m + n) ∙ elim (cases_lt 0 m) [
  | inl l ↦ (let a : nat_lt 0 m ≡ true = grind (arith, nat_tests, l) in
      let k : 0 < m + n = omega arith in
      let b : nat_lt 0 (m + n) ≡ true = grind (arith, nat_tests, k) in rw a b)
  | inr g ↦ (let a : nat_lt 0 m ≡ false = grind (arith, nat_tests, g) in
      let e : m + n ≡ n = omega arith in rw a (ap (nat_lt 0) e))
]

pub join_kept : (a b : SummaryView) → IsSummary a → IsSummary b → IsSummary (join a b)
unfolding join
join_kept a b h k = record {
  tried = small (a.tried + b.tried);
  failed = small (a.failed + b.failed);
  stuck = small (a.stuck + b.stuck);
  ends = sorted_views-sorted (a.ends ++ b.ends);
  first_bad = lesser_some a.first_bad b.first_bad
      ∙ ((λ i. h.first_bad i || k.first_bad i)
      ∙ (or_shuffle (nat_lt 0 a.failed) (nat_lt 0 a.stuck) (nat_lt 0 b.failed) (nat_lt 0 b.stuck)
      ∙ (λ i. sym (both_some a.failed b.failed) i || sym (both_some a.stuck b.stuck) i)));
}

pub added_kept : (a : SummaryView) (w : List ℕ) (v : View) → IsSummary a → IsSummary (added a w v)
unfolding added
added_kept a w v h = record {
  tried = small (a.tried + 1);
  failed = counted (is_failed v.kind) a.failed h.failed;
  stuck = counted (is_stuck v.kind) a.stuck h.stuck;
  ends = with_view-sorted v a.ends h.ends;
  first_bad = bad v.kind;
}
  where
    counted : (b : Bool) (n : ℕ) → n ≤ greatest_count → cond b (cut (n + 1)) n ≤ greatest_count
    counted true n k = small (n + 1)
    counted false n k = k

    lesser_there : (o : Option (List ℕ)) → is_some (lesser o (Some w)) ≡ true
    lesser_there o = lesser_some o (Some w) ∙ or-true (is_some o)

    more : (n : ℕ) → nat_lt 0 (cut (n + 1)) ≡ true
    more n = both_some n 1 ∙ or-true (nat_lt 0 n)

    bad : (k : Kind) →
        is_some (cond (is_bad k) (lesser a.first_bad (Some w)) a.first_bad)
        ≡ (nat_lt 0 (cond (is_failed k) (cut (a.failed + 1)) a.failed) || nat_lt 0
        (cond (is_stuck k) (cut (a.stuck + 1)) a.stuck))
    bad Done = h.first_bad
    bad Failed = lesser_there a.first_bad ∙ (λ i. sym (more a.failed) i || nat_lt 0 a.stuck)
    bad Stuck = lesser_there a.first_bad
        ∙ (sym (or-true (nat_lt 0 a.failed)) ∙ (λ i. nat_lt 0 a.failed || sym (more a.stuck) i))

-- the parts of a summary with one more schedule
pub parts_kept : (a : SummaryView) (w : List ℕ) (v : View) (tried failed stuck : ℕ)
    (first_bad : Option (List ℕ)) (ends : List View) →
    IsSummary a →
    tried ≡ cut (a.tried + 1) →
    failed ≡ counted_if (is_failed v.kind) a.failed →
    stuck ≡ counted_if (is_stuck v.kind) a.stuck →
    first_bad ≡ first_bad_with (is_bad v.kind) a.first_bad w →
    ends ≡ with_view v a.ends →
    IsSummary (record {
      tried = tried;
      failed = failed;
      stuck = stuck;
      beyond = a.beyond;
      first_bad = first_bad;
      ends = ends;
    })
unfolding added
parts_kept a w v tried failed stuck first_bad ends h e f g k l =
    subst IsSummary
    (λ i. record {
      tried = sym e i;
      failed = sym f i;
      stuck = sym g i;
      beyond = a.beyond;
      first_bad = sym k i;
      ends = sym l i;
    }) (added_kept a w v h)

beyond_kept : (a : SummaryView) (b : Bool) → IsSummary a → IsSummary (with_beyond a b)
beyond_kept a b h =
    record {
      tried = h.tried;
      failed = h.failed;
      stuck = h.stuck;
      ends = h.ends;
      first_bad = h.first_bad;
    }

-- the parts of a join
pub parts_joined : (a b : SummaryView) (tried failed stuck : ℕ) (beyond : Bool)
    (first_bad : Option (List ℕ)) (ends : List View) →
    IsSummary a →
    IsSummary b →
    tried ≡ cut (a.tried + b.tried) →
    failed ≡ cut (a.failed + b.failed) →
    stuck ≡ cut (a.stuck + b.stuck) →
    first_bad ≡ lesser a.first_bad b.first_bad →
    ends ≡ sorted_views (a.ends ++ b.ends) →
    IsSummary (record {
      tried = tried;
      failed = failed;
      stuck = stuck;
      beyond = beyond;
      first_bad = first_bad;
      ends = ends;
    })
unfolding join
parts_joined a b tried failed stuck beyond first_bad ends h k e f g l m =
    subst IsSummary
    (λ i. record {
      tried = sym e i;
      failed = sym f i;
      stuck = sym g i;
      beyond = beyond;
      first_bad = sym l i;
      ends = sym m i;
    }) (beyond_kept (join a b) beyond (join_kept a b h k))

-- the sum of one schedule

one_of : (p : Program) (w : List ℕ) (k : Kind) → end_kind p w ≡ k → sum_of p (w ∷ []) ≡ record {
  tried = 1;
  failed = cond (is_failed k) 1 0;
  stuck = cond (is_stuck k) 1 0;
  beyond = false;
  first_bad = cond (is_bad k) (Some w) None;
  ends = end_of p w ∷ [];
}
unfolding sum_of
one_of p w k e = λ i. record {
  tried = 1;
  failed = (ap (λ (h : Kind). cut (0 + cond (is_failed h) 1 0)) e ∙ count (is_failed k)) i;
  stuck = (ap (λ (h : Kind). cut (0 + cond (is_stuck h) 1 0)) e ∙ count (is_stuck k)) i;
  beyond = false;
  first_bad = (ap (λ (h : Kind). least (cond (is_bad h) (w ∷ []) [])) e ∙ first (is_bad k)) i;
  ends = end_of p w ∷ [];
}
  where
    count : (b : Bool) → cut (0 + cond b 1 0) ≡ cond b 1 0
    count true = refl
    count false = refl

    first : (b : Bool) → least (cond b (w ∷ []) []) ≡ cond b (Some w) None
    first true = refl
    first false = refl

pub one_done : (p : Program) (w : List ℕ) → end_kind p w ≡ Done →
    sum_of p (w ∷ []) ≡ record nothing { tried = 1; ends = end_of p w ∷ [] }
one_done p w e = one_of p w Done e

pub one_failed : (p : Program) (w : List ℕ) → end_kind p w ≡ Failed →
    sum_of p (w ∷ [])
    ≡ record nothing { tried = 1; failed = 1; first_bad = Some w; ends = end_of p w ∷ [] }
one_failed p w e = one_of p w Failed e

pub one_stuck : (p : Program) (w : List ℕ) → end_kind p w ≡ Stuck →
    sum_of p (w ∷ [])
    ≡ record nothing { tried = 1; stuck = 1; first_bad = Some w; ends = end_of p w ∷ [] }
one_stuck p w e = one_of p w Stuck e

-- counts

pub tried_is : (p : Program) (L : List (List ℕ)) → (sum_of p L).tried ≡ cut (length L)
unfolding sum_of
tried_is p L = refl

pub failed_is : (p : Program) (L : List (List ℕ)) →
    (sum_of p L).failed ≡ cut (length (filter (λ w. is_failed (end_kind p w)) L))
unfolding sum_of
failed_is p L = ap cut (sym (length-filter (λ w. is_failed (end_kind p w)) L))

pub stuck_is : (p : Program) (L : List (List ℕ)) →
    (sum_of p L).stuck ≡ cut (length (filter (λ w. is_stuck (end_kind p w)) L))
unfolding sum_of
stuck_is p L = ap cut (sym (length-filter (λ w. is_stuck (end_kind p w)) L))

pub cut_below : (n : ℕ) → n ≤ greatest_count → cut n ≡ n
cut_below n h = omega arith

pub cut_above : (n : ℕ) → greatest_count ≤ n → cut n ≡ greatest_count
cut_above n h = omega arith

pub join_tried : (a b : SummaryView) → a.tried + b.tried ≤ greatest_count →
    (join a b).tried ≡ a.tried + b.tried
unfolding join
join_tried a b h = cut_below (a.tried + b.tried) h

pub join_failed : (a b : SummaryView) → a.failed + b.failed ≤ greatest_count →
    (join a b).failed ≡ a.failed + b.failed
unfolding join
join_failed a b h = cut_below (a.failed + b.failed) h

pub join_stuck : (a b : SummaryView) → a.stuck + b.stuck ≤ greatest_count →
    (join a b).stuck ≡ a.stuck + b.stuck
unfolding join
join_stuck a b h = cut_below (a.stuck + b.stuck) h

-- the other parts of a sum and of a join

pub sum_sorted : (p : Program) (L : List (List ℕ)) → IsStrictlySortedBy view_cmp (sum_of p L).ends
unfolding sum_of
sum_sorted p L = sorted_views-sorted (map (end_of p) L)

pub sum_members : (p : Program) (L : List (List ℕ)) (v : View) →
    Contains (sum_of p L).ends v ↔ Contains (map (end_of p) L) v
unfolding sum_of
sum_members p L v = sorted_views-members (map (end_of p) L) v

pub join_beyond : (a b : SummaryView) → (join a b).beyond ≡ (a.beyond || b.beyond)
unfolding join
join_beyond a b = refl

pub join_first_bad : (a b : SummaryView) → (join a b).first_bad ≡ lesser a.first_bad b.first_bad
unfolding join
join_first_bad a b = refl

pub join_sorted : (a b : SummaryView) → IsStrictlySortedBy view_cmp (join a b).ends
unfolding join
join_sorted a b = sorted_views-sorted (a.ends ++ b.ends)

pub join_members : (a b : SummaryView) (v : View) →
    Contains (join a b).ends v ↔ (Contains a.ends v ⊎ Contains b.ends v)
unfolding join
join_members a b v = sorted_views-either a.ends b.ends v
