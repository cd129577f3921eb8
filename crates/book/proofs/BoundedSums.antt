-- How the program's summary bounds what a quick book found, and what a closed book tells.
use Rattle.std.proofs.Common.{◌≡◌, ℕ, ◌+◌, ◌≤◌, Bool, true, false, not, List, [], ◌∷◌, ◌++◌, Option, Some, None, refl, ap, ◌∙◌, sym, subst, arith, inl, inr}
use Rattle.std.specs.List.{filter, All, Contains}
use Rattle.std.proofs.lemmas.List.Elements.{All-nil, All-cons, All-head, All-tail}
use Rattle.guest_code.specs.Program.{Program}
use Rattle.semantics_schedules.specs.{Order.{precedes, lesser, least}, Schedules.begins_with}
use Rattle.semantics_schedules.proofs.LeastSchedule.{least_some}
use Rattle.semantics.specs.{View.is_bad, Waiters.In}
use Rattle.semantics.proofs.ListMembers.{in_contains, contains_in, from_filter}
use Rattle.walk_items.specs.Items.{ItemView, schedules_of, goes_beyond, item_sum, item_sums, is_under, whole}
use Rattle.walk_items.specs.{Walks.clear_of, declared.mode.Mode.Mode}
use Rattle.walk_items.proofs.{ListParts.all_left, Splits.{split_sum, split_kept, split_part}}
use Rattle.walk_items.proofs.WalkedItems.{HasItsOf, rest_has}
use Rattle.walk_summary.specs.Summaries.{SummaryView, IsSummary, IsBoundedBy, nothing, cut, greatest_count, end_kind, sum_of, join, sorted_views}
use Rattle.walk_summary.proofs.SumsJoin.{sum_kept, nothing_kept, join_kept, join_comm, join_assoc, join_nothing, join_first_bad, join_members}
use Rattle.book.specs.Books.{with_deferred, BookView, ComeAfter, IsThinned, Keeps, KeepsWhere, IsClosed, book_schedules}
use Rattle.book.proofs.Keeping.{closes}
use Rattle.book.proofs.Later.{begins_later, IsAfter, lesser_first, lesser_after, lesser_some, after_more}

all_in : {A : Type 0} (P : A → Type 0) (xs : List A) → ((x : A) → In xs x → P x) → All P xs
all_in P [] h = All-nil P
all_in P (x ∷ xs) h = All-cons P x xs (h x (inl refl)) (all_in P xs (λ y m. h y (inr m)))

-- one summary joined with another whose first bad schedule is no lesser
bounded_join : (x g : SummaryView) → IsSummary x → lesser x.first_bad g.first_bad ≡ x.first_bad →
    IsBoundedBy x (join x g)
unfolding join
bounded_join x g k h = record {
  first_bad = sym h;
  tried = (let a = k.tried in less x.tried g.tried a);
  failed = (let a = k.failed in less x.failed g.failed a);
  stuck = (let a = k.stuck in less x.stuck g.stuck a);
  ends = all_in (λ v. Contains (sorted_views (x.ends ++ g.ends)) v) x.ends
      (λ v m. (join_members x g v).1 (inl (in_contains x.ends v m)));
}
  where
    less : (n m : ℕ) → n ≤ greatest_count → n ≤ cut (n + m)
    less n m h = omega (arith, h)

item_sum_kept : (mode : Mode) (i : ItemView) → IsSummary (item_sum mode i)
item_sum_kept mode i = sum_kept i.program (schedules_of mode i) (goes_beyond mode i)

sums_kept : (mode : Mode) (is : List ItemView) → IsSummary (item_sums mode is)
sums_kept mode [] = nothing_kept 0 0 0 false [] refl refl refl refl
sums_kept mode (i ∷ is) =
    join_kept (item_sum mode i) (item_sums mode is) (item_sum_kept mode i) (sums_kept mode is)

sums-append : (mode : Mode) (xs ys : List ItemView) →
    item_sums mode (xs ++ ys) ≡ join (item_sums mode xs) (item_sums mode ys)
sums-append mode [] ys =
    sym (join_comm nothing (item_sums mode ys) ∙ join_nothing (item_sums mode ys)
    (sums_kept mode ys))
sums-append mode (x ∷ xs) ys =
    ap (join (item_sum mode x)) (sums-append mode xs ys)
    ∙ sym (join_assoc (item_sum mode x) (item_sums mode xs) (item_sums mode ys))

-- the bad ones of these schedules
abbrev bad_ones : Program → List (List ℕ) → List (List ℕ)
bad_ones p schedules = filter (λ v. is_bad (end_kind p v)) schedules

bad_of : (mode : Mode) (i : ItemView) →
    (item_sum mode i).first_bad ≡ least (bad_ones i.program (schedules_of mode i))
unfolding sum_of
bad_of mode i = refl

-- an item after a schedule has no bad one before it
item_after : (mode : Mode) (item i : ItemView) (w : List ℕ) → HasItsOf mode item i →
    precedes w i.prefix ≡ true → IsAfter w (item_sum mode i).first_bad
item_after mode item i w has h = subst (IsAfter w) (sym (bad_of mode i)) (go (least bad) refl)
  where
    bad : List (List ℕ)
    bad = bad_ones i.program (schedules_of mode i)

    member : (v : List ℕ) → least bad ≡ Some v → In (schedules_of mode i) v
    member v e =
        (from_filter (λ u. is_bad (end_kind i.program u)) (schedules_of mode i) v
        (contains_in bad v (least_some bad v e).0)).0

    go : (o : Option (List ℕ)) → least bad ≡ o → IsAfter w o
    go None e = tt
    go (Some v) e =
        begins_later w i.prefix v h
        (from_filter (begins_with i.prefix) (schedules_of mode item) v
        (subst (λ K. In K v) has (member v e))).1

sums_after : (mode : Mode) (item : ItemView) (w : List ℕ) (is : List ItemView) →
    All (HasItsOf mode item) is → ComeAfter w is → IsAfter w (item_sums mode is).first_bad
sums_after mode item w [] s h = tt
sums_after mode item w (i ∷ is) s h =
    subst (IsAfter w) (sym (join_first_bad (item_sum mode i) (item_sums mode is)))
    (lesser_after w (item_sum mode i).first_bad (item_sums mode is).first_bad
    (item_after mode item i w (All-head (HasItsOf mode item) i is s)
    (All-head (λ (i : ItemView). precedes w i.prefix ≡ true) i is h))
    (sums_after mode item w is (All-tail (HasItsOf mode item) i is s)
    (All-tail (λ (i : ItemView). precedes w i.prefix ≡ true) i is h)))

-- the whole is what the book knows joined with the sums of what it dropped
whole_is : (b : BookView) → (t : IsThinned b) →
    item_sum b.mode b.of ≡
    join (join b.finished (item_sums b.mode b.open_items)) (item_sums b.mode t.gone)
whole_is b t =
    split_sum b.mode b.of b.finished (t.gone ++ b.open_items) b.deferred
    t.split.within t.split.split
    ∙ (ap (join b.finished) (sums-append b.mode t.gone b.open_items ∙ join_comm dropped still_open)
    ∙ sym (join_assoc b.finished still_open dropped))
  where
    still_open : SummaryView
    still_open = item_sums b.mode b.open_items

    dropped : SummaryView
    dropped = item_sums b.mode t.gone

pub thinned_bounded : (b : BookView) → IsThinned b →
    IsBoundedBy (join b.finished (item_sums b.mode b.open_items)) (item_sum b.mode b.of)
thinned_bounded b t =
    let known = join b.finished (item_sums b.mode b.open_items) in
    let still_open = item_sums b.mode b.open_items in
    let dropped = item_sums b.mode t.gone in
    let l = lesser_some t.first still_open.first_bad in
    let is : known.first_bad ≡ Some l.0 =
    join_first_bad b.finished still_open ∙ (ap (λ o. lesser o still_open.first_bad) t.found ∙ l.1)
    in
    let has : All (HasItsOf b.mode b.of) t.gone =
    all_left (HasItsOf b.mode b.of) t.gone b.open_items
    (rest_has b.mode b.of b.finished (t.gone ++ b.open_items) b.deferred t.split.split)
    in
    let after : IsAfter l.0 dropped.first_bad =
    after_more t.first l.0 dropped.first_bad l.2
    (sums_after b.mode b.of t.first t.gone has t.later) in
    subst (IsBoundedBy known) (sym (whole_is b t))
    (bounded_join known dropped
    (join_kept b.finished still_open (finished_kept b t) (sums_kept b.mode b.open_items))
    (ap (λ o. lesser o dropped.first_bad) is
    ∙ (lesser_first l.0 dropped.first_bad after ∙ sym is)))
  where
    finished_kept : (b : BookView) → (t : IsThinned b) → IsSummary b.finished
    finished_kept b t =
        split_kept b.mode b.of b.finished (t.gone ++ b.open_items) b.deferred t.split.split

-- where nothing is still_open
closes_thinned : (b : BookView) → IsThinned b → b.open_items ≡ [] →
    IsBoundedBy b.finished (item_sum b.mode b.of)
closes_thinned b t none =
    subst (λ x. IsBoundedBy x (item_sum b.mode b.of))
    (ap (λ is. join b.finished (item_sums b.mode is)) none
    ∙ join_nothing b.finished
    (split_kept b.mode b.of b.finished (t.gone ++ b.open_items) b.deferred t.split.split))
    (thinned_bounded b t)

pub bounded_itself : (x : SummaryView) → IsBoundedBy x x
bounded_itself x = record {
  first_bad = refl;
  tried = omega arith;
  failed = omega arith;
  stuck = omega arith;
  ends = all_in (λ v. Contains x.ends v) x.ends (λ v m. in_contains x.ends v m);
}

bad_in : (p : Program) (L : List (List ℕ)) → least (bad_ones p L) ≡ (sum_of p L).first_bad
unfolding sum_of
bad_in p L = refl

-- the first bad schedule that was found is one of the book's
pub thinned_found : (b : BookView) → (t : IsThinned b) →
    Contains (book_schedules b) t.first × (is_bad (end_kind b.of.program t.first) ≡ true)
thinned_found b t =
    let m = from_filter (λ v. is_bad (end_kind b.of.program v)) tried t.first
    (contains_in (bad_ones b.of.program tried) t.first
    (least_some (bad_ones b.of.program tried) t.first is_first).0) in
    let n = from_filter (λ v. not (is_under (t.gone ++ b.open_items) v)) (book_schedules b) t.first
    m.0 in
    (in_contains (book_schedules b) t.first n.0, m.1)
  where
    tried : List (List ℕ)
    tried = clear_of (t.gone ++ b.open_items) (book_schedules b)

    is_first : least (bad_ones b.of.program tried) ≡ Some t.first
    is_first =
        bad_in b.of.program tried
        ∙ (ap (λ (x : SummaryView). x.first_bad) (sym (split_part b.mode b.of
        b.finished (t.gone ++ b.open_items) b.deferred t.split.within t.split.split))
        ∙ t.found)

-- what closed books tell

pub never_dropped : (b : BookView) → Keeps b → b.quick ≡ false → b.dropped ≡ false
never_dropped b h q = go b.dropped refl h.split
  where
    go : (d : Bool) → b.dropped ≡ d → KeepsWhere d (with_deferred b h.put) → b.dropped ≡ false
    go true e t = absurd (let c : true ≡ false = sym t.quick ∙ q in cc)
    go false e k = e

pub clean_kept_all : (b : BookView) → Keeps b → b.finished.first_bad ≡ None → b.dropped ≡ false
clean_kept_all b h n = go b.dropped refl h.split
  where
    go : (d : Bool) → b.dropped ≡ d → KeepsWhere d (with_deferred b h.put) → b.dropped ≡ false
    go true e t = absurd (let c : Some t.first ≡ None = sym t.found ∙ n in cc)
    go false e k = e

pub closed_sum : (b : BookView) → Keeps b → b.dropped ≡ false → b.open_items ≡ [] →
    b.finished ≡ item_sum b.mode b.of
closed_sum b h d none =
    let c : BookView = with_deferred b h.put in
    closes c (subst (λ (z : Bool). KeepsWhere z c) d h.split) none

pub closed_whole : (b : BookView) (p : Program) (mode : Mode) → Keeps b → b.dropped ≡ false →
    IsClosed b p mode → b.finished ≡ whole p mode
closed_whole b p mode h d k = closed_sum b h d k.0 ∙ (λ i. item_sum (k.1 i) (k.2 i))

pub closed_bounded : (b : BookView) (p : Program) (mode : Mode) → Keeps b → IsClosed b p mode →
    IsBoundedBy b.finished (whole p mode)
closed_bounded b p mode h k =
    subst (IsBoundedBy b.finished) (λ i. item_sum (k.1 i) (k.2 i)) (go b.dropped h.split)
  where
    c : BookView
    c = with_deferred b h.put

    go : (d : Bool) → KeepsWhere d c → IsBoundedBy b.finished (item_sum b.mode b.of)
    go true t = closes_thinned c t k.0
    go false s = subst (IsBoundedBy b.finished) (closes c s k.0) (bounded_itself b.finished)
