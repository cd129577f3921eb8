-- What sleep sets leave has the ends and the least bad schedule of all.
use Rattle.std.proofs.Common.{◌≡◌, ℕ, zero, suc, ◌<◌, ◌⊎◌, inl, inr, Bool, true, false, cond, ◌&&◌, ◌||◌, nat_eq, nat_lt, List, [], ◌∷◌, length, map, Option, Some, None, refl, ap, ◌∙◌, sym, arith, subst}
use Rattle.std.specs.{Cmp.both_ways, List.{filter, list_any}}
use Rattle.std.proofs.lemmas.Bool.{cases_order, or_cases, and_parts, and_from, or_left, or_right}
use Rattle.std.proofs.lemmas.Bool.Decides.{nat_tests}
use Rattle.guest_code.specs.Program.{Program}
use Rattle.semantics.specs.Ends.{enabled, is_terminal, view_at}
use Rattle.semantics.specs.{Machine.{Snapshot, step, is_enabled}, View.{View, is_bad}, Waiters.In}
use Rattle.semantics.specs.Work.{up_from, work}
use Rattle.semantics.proofs.ListMembers.{in_filter, from_filter, in_map, from_map, in_flat_map, from_flat_map, in_up_from, fewer, in_contains, contains_in}
use Rattle.semantics.proofs.{TerminalStates.is_terminal-some, WorkFalls.{work-step, enabled_below}}
use Rattle.semantics_schedules.specs.Order.{is_complete, precedes, lesser, least, end_from, ends_badly}
use Rattle.semantics_schedules.specs.Represents.{Represents}
use Rattle.semantics_schedules.specs.Schedules.{state_after, before, complete_schedules}
use Rattle.semantics_schedules.specs.Sleep.{is_kept, reduced_schedules, none_asleep}
use Rattle.semantics_schedules.proofs.SleepSets.{lt_of, Before, Kept, hides_nobody, plain_law}
use Rattle.semantics_schedules.proofs.SleepSets.Before.{ends, lower, after_same}
use Rattle.semantics_schedules.proofs.SleepSets.Kept.{left, earlier, asleep_first}
use Rattle.semantics_schedules.proofs.UnfoldingUnderPrefix.{complete_schedules-more, complete_schedules-terminal}

-- the order of schedules

pub before_precedes : {v w : List ℕ} → Before v w → precedes v w ≡ true
before_precedes ends = refl
before_precedes (lower {t = t} {u = u} {v = v} {w = w} l) =
    or_left (nat_lt t u) (nat_eq t u && precedes v w) (grind (arith, nat_tests, l))
before_precedes (after_same {t = t} {v = v} {w = w} b) =
    or_right (nat_lt t t) (nat_eq t t && precedes v w)
    (and_from (nat_eq t t) (precedes v w) (grind (arith, nat_tests)) (before_precedes b))

pub eq_of : (t u : ℕ) → nat_eq t u ≡ true → t ≡ u
eq_of t u h = grind (arith, nat_tests, h)

pub precedes_before : (v w : List ℕ) → precedes v w ≡ true → Before v w
precedes_before [] [] h = cc
precedes_before (t ∷ v) [] h = cc
precedes_before [] (u ∷ w) h = ends
precedes_before (t ∷ v) (u ∷ w) h = go (or_cases (nat_lt t u) (nat_eq t u && precedes v w) h)
    (λ k. precedes_before v w k)
  where
    go : (nat_lt t u ≡ true) ⊎ ((nat_eq t u && precedes v w) ≡ true)
        → (precedes v w ≡ true → Before v w) → Before (t ∷ v) (u ∷ w)
    go (inl l) f = lower (lt_of t u l)
    go (inr k) f = let both = and_parts (nat_eq t u) (precedes v w) k in subst
        (λ x. Before (t ∷ v) (x ∷ w)) (eq_of t u both.0) (after_same (f both.1))

pub before_trans : {u v w : List ℕ} → Before u v → Before v w → Before u w
before_trans ends (lower l) = ends
before_trans ends (after_same b) = ends
before_trans (lower k) (lower l) = lower (omega arith)
before_trans (lower k) (after_same b) = lower k
before_trans (after_same a) (lower l) = lower l
before_trans (after_same a) (after_same b) = after_same (before_trans a b)

pub not_before : {v w : List ℕ} → Before v w → v ≡ w → ⊥
not_before ends e = cc
not_before (lower {t = t} {u = u} l) e = let f : t ≡ u = cc in absurd (omega arith)
not_before (after_same {v = v} {w = w} b) e = not_before b (let f : v ≡ w = cc in f)

pub data Ordered (v w : List ℕ) : Type 0 where
  first : Before v w → Ordered v w
  equal : v ≡ w → Ordered v w
  second : Before w v → Ordered v w

pub ordered : (v w : List ℕ) → Ordered v w
ordered [] [] = equal refl
ordered [] (u ∷ w) = first ends
ordered (t ∷ v) [] = second ends
ordered (t ∷ v) (u ∷ w) = go (cases_order t u) (ordered v w)
  where
    go : (t ≡ u) ⊎ ((t < u) ⊎ (u < t)) → Ordered v w → Ordered (t ∷ v) (u ∷ w)
    go (inr (inl l)) o = first (lower l)
    go (inr (inr l)) o = second (lower l)
    go (inl e) (first b) = first (subst (λ x. Before (t ∷ v) (x ∷ w)) e (after_same b))
    go (inl e) (equal f) = equal (λ i. e i ∷ f i)
    go (inl e) (second b) = second (subst (λ x. Before (x ∷ w) (t ∷ v)) e (after_same b))

-- a schedule is complete exactly where it is one of all

pub never_before_itself : (w : List ℕ) → precedes w w ≡ false
never_before_itself w = go (precedes w w) refl
  where
    go : (b : Bool) → precedes w w ≡ b → precedes w w ≡ false
    go true h = absurd (not_before (precedes_before w w h) refl)
    go false h = h

pub among : (p : Program) (s : Snapshot) (t : ℕ) → is_enabled p s t ≡ true → In (enabled p s) t
unfolding enabled
among p s t e = in_filter (is_enabled p s) (up_from 0 (length s.threads)) t
    (let l : t < length s.threads = enabled_below p s t e in in_up_from 0 (length s.threads) t
    (omega arith) (omega arith)) e

pub schedules_cut_at : (p : Program) (s : Snapshot) (w : List ℕ) → is_complete p s w ≡ true
    → In (complete_schedules p s) w
schedules_cut_at p s [] h = subst (λ L. In L []) (sym (complete_schedules-terminal p s h))
    (inl refl)
schedules_cut_at p s (t ∷ w) h =
    let on = and_parts (is_enabled p s t) (is_complete p (step p s t) w) h in
    let rest : In (complete_schedules p (step p s t)) w = schedules_cut_at p (step p s t) w on.1 in
    subst (λ L. In L (t ∷ w)) (sym (complete_schedules-more p s (is_terminal-some p s t on.0)))
    (in_flat_map (λ u. before u (complete_schedules p (step p s u))) (enabled p s) t (t ∷ w)
    (among p s t on.0) (in_map (λ v. t ∷ v) (complete_schedules p (step p s t)) w rest))

pub from_enabled : (p : Program) (s : Snapshot) (t : ℕ) → In (enabled p s) t
    → is_enabled p s t ≡ true
unfolding enabled
from_enabled p s t h = (from_filter (is_enabled p s) (up_from 0 (length s.threads)) t h).1

in_all_up_to : (n : ℕ) (p : Program) (s : Snapshot) (w : List ℕ) → work p s < n
    → In (complete_schedules p s) w → is_complete p s w ≡ true
in_all_up_to zero p s w less h = absurd (omega arith)
in_all_up_to (suc n) p s w less h = go (is_terminal p s) refl
    (λ t v l i. in_all_up_to n p (step p s t) v l i)
  where
    go : (b : Bool) → is_terminal p s ≡ b →
        ((t : ℕ) (v : List ℕ) → work p (step p s t) < n → In (complete_schedules p (step p s t)) v
        → is_complete p (step p s t) v ≡ true) → is_complete p s w ≡ true
    go true over f = end (subst (λ L. In L w) (complete_schedules-terminal p s over) h)
      where
        end : In ([] ∷ []) w → is_complete p s w ≡ true
        end (inl e) = subst (λ v. is_complete p s v ≡ true) e over
        end (inr k) = absurd k
    go false more f =
        let a : (t : ℕ) × In (enabled p s) t × In (before t (complete_schedules p (step p s t)))
        w = from_flat_map (λ t. before t (complete_schedules p (step p s t))) (enabled p s) w
        (subst (λ L. In L w) (complete_schedules-more p s more) h) in
        let b : (v : List ℕ) × In (complete_schedules p (step p s a.0)) v × (a.0 ∷ v ≡ w) =
        from_map (λ v. a.0 ∷ v) (complete_schedules p (step p s a.0)) w a.2 in
        let e : is_enabled p s a.0 ≡ true = from_enabled p s a.0 a.1 in
        let falls : work p (step p s a.0) < work p s = work-step p s a.0 e in
        subst (λ x. is_complete p s x ≡ true) b.2
        (and_from (is_enabled p s a.0) _ e (f a.0 b.0 (omega arith) b.1))

pub in_all : (p : Program) (s : Snapshot) (w : List ℕ) → In (complete_schedules p s) w
    → is_complete p s w ≡ true
in_all p s w h = in_all_up_to (suc (work p s)) p s w (omega arith) h

-- Of all complete schedules some are kept, and for each other an earlier one has its key: then for
-- each a kept one has its key, and does not come later.

-- it is kept, or an earlier one has its key
abbrev pub KeptOrEarlier : {K : Type 0} → Program → Snapshot → (List ℕ → Bool) → (List ℕ → K)
    → List ℕ → Type 0
KeptOrEarlier p s keeps key w = (keeps w ≡ true)
    ⊎ ((v : List ℕ) × (is_complete p s v ≡ true) × Before v w × (key v ≡ key w))

pub record Stays {K : Type 0} (p : Program) (s : Snapshot) (keeps : List ℕ → Bool)
    (key : List ℕ → K) (w : List ℕ) : Type 0 where
  pub by : List ℕ
  pub complete : is_complete p s by ≡ true
  pub kept : keeps by ≡ true
  pub same : key by ≡ key w
  pub order : (by ≡ w) ⊎ Before by w

rank : Program → Snapshot → List ℕ → ℕ
rank p s w = length (filter (λ v. precedes v w) (complete_schedules p s))

rank-less : (p : Program) (s : Snapshot) (v w : List ℕ) → is_complete p s v ≡ true → Before v w
    → rank p s v < rank p s w
unfolding rank
rank-less p s v w h b = fewer (λ x. precedes x v) (λ x. precedes x w)
    (λ x e. before_precedes (before_trans (precedes_before x v e) b)) (complete_schedules p s) v
    (schedules_cut_at p s v h) (never_before_itself v) (before_precedes b)

module _ {K : Type 0} (p : Program) (s : Snapshot) (keeps : List ℕ → Bool) (key : List ℕ → K)
    (met : (w : List ℕ) → is_complete p s w ≡ true → KeptOrEarlier p s keeps key w) where
  stays_up_to : (n : ℕ) (w : List ℕ) → rank p s w < n → is_complete p s w ≡ true
      → Stays p s keeps key w
  stays_up_to zero w less h = absurd (omega arith)
  stays_up_to (suc n) w less h = go (met w h) (λ v l c. stays_up_to n v l c)
    where
      go : KeptOrEarlier p s keeps key w → ((v : List ℕ) → rank p s v < n
          → is_complete p s v ≡ true → Stays p s keeps key v) → Stays p s keeps key w
      go (inl k) f = record { by = w; complete = h; kept = k; same = refl; order = inl refl }
      go (inr e) f =
          let b : Before e.0 w = e.2 in
          let l : rank p s e.0 < rank p s w = rank-less p s e.0 w e.1 b in
          let r : Stays p s keeps key e.0 = f e.0 (omega arith) e.1 in
          record {
            by = r.by;
            complete = r.complete;
            kept = r.kept;
            same = r.same ∙ e.3;
            order = inr (elim r.order [
              | inl i ↦ subst (λ x. Before x w) (sym i) b
              | inr a ↦
                  before_trans a b
            ]);
          }

  pub stays : (w : List ℕ) → is_complete p s w ≡ true → Stays p s keeps key w
  stays w h = stays_up_to (suc (rank p s w)) w (omega arith) h

-- what is left is of all

pub in_red : (p : Program) (s : Snapshot) (w : List ℕ) → In (reduced_schedules p s none_asleep) w
    → In (complete_schedules p s) w
unfolding reduced_schedules
in_red p s w h = (from_filter (is_kept p s none_asleep) (complete_schedules p s) w h).0

-- the least of a list

pub data IsLeast (L : List (List ℕ)) : Option (List ℕ) → Type 0 where
  none : L ≡ [] → IsLeast L None
  some : {m : List ℕ} → In L m → ((w : List ℕ) → In L w → Before w m → ⊥) → IsLeast L (Some m)

pub least_is : (L : List (List ℕ)) → IsLeast L (least L)
least_is [] = none refl
least_is (w ∷ ws) = go (least ws) (least_is ws)
  where
    go : (o : Option (List ℕ)) → IsLeast ws o → IsLeast (w ∷ ws) (lesser (Some w) o)
    go None (none e) = some (inl refl) (λ v i b. elim i [
      | inl f ↦ not_before b (sym f)
      | inr k ↦
          (let z : In [] v = subst (λ L. In L v) e k in absurd z)
    ])
    go (Some m) (some i low) = pick (precedes m w) refl
      where
        pick : (b : Bool) → precedes m w ≡ b → IsLeast (w ∷ ws) (cond b (Some m) (Some w))
        pick true h = some (inr i) (λ v j b. elim j [
          | inl f ↦ not_before (before_trans (precedes_before m w h)
              (subst (λ x. Before x m) (sym f) b)) refl
          | inr k ↦ low v k b
        ])
        pick false h = some (inl refl) (λ v j b. elim j
            [ inl f ↦ not_before b (sym f) | inr k ↦ above v k b (ordered m w) ])
          where
            above : (v : List ℕ) → In ws v → Before v w → Ordered m w → ⊥
            above v k b (first c) = (let e : precedes m w ≡ true = before_precedes c in cc)
            above v k b (equal e) = low v k (subst (Before v) (sym e) b)
            above v k b (second c) = low v k (before_trans b c)

same_least : (K L : List (List ℕ)) (a b : Option (List ℕ)) → ((w : List ℕ) → In L w → In K w)
    → ((w : List ℕ) → In K w → (v : List ℕ) × In L v × ((v ≡ w) ⊎ Before v w)) → IsLeast K a
    → IsLeast L b → a ≡ b
same_least K L None None sub low (none e) (none f) = refl
same_least K L None (Some m) sub low (none e) (some i h) = absurd (subst (λ X. In X m) e (sub m i))
same_least K L (Some m) None sub low (some i h) (none f) = let r : (v : List ℕ) × In L v
    × ((v ≡ m) ⊎ Before v m) = low m i in absurd (subst (λ X. In X r.0) f r.1)
same_least K L (Some m) (Some n) sub low (some i h) (some j k) = go (ordered m n) (low m i)
  where
    go : Ordered m n → (v : List ℕ) × In L v × ((v ≡ m) ⊎ Before v m) → Some m ≡ Some n
    go (equal e) r = ap (λ x. Some x) e
    go (second b) r = absurd (h n (sub n j) b)
    go (first b) r = absurd (k r.0 r.1 (elim r.2
        [ inl e ↦ subst (λ x. Before x n) (sym e) b | inr c ↦ before_trans c b ]))

-- a test that some end passes
module _ {A : Type 0} (test : A → Bool) where
  pub any_in : (xs : List A) → list_any test xs ≡ true → (x : A) × In xs x × (test x ≡ true)
  any_in [] h = cc
  any_in (x ∷ xs) h = go (test x) refl (λ k. any_in xs k) h
    where
      go : (b : Bool) → test x ≡ b → (list_any test xs ≡ true → (y : A) × In xs y
          × (test y ≡ true)) → (b || list_any test xs) ≡ true → (y : A) × In (x ∷ xs) y
          × (test y ≡ true)
      go true e f k = (x, inl refl, e)
      go false e f k = let r : (y : A) × In xs y × (test y ≡ true) = f k in (r.0, inr r.1, r.2)

  pub in_any : (xs : List A) (x : A) → In xs x → test x ≡ true → list_any test xs ≡ true
  in_any [] x i h = absurd i
  in_any (y ∷ ys) x (inl e) h = or_left (test y) (list_any test ys) (ap test e ∙ h)
  in_any (y ∷ ys) x (inr i) h = or_right (test y) (list_any test ys) (in_any ys x i h)

-- a part of all represents them, where for each of them one of the part has its end view, and does
-- not come later

abbrev pub MetBy : Program → Snapshot → List (List ℕ) → List ℕ → Type 0
MetBy p s few w =
    (v : List ℕ) × In few v × (end_from p s v ≡ end_from p s w) × ((v ≡ w) ⊎ Before v w)

pub represents : (p : Program) (s : Snapshot) (few all : List (List ℕ))
    → ((w : List ℕ) → In few w → In all w) → ((w : List ℕ) → In all w → MetBy p s few w)
    → Represents p s few all
represents p s few all own met = record {
  own = λ w c. in_contains all w (own w (contains_in few w c));
  least_bad = sym (same_least (filter (ends_badly p s) all) (filter (ends_badly p s) few) _ _
      (λ w h. among_all w (from_filter (ends_badly p s) few w h))
      (λ w h. among_few w (from_filter (ends_badly p s) all w h)) (least_is _) (least_is _));
  ends = λ x. (
    λ c.
        let a = from_map (end_from p s) few x (contains_in _ x c) in
        in_contains _ x (subst (In (map (end_from p s) all)) a.2
        (in_map (end_from p s) all a.0 (own a.0 a.1))),
    λ c.
        let a = from_map (end_from p s) all x (contains_in _ x c) in
        let m : MetBy p s few a.0 = met a.0 a.1 in
        in_contains _ x (subst (In (map (end_from p s) few)) (m.2 ∙ a.2)
        (in_map (end_from p s) few m.0 m.1)),
  );
}
  where
    among_all : (w : List ℕ) → In few w × (ends_badly p s w ≡ true)
        → In (filter (ends_badly p s) all) w
    among_all w h = in_filter (ends_badly p s) all w (own w h.0) h.1

    among_few : (w : List ℕ) → In all w × (ends_badly p s w ≡ true) → (v : List ℕ)
        × In (filter (ends_badly p s) few) v × ((v ≡ w) ⊎ Before v w)
    among_few w h =
        let m : MetBy p s few w = met w h.0 in
        let bad : ends_badly p s m.0 ≡ true = ap (λ (x : View). is_bad x.kind) m.2 ∙ h.1 in
        (m.0, in_filter (ends_badly p s) few m.0 m.1 bad, m.3)

-- then each test of the ends has one answer
pub same_answers : (p : Program) (s : Snapshot) (few all : List (List ℕ))
    → Represents p s few all → (test : View → Bool)
    → list_any test (map (end_from p s) all) ≡ list_any test (map (end_from p s) few)
same_answers p s few all r test = both_ways _ _
    (λ h. let a : (x : View) × In (map (end_from p s) all) x × (test x ≡ true) =
    any_in test (map (end_from p s) all) h in
    in_any test (map (end_from p s) few) a.0
    (contains_in _ a.0 ((r.ends a.0).1 (in_contains _ a.0 a.1))) a.2)
    (λ h. let a : (x : View) × In (map (end_from p s) few) x × (test x ≡ true) =
    any_in test (map (end_from p s) few) h in
    in_any test (map (end_from p s) all) a.0
    (contains_in _ a.0 ((r.ends a.0).0 (in_contains _ a.0 a.1))) a.2)

-- what sleep sets leave represents all

pub reduced_represent : (p : Program) (s : Snapshot)
    → Represents p s (reduced_schedules p s none_asleep) (complete_schedules p s)
unfolding reduced_schedules
reduced_represent p s = represents p s _ (complete_schedules p s) (in_red p s)
    (λ w h. left_for w (stays p s (is_kept p s none_asleep) (state_after p s) met w
    (in_all p s w h)))
  where
    met : (w : List ℕ) → is_complete p s w ≡ true
        → KeptOrEarlier p s (is_kept p s none_asleep) (state_after p s) w
    met w h = go (plain_law p s none_asleep w h)
      where
        go : Kept (λ x. x) p hides_nobody s None none_asleep w
            → KeptOrEarlier p s (is_kept p s none_asleep) (state_after p s) w
        go (left l m) = inl l
        go (earlier v c b e) = inr (v, c, b, e)
        go (asleep_first t v c z e) = cc

    left_for : (w : List ℕ) → Stays p s (is_kept p s none_asleep) (state_after p s) w
        → MetBy p s (filter (is_kept p s none_asleep) (complete_schedules p s)) w
    left_for w r = (
      r.by,
      in_filter (is_kept p s none_asleep) (complete_schedules p s) r.by
          (schedules_cut_at p s r.by r.complete) r.kept,
      ap view_at r.same,
      r.order,
    )

pub least_bad : (p : Program) (s : Snapshot)
    → least (filter (ends_badly p s) (complete_schedules p s))
    ≡ least (filter (ends_badly p s) (reduced_schedules p s none_asleep))
least_bad p s = sym (reduced_represent p s).least_bad

pub ends_pass : (p : Program) (s : Snapshot) (test : View → Bool)
    → list_any test (map (end_from p s) (complete_schedules p s))
    ≡ list_any test (map (end_from p s) (reduced_schedules p s none_asleep))
ends_pass p s test = same_answers p s _ _ (reduced_represent p s) test
