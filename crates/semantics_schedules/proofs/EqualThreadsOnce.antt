-- Of equal threads only the lowest has to be tried: the schedules that are left represent all.
use Rattle.std.proofs.Common.{◌≡◌, ◌⊎◌, inl, inr, ℕ, ◌+◌, Bool, true, false, not, ◌&&◌, nat_le, nat_lt, List, [], ◌∷◌, Option, Some, None, refl, ap, ◌∙◌, sym}
use Rattle.std.specs.{Cmp.both_ways, List.{filter, flat_map, list_any}}
use Rattle.std.proofs.lemmas.Bool.{and_parts, and_from}
use Rattle.guest_code.specs.Program.{Program}
use Rattle.semantics.specs.Ends.{enabled, is_terminal, view_at}
use Rattle.semantics.specs.{Machine.{Snapshot, step, is_enabled}, Mask.one_if, View.View}
use Rattle.semantics.specs.Waiters.{In}
use Rattle.semantics.proofs.ListMembers.{in_contains, contains_in, in_filter, from_filter}
use Rattle.semantics_schedules.specs.EqualThreads.{Hiding, HidesEqual, HidesOthers, EndsEarlier, EndsEarlierWithin, EndsAsleep, hides_equal, is_hidden, is_unhidden, complete_once, reduced_once}
use Rattle.semantics_schedules.specs.Order.{is_complete, end_from}
use Rattle.semantics_schedules.specs.Represents.{Represents, RepresentsWithin}
use Rattle.semantics_schedules.specs.Schedules.{before, complete_schedules, preempts, preemptions_from}
use Rattle.semantics_schedules.specs.Sleep.{is_kept, next_sleep_set, reduced_schedules, none_asleep}
use Rattle.semantics_schedules.proofs.HiddenThreads.{hidden_is}
use Rattle.semantics_schedules.proofs.ReducedSchedules.{before_precedes, schedules_cut_at, in_all, any_in, in_any, in_red, KeptOrEarlier, Stays, stays, MetBy, represents, reduced_represent}
use Rattle.semantics_schedules.proofs.SleepSets.{MeetsHidden, Kept, sleep_law, first_steps, reduced_schedules-more, reduced_schedules-terminal}
use Rattle.semantics_schedules.proofs.SleepSets.Before.{after_same}
use Rattle.semantics_schedules.proofs.SleepSets.Kept.{left, earlier, asleep_first}
use Rattle.semantics_schedules.proofs.{StatedLaws.stated, SwappedThreads.{Earlier, met_earlier}}
use Rattle.semantics_schedules.proofs.UnfoldingUnderPrefix.{complete_schedules-more, complete_schedules-terminal}

-- any hiding of threads for which others stand

equal_meets : (p : Program) (H : Hiding) → HidesEqual p H → MeetsHidden view_at p H
equal_meets p H hides s last t w y c =
    let m = hides s last t y in
    let e : Earlier p s None (t ∷ w) = met_earlier p s None m.0 t w m.1 c in
    (e.0, e.1, e.2, e.3)

pub hidden_met : (p : Program) (H : Hiding) → HidesEqual p H → (s : Snapshot)
    (last : Option ℕ) (Z : ℕ → Bool) (w : List ℕ) → is_complete p s w ≡ true
    → ((is_kept p s Z w ≡ true) × (is_unhidden H p s last w ≡ true))
    ⊎ (EndsEarlier p s w ⊎ EndsAsleep p s Z w)
hidden_met p H hides s last Z w h = stated view_at p H s last Z w
    (sleep_law view_at p H (equal_meets p H hides) s last Z w h)

module _ (p : Program) (H : Hiding) (hides : HidesOthers p H) where
  within_law : (s : Snapshot) (last : Option ℕ) (w : List ℕ) → is_complete p s w ≡ true
      → (is_unhidden H p s last w ≡ true) ⊎ Earlier p s last w
  within_law s last [] h = inl refl
  within_law s last (t ∷ w) h =
      let on = and_parts (is_enabled p s t) (is_complete p (step p s t) w) h in
      go on.0 (H s last t) refl (within_law (step p s t) (Some t) w on.1)
    where
      go : is_enabled p s t ≡ true → (b : Bool) → H s last t ≡ b
          → (is_unhidden H p (step p s t) (Some t) w ≡ true) ⊎ Earlier p (step p s t) (Some t) w
          → (is_unhidden H p s last (t ∷ w) ≡ true) ⊎ Earlier p s last (t ∷ w)
      go e true y r = let m = hides s last t y in inr (met_earlier p s last m.0 t w m.1 h)
      go e false y (inl k) = inl (and_from (not (H s last t)) _ (ap not y) k)
      go e false y (inr m) = inr (
        t ∷ m.0,
        and_from (is_enabled p s t) _ e m.1,
        after_same m.2,
        m.3,
        ap (λ n. one_if (preempts p s last t) + n) m.4,
      )

  pub hidden_met_within : (s : Snapshot) (last : Option ℕ) (w : List ℕ)
      → is_complete p s w ≡ true
      → (is_unhidden H p s last w ≡ true) ⊎ EndsEarlierWithin p s last w
  hidden_met_within s last w h = elim (within_law s last w h) [
    | inl k ↦ inl k
    | inr m ↦ inr (m.0, m.1, before_precedes m.2, m.3, m.4)
  ]

-- equal threads are hidden so

hidden_equal : (p : Program) → HidesEqual p (hides_equal p)
hidden_equal p s last t h = let m = (hidden_is p s None t).0 h in (m.0, m.2)

hidden_others : (p : Program) → HidesOthers p (is_hidden p)
hidden_others p s last t h = let m = (hidden_is p s last t).0 h in (m.0, m.2)

-- without a bound

abbrev unhidden : Program → Snapshot → List ℕ → Bool
unhidden p s w = is_unhidden (hides_equal p) p s None w

abbrev kept_once : Program → Snapshot → List ℕ → Bool
kept_once p s w = is_kept p s none_asleep w && unhidden p s w

kept_or_earlier : (p : Program) (s : Snapshot) (w : List ℕ) → is_complete p s w ≡ true
    → KeptOrEarlier p s (kept_once p s) (end_from p s) w
kept_or_earlier p s w h = go (sleep_law view_at p (hides_equal p)
    (equal_meets p (hides_equal p) (hidden_equal p)) s None none_asleep w h)
  where
    go : Kept view_at p (hides_equal p) s None none_asleep w
        → KeptOrEarlier p s (kept_once p s) (end_from p s) w
    go (left l m) = inl (and_from (is_kept p s none_asleep w) (unhidden p s w) l m)
    go (earlier v c b e) = inr (v, c, b, e)
    go (asleep_first t v c z e) = cc

once_in_reduced : (p : Program) (s : Snapshot) (w : List ℕ) → In (reduced_once p s none_asleep) w
    → In (reduced_schedules p s none_asleep) w
unfolding reduced_once
once_in_reduced p s w h =
    (from_filter (unhidden p s) (reduced_schedules p s none_asleep) w h).0

once_represents : (p : Program) (s : Snapshot)
    → Represents p s (reduced_once p s none_asleep) (complete_schedules p s)
unfolding reduced_once reduced_schedules
once_represents p s = represents p s (reduced_once p s none_asleep) (complete_schedules p s)
    (λ w h. in_red p s w (once_in_reduced p s w h))
    (λ w h. by w (stays p s (kept_once p s) (end_from p s) (kept_or_earlier p s) w
    (in_all p s w h)))
  where
    by : (w : List ℕ) → Stays p s (kept_once p s) (end_from p s) w
        → MetBy p s (reduced_once p s none_asleep) w
    by w r =
        let k = and_parts (is_kept p s none_asleep r.by) (unhidden p s r.by) r.kept in
        let kept = in_filter (is_kept p s none_asleep) (complete_schedules p s) r.by
        (schedules_cut_at p s r.by r.complete) k.0 in (
          r.by,
          in_filter (unhidden p s) (reduced_schedules p s none_asleep) r.by kept k.1,
          r.same,
          r.order,
        )

pub once_represents_reduced : (p : Program) (s : Snapshot)
    → Represents p s (reduced_once p s none_asleep) (reduced_schedules p s none_asleep)
once_represents_reduced p s =
    let once = once_represents p s in
    let reduced = reduced_represent p s in record {
      own = λ w c. in_contains _ w (once_in_reduced p s w (contains_in _ w c));
      least_bad = once.least_bad ∙ sym reduced.least_bad;
      ends = λ x. (
        λ c. (reduced.ends x).1 ((once.ends x).0 c),
        λ c. (once.ends x).1 ((reduced.ends x).0 c),
      );
    }

-- within a bound

module _ (p : Program) (s : Snapshot) (last : Option ℕ) where
  abbrev open_to : List ℕ → Bool
  open_to w = is_unhidden (is_hidden p) p s last w

  abbrev seen : List ℕ → View × ℕ
  seen w = (end_from p s w, preemptions_from p s last w)

  abbrev fits : ℕ → List ℕ → Bool
  fits bound w = nat_le (preemptions_from p s last w) bound

  abbrev passes : ℕ → List ℕ → Bool
  passes bound w = nat_lt bound (preemptions_from p s last w)

  stays_within : (w : List ℕ) → is_complete p s w ≡ true → Stays p s open_to seen w
  stays_within = stays p s open_to seen (λ w h.
      elim (within_law p (is_hidden p) (hidden_others p) s last w h) [
        | inl k ↦ inl k
        | inr m ↦ inr (m.0, m.1, m.2, λ i. (m.3 i, m.4 i))
      ])

  once_in_all : (w : List ℕ) → In (complete_once p s last) w → In (complete_schedules p s) w
  unfolding complete_once
  once_in_all w h = (from_filter open_to (complete_schedules p s) w h).0

  in_once : (w : List ℕ) (r : Stays p s open_to seen w) → In (complete_once p s last) r.by
  unfolding complete_once
  in_once w r = in_filter open_to (complete_schedules p s) r.by
      (schedules_cut_at p s r.by r.complete) r.kept

  pub once_represents_within :
      RepresentsWithin p s last (complete_once p s last) (complete_schedules p s)
  once_represents_within = record {
    within = λ bound. represents p s _ _ (own bound) (met bound);
    exceeds = λ bound. both_ways _ _ (fewer_exceed bound) (all_exceed bound);
  }
    where
      own : (bound : ℕ) (w : List ℕ) → In (filter (fits bound) (complete_once p s last)) w
          → In (filter (fits bound) (complete_schedules p s)) w
      own bound w h =
          let a = from_filter (fits bound) (complete_once p s last) w h in
          in_filter (fits bound) (complete_schedules p s) w (once_in_all w a.0) a.1

      met : (bound : ℕ) (w : List ℕ) → In (filter (fits bound) (complete_schedules p s)) w
          → MetBy p s (filter (fits bound) (complete_once p s last)) w
      met bound w h =
          let a = from_filter (fits bound) (complete_schedules p s) w h in
          let r : Stays p s open_to seen w = stays_within w (in_all p s w a.0) in
          let same : fits bound r.by ≡ true =
          ap (λ (k : View × ℕ). nat_le k.1 bound) r.same ∙ a.1 in (
            r.by,
            in_filter (fits bound) (complete_once p s last) r.by (in_once w r) same,
            ap (λ (k : View × ℕ). k.0) r.same,
            r.order,
          )

      fewer_exceed : (bound : ℕ) → list_any (passes bound) (complete_once p s last) ≡ true
          → list_any (passes bound) (complete_schedules p s) ≡ true
      fewer_exceed bound h =
          let a = any_in (passes bound) (complete_once p s last) h in
          in_any (passes bound) (complete_schedules p s) a.0 (once_in_all a.0 a.1) a.2

      all_exceed : (bound : ℕ) → list_any (passes bound) (complete_schedules p s) ≡ true
          → list_any (passes bound) (complete_once p s last) ≡ true
      all_exceed bound h =
          let a = any_in (passes bound) (complete_schedules p s) h in
          let r : Stays p s open_to seen a.0 = stays_within a.0 (in_all p s a.0 a.1) in
          in_any (passes bound) (complete_once p s last) r.by (in_once a.0 r)
          (ap (λ (k : View × ℕ). nat_lt bound k.1) r.same ∙ a.2)

-- what is left, by its first steps

pub complete_once-terminal : (p : Program) (s : Snapshot) (last : Option ℕ)
    → is_terminal p s ≡ true → complete_once p s last ≡ [] ∷ []
unfolding complete_once
complete_once-terminal p s last over =
    ap (filter (open_to p s last)) (complete_schedules-terminal p s over)

pub complete_once-more : (p : Program) (s : Snapshot) (last : Option ℕ) → is_terminal p s ≡ false
    → complete_once p s last ≡ flat_map (λ t. before t (complete_once p (step p s t) (Some t)))
    (filter (λ t. not (is_hidden p s last t)) (enabled p s))
unfolding complete_once
complete_once-more p s last more =
    ap (filter (open_to p s last)) (complete_schedules-more p s more)
    ∙ first_steps (open_to p s last) (λ t. not (is_hidden p s last t))
    (λ t. open_to p (step p s t) (Some t)) (λ t. complete_schedules p (step p s t))
    (enabled p s) (λ t m w. refl)

pub reduced_once-terminal : (p : Program) (s : Snapshot) (Z : ℕ → Bool) → is_terminal p s ≡ true
    → reduced_once p s Z ≡ [] ∷ []
unfolding reduced_once
reduced_once-terminal p s Z over =
    ap (filter (unhidden p s)) (reduced_schedules-terminal p s Z over)

-- who took the last step makes no difference
spares_nobody : (p : Program) (s : Snapshot) (last : Option ℕ) (w : List ℕ)
    → is_unhidden (hides_equal p) p s last w ≡ unhidden p s w
spares_nobody p s last [] = refl
spares_nobody p s last (t ∷ w) = refl

pub reduced_once-more : (p : Program) (s : Snapshot) (Z : ℕ → Bool) → is_terminal p s ≡ false
    → reduced_once p s Z ≡ flat_map (λ t. before t
    (reduced_once p (step p s t) (next_sleep_set p s Z t)))
    (filter (λ t. not (is_hidden p s None t)) (filter (λ t. not (Z t)) (enabled p s)))
unfolding reduced_once
reduced_once-more p s Z more =
    ap (filter (unhidden p s)) (reduced_schedules-more p s Z more)
    ∙ first_steps (unhidden p s) (λ t. not (is_hidden p s None t))
    (λ t. unhidden p (step p s t))
    (λ t. reduced_schedules p (step p s t) (next_sleep_set p s Z t))
    (filter (λ t. not (Z t)) (enabled p s))
    (λ t m w. ap (λ b. not (is_hidden p s None t) && b)
    (spares_nobody p (step p s t) (Some t) w))
