-- The steps of hidden threads at a bound: the thread of the last step isn't hidden, and some step
-- passes the bound where one of a thread that isn't hidden does.
use Rattle.std.proofs.Common.{◌≡◌, ◌≢◌, ℕ, zero, suc, ◌<◌, ◌≤◌, Bool, true, false, cond, not, ◌&&◌}
use Rattle.std.proofs.Common.{nat_eq, nat_lt, List, [], ◌∷◌, ◌++◌, length, Option, None, Some, refl}
use Rattle.std.proofs.Common.{ap, ◌∙◌, sym, subst, arith, inl, inr, ◌+◌}
use Rattle.std.specs.List.{filter}
use Rattle.std.proofs.lemmas.Bool.{false≢true, and_from, cases_order, Decides.nat_tests}
use Rattle.guest_code.specs.Program.{Program}
use Rattle.semantics.specs.{Ends.{enabled, is_empty}, Machine.{Snapshot, is_enabled}, Mask.one_if}
use Rattle.semantics.{specs.{Waiters.In, Work.up_from}, proofs.ListMembers.from_filter}
use Rattle.semantics_schedules.specs.EqualThreads.{StandsFor, is_hidden}
use Rattle.semantics_schedules.specs.Schedules.{preempts, preemptions, last_of}
use Rattle.semantics_schedules.proofs.{HiddenThreads.hidden_is, UnfoldingUnderPrefix.preemptions-push}
use Rattle.walk_items.specs.Children.{next_steps, is_hidden_after, is_kept_step, is_past_step}
use Rattle.walk_items.specs.Children.{kept_steps, past_steps, passes_bound}
use Rattle.walk_items.specs.{Items.{ItemView, state_of}}
use Rattle.walk_items.specs.declared.mode.Mode.TheVariants.{Bounded, BoundedOnce}
use Rattle.walk_items.proofs.Filters.{filter_twice}

pub last_unhidden : (p : Program) (s : Snapshot) (t : ℕ) → is_hidden p s (Some t) t ≡ false
last_unhidden p s t = go (is_hidden p s (Some t) t) refl
  where
    go : (b : Bool) → is_hidden p s (Some t) t ≡ b → is_hidden p s (Some t) t ≡ false
    go true e = absurd (((hidden_is p s (Some t) t).0 e).2.neither.1 refl)
    go false e = e

abbrev seen_at : ℕ → ItemView → ℕ → Bool
seen_at bound i t = not (is_hidden_after (BoundedOnce bound) i t)

-- where the thread of the last step alone may step within the bound
pub lone_once : (bound : ℕ) (i : ItemView) (t : ℕ) → last_of i.prefix ≡ Some t →
    kept_steps (Bounded bound) i ≡ t ∷ [] → kept_steps (BoundedOnce bound) i ≡ t ∷ []
lone_once bound i t last alone =
    sym (filter_twice (seen_at bound i) (is_kept_step (Bounded bound) i) (next_steps i))
    ∙ (ap (filter (seen_at bound i)) alone
    ∙ ap (λ b. cond (not b) (t ∷ []) [])
    (ap (λ o. is_hidden i.program (state_of i) o t) last
    ∙ last_unhidden i.program (state_of i) t))

pub past_once : (bound : ℕ) (i : ItemView) →
    past_steps (BoundedOnce bound) i ≡ filter (seen_at bound i) (past_steps (Bounded bound) i)
past_once bound i =
    sym (filter_twice (seen_at bound i) (is_past_step (Bounded bound) i) (next_steps i))

-- the first that passes is the least
first_least : (test : ℕ → Bool) (first n t : ℕ) (ts : List ℕ) →
    filter test (up_from first n) ≡ t ∷ ts → (u : ℕ) → first ≤ u → u < t → test u ≡ false
first_least test first zero t ts e = cc
first_least test first (suc n) t ts e =
    go (test first) refl e (λ k u from to. first_least test (suc first) n t ts k u from to)
  where
    go : (b : Bool) → test first ≡ b →
        cond b (first ∷ filter test (up_from (suc first) n)) (filter test (up_from (suc first) n))
        ≡ t ∷ ts →
        (filter test (up_from (suc first) n) ≡ t ∷ ts → (u : ℕ) → suc first ≤ u → u < t →
        test u ≡ false) →
        (u : ℕ) → first ≤ u → u < t → test u ≡ false
    go true on k f u from to =
        (let same : first ≡ t = cc in absurd (omega (arith, same, from, to)))
    go false off k f u from to = elim (cases_order first u) [
      | inl here ↦ ap test (sym here) ∙ off
      | inr (inl later) ↦ f k u (omega (arith, later)) to
      | inr (inr before) ↦ absurd (omega (arith, before, from))
    ]

-- a step preempts where one of a thread that it stands for does
preempts_alike : (p : Program) (s : Snapshot) (last : Option ℕ) (u t : ℕ) →
    StandsFor p s last u t → preempts p s last u ≡ preempts p s last t
preempts_alike p s None u t h = refl
preempts_alike p s (Some v) u t h =
    (λ j. is_enabled p s v && not ((other u h.neither.0 ∙ sym (other t h.neither.1)) j))
  where
    other : (w : ℕ) → Some v ≢ Some w → nat_eq v w ≡ false
    other w ne = go (nat_eq v w) refl
      where
        go : (b : Bool) → nat_eq v w ≡ b → nat_eq v w ≡ false
        go true e = (let same : v ≡ w = grind (arith, nat_tests, e) in
            absurd (ne (ap (λ (k : ℕ). Some k) same)))
        go false e = e

first_seen : (bound : ℕ) (i : ItemView) (t : ℕ) (ts : List ℕ) →
    past_steps (Bounded bound) i ≡ t ∷ ts → In (past_steps (Bounded bound) i) t →
    is_hidden_after (BoundedOnce bound) i t ≡ false
unfolding enabled
first_seen bound i t ts e m = go (is_hidden p s last t) refl
  where
    p : Program
    p = i.program

    s : Snapshot
    s = state_of i

    last : Option ℕ
    last = last_of i.prefix

    passes : ℕ → Bool
    passes u = is_past_step (Bounded bound) i u

    past : passes t ≡ true
    past = (from_filter passes (next_steps i) t m).1

    go : (b : Bool) → is_hidden p s last t ≡ b → is_hidden p s last t ≡ false
    go true h =
        let by = (hidden_is p s last t).0 h in
        let same : preemptions p (i.prefix ++ by.0 ∷ []) ≡ preemptions p (i.prefix ++ t ∷ []) =
        preemptions-push p i.prefix by.0
        ∙ (ap (λ b. preemptions p i.prefix + one_if b) (preempts_alike p s last by.0 t by.2)
        ∙ sym (preemptions-push p i.prefix t)) in
        let both : (is_enabled p s by.0 && passes by.0) ≡ true =
        and_from (is_enabled p s by.0) (passes by.0) by.1 (ap (nat_lt bound) same ∙ past) in
        let none : (is_enabled p s by.0 && passes by.0) ≡ false =
        first_least (λ u. is_enabled p s u && passes u) 0 (length s.threads) t ts
        (sym (filter_twice passes (is_enabled p s) (up_from 0 (length s.threads))) ∙ e) by.0
        (omega arith) by.2.lower in
        absurd (false≢true (sym none ∙ both))
    go false h = h

pub passes_once : (bound : ℕ) (i : ItemView) →
    passes_bound (BoundedOnce bound) i ≡ passes_bound (Bounded bound) i
passes_once bound i =
    ap (λ ts. not (is_empty ts)) (past_once bound i)
    ∙ go (past_steps (Bounded bound) i) refl
  where
    go : (ts : List ℕ) → past_steps (Bounded bound) i ≡ ts →
        not (is_empty (filter (seen_at bound i) ts)) ≡ not (is_empty ts)
    go [] e = refl
    go (t ∷ ts) e =
        ap (λ b. not (is_empty (cond (not b) (t ∷ filter (seen_at bound i) ts)
        (filter (seen_at bound i) ts))))
        (first_seen bound i t ts e (subst (λ L. In L t) (sym e) (inl refl)))
