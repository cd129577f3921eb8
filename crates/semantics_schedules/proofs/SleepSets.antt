-- Independent steps commute, and what sleep sets leave out is met earlier.
use Rattle.std.proofs.Common.{◌≡◌, ℕ, ◌<◌, Bool, true, false, not, cond, ◌&&◌, ◌||◌, nat_lt, List, [], ◌∷◌, Option, Some, None, refl, ap, ◌∙◌, sym, arith, ◌++◌, length, inl, inr}
use Rattle.std.{specs.List.{filter, flat_map}, proofs.lemmas.Bool.{and_from, false≢true}}
use Rattle.std.proofs.lemmas.{Bool.Decides.nat_tests, List.Elements.filter-append}
use Rattle.guest_code.specs.Program.{Program}
use Rattle.semantics.specs.{Ends.{enabled, is_terminal}, Machine.{Snapshot, step, is_enabled}}
use Rattle.semantics.{specs.Waiters.In, specs.Work.up_from, proofs.ListMembers.from_filter}
use Rattle.semantics_schedules.specs.{EqualThreads.{Hiding, is_unhidden}, Order.is_complete}
use Rattle.semantics_schedules.specs.Schedules.{state_after, before, complete_schedules}
use Rattle.semantics_schedules.specs.Sleep.{independent, next_sleep_set, is_kept, reduced_schedules}
use Rattle.semantics_schedules.proofs.IndependentStepsCommute.{still_enabled, commute, independent-swap}
use Rattle.semantics_schedules.proofs.UnfoldingUnderPrefix.{and_true, complete_schedules-more, complete_schedules-terminal}

-- one schedule is before another
pub data Before : List ℕ → List ℕ → Type 0 where
  ends : {u : ℕ} {w : List ℕ} → Before [] (u ∷ w)
  lower : {t u : ℕ} {v w : List ℕ} → t < u → Before (t ∷ v) (u ∷ w)
  after_same : {t : ℕ} {v w : List ℕ} → Before v w → Before (t ∷ v) (t ∷ w)

pub lt_of : (t u : ℕ) → nat_lt t u ≡ true → t < u
lt_of t u h = grind (arith, nat_tests, h)

-- what is hidden is met earlier: for a schedule that begins with a step of a hidden thread there is
-- an earlier one whose last state has the same key
abbrev pub MeetsHidden : {K : Type 0} → (Snapshot → K) → Program → Hiding → Type 0
MeetsHidden key p H = (s : Snapshot) (last : Option ℕ) (t : ℕ) (w : List ℕ) → H s last t ≡ true
    → is_complete p s (t ∷ w) ≡ true → (v : List ℕ) × (is_complete p s v ≡ true)
    × Before v (t ∷ w) × (key (state_after p s v) ≡ key (state_after p s (t ∷ w)))

-- what the law says of a complete schedule: it is left, and no step of it is hidden, or the last
-- state of an earlier one has its key, or that of one that begins with a sleeping thread
pub data Kept {K : Type 0} (key : Snapshot → K) (p : Program) (H : Hiding) (s : Snapshot)
    (last : Option ℕ) (Z : ℕ → Bool) (w : List ℕ) : Type 0 where
  left : is_kept p s Z w ≡ true → is_unhidden H p s last w ≡ true → Kept key p H s last Z w
  earlier : (v : List ℕ) → is_complete p s v ≡ true → Before v w
      → key (state_after p s v) ≡ key (state_after p s w) → Kept key p H s last Z w
  asleep_first : (t : ℕ) (v : List ℕ) → is_complete p s (t ∷ v) ≡ true → Z t ≡ true
      → key (state_after p s (t ∷ v)) ≡ key (state_after p s w) → Kept key p H s last Z w

module _ {K : Type 0} (key : Snapshot → K) (p : Program) (H : Hiding)
    (meets : MeetsHidden key p H) where
  pub sleep_law : (s : Snapshot) (last : Option ℕ) (Z : ℕ → Bool) (w : List ℕ)
      → is_complete p s w ≡ true → Kept key p H s last Z w
  sleep_law s last Z [] h = left h refl
  sleep_law s last Z (t ∷ w) h =
      at_thread (λ c. sleep_law (step p s t) (Some t) (next_sleep_set p s Z t) w c) (Z t) refl
      (H s last t) refl
    where
      on : (is_enabled p s t ≡ true) × (is_complete p (step p s t) w ≡ true)
      on = and_true (is_enabled p s t) (is_complete p (step p s t) w) h

      goes : Z t ≡ false → H s last t ≡ false
          → Kept key p H (step p s t) (Some t) (next_sleep_set p s Z t) w
          → Kept key p H s last Z (t ∷ w)
      goes z y (left l m) = left (and_from (is_enabled p s t) _ on.0
          (and_from (not (Z t)) _ (ap not z) l)) (and_from (not (H s last t)) _ (ap not y) m)
      goes z y (earlier v c b e) = earlier (t ∷ v) (and_from (is_enabled p s t) _ on.0 c)
          (after_same b) e
      goes z y (asleep_first v u c zv e) =
          let q = and_true (is_enabled p s v) ((Z v || nat_lt v t) && independent p s t v) zv in
          let r = and_true (Z v || nat_lt v t) (independent p s t v) q.1 in
          let swap : step p (step p s t) v ≡ step p (step p s v) t =
          commute p s t v on.0 q.0 r.1 in
          let k = and_true (is_enabled p (step p s t) v)
          (is_complete p (step p (step p s t) v) u) c in
          let complete : is_complete p s (v ∷ t ∷ u) ≡ true =
          and_from (is_enabled p s v) _ q.0 (and_from (is_enabled p (step p s v) t) _
          (still_enabled p s v t q.0 on.0 (independent-swap p s v t ∙ r.1)) (ap (λ y. is_complete p y u) (sym swap) ∙ k.1)) in
          let same : key (state_after p s (v ∷ t ∷ u)) ≡ key (state_after p s (t ∷ w)) =
          ap (λ y. key (state_after p y u)) (sym swap) ∙ e in
          first_or (Z v) refl r.0 complete same
        where
          first_or : (b : Bool) → Z v ≡ b → (b || nat_lt v t) ≡ true
              → is_complete p s (v ∷ t ∷ u) ≡ true
              → key (state_after p s (v ∷ t ∷ u)) ≡ key (state_after p s (t ∷ w))
              → Kept key p H s last Z (t ∷ w)
          first_or true z r c s2 = asleep_first v (t ∷ u) c z s2
          first_or false z r c s2 = earlier (v ∷ t ∷ u) c (lower (lt_of v t r)) s2

      at_thread : (is_complete p (step p s t) w ≡ true
          → Kept key p H (step p s t) (Some t) (next_sleep_set p s Z t) w) → (b : Bool)
          → Z t ≡ b → (d : Bool) → H s last t ≡ d → Kept key p H s last Z (t ∷ w)
      at_thread f true z d y = asleep_first t w h z refl
      at_thread f false z true y = let m = meets s last t w y h in earlier m.0 m.1 m.2 m.3
      at_thread f false z false y = goes z y (f on.1)

-- where nobody is hidden the states are the same
abbrev pub hides_nobody : Hiding
hides_nobody = λ s last t. false

pub plain_law : (p : Program) (s : Snapshot) (Z : ℕ → Bool) (w : List ℕ)
    → is_complete p s w ≡ true → Kept (λ x. x) p hides_nobody s None Z w
plain_law p s Z w h =
    sleep_law (λ x. x) p hides_nobody (λ r last t v e. absurd (false≢true e)) s None Z w h

either : (b : Bool) (L : List (List ℕ)) → L ≡ cond b L L
either true L = refl
either false L = refl

-- the schedules that pass a test, by their first steps: those of the steps that it keeps, each before
-- the schedules that pass what it asks of the rest
pub first_steps : (test : List ℕ → Bool) (keeps : ℕ → Bool) (rest : ℕ → List ℕ → Bool)
    (L : ℕ → List (List ℕ)) (ts : List ℕ)
    → ((t : ℕ) → In ts t → (w : List ℕ) → test (t ∷ w) ≡ (keeps t && rest t w))
    → filter test (flat_map (λ t. before t (L t)) ts)
    ≡ flat_map (λ t. before t (filter (rest t) (L t))) (filter keeps ts)
first_steps test keeps rest L [] parts = refl
first_steps test keeps rest L (t ∷ ts) parts =
    filter-append test (before t (L t)) (flat_map (λ u. before u (L u)) ts)
    ∙ ((λ i. one (L t) i ++ first_steps test keeps rest L ts (λ u m. parts u (inr m)) i)
    ∙ pick (keeps t))
  where
    cases : (a b : Bool) (w : List ℕ) (M : List (List ℕ))
        → cond (a && b) ((t ∷ w) ∷ cond a (before t M) []) (cond a (before t M) [])
        ≡ cond a (before t (cond b (w ∷ M) M)) []
    cases true true w M = refl
    cases true false w M = refl
    cases false b w M = refl

    one : (M : List (List ℕ))
        → filter test (before t M) ≡ cond (keeps t) (before t (filter (rest t) M)) []
    one [] = either (keeps t) []
    one (w ∷ M) =
        (λ i. cond (parts t (inl refl) w i) ((t ∷ w) ∷ one M i) (one M i))
        ∙ cases (keeps t) (rest t w) w (filter (rest t) M)

    pick : (b : Bool) → cond b (before t (filter (rest t) (L t))) []
        ++ flat_map (λ u. before u (filter (rest u) (L u))) (filter keeps ts)
        ≡ flat_map (λ u. before u (filter (rest u) (L u)))
        (cond b (t ∷ filter keeps ts) (filter keeps ts))
    pick true = refl
    pick false = refl

-- the law of the reduced schedules, where some thread is enabled: the threads that don't sleep,
-- rising, each before what is left after it
pub reduced_schedules-more : (p : Program) (s : Snapshot) (Z : ℕ → Bool) → is_terminal p s ≡ false
    → reduced_schedules p s Z ≡ flat_map (λ t. before t
    (reduced_schedules p (step p s t) (next_sleep_set p s Z t)))
    (filter (λ t. not (Z t)) (enabled p s))
unfolding reduced_schedules enabled
reduced_schedules-more p s Z more =
    ap (filter (is_kept p s Z)) (complete_schedules-more p s more)
    ∙ first_steps (is_kept p s Z) (λ t. not (Z t))
    (λ t. is_kept p (step p s t) (next_sleep_set p s Z t))
    (λ t. complete_schedules p (step p s t)) (enabled p s)
    (λ t m w. ap (λ b. b && (not (Z t) && is_kept p (step p s t) (next_sleep_set p s Z t) w))
    (from_filter (is_enabled p s) (up_from 0 (length s.threads)) t m).1)

pub reduced_schedules-terminal : (p : Program) (s : Snapshot) (Z : ℕ → Bool)
    → is_terminal p s ≡ true → reduced_schedules p s Z ≡ [] ∷ []
unfolding reduced_schedules
reduced_schedules-terminal p s Z over = ap (filter (is_kept p s Z))
    (complete_schedules-terminal p s over) ∙ ap (λ b. cond b ([] ∷ []) []) over
