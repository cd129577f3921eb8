-- The first bad place of a schedule.
use Rattle.std.proofs.Common.{◌≡◌, ℕ, zero, suc, ◌<◌, true, false, ◌&&◌, List, [], ◌∷◌, length, take, get_or, refl, ap, ◌∙◌, sym, arith}
use Rattle.std.proofs.lemmas.Bool.{false≢true}
use Rattle.guest_code.specs.Program.{Program}
use Rattle.semantics.specs.Machine.{Snapshot, is_enabled, step, start}
use Rattle.semantics_schedules.specs.Schedules.{state_after, runs}
use Rattle.semantics_schedules.proofs.UnfoldingUnderPrefix.{and_true}
use Rattle.replay.specs.Run.{IsFirstBad}

-- a schedule with a bad place after steps that run doesn't run
bad_fails : (p : Program) (s : Snapshot) (w : List ℕ) (k : ℕ) → k < length w →
    runs p s (take k w) ≡ true →
    is_enabled p (state_after p s (take k w)) (get_or w k 0) ≡ false → runs p s w ≡ false
bad_fails p s [] k inside h bad = absurd (omega (arith, inside))
bad_fails p s (t ∷ w) zero inside h bad = ap (λ b. b && runs p (step p s t) w) bad
bad_fails p s (t ∷ w) (suc k) inside h bad =
    let on = and_true (is_enabled p s t) (runs p (step p s t) (take k w)) h in
    ap (λ b. b && runs p (step p s t) w) on.0
    ∙ bad_fails p (step p s t) w k (omega (arith, inside)) on.1 bad

-- there is one such place
bad_once : (p : Program) (s : Snapshot) (w : List ℕ) (j k : ℕ) → j < length w →
    runs p s (take j w) ≡ true →
    is_enabled p (state_after p s (take j w)) (get_or w j 0) ≡ false → k < length w →
    runs p s (take k w) ≡ true →
    is_enabled p (state_after p s (take k w)) (get_or w k 0) ≡ false → j ≡ k
bad_once p s [] j k inside h bad inside2 h2 bad2 = absurd (omega (arith, inside))
bad_once p s (t ∷ w) zero zero inside h bad inside2 h2 bad2 = refl
bad_once p s (t ∷ w) zero (suc k) inside h bad inside2 h2 bad2 =
    absurd (false≢true (sym bad ∙ (and_true (is_enabled p s t) (runs p (step p s t) (take k w))
    h2).0))
bad_once p s (t ∷ w) (suc j) zero inside h bad inside2 h2 bad2 =
    absurd (false≢true (sym bad2 ∙ (and_true (is_enabled p s t) (runs p (step p s t) (take j w))
    h).0))
bad_once p s (t ∷ w) (suc j) (suc k) inside h bad inside2 h2 bad2 =
    let on = and_true (is_enabled p s t) (runs p (step p s t) (take j w)) h in
    let on2 = and_true (is_enabled p s t) (runs p (step p s t) (take k w)) h2 in
    let same = bad_once p (step p s t) w j k (omega (arith, inside)) on.1 bad
    (omega (arith, inside2)) on2.1 bad2 in
    ap suc same

pub first_bad_fails : (p : Program) (w : List ℕ) (k : ℕ) → IsFirstBad p w k →
    runs p (start p) w ≡ false
first_bad_fails p w k b = bad_fails p (start p) w k b.inside b.legal b.bad

pub first_bad_once : (p : Program) (w : List ℕ) (j k : ℕ) → IsFirstBad p w j → IsFirstBad p w k →
    j ≡ k
first_bad_once p w j k b e =
    bad_once p (start p) w j k b.inside b.legal b.bad e.inside e.legal e.bad
