-- What is passed over is blank, and what is blank is passed over.
use Rattle.std.specs.Prelude.{nat_le, ◌==◌}
use Rattle.std.proofs.Common.{◌≡◌, ℕ, ◌<◌, Bool, true, false, cond, not, List, [], ◌∷◌, ◌++◌, Option, Some, None, refl, sym, ap, subst, ◌∙◌, ◌≤◌, arith}
use Rattle.std.{specs.List.AllByRecursion, proofs.lemmas.Bool.{leb-false, le-leb, lt-leb}}
use Rattle.guest_syntax.specs.{Place.{past, after, Follows}, Tokens.{is_space, blank}}
use Rattle.guest_syntax.specs.declared.place.Pos.{Pos}
use Rattle.guest_syntax.specs.reader.BlankBytes.{Step, Passed, Stops, NotAscii, gap_step}
use Rattle.guest_syntax.{specs.reader.Scanner.{skip_by, skipped}, proofs.OptionCases.some_is}

abbrev pub Ascii : List ℕ → Type 0
Ascii = AllByRecursion (λ b. b < 128)

pub ascii_append : (a b : List ℕ) → Ascii a → Ascii b → Ascii (a ++ b)
ascii_append [] b h k = k
ascii_append (x ∷ a) b h k = (h.0, ascii_append a b h.1 k)

pub ascii_parts : (a b : List ℕ) → Ascii (a ++ b) → Ascii a × Ascii b
ascii_parts [] b h = (tt, h)
ascii_parts (x ∷ a) b h = let r = ascii_parts a b h.1 in ((h.0, r.0), r.1)

blank_cond : (c : Bool) (b : ℕ) (g : List ℕ)
    → blank c (b ∷ g) ≡ cond c (blank (not (b == 10)) g)
    (cond (b == 35) (blank true g) (cond (is_space b) (blank false g) None))
blank_cond true b g = refl
blank_cond false b g = refl

abbrev choice : {X : Type 0} → Bool → Bool → Bool → Bool → (Bool → X) → X → X
choice c hash space nl P N = cond c (P nl) (cond hash (P true) (cond space (P false) N))

step_passed : (big c hash space nl d : Bool)
    → cond big NotAscii (choice c hash space nl Passed Stops) ≡ Passed d → (big ≡ false)
    × ((P : Bool → Option Bool) → choice c hash space nl P None ≡ P d)
step_passed true c hash space nl d e = absurd cc
step_passed false true hash space nl d e = (refl, λ P. let is : nl ≡ d = cc in ap P is)
step_passed false false true space nl d e = (refl, λ P. let is : true ≡ d = cc in ap P is)
step_passed false false false true nl d e = (refl, λ P. let is : false ≡ d = cc in ap P is)
step_passed false false false false nl d e = absurd cc

step_stops : (big c hash space nl : Bool)
    → cond big NotAscii (choice c hash space nl Passed Stops) ≡ Stops → c ≡ false
step_stops true c hash space nl e = absurd cc
step_stops false true hash space nl e = absurd cc
step_stops false false hash space nl e = refl

stops_small : (big c hash space nl : Bool)
    → cond big NotAscii (choice c hash space nl Passed Stops) ≡ Stops → big ≡ false
stops_small true c hash space nl e = absurd cc
stops_small false c hash space nl e = refl

pub stops_ascii : (b : ℕ) → gap_step false b ≡ Stops → b < 128
stops_ascii b e = leb-false 128 b (stops_small (nat_le 128 b) false (b == 35) (is_space b)
    (not (b == 10)) e)

passes : (big c hash space nl : Bool) (P : Bool → Option Bool) (r : Bool) → big ≡ false
    → choice c hash space nl P None ≡ Some r → (d : Bool)
    × (cond big NotAscii (choice c hash space nl Passed Stops) ≡ Passed d) × (P d ≡ Some r)
passes true c hash space nl P r b e = absurd cc
passes false true hash space nl P r b e = (nl, refl, e)
passes false false true space nl P r b e = (true, refl, e)
passes false false false true nl P r b e = (false, refl, e)
passes false false false false nl P r b e = absurd cc

-- ---- one byte, as the code tells what it is

stops_by : (c hash space nl : Bool) → choice c hash space nl (λ d. Some d) None ≡ None
    → choice c hash space nl Passed Stops ≡ Stops
stops_by true hash space nl e = absurd cc
stops_by false true space nl e = absurd cc
stops_by false false true nl e = absurd cc
stops_by false false false nl e = refl

pub above_step : (c : Bool) (b : ℕ) → 127 < b → gap_step c b ≡ NotAscii
above_step c b lt = let above : nat_le 128 b ≡ true = le-leb 128 b lt in rw above refl

pub passed_step : (c : Bool) (b : ℕ) (d : Bool) → b ≤ 127 → blank c (b ∷ []) ≡ Some d
    → gap_step c b ≡ Passed d
passed_step c b d le e =
    let p = passes (nat_le 128 b) c (b == 35) (is_space b) (not (b == 10)) (λ d. Some d) d
    (lt-leb 128 b (omega (arith, le))) (sym (blank_cond c b []) ∙ e) in
    p.1 ∙ ap (λ d. Passed d) (some_is p.0 d p.2)

pub stops_step : (c : Bool) (b : ℕ) → b ≤ 127 → blank c (b ∷ []) ≡ None → gap_step c b ≡ Stops
stops_step c b le e =
    let below : nat_le 128 b ≡ false = lt-leb 128 b (omega (arith, le)) in
    rw below (stops_by c (b == 35) (is_space b) (not (b == 10)) (sym (blank_cond c b []) ∙ e))

-- where what is left begins
abbrev pub IsStop : List ℕ → Bool → Type 0
IsStop [] state = Unit {0}
IsStop (b ∷ bs) state = (state ≡ false) × (gap_step false b ≡ Stops)

pub record Gap (c : Bool) (at : Pos) (bytes : List ℕ) (x : Pos × List ℕ) : Type 0 where
  pub gap : List ℕ
  pub state : Bool
  pub parts : bytes ≡ gap ++ x.1
  pub is_gap : blank c gap ≡ Some state
  pub place : x.0 ≡ after at gap
  pub ascii : Ascii gap
  pub stop : IsStop x.1 state

no_gap : {c : Bool} {at : Pos} {bytes : List ℕ} → IsStop bytes c → Gap c at bytes (at, bytes)
unfolding after
no_gap {c = c} stop = record {
  gap = [];
  state = c;
  parts = refl;
  is_gap = refl;
  place = refl;
  ascii = tt;
  stop = stop;
}

skip_by_takes : (b : ℕ) (bs : List ℕ) (c : Bool) (at : Pos) (x : Pos × List ℕ) (s : Step)
    (more : Bool → Option (Pos × List ℕ)) → gap_step c b ≡ s
    → ((d : Bool) → more d ≡ Some x → Gap d (past at b) bs x) → skip_by s more at (b ∷ bs) ≡ Some x
    → Gap c at (b ∷ bs) x
unfolding after
skip_by_takes b bs c at x (Passed d) more is ih e =
    let g = ih d e in
    let p = step_passed (nat_le 128 b) c (b == 35) (is_space b) (not (b == 10)) d is in
    record {
      gap = b ∷ g.gap;
      state = g.state;
      parts = ap (λ r. b ∷ r) g.parts;
      is_gap = blank_cond c b g.gap ∙ (p.1 (λ d. blank d g.gap) ∙ g.is_gap);
      place = g.place;
      ascii = (leb-false 128 b p.0, g.ascii);
      stop = g.stop;
    }
skip_by_takes b bs c at x Stops more is ih e =
    let none = step_stops (nat_le 128 b) c (b == 35) (is_space b) (not (b == 10)) is in
    subst (λ y. Gap c at (b ∷ bs) y) (some_is (at, b ∷ bs) x e)
    (no_gap (none, subst (λ c. gap_step c b ≡ Stops) none is))
skip_by_takes b bs c at x NotAscii more is ih e = absurd cc

pub skip_takes : (bytes : List ℕ) (c : Bool) (at : Pos) (x : Pos × List ℕ)
    → skipped c at bytes ≡ Some x → Gap c at bytes x
unfolding skipped after
skip_takes [] c at x e = subst (λ y. Gap c at [] y) (some_is (at, []) x e)
    (no_gap tt)
skip_takes (b ∷ bs) c at x e = skip_by_takes b bs c at x (gap_step c b)
    (λ d. skipped d (past at b) bs) refl (λ d h. skip_takes bs d (past at b) x h) e

pub skipped_follows : (at : Pos) (bytes : List ℕ) (later : Pos) (rest : List ℕ)
    → skipped false at bytes ≡ Some (later, rest) → Follows at bytes later rest
skipped_follows at bytes later rest e =
    let g = skip_takes bytes false at (later, rest) e in
    record { front = g.gap; parts = g.parts; place = g.place }

pub skip_again : (gap : List ℕ) (c : Bool) (at : Pos) (rest : List ℕ) (state : Bool)
    → blank c gap ≡ Some state → Ascii gap → skipped c at (gap ++ rest)
    ≡ skipped state (after at gap) rest
unfolding skipped after
skip_again [] c at rest state e a = ap (λ s. skipped s at rest) (some_is c state e)
skip_again (b ∷ gap) c at rest state e a =
    let p = passes (nat_le 128 b) c (b == 35) (is_space b) (not (b == 10)) (λ d. blank d gap) state
    (lt-leb 128 b a.0) (sym (blank_cond c b gap) ∙ e) in
    let step : gap_step c b ≡ Passed p.0 = p.1 in
    ap (λ s. skip_by s (λ d. skipped d (past at b) (gap ++ rest)) at (b ∷ (gap ++ rest))) step ∙
    skip_again gap p.0 (past at b) rest state p.2 a.1

pub stop_again : (b : ℕ) (bs : List ℕ) (at : Pos) → gap_step false b ≡ Stops
    → skipped false at (b ∷ bs) ≡ Some (at, b ∷ bs)
unfolding skipped
stop_again b bs at e = rw e refl
