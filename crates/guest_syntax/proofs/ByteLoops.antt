-- Spaces and comments, as a loop passes over them.
use Rattle.std.proofs.Common.{◌≡◌, ℕ, ◌+◌, ◌-◌, ◌<◌, ◌≤◌, Bool, List, length, get_or, take, drop, Some, refl, arith, add-one, drop-cons, length-drop}
use Rattle.std.proofs.{Math.Seq.drop-length, lemmas.List.{take_all, drop_all}}
use Rattle.guest_syntax.specs.{Place.{past, after}, declared.place.Pos.Pos}
use Rattle.guest_syntax.specs.reader.{BlankBytes.{Step, gap_step}, Scanner.{skip_by, skipped}}

-- &s[i..]
pub from_at : {A : Type 0} (s : List A) (i : ℕ) → take (length s - i) (drop i s) ≡ drop i s
from_at s i = take_all _ _ (omega (arith, length-drop i s))

-- one byte more
pub skipped_step : (s : List ℕ) (i : ℕ) (c : Bool) (at : Pos) → i < length s → (step : Step)
    → gap_step c (get_or s i 0) ≡ step
    → skipped c at (drop i s) ≡ skip_by step
    (λ d. skipped d (past at (get_or s i 0)) (drop (i + 1) s)) at (drop i s)
unfolding skipped
skipped_step s i c at lt step is = rw (← is, add-one, drop-cons s i 0) refl

pub skipped_end : (s : List ℕ) (i : ℕ) (c : Bool) (at : Pos) → length s ≤ i
    → skipped c at (drop i s) ≡ Some (at, drop (length s) s)
unfolding skipped
skipped_end s i c at le = rw (drop_all i s le, drop-length s) refl

pub after_step : (s : List ℕ) (i : ℕ) (at : Pos) → i < length s
    → after at (drop i s) ≡ after (past at (get_or s i 0)) (drop (i + 1) s)
unfolding after
after_step s i at lt = rw (add-one, drop-cons s i 0) refl

pub after_end : (s : List ℕ) (i : ℕ) (at : Pos) → length s ≤ i → after at (drop i s) ≡ at
unfolding after
after_end s i at le = rw (drop_all i s le) refl
