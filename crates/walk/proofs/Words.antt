-- Words of which each frame has the same number: one frame's are written, the others stay.
use Rattle.std.proofs.Common.{◌≡◌, ℕ, ℤ, suc, ◌+◌, ◌-◌, ◌*◌, ◌<◌, ◌≤◌, List, ◌++◌, length, take}
use Rattle.std.proofs.Common.{drop, ap, ◌∙◌, sym, subst, arith}
use Rattle.std.proofs.Math.{Nat.mul-le-mul_right, Seq.take-append_seam}
use Rattle.std.proofs.lemmas.List.{length-take, length-take-le, length-drop}
use Rattle.walk.specs.inner.Paths.{words_at}

pub chunk_inside : (t n w L : ℕ) → t < n → L ≡ n * w → t * w + w ≤ L
chunk_inside t n w L l e = let h : suc t * w ≤ n * w = mul-le-mul_right w (omega arith) in
    let q : suc t * w ≡ t * w + w = suc_times t w in omega (arith, h, e, q)
  where
    suc_times : (t w : ℕ) → suc t * w ≡ t * w + w
    suc_times t w = omega arith

-- the list is as it was but for the words of frame t
pub record Rewrites (w t : ℕ) (xs new ys : List ℤ) : Type 0 where
  pub before : (n : ℕ) → n ≤ t * w → take n new ≡ take n xs
  pub after : (n : ℕ) → t * w + w ≤ n → drop n new ≡ drop n xs
  pub chunk : words_at w new t ≡ ys

pub chunk_length : (a w : ℕ) (xs : List ℤ) → a + w ≤ length xs
    → length (take (a + w - a) (drop a xs)) ≡ w
chunk_length a w xs l = let k : a + w - a ≡ w = omega arith in
    rw k (length-take-le w (drop a xs) (omega (arith, l, length-drop a xs)))

-- a list written over another of that length
pub filled : (n : ℕ) (W I : List ℤ) → n ≡ length I → length W ≡ length I
    → take n (W ++ drop (length W) I) ≡ W
filled n W I full many = ap (λ k. take k (W ++ drop (length W) I)) (full ∙ sym many)
    ∙ take-append_seam W (drop (length W) I)

new_length : (w t : ℕ) (xs new mine : List ℤ) → Rewrites w t xs new mine → length mine ≡ w
    → t * w + w ≤ length xs → length new ≡ length xs
new_length w t xs new mine r long inside =
    let a = ap (λ (z : List ℤ). length z) (r.after (t * w + w) (omega arith)) in
    let b = length-drop (t * w + w) new in
    let d = length-drop (t * w + w) xs in
    let e = ap (λ (z : List ℤ). length z) r.chunk in
    let f = length-take w (drop (t * w) new) in
    let g = length-drop (t * w) new in
    let h = ap (λ (z : List ℤ). length z) (r.before (t * w) (omega arith)) in
    let i = length-take (t * w) new in
    let j = length-take (t * w) xs in
    omega (arith, a, b, d, e, f, g, h, i, j, long, inside)

pub refill_rewrites : (n w t : ℕ) (I W mine : List ℤ) → n ≡ length I → length mine ≡ w
    → t * w + w ≤ length I
    → Rewrites w t I W mine → Rewrites w t I (take n (W ++ drop (length W) I)) mine
refill_rewrites n w t I W mine full long inside r =
    subst (λ z. Rewrites w t I z mine)
    (sym (filled n W I full (new_length w t I W mine r long inside))) r

pub refill_length : (n w t : ℕ) (I W mine : List ℤ) → n ≡ length I → length mine ≡ w
    → t * w + w ≤ length I
    → Rewrites w t I W mine → length (take n (W ++ drop (length W) I)) ≡ length I
refill_length n w t I W mine full long inside r =
    let m = new_length w t I W mine r long inside in
    ap (λ (z : List ℤ). length z) (filled n W I full m) ∙ m

pub chunk_is : (t w n : ℕ) (new ys : List ℤ) → n ≡ w → take n (drop (t * w) new) ≡ ys
    → words_at w new t ≡ ys
chunk_is t w n new ys k e = ap (λ m. take m (drop (t * w) new)) (sym k) ∙ e
