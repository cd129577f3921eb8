-- What the steps of a walk share with the prefix that was put off last.
use Rattle.std.proofs.Common.{◌≡◌, ℕ, ◌+◌, ◌-◌, ◌<◌, ◌≤◌, List, [], ◌∷◌, ◌++◌, length, take, drop}
use Rattle.std.proofs.Common.{set, get_or, vec_len, refl, ap, ◌∙◌, sym, subst, arith}
use Rattle.std.specs.declared.{alloc.Global.Global, vec.Vec.Vec}
use Rattle.std.proofs.lemmas.List.{length_push, length-take-le, take-append-drop, take-append-le}
use Rattle.std.proofs.lemmas.List.{take-take, take_all, take_at, take_more_set, drop-take}
use Rattle.std.proofs.lemmas.List.{get_or_at}
use Rattle.walk.specs.{declared.found.Found.Found, inner.WalkerInvariant.IsShared}
use Rattle.walk_prefixes.specs.PrefixLists.{last_of}

-- the same of the same steps
pub shared_same : (w v : List ℕ) (f : Found) → IsShared w f → v ≡ w → IsShared v f
shared_same w v f h e = subst (λ (x : List ℕ). IsShared x f) (sym e) h

-- and where nothing more was put off
pub shared_kept : (w v : List ℕ) (f g : Found) → IsShared w f → v ≡ w → g.deferred ≡ f.deferred →
    g.shared ≡ f.shared → IsShared v g
shared_kept w v f g h e deferred shared = record {
  fits = let k = ap length e in let l = h.fits in omega (arith, k, l, shared);
  same = (λ i. take (shared i) (last_of (deferred i))) ∙
      (h.same ∙ sym (λ i. take (shared i) (e i)));
}

-- where it goes back to what the steps begin with
pub shared_back : (w v : List ℕ) (f : Found) (m : ℕ) → IsShared w f → v ≡ take (length v) w
    → m ≤ f.shared → m ≤ length v → take m (last_of f.deferred) ≡ take m v
shared_back w v f m h e few fits =
    sym (take-take m f.shared (last_of f.deferred) few)
    ∙ (ap (take m) h.same ∙ (take-take m f.shared w few
    ∙ (sym (take-take m (length v) w fits) ∙ sym (ap (take m) e))))

-- after one more step
pub shared_entered : (w v : List ℕ) (t : ℕ) (f : Found) → IsShared w f → v ≡ w ++ t ∷ []
    → IsShared v f
shared_entered w v t f h e = record {
  fits = let k = ap length e ∙ length_push w t in let l = h.fits in omega (arith, k, l);
  same = h.same ∙ sym (ap (take f.shared) e ∙ take-append-le f.shared w (t ∷ []) h.fits);
}

-- where one more was put off beside a step that was taken

pub put_beside : (w last : List ℕ) (place shared m u : ℕ) → place < length w → shared ≤ place
    → m ≡ place + 1 - shared → take shared last ≡ take shared (take place w)
    → take shared last ++ take m (drop shared (set w place u)) ≡ take place w ++ u ∷ []
put_beside w last place shared m u inside few many same =
    (λ i. front i ++ rest i) ∙ take-append-drop shared put
  where
    put : List ℕ
    put = take place w ++ u ∷ []

    front : take shared last ≡ take shared put
    front = same ∙ sym (take-append-le shared (take place w) (u ∷ [])
        (let e = length-take-le place w (omega (arith, inside)) in omega (arith, e, few)))

    rest : take m (drop shared (set w place u)) ≡ drop shared put
    rest = sym (drop-take shared m (set w place u))
        ∙ (ap (λ n. drop shared (take n (set w place u)))
        (let n : shared + m ≡ place + 1 = omega (arith, many, few) in n)
        ∙ ap (drop shared) (take_more_set w place u inside))

pub shared_put : (w : List ℕ) (u : ℕ) (before : List (List ℕ)) (f : Found)
    → f.deferred ≡ before ++ (w ++ u ∷ []) ∷ [] → f.shared ≡ length w → IsShared w f
shared_put w u before f deferred shared = record {
  fits = omega (arith, shared);
  same = (λ i. take (shared i) (last_of (deferred i)))
      ∙ (ap (take (length w)) last
      ∙ (take_at w (u ∷ []) (length w) refl ∙ sym (ap (λ n. take n w) shared
      ∙ take_all (length w) w (omega arith))));
}
  where
    last : last_of (before ++ (w ++ u ∷ []) ∷ []) ≡ w ++ u ∷ []
    last = ap (λ n. get_or (before ++ (w ++ u ∷ []) ∷ []) n [])
        (let e = length_push before (w ++ u ∷ []) in
        let n : length (before ++ (w ++ u ∷ []) ∷ []) - 1 ≡ length before = omega (arith, e) in n)
        ∙ get_or_at before (w ++ u ∷ []) [] [] (length before) refl

-- where the last step is taken back
pub popped : (old new : Vec ℕ Global) (w : List ℕ) (t : ℕ) → old.items ≡ w ++ t ∷ []
    → new.items ≡ take (vec_len old - 1) old.items → new.items ≡ w
popped old new w t is back = back
    ∙ ((λ k. take (vec_len old - 1) (is k)) ∙ take_at w (t ∷ []) (vec_len old - 1)
    (let n = old.ok.0 in let e = ap length is in let d = length_push w t in
    omega (arith, n, e, d)))
