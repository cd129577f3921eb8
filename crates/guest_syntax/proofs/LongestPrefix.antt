-- The longest front of bytes that pass a test.
use Rattle.std.proofs.Common.{◌≡◌, ℕ, ◌+◌, Bool, true, false, cond, List, [], ◌∷◌, ◌++◌, length, take, drop, refl, ap, subst, one-add}
use Rattle.std.specs.{Cmp.Derive.both_true, List.{prefix_len, list_all}}
use Rattle.guest_syntax.proofs.ByteClasses.{and_parts}

-- each of the front passes, and the first after it does not
pub record Front (p : ℕ → Bool) (s text rest : List ℕ) : Type 0 where
  pub parts : s ≡ text ++ rest
  pub all : list_all p text ≡ true
  pub next : (b : ℕ) (more : List ℕ) → rest ≡ b ∷ more → p b ≡ false

front_by : (p : ℕ → Bool) (b : ℕ) (bs : List ℕ) (t : Bool) → p b ≡ t
    → Front p bs (take (prefix_len p bs) bs) (drop (prefix_len p bs) bs)
    → Front p (b ∷ bs) (take (cond t (1 + prefix_len p bs) 0) (b ∷ bs))
    (drop (cond t (1 + prefix_len p bs) 0) (b ∷ bs))
front_by p b bs true e f = rw one-add (record {
  parts = ap (λ r. b ∷ r) f.parts;
  all = both_true e f.all;
  next = f.next;
})
front_by p b bs false e f = record {
  parts = refl;
  all = refl;
  next = λ c more h. let is : b ≡ c = cc in subst (λ c. p c ≡ false) is e;
}

pub front : (p : ℕ → Bool) (s : List ℕ) → Front p s (take (prefix_len p s) s)
    (drop (prefix_len p s) s)
front p [] = record { parts = refl; all = refl; next = λ b more h. absurd cc }
front p (b ∷ bs) = front_by p b bs (p b) refl (front p bs)

-- the other way
pub prefix_is : (p : ℕ → Bool) (text rest : List ℕ) → list_all p text ≡ true
    → ((b : ℕ) (more : List ℕ) → rest ≡ b ∷ more → p b ≡ false)
    → prefix_len p (text ++ rest) ≡ length text
prefix_is p [] [] all next = refl
prefix_is p [] (b ∷ more) all next = rw (next b more refl) refl
prefix_is p (x ∷ text) rest all next =
    let a = and_parts (p x) (list_all p text) all in
    rw (a.0, prefix_is p text rest a.1 next) (one-add (length text))
