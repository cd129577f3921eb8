-- Reading items one after the other from the front of a list of tokens.
use Rattle.std.specs.Prelude.{ℕ, zero, suc, List, [], ◌∷◌, length, Option, Some, None}
use Rattle.guest_syntax.specs.{Tokens.Token, reader.Reads.Read, reader.Scanner.◌>>=◌}

-- an item and what comes after it, or the end of the items
abbrev pub Turn : Type 0 → Type 0
Turn A = List Token → Read (Option A)

abbrev pub many_by : {A : Type 0} → (List Token → Read (List A)) → Option A → List Token
    → Read (List A)
many_by more None ts = Some ([], ts)
many_by more (Some a) ts = more ts >>= λ x. Some (a ∷ x.0, x.1)

-- Items up to their end, in at most as many turns as is said: the count of tokens and 1 are enough.
unfoldable pub many : {A : Type 0} → Turn A → ℕ → List Token → Read (List A)
many turn zero ts = None
many turn (suc n) ts = do
  x ← turn ts
  many_by (many turn n) x.0 x.1

-- all items up to their end
unfoldable pub all_from : {A : Type 0} → Turn A → List Token → Read (List A)
unfolding many
all_from turn ts = many turn (suc (length ts)) ts
