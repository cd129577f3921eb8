-- How places follow the bytes.
use Rattle.std.specs.Prelude.{◌≡◌, ℕ, ◌+◌, ◌<◌, ◌⊎◌, List, [], ◌∷◌, ◌++◌, ◌==◌, if◌then◌else◌}
use Rattle.guest_syntax.specs.declared.place.Pos.{Pos}

-- the place of a text's first byte
abbrev pub start : Pos
start = record { line = 1; col = 1 }

-- the place after a byte
unfoldable pub past : Pos → ℕ → Pos
past p b = if b == 10 then record { line = p.line + 1; col = 1 } else
    record { line = p.line; col = p.col + 1 }

-- the place after these bytes
unfoldable pub after : Pos → List ℕ → Pos
after p [] = p
after p (b ∷ bs) = after (past p b) bs

-- one place comes before another
abbrev pub Before : Pos → Pos → Type 0
Before p q = (p.line < q.line) ⊎ ((p.line ≡ q.line) × (p.col < q.col))

-- bytes at one place end with others at a later place
pub record Follows (at : Pos) (bytes : List ℕ) (later : Pos) (rest : List ℕ) : Type 0 where
  pub front : List ℕ
  pub parts : bytes ≡ front ++ rest
  pub place : later ≡ after at front
