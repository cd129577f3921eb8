-- The places of a text that the code of its program was made of, and the names of its locals.
use Rattle.std.specs.Prelude.{◌≡◌, ℕ, zero, suc, List, [], ◌∷◌, ◌++◌, length, map, slice_index_or, All}
use Rattle.std.proofs.Common.{Vec, Global}
use Rattle.guest_syntax.specs.{StatementPlaces.IsInThread, Tree.{Stmt, Block, Thread, Tree}}
use Rattle.guest_syntax.specs.declared.place.Pos.{Pos}
use Rattle.guest_syntax.specs.Tree as tree
use Rattle.guest_code.specs.{Program.{Program, names_view, thread_at}, Uses.tree_locals}

-- of each thread the places, in the order of its instructions, and the names of its locals, in the
-- order of their numbers
pub record SourceMap : Type 0 where
  pub places : List (List Pos)
  pub locals : List (List (List ℕ))

-- n copies of these places
abbrev pub copies : List Pos → ℕ → List Pos
copies ps zero = []
copies ps (suc n) = ps ++ copies ps n

-- for each instruction of a statement at this place, and of a block, the place of the statement
-- that it is of: the test and the skip of an `if` are its own
abbrev mutual
  pub stmt_places : Pos → Stmt → List Pos
  stmt_places at (tree.if_then e b) = at ∷ block_places b
  stmt_places at (tree.if_else e b c) = at ∷ (block_places b ++ (at ∷ block_places c))
  stmt_places at (tree.repeat n b) = copies (block_places b) n
  stmt_places at _ = at ∷ []

  pub block_places : Block → List Pos
  block_places tree.nothing = []
  block_places (tree.next at s b) = stmt_places at s ++ block_places b

-- the places of a thread's instructions
abbrev pub thread_places : Thread → List Pos
thread_places t = block_places t.body

-- the map of a tree
abbrev pub source_map : Tree → SourceMap
source_map t = record {
  places = map thread_places t.threads;
  locals = tree_locals t;
}

-- what the code's values stand for
abbrev pub source_map_view : Vec (Vec Pos Global) Global → Vec (Vec (Vec ℕ Global) Global) Global
    → SourceMap
source_map_view places locals = record {
  places = map (λ p. p.items) places.items;
  locals = map (λ l. names_view l.items) locals.items;
}

-- the places and the locals of a thread; none for a thread that is not there
abbrev pub places_of : SourceMap → ℕ → List Pos
places_of m t = slice_index_or m.places t []

abbrev pub locals_of : SourceMap → ℕ → List (List ℕ)
locals_of m t = slice_index_or m.locals t []

-- the places of each thread are in its text
abbrev pub ArePlacesInThreads : List Thread → Type 0
ArePlacesInThreads [] = Unit {0}
ArePlacesInThreads (t ∷ ts) = All (IsInThread t ts) (thread_places t) × ArePlacesInThreads ts

-- there is a place for each instruction of the program, and a name for each local
pub record IsMapOf (m : SourceMap) (p : Program) : Type 0 where
  pub places : (t : ℕ) → length (places_of m t) ≡ length (thread_at p t).code
  pub locals : (t : ℕ) → length (locals_of m t) ≡ (thread_at p t).locals
