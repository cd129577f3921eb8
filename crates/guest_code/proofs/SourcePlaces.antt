-- The places of instructions, one statement after the other, and how many there are.
use Rattle.std.proofs.Common.{◌≡◌, ℕ, zero, suc, ◌-◌, ◌*◌, ◌<◌, List, [], ◌∷◌, ◌++◌, length, slice_index_or, map, All, refl, sym, ap, ◌∙◌, arith, append_assoc, length-append}
use Rattle.std.proofs.lemmas.List.{nil_from_length, Elements.{All-nil, All-cons, All-append}}
use Rattle.guest_syntax.specs.StatementPlaces.{Inside, EachPlace, IsInThread, AreInThreads}
use Rattle.guest_syntax.specs.Tree.{Stmt, Block, Declaration, Thread, Tree}
use Rattle.guest_syntax.specs.declared.place.Pos.{Pos}
use Rattle.guest_syntax.specs.Tree as tree
use Rattle.guest_code.specs.{Code.{thread_code, code}, Program.no_thread, Sizes.{size, block_size}}
use Rattle.guest_code.specs.SourceMap.{stmt_places, block_places, thread_places, copies, source_map, ArePlacesInThreads, IsMapOf}
use Rattle.guest_code.{specs.Uses.{thread_locals, tree_locals}, proofs.CodeLengths.block_length}

-- ---- how many

length-copies : (ps : List Pos) (n : ℕ) → length (copies ps n) ≡ n * length ps
length-copies ps zero = omega arith
length-copies ps (suc n) = omega (arith, length-append ps (copies ps n), length-copies ps n)

mutual
  stmt_many : (at : Pos) (s : Stmt) → length (stmt_places at s) ≡ size s
  stmt_many at (tree.if_then e b) = omega (arith, block_many b)
  stmt_many at (tree.if_else e b c) = omega (
    arith,
    length-append (block_places b) (at ∷ block_places c),
    block_many b,
    block_many c,
  )
  stmt_many at (tree.repeat n b) = rw (← block_many b) (length-copies (block_places b) n)
  stmt_many at _ = refl

  pub block_many : (b : Block) → length (block_places b) ≡ block_size b
  block_many tree.nothing = refl
  block_many (tree.next at s b) = omega (
    arith,
    length-append (stmt_places at s) (block_places b),
    stmt_many at s,
    block_many b,
  )

-- ---- copies

pub copies_none : (b : Block) (n : ℕ) → block_size b ≡ 0 → copies (block_places b) n ≡ []
copies_none b n e = nil_from_length _
    (length-copies (block_places b) n ∙ rw (block_many b, e) (omega arith))

-- one copy more
pub copies_step : (ps : List Pos) (left : ℕ) (all new total : List Pos) → 0 < left
    → new ≡ all ++ ps → all ++ copies ps left ≡ total → new ++ copies ps (left - 1) ≡ total
copies_step ps zero all new total lt e h = absurd (omega arith)
copies_step ps (suc n) all new total lt e h =
    let k : suc n - 1 ≡ n = omega arith in
    rw (e, k, append_assoc all ps (copies ps n)) h

copies_each : (P : Pos → Type 0) (ps : List Pos) (n : ℕ) → All P ps → All P (copies ps n)
copies_each P ps zero h = All-nil P
copies_each P ps (suc n) h = All-append P ps (copies ps n) h (copies_each P ps n h)

-- ---- in their threads

mutual
  stmt_each : (P : Pos → Type 0) (at : Pos) (s : Stmt) → P at → Inside P s
      → All P (stmt_places at s)
  stmt_each P at (tree.if_then e b) here h = All-cons P at (block_places b) here (block_each P b h)
  stmt_each P at (tree.if_else e b c) here h =
      All-cons P at (block_places b ++ (at ∷ block_places c)) here
      (All-append P (block_places b) (at ∷ block_places c) (block_each P b h.0)
      (All-cons P at (block_places c) here (block_each P c h.1)))
  stmt_each P at (tree.repeat n b) here h = copies_each P (block_places b) n (block_each P b h)
  stmt_each P at _ here h = All-cons P at [] here (All-nil P)

  block_each : (P : Pos → Type 0) (b : Block) → EachPlace P b → All P (block_places b)
  block_each P tree.nothing h = All-nil P
  block_each P (tree.next at s b) (here, inside, more) =
      All-append P (stmt_places at s) (block_places b) (stmt_each P at s here inside)
      (block_each P b more)

pub places_in_threads : (ts : List Thread) → AreInThreads ts → ArePlacesInThreads ts
places_in_threads [] h = tt
places_in_threads (t ∷ ts) h =
    (block_each (IsInThread t ts) t.body h.0, places_in_threads ts h.1)

-- ---- beside the program

places_fit : (ds : List Declaration) (ts : List Thread) (k : ℕ)
    → length (slice_index_or (map thread_places ts) k [])
    ≡ length (slice_index_or (map (thread_code ds) ts) k no_thread).code
places_fit ds [] k = refl
places_fit ds (t ∷ ts) zero = block_many t.body
    ∙ sym (block_length (record { declarations = ds; locals = thread_locals t }) t.body 0)
places_fit ds (t ∷ ts) (suc k) = places_fit ds ts k

locals_fit : (ds : List Declaration) (ts : List Thread) (k : ℕ)
    → length (slice_index_or (map thread_locals ts) k [])
    ≡ (slice_index_or (map (thread_code ds) ts) k no_thread).locals
locals_fit ds [] k = refl
locals_fit ds (t ∷ ts) zero = refl
locals_fit ds (t ∷ ts) (suc k) = locals_fit ds ts k

-- the map of parts that are as the tree says
pub map_is : (t : Tree) (ts : List Thread) (places : List (List Pos))
    (locals : List (List (List ℕ))) → ts ≡ t.threads → places ≡ map thread_places ts
    → locals ≡ tree_locals t → record { places = places; locals = locals } ≡ source_map t
map_is t ts places locals e p l =
    let p' = p ∙ ap (map thread_places) e in
    λ i. record { places = p' i; locals = l i }

pub map_fits : (t : Tree) → IsMapOf (source_map t) (code t)
map_fits t = record {
  places = places_fit t.declarations t.threads;
  locals = locals_fit t.declarations t.threads;
}
