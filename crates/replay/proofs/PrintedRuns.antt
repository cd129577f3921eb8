-- The printed spelling: its pieces are the longest runs, and they spell the schedule.
use Rattle.std.proofs.Common.{◌≡◌, ◌≢◌, ℕ, ◌+◌, ◌<◌, ◌≤◌, ◌^◌, Bool, true, false, cond, ◌==◌, List, [], ◌∷◌, ◌++◌, length, map, replicate, refl, ap, ◌∙◌, sym, subst, arith, inl, inr, decimal, codes, append_assoc, length-append}
use Rattle.std.specs.{List.{All, AllZip, slice_split, join_with_byte}, Str.bytes_eq}
use Rattle.std.proofs.lemmas.Bool.{cases_eq, Decides.nat_tests}
use Rattle.std.proofs.lemmas.List.{replicate-append-replicate, length-replicate}
use Rattle.std.proofs.lemmas.List.Elements.{All-head, All-tail, All-cons, All-nil}
use Rattle.std.proofs.lemmas.List.Splits.{slice_split_none, slice_split_at}
use Rattle.std.proofs.lemmas.Slice.Eq.{bytes_eq-Decides}
use Rattle.replay.specs.Spelling.{SpellsNumber, SpellsPiece, Spells, pieces_of, steps_of, joined_before, runs_of, piece_text, printed}
use Rattle.replay.{specs.declared.piece.Piece.Piece, proofs.NumberTexts.decimal_counts}
use Rattle.replay.proofs.PieceTexts.{same_test, piece_without, has_none, heads, tails}

other_number : (t u : ℕ) → t ≢ u → (t == u) ≡ false
other_number t u e = grind (arith, nat_tests, e)

-- a piece before others of its thread, or of another
pub joined_same : (piece next : Piece) (others : List Piece) → piece.thread ≡ next.thread →
    joined_before piece (next ∷ others) ≡ record
    { thread = next.thread; count = piece.count + next.count } ∷ others
joined_same piece next others e =
    ap (λ b. cond b (record { thread = next.thread; count = piece.count + next.count } ∷ others)
    (piece ∷ next ∷ others)) (ap (λ t. t == next.thread) e ∙ same_test next.thread)

pub joined_other : (piece next : Piece) (others : List Piece) → piece.thread ≢ next.thread →
    joined_before piece (next ∷ others) ≡ piece ∷ next ∷ others
joined_other piece next others e =
    ap (λ b. cond b (record { thread = next.thread; count = piece.count + next.count } ∷ others)
    (piece ∷ next ∷ others)) (other_number piece.thread next.thread e)

-- the steps stay
steps_joined : (piece : Piece) (ps : List Piece) →
    steps_of (joined_before piece ps) ≡ replicate piece.count piece.thread ++ steps_of ps
steps_joined piece [] = refl
steps_joined piece (next ∷ others) = elim (cases_eq piece.thread next.thread) [
  | inl same ↦ ap steps_of (joined_same piece next others same)
      ∙ ap (λ steps. steps ++ steps_of others)
      (sym (replicate-append-replicate piece.count next.count next.thread))
      ∙ append_assoc (replicate piece.count next.thread) (replicate next.count next.thread)
      (steps_of others)
      ∙ ap (λ t. replicate piece.count
      t ++ (replicate next.count next.thread ++ steps_of others)) (sym same)
  | inr apart ↦ ap steps_of (joined_other piece next others apart)
]

pub steps_of-runs_of : (w : List ℕ) → steps_of (runs_of w) ≡ w
steps_of-runs_of [] = refl
steps_of-runs_of (t ∷ w) = steps_joined (record { thread = t; count = 1 }) (runs_of w)
    ∙ ap (λ v. t ∷ v) (steps_of-runs_of w)

-- each run has a step
some_joined : (piece : Piece) (ps : List Piece) → 0 < piece.count →
    All (λ run. 0 < run.count) ps → All (λ run. 0 < run.count) (joined_before piece ps)
some_joined piece [] some h = All-cons (λ (run : Piece). 0 < run.count) piece [] some h
some_joined piece (next ∷ others) some h = elim (cases_eq piece.thread next.thread) [
  | inl same ↦ subst (All (λ (run : Piece). 0 < run.count))
      (sym (joined_same piece next others same))
      (All-cons (λ (run : Piece). 0 < run.count)
      (record { thread = next.thread; count = piece.count + next.count }) others
      (omega (arith, some)) (All-tail (λ (run : Piece). 0 < run.count) next others h))
  | inr apart ↦ subst (All (λ (run : Piece). 0 < run.count))
      (sym (joined_other piece next others apart))
      (All-cons (λ (run : Piece). 0 < run.count) piece (next ∷ others) some h)
]

pub each_run_has_a_step : (w : List ℕ) → All (λ run. 0 < run.count) (runs_of w)
each_run_has_a_step [] = All-nil (λ (run : Piece). 0 < run.count)
each_run_has_a_step (t ∷ w) =
    some_joined (record { thread = t; count = 1 }) (runs_of w) (omega arith) (each_run_has_a_step w)

-- neighbours are of different threads
abbrev Apart : List Piece → Type 0
Apart ps = (before after : List Piece) (a b : Piece) → ps ≡ before ++ a ∷ b ∷ after →
    a.thread ≢ b.thread

apart_rest : (p : Piece) (ps : List Piece) → Apart (p ∷ ps) → Apart ps
apart_rest p ps h before after a b e = h (p ∷ before) after a b (ap (λ qs. p ∷ qs) e)

apart_one : (p : Piece) → Apart (p ∷ [])
apart_one p [] after a b e same =
    absurd (let long : 1 ≡ length (a ∷ b ∷ after) = ap length e in omega (arith, long))
apart_one p (q ∷ before) after a b e same =
    absurd (let long : 1 ≡ length ((q ∷ before) ++ a ∷ b ∷ after) = ap length e in let l =
    length-append before (a ∷ b ∷ after) in omega (arith, long, l))

apart_more : (p q : Piece) (ps : List Piece) → p.thread ≢ q.thread → Apart (q ∷ ps) →
    Apart (p ∷ q ∷ ps)
apart_more p q ps other h [] after a b e same =
    let first : p ≡ a = heads p a (q ∷ ps) (b ∷ after) e in
    let second : q ≡ b = heads q b ps after (tails p a (q ∷ ps) (b ∷ after) e) in
    other (ap (λ (x : Piece). x.thread) first ∙ same ∙ ap (λ (x : Piece). x.thread) (sym second))
apart_more p q ps other h (r ∷ before) after a b e same =
    h before after a b (tails p r (q ∷ ps) (before ++ a ∷ b ∷ after) e) same

apart_swap : (p q : Piece) (ps : List Piece) → p.thread ≡ q.thread → Apart (q ∷ ps) → Apart (p ∷ ps)
apart_swap p q [] same h = apart_one p
apart_swap p q (r ∷ ps) same h =
    apart_more p r ps (λ e. h [] ps q r refl (sym same ∙ e)) (apart_rest q (r ∷ ps) h)

apart_joined : (piece : Piece) (ps : List Piece) → Apart ps → Apart (joined_before piece ps)
apart_joined piece [] h = apart_one piece
apart_joined piece (next ∷ others) h = elim (cases_eq piece.thread next.thread) [
  | inl same ↦ subst Apart (sym (joined_same piece next others same))
      (apart_swap (record { thread = next.thread; count = piece.count + next.count }) next others
      refl h)
  | inr other ↦ subst Apart (sym (joined_other piece next others other))
      (apart_more piece next others other h)
]

apart_none : Apart []
apart_none [] after a b e same =
    absurd (let long : 0 ≡ length (a ∷ b ∷ after) = ap length e in omega (arith, long))
apart_none (q ∷ before) after a b e same =
    absurd (let long : 0 ≡ length ((q ∷ before) ++ a ∷ b ∷ after) = ap length e in
    omega (arith, long))

pub runs_apart : (w : List ℕ) (before after : List Piece) (a b : Piece) →
    runs_of w ≡ before ++ a ∷ b ∷ after → a.thread ≢ b.thread
runs_apart [] = apart_none
runs_apart (t ∷ w) = apart_joined (record { thread = t; count = 1 }) (runs_of w) (runs_apart w)

-- a run that is written spells itself
abbrev IsWritable : Piece → Type 0
IsWritable run = (run.thread < 256) × (0 < run.count) × (run.count < 2 ^ 64)

piece_text_spells : (run : Piece) → IsWritable run → SpellsPiece (piece_text run) run
piece_text_spells run h =
    let number : SpellsNumber (decimal run.thread) run.thread =
    record { small = h.0; written = refl } in
    elim (cases_eq run.count 1) [
      | inl one ↦ subst (λ text. SpellsPiece text run)
          (sym (ap (λ b. cond b (decimal run.thread)
          (decimal run.thread ++ 120 ∷ decimal run.count)) (ap (λ n. n == 1) one)))
          (inl (record { number = number; once = one }))
      | inr more ↦ subst (λ text. SpellsPiece text run)
          (sym (ap (λ b. cond b (decimal run.thread)
          (decimal run.thread ++ 120 ∷ decimal run.count)) (other_number run.count 1 more)))
          (inr (record {
            number = decimal run.thread;
            count = decimal run.count;
            written =
                refl;
            thread = number;
            times = decimal_counts run.count h.1 h.2;
          }))
    ]

texts_spell : (ps : List Piece) → All IsWritable ps → AllZip SpellsPiece (map piece_text ps) ps
texts_spell [] h = tt
texts_spell (p ∷ ps) h =
    (piece_text_spells p (All-head IsWritable p ps h), texts_spell ps (All-tail IsWritable p ps h))

-- runs of a schedule that can be written
small_joined : (piece : Piece) (ps : List Piece) → piece.thread < 256 →
    All (λ run. run.thread < 256) ps → All (λ run. run.thread < 256) (joined_before piece ps)
small_joined piece [] small h = All-cons (λ (run : Piece). run.thread < 256) piece [] small h
small_joined piece (next ∷ others) small h = elim (cases_eq piece.thread next.thread) [
  | inl same ↦ subst (All (λ (run : Piece). run.thread < 256))
      (sym (joined_same piece next others same))
      (All-cons (λ (run : Piece). run.thread < 256)
      (record { thread = next.thread; count = piece.count + next.count }) others
      (All-head (λ (run : Piece). run.thread < 256) next others h)
      (All-tail (λ (run : Piece). run.thread < 256) next others h))
  | inr apart ↦ subst (All (λ (run : Piece). run.thread < 256))
      (sym (joined_other piece next others apart))
      (All-cons (λ (run : Piece). run.thread < 256) piece (next ∷ others) small h)
]

runs_small : (w : List ℕ) → All (λ t. t < 256) w → All (λ run. run.thread < 256) (runs_of w)
runs_small [] h = All-nil (λ (run : Piece). run.thread < 256)
runs_small (t ∷ w) h =
    small_joined (record { thread = t; count = 1 }) (runs_of w) (All-head (λ u. u < 256) t w h)
    (runs_small w (All-tail (λ u. u < 256) t w h))

-- no run is longer than the schedule
run_within : (ps : List Piece) → All (λ run. run.count ≤ length (steps_of ps)) ps
run_within [] = All-nil (λ (run : Piece). run.count ≤ length (steps_of []))
run_within (p ∷ ps) =
    let long : length (steps_of (p ∷ ps)) ≡ p.count + length (steps_of ps) =
    length-append (replicate p.count p.thread) (steps_of ps)
    ∙ ap (λ n. n + length (steps_of ps)) (length-replicate p.count p.thread) in
    All-cons (λ (run : Piece). run.count ≤ length (steps_of (p ∷ ps))) p ps (omega (arith, long))
    (λ k d l. let rest = run_within ps k d l in omega (arith, rest, long))

pub runs_writable : (w : List ℕ) → All (λ t. t < 256) w → length w < 2 ^ 64 →
    All IsWritable (runs_of w)
runs_writable w small fits k d l =
    let long : length (steps_of (runs_of w)) ≡ length w = ap length (steps_of-runs_of w) in
    let within = run_within (runs_of w) k d l in
    (runs_small w small k d l, each_run_has_a_step w k d l, omega (arith, within, long, fits))

-- the pieces of texts without commas that are joined by commas
pub pieces_joined : (p : Piece) (ps : List Piece) → All IsWritable (p ∷ ps) →
    slice_split (λ b. b == 44) (join_with_byte 44 (map piece_text (p ∷ ps))) ≡ map piece_text
    (p ∷ ps)
pieces_joined p [] h =
    slice_split_none (λ b. b == 44) (piece_text p)
    (piece_without (piece_text p) p 44 (omega arith)
    (piece_text_spells p (All-head IsWritable p [] h)))
pieces_joined p (q ∷ ps) h =
    slice_split_at (λ b. b == 44) (piece_text p) 44 (join_with_byte 44 (map piece_text (q ∷ ps)))
    (piece_without (piece_text p) p 44 (omega arith)
    (piece_text_spells p (All-head IsWritable p (q ∷ ps) h))) refl
    ∙ ap (λ texts. piece_text p ∷ texts) (pieces_joined q ps (All-tail IsWritable p (q ∷ ps) h))

is_false : (b : Bool) → (b ≡ true → ⊥) → b ≡ false
is_false true h = absurd (h refl)
is_false false h = refl

-- no run is written as a minus
no_minus : (p : Piece) (ps : List Piece) → All IsWritable (p ∷ ps) →
    bytes_eq (join_with_byte 44 (map piece_text (p ∷ ps))) (codes "-") ≡ false
no_minus p ps h =
    is_false (bytes_eq (join_with_byte 44 (map piece_text (p ∷ ps))) (codes "-")) (λ t.
    let minus = (bytes_eq-Decides (join_with_byte 44 (map piece_text (p ∷ ps))) (codes "-")).0 t in
    let first : piece_text p ≡ codes "-" =
    heads (piece_text p) (codes "-") (map piece_text ps) []
    (sym (pieces_joined p ps h) ∙ ap (slice_split (λ b. b == 44)) minus) in
    has_none 45 [] []
    (subst (λ text. All (λ b. (b == 45) ≡ false) text) first
    (piece_without (piece_text p) p 45 (omega arith)
    (piece_text_spells p (All-head IsWritable p ps h)))))

-- a schedule with steps has runs
runs_some : (t : ℕ) (w : List ℕ) → (p : Piece) × (ps : List Piece) × (runs_of (t ∷ w) ≡ p ∷ ps)
runs_some t w =
    elim (runs_of w)
    as (λ rs. (p : Piece) × (ps : List Piece) × (joined_before (record { thread = t; count = 1 })
    rs ≡ p ∷ ps)) [
      | [] ↦ (record { thread = t; count = 1 }, [], refl)
      | next ∷ others ↦ elim (cases_eq t next.thread) [
        | inl same ↦ (
          record { thread = next.thread; count = 1 + next.count },
          others,
          joined_same
              (record { thread = t; count = 1 }) next others same,
        )
        | inr apart ↦ (
          record { thread = t; count = 1 },
          next ∷ others,
          joined_other
              (record { thread = t; count = 1 }) next others apart,
        )
      ]
    ]

pieces_of_runs : (ps : List Piece) (p : Piece) (others : List Piece) → ps ≡ p ∷ others →
    All IsWritable ps → pieces_of (join_with_byte 44 (map piece_text ps)) ≡ map piece_text ps
pieces_of_runs ps p others e h =
    let writable : All IsWritable (p ∷ others) = subst (All IsWritable) e h in
    ap (λ qs. pieces_of (join_with_byte 44 (map piece_text qs))) e
    ∙ ap (λ b. cond b []
    (slice_split (λ c. c == 44) (join_with_byte 44 (map piece_text (p ∷ others)))))
    (no_minus p others writable)
    ∙ pieces_joined p others writable
    ∙ ap (map piece_text) (sym e)

pub pieces_of_printed : (w : List ℕ) → All (λ t. t < 256) w → length w < 2 ^ 64 →
    pieces_of (printed w) ≡ map piece_text (runs_of w)
pieces_of_printed [] small fits = refl
pieces_of_printed (t ∷ w) small fits = let some = runs_some t w in
    pieces_of_runs (runs_of (t ∷ w)) some.0 some.1 some.2 (runs_writable (t ∷ w) small fits)

pub printed_spells : (w : List ℕ) → All (λ t. t < 256) w → length w < 2 ^ 64 → Spells (printed w) w
printed_spells w small fits = record {
  pieces = runs_of w;
  spelt = subst (λ texts. AllZip SpellsPiece texts (runs_of w))
      (sym (pieces_of_printed w small fits)) (texts_spell (runs_of w) (runs_writable w small fits));
  steps = sym (steps_of-runs_of w);
}
