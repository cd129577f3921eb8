-- A text that is written run by run.
use Rattle.std.proofs.Common.{◌≡◌, ◌≢◌, ℕ, ◌+◌, ◌<◌, ◌≤◌, ◌^◌, List, [], ◌∷◌, ◌++◌, length, map, drop, get_or, refl, ap, ◌∙◌, sym, subst, arith, append_assoc, append-nil, inl, inr}
use Rattle.std.specs.List.{join_with_byte, flat_map}
use Rattle.std.proofs.{Math.Path.transport, lemmas.Bool.cases_eq, lemmas.List.{drop_more, drop_all}}
use Rattle.std.proofs.lemmas.List.{Concat.flat_map-append, Elements.All-from_get_or}
use Rattle.replay.specs.Spelling.{Spells, joined_before, runs_of, piece_text, printed}
use Rattle.replay.specs.declared.piece.Piece.{Piece}
use Rattle.replay.proofs.PrintedRuns.{joined_same, joined_other, printed_spells}

abbrev with_comma : Piece → List ℕ
with_comma run = piece_text run ++ 44 ∷ []

-- these runs are written, each with a comma; the next begins with the steps of this run and goes on
-- with the rest
pub record IsWritten (w text : List ℕ) (run : Piece) (rest : List ℕ) : Type 0 where
  pub done : List Piece
  pub written : text ≡ flat_map with_comma done
  pub runs : runs_of w ≡ done ++ joined_before run (runs_of rest)

-- one more step of the run's thread
join_step : (run : Piece) (t : ℕ) (ps : List Piece) → run.thread ≡ t →
    joined_before run (joined_before (record { thread = t; count = 1 }) ps) ≡ joined_before
    (record { thread = run.thread; count = run.count + 1 }) ps
join_step run t [] same = joined_same run (record { thread = t; count = 1 }) [] same
    ∙ ap (λ u. record { thread = u; count = run.count + 1 } ∷ []) (sym same)
join_step run t (next ∷ others) same = elim (cases_eq t next.thread) [
  | inl here ↦
      ap (joined_before run) (joined_same (record { thread = t; count = 1 }) next others here)
      ∙ joined_same run (record { thread = next.thread; count = 1 + next.count }) others
      (same ∙ here)
      ∙ (let sum : run.count + (1 + next.count) ≡ (run.count + 1) + next.count = omega arith in
      ap (λ n. record { thread = next.thread; count = n } ∷ others) sum)
      ∙ sym (joined_same (record { thread = run.thread; count = run.count + 1 }) next others
      (same ∙ here))
  | inr apart ↦
      ap (joined_before run) (joined_other (record { thread = t; count = 1 }) next others apart)
      ∙ joined_same run (record { thread = t; count = 1 }) (next ∷ others) same
      ∙ ap (λ u. record { thread = u; count = run.count + 1 } ∷ next ∷ others) (sym same)
      ∙ sym (joined_other (record { thread = run.thread; count = run.count + 1 }) next others
      (λ e. apart (sym same ∙ e)))
]

-- a step of another thread ends it
join_end : (run : Piece) (t : ℕ) (ps : List Piece) → run.thread ≢ t →
    joined_before run (joined_before (record { thread = t; count = 1 }) ps) ≡ run ∷ joined_before
    (record { thread = t; count = 1 }) ps
join_end run t [] other = joined_other run (record { thread = t; count = 1 }) [] other
join_end run t (next ∷ others) other = elim (cases_eq t next.thread) [
  | inl here ↦
      ap (joined_before run) (joined_same (record { thread = t; count = 1 }) next others here)
      ∙ joined_other run (record { thread = next.thread; count = 1 + next.count }) others
      (λ e. other (e ∙ sym here))
      ∙ ap (λ ps. run ∷ ps) (sym (joined_same (record { thread = t; count = 1 }) next others here))
  | inr apart ↦
      ap (joined_before run) (joined_other (record { thread = t; count = 1 }) next others apart)
      ∙ joined_other run (record { thread = t; count = 1 }) (next ∷ others) other
      ∙ ap (λ ps. run ∷ ps)
      (sym (joined_other (record { thread = t; count = 1 }) next others apart))
]

rest_is : (others : List ℕ) (i t : ℕ) → i < length others → t ≡ get_or others i 0 →
    runs_of (drop i others) ≡ joined_before (record { thread = t; count = 1 })
    (runs_of (drop (i + 1) others))
rest_is others i t l is = ap runs_of (drop_more others i 0 l)
    ∙ ap (λ u. joined_before (record { thread = u; count = 1 }) (runs_of (drop (i + 1) others)))
    (sym is)

pub written_same : (w others text : List ℕ) (run : Piece) (i t : ℕ) →
    IsWritten w text run (drop i others) → i < length others → t ≡ get_or others i 0 →
    t ≡ run.thread →
    IsWritten w text (record { thread = run.thread; count = run.count + 1 }) (drop (i + 1) others)
written_same w others text run i t old l is same = record {
  done = old.done;
  written = old.written;
  runs = old.runs
      ∙ ap (λ ps. old.done ++ ps)
      (ap (joined_before run) (rest_is others i t l is)
      ∙ join_step run t (runs_of (drop (i + 1) others)) (sym same));
}

pub written_next : (w others text more : List ℕ) (run : Piece) (i t : ℕ) →
    IsWritten w text run (drop i others) → i < length others → t ≡ get_or others i 0 →
    t ≢ run.thread → more ≡ (text ++ piece_text run) ++ 44 ∷ [] →
    IsWritten w more (record { thread = t; count = 1 }) (drop (i + 1) others)
written_next w others text more run i t old l is other e = record {
  done = old.done ++ run ∷ [];
  written = e ∙ append_assoc text (piece_text run) (44 ∷ [])
      ∙ ap (λ x. x ++ with_comma run) old.written
      ∙ sym (flat_map-append with_comma old.done (run ∷ [])
      ∙ ap (λ x. flat_map with_comma old.done ++ x) (append-nil (with_comma run)));
  runs = old.runs
      ∙ ap (λ ps. old.done ++ ps)
      (ap (joined_before run) (rest_is others i t l is)
      ∙ join_end run t (runs_of (drop (i + 1) others)) (λ same. other (sym same)))
      ∙ sym (append_assoc old.done (run ∷ [])
      (joined_before (record { thread = t; count = 1 }) (runs_of (drop (i + 1) others))));
}

-- the same for the values after an iteration
pub kept_same : (w others text new : List ℕ) (run after : Piece) (i t : ℕ) →
    IsWritten w text run (drop i others) → i < length others → t ≡ get_or others i 0 →
    t ≡ run.thread → new ≡ text → after ≡ record { thread = run.thread; count = run.count + 1 } →
    IsWritten w new after (drop (i + 1) others)
kept_same w others text new run after i t old l is same e r =
    transport (λ k. IsWritten w (sym e k) (sym r k) (drop (i + 1) others))
    (written_same w others text run i t old l is same)

pub kept_next : (w others text put pushed new : List ℕ) (run after : Piece) (i t : ℕ) →
    IsWritten w text run (drop i others) → i < length others → t ≡ get_or others i 0 →
    t ≢ run.thread → put ≡ text ++ piece_text run → pushed ≡ put ++ 44 ∷ [] → new ≡ pushed →
    after ≡ record { thread = t; count = 1 } → IsWritten w new after (drop (i + 1) others)
kept_next w others text put pushed new run after i t old l is other e f g r =
    transport (λ k. IsWritten w (sym g k) (sym r k) (drop (i + 1) others))
    (written_next w others text pushed run i t old l is other (f ∙ ap (λ x. x ++ 44 ∷ []) e))

-- runs with commas and a last one without are the runs joined
joined_text : (done : List Piece) (run : Piece) →
    flat_map with_comma done ++ piece_text run ≡ join_with_byte 44
    (map piece_text (done ++ run ∷ []))
joined_text [] run = refl
joined_text (p ∷ []) run = append_assoc (with_comma p) [] (piece_text run)
    ∙ append_assoc (piece_text p) (44 ∷ []) (piece_text run)
joined_text (p ∷ q ∷ done) run =
    append_assoc (with_comma p) (flat_map with_comma (q ∷ done)) (piece_text run)
    ∙ append_assoc (piece_text p) (44 ∷ []) (flat_map with_comma (q ∷ done) ++ piece_text run)
    ∙ ap (λ x. piece_text p ++ (44 ∷ x)) (joined_text (q ∷ done) run)

pub written_all : (w others text more : List ℕ) (run : Piece) (t i : ℕ) → w ≡ t ∷ others →
    IsWritten w text run (drop i others) → length others ≤ i → more ≡ text ++ piece_text run →
    more ≡ printed w
written_all w others text more run t i e old over made =
    let runs : runs_of w ≡ old.done ++ run ∷ [] = old.runs
    ∙ ap (λ v. old.done ++ joined_before run (runs_of v)) (drop_all i others over) in
    made ∙ ap (λ x. x ++ piece_text run) old.written ∙ joined_text old.done run
    ∙ ap (λ ps. join_with_byte 44 (map piece_text ps)) (sym runs)
    ∙ ap (λ v. join_with_byte 44 (map piece_text (runs_of v))) e ∙ sym (ap printed e)

pub text_spells : (w text : List ℕ) → text ≡ printed w → ((k : ℕ) → get_or w k 0 < 256) →
    length w < 2 ^ 64 → Spells text w
text_spells w text e small fits =
    subst (λ x. Spells x w) (sym e)
    (printed_spells w (All-from_get_or (λ t. t < 256) w 0 (λ k l. small k)) fits)
