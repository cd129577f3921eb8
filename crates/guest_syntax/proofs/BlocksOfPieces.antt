-- Where the blocks of a text close.
use Rattle.std.specs.Prelude.{codes, ◌==◌, if◌then◌else◌}
use Rattle.std.proofs.Common.{◌≡◌, ℕ, ◌+◌, ◌-◌, ◌<◌, ◌≤◌, Bool, true, false, List, [], ◌∷◌, ◌++◌, length, get_or, take, drop, Option, Some, None, refl, ap, sym, ◌∙◌, arith, add-one, drop-cons}
use Rattle.std.{specs.Option.option_and_then, proofs.lemmas.Bool.Decides.nat_tests}
use Rattle.std.proofs.lemmas.List.{length-take-le, take-append-drop, take_all, take_more}
use Rattle.std.proofs.lemmas.Slice.Eq.{bytes_eq-Decides}
use Rattle.guest_syntax.specs.Pieces.{is_mark, open_after, all_open_after, ClosesAt}
use Rattle.guest_syntax.specs.declared.pieces.Piece.{Piece}

open_append_by : (ps qs : List Piece) (o : Option ℕ)
    → ((n : ℕ) → all_open_after (ps ++ qs) n
    ≡ option_and_then (all_open_after qs) (all_open_after ps n))
    → option_and_then (all_open_after (ps ++ qs)) o
    ≡ option_and_then (all_open_after qs) (option_and_then (all_open_after ps) o)
open_append_by ps qs None ih = refl
open_append_by ps qs (Some n) ih = ih n

-- the blocks that are open after pieces and others
pub open_append : (ps qs : List Piece) (n : ℕ)
    → all_open_after (ps ++ qs) n ≡ option_and_then (all_open_after qs) (all_open_after ps n)
open_append [] qs n = refl
open_append (p ∷ ps) qs n = open_append_by ps qs (open_after p n) (open_append ps qs)

-- the piece that closes a block that isn't open
closes_by : (opens closes zero : Bool) (n : ℕ)
    → (if opens then Some (n + 1) else (if closes then (if zero then None else Some (n - 1))
    else Some n)) ≡ None → (closes ≡ true) × (zero ≡ true)
closes_by true closes zero n e = absurd cc
closes_by false true true n e = (refl, refl)
closes_by false true false n e = absurd cc
closes_by false false zero n e = absurd cc

closes_too_many : (p : Piece) (n : ℕ) → open_after p n ≡ None → (p.text.now ≡ codes "}") × (n ≡ 0)
closes_too_many p n e =
    let h = closes_by (is_mark (codes "{") p) (is_mark (codes "}") p) (n == 0) n e in
    let zero : (n == 0) ≡ true = h.1 in
    ((bytes_eq-Decides p.text.now (codes "}")).0 h.0, grind (arith, nat_tests, zero))

closed_at_none : (p : Piece) → p.text.now ≡ codes "}" → open_after p 0 ≡ None
closed_at_none p e = rw e refl

-- where a block is closed that was not opened, not all pieces can be passed
pub not_all_passed : (ps : List Piece) (n d : ℕ) → ClosesAt ps n → all_open_after ps 0 ≡ Some d → ⊥
not_all_passed ps n d c e =
    let none : all_open_after ps 0 ≡ None =
    ap (λ ps. all_open_after ps 0) c.parts ∙ open_append c.inside (c.last ∷ c.rest) 0
    ∙ ap (option_and_then (all_open_after (c.last ∷ c.rest))) c.balanced
    ∙ ap (option_and_then (all_open_after c.rest)) (closed_at_none c.last c.closes) in
    absurd (let h = sym none ∙ e in cc)

-- ---- a loop over the pieces

pub one_more : (ps : List Piece) (i : ℕ) (d : Piece) (n m : ℕ) → i < length ps
    → all_open_after (take i ps) 0 ≡ Some n → open_after (get_or ps i d) n ≡ Some m
    → all_open_after (take (i + 1) ps) 0 ≡ Some m
one_more ps i d n m lt opened is = rw (
  take_more ps i d lt,
  open_append (take i ps) (get_or ps i d ∷ []) 0,
  opened,
  is,
) refl

parts_at : (ps : List Piece) (i : ℕ) (d : Piece) → i < length ps
    → ps ≡ take i ps ++ get_or ps i d ∷ drop (i + 1) ps
parts_at ps i d lt = sym (take-append-drop i ps)
    ∙ ap (λ r. take i ps ++ r) (rw add-one (drop-cons ps i d lt))

pub closes_here : (ps : List Piece) (i : ℕ) (d : Piece) (n : ℕ) → i < length ps
    → all_open_after (take i ps) 0 ≡ Some n → open_after (get_or ps i d) n ≡ None → ClosesAt ps i
closes_here ps i d n lt opened none =
    let h = closes_too_many (get_or ps i d) n none in
    record {
      inside = take i ps;
      last = get_or ps i d;
      rest = drop (i + 1) ps;
      parts = parts_at ps i d lt;
      balanced = opened ∙ ap (λ n. Some n) h.1;
      closes = h.0;
      number = sym (length-take-le i ps (omega (arith, lt)));
    }

pub closes_nowhere : (ps : List Piece) (i d : ℕ) → length ps ≤ i
    → all_open_after (take i ps) 0 ≡ Some d → (n : ℕ) → ClosesAt ps n → ⊥
closes_nowhere ps i d le opened n c =
    not_all_passed ps n d c (ap (λ ps. all_open_after ps 0) (sym (take_all i ps le)) ∙ opened)
