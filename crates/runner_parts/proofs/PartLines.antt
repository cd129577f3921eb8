-- Parts, line by line.
use Rattle.std.proofs.Common.{◌≡◌, refl, sym, ap, subst, ◌∙◌, arith, ℕ, ◌<◌, ◌+◌, ◌==◌, Bool, true, false, List, [], ◌∷◌, ◌++◌, length, map, take, drop, get_or, min, All, append_assoc, append-nil, Option, Some}
use Rattle.std.{specs.Fn.CalledAt, specs.Iterator.Yields, proofs.lemmas.Iterator.YieldsList}
use Rattle.std.proofs.lemmas.Iterator.Consumers.{YieldsList-at, YieldsList-so_far, YieldsList-turn}
use Rattle.std.proofs.lemmas.Iterator.Splits.{YieldsList-from_slice_split}
use Rattle.std.proofs.lemmas.List.{drop_more, drop_all, take-append-drop}
use Rattle.std.proofs.lemmas.List.Elements.{All-cons, All-head, All-nil, All-tail}
use Rattle.std.specs.Slice.Iter as slice
use denote.{Param.Members.Mut, Ref.Bor}
use Rattle.runner_parts.specs.Lines.{lines_of, is_blank, AreLinesOf, IsFirstRefused}
use Rattle.runner_parts.specs.PartText.{PartView, IsPart, IsLineOf}
use Rattle.runner_parts.specs.declared.error.LineError.{LineError}
use Rattle.runner_parts.specs.declared.error.PartError.TheVariants.{OutOfMemory}
use Rattle.walk_summary.specs.Summaries.{cut, greatest_count}

-- one line

pub no_part : (line : List ℕ) → is_blank line ≡ true → AreLinesOf (line ∷ []) []
no_part line blank = rw blank tt

pub its_part : (line : List ℕ) (x : PartView) → is_blank line ≡ false → IsLineOf line x
    → AreLinesOf (line ∷ []) (x ∷ [])
its_part line x solid is = rw solid (is, tt)

pub only_blank : (line : List ℕ) (xs : List PartView) → is_blank line ≡ true
    → AreLinesOf (line ∷ []) xs → xs ≡ []
only_blank line [] blank h = refl
only_blank line (x ∷ xs) blank h = absurd (rw blank at h)

pub only_part : (line : List ℕ) (xs : List PartView) → is_blank line ≡ false
    → AreLinesOf (line ∷ []) xs → (x : PartView) × (xs ≡ x ∷ []) × IsLineOf line x
only_part line [] solid h = absurd (rw solid at h)
only_part line (x ∷ []) solid h = let parts = rw solid at h in (x, refl, parts.0)
only_part line (x ∷ y ∷ xs) solid h = let parts = rw solid at h in absurd parts.1

-- several

pub joined : (ls ms : List (List ℕ)) (xs ys : List PartView) → AreLinesOf ls xs → AreLinesOf ms ys
    → AreLinesOf (ls ++ ms) (xs ++ ys)
joined [] ms [] ys h k = k
joined [] ms (x ∷ xs) ys h k = absurd h
joined (l ∷ ls) ms xs ys h k =
    go (is_blank l) refl xs h (λ zs more. joined ls ms zs ys more k)
  where
    go : (b : Bool) → is_blank l ≡ b → (xs : List PartView) → AreLinesOf (l ∷ ls) xs
        → ((zs : List PartView) → AreLinesOf ls zs → AreLinesOf (ls ++ ms) (zs ++ ys))
        → AreLinesOf (l ∷ (ls ++ ms)) (xs ++ ys)
    go true e xs h later = rw e (later xs (rw e at h))
    go false e [] h later = absurd (rw e at h)
    go false e (x ∷ xs) h later = let parts = rw e at h in rw e (parts.0, later xs parts.1)

-- the parts of a line, and those of the lines after it
pub first_off : (l : List ℕ) (ls : List (List ℕ)) (xs : List PartView) → AreLinesOf (l ∷ ls) xs
    → (ys rest : List PartView) × (xs ≡ ys ++ rest) × AreLinesOf (l ∷ []) ys × AreLinesOf ls rest
first_off l ls xs h = go (is_blank l) refl xs h
  where
    go : (b : Bool) → is_blank l ≡ b → (xs : List PartView) → AreLinesOf (l ∷ ls) xs
        → (ys rest : List PartView) × (xs ≡ ys ++ rest) × AreLinesOf (l ∷ []) ys
        × AreLinesOf ls rest
    go true e xs h = ([], xs, refl, no_part l e, rw e at h)
    go false e [] h = absurd (rw e at h)
    go false e (x ∷ xs) h =
        let parts = rw e at h in (x ∷ [], xs, refl, its_part l x e parts.0, parts.1)

-- the parts that are left after those of the lines so far
pub record AreLeft (lines : List (List ℕ)) (at : ℕ) (before xs : List PartView) : Type 0 where
  pub rest : List PartView
  pub cut : xs ≡ before ++ rest
  pub left : AreLinesOf (drop at lines) rest

pub all_left : (lines : List (List ℕ)) (xs : List PartView) → AreLinesOf lines xs
    → AreLeft lines 0 [] xs
all_left lines xs h = record { rest = xs; cut = refl; left = h }

pub none_left : (lines : List (List ℕ)) (before xs : List PartView)
    → AreLeft lines (length lines) before xs → before ≡ xs
none_left lines before xs h =
    go h.rest (rw (drop_all (length lines) lines (omega arith)) at h.left) h.cut
  where
    go : (rest : List PartView) → AreLinesOf [] rest → xs ≡ before ++ rest → before ≡ xs
    go [] none cut = sym (cut ∙ append-nil before)
    go (x ∷ rest) none cut = absurd none

-- the parts of the next line
pub record AreNext (line : List ℕ) (lines : List (List ℕ)) (at : ℕ) (before xs : List PartView)
    : Type 0 where
  pub ys : List PartView
  pub fit : All IsPart ys
  pub are : AreLinesOf (line ∷ []) ys
  pub left : AreLeft lines at (before ++ ys) xs

fit_after : (xs ys : List PartView) → All IsPart (xs ++ ys) → All IsPart ys
fit_after [] ys h = h
fit_after (x ∷ xs) ys h = fit_after xs ys (All-tail IsPart x (xs ++ ys) h)

fit_before : (xs ys : List PartView) → All IsPart (xs ++ ys) → All IsPart xs
fit_before [] ys h = All-nil IsPart
fit_before (x ∷ xs) ys h =
    All-cons IsPart x xs (All-head IsPart x (xs ++ ys) h)
    (fit_before xs ys (All-tail IsPart x (xs ++ ys) h))

pub next_line : (lines : List (List ℕ)) (at : ℕ) (line : List ℕ) (before xs : List PartView)
    → at < length lines → line ≡ get_or lines at line → All IsPart xs → AreLeft lines at before xs
    → AreNext line lines (at + 1) before xs
next_line lines at line before xs inside same fit h =
    let here : drop at lines ≡ line ∷ drop (at + 1) lines =
    drop_more lines at line inside ∙ ap (λ l. l ∷ drop (at + 1) lines) (sym same) in
    let off = first_off line (drop (at + 1) lines) h.rest (rw here at h.left) in
    let cut : xs ≡ before ++ (off.0 ++ off.1) = h.cut ∙ ap (λ r. before ++ r) off.2 in
    record {
      ys = off.0;
      fit = fit_before off.0 off.1 (fit_after before (off.0 ++ off.1) (subst (All IsPart) cut fit));
      are = off.3;
      left = record {
        rest = off.1;
        cut = cut ∙ sym (append_assoc before off.0 off.1);
        left = off.4;
      };
    }

-- a turn of a `for` over lines that are known
pub turned : {S A B : Type 0} {steps : S → Option A → S → Type 0} {v : A → B} {s : S}
    {all : List B} (xs : List A) (t : S) → Yields steps s xs t → (r : Option A) (u : S) (x : A)
    → r ≡ Some x → steps t r u → YieldsList steps v s all
    → (map v xs ≡ take (length xs) all) × (length xs < length all)
    × (v x ≡ get_or all (length xs) (v x))
turned xs t so_far r u x is step lines =
    let turn = YieldsList-turn lines xs t so_far r u x is step in
    (YieldsList-so_far lines xs t so_far, turn.0, turn.1)

-- a count that goes on by one
pub next_number : (old new lines : ℕ) → old ≡ cut lines → new ≡ min (old + 1) greatest_count
    → new ≡ cut (lines + 1)
next_number old new lines e f = omega (arith, e, f)

-- the first line that is refused
pub refused_here : (text : List ℕ) (e : LineError) (before : List (List ℕ)) (line : List ℕ)
    (xs : List PartView) → before ≡ take (length before) (lines_of text)
    → length before < length (lines_of text) → line ≡ get_or (lines_of text) (length before) line
    → e.number ≡ cut (length before + 1) → AreLinesOf before xs
    → ((ys : List PartView) → All IsPart ys → AreLinesOf (line ∷ []) ys → e.error ≡ OutOfMemory)
    → IsFirstRefused text e
refused_here text e before line xs front inside same number are read = record {
  before = before;
  line = line;
  after = drop (length before + 1) (lines_of text);
  lines = sym (take-append-drop (length before) (lines_of text))
      ∙ (ap (λ ls. ls ++ drop (length before) (lines_of text)) (sym front)
      ∙ ap (λ ls. before ++ ls) (drop_more (lines_of text) (length before) line inside
      ∙ ap (λ l. l ∷ drop (length before + 1) (lines_of text)) (sym same)));
  number = number;
  read = (xs, are);
  none = λ other x fit is. other (go (is_blank line) refl x fit is);
}
  where
    go : (b : Bool) → is_blank line ≡ b → (x : PartView) → IsPart x → IsLineOf line x
        → e.error ≡ OutOfMemory
    go true blank x fit is = read [] (All-nil IsPart) (no_part line blank)
    go false solid x fit is =
        read (x ∷ []) (All-cons IsPart x [] fit (All-nil IsPart)) (its_part line x solid is)

-- a split at each line feed yields the lines
pub yields_lines : {F : Type 0} {s t : _} (g : Mut F (Bor ℕ × Unit {0}) Bool) {f : F}
    {text : List ℕ} → t ≡ s → slice.split_rest s ≡ text → slice.split_done s ≡ false
    → slice.split_callee s ≡ f
    → ((x : ℕ) (b : Bool) (q : F) → CalledAt g f x b q → (q ≡ f) × (b ≡ (x == 10)))
    → YieldsList (slice.split_steps g) (λ x. x.now) t (lines_of text)
yields_lines g {text = text} gives rest done closure tests =
    YieldsList-at gives (YieldsList-from_slice_split g (λ b. b == 10) text rest done closure tests)
