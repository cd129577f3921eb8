-- Lists in JSON, read item by item.
use Rattle.std.proofs.Common.{◌≡◌, ◌∙◌, refl, sym, ap, arith, ℕ, ℤ, pos, negsuc, ◌<◌, List, [], ◌∷◌, length, map, get_or, FitsSigned, Some, option_and_then}
use Rattle.std.{specs.Int.w64, proofs.lemmas.List.{get_or-map, length-map}}
use Rattle.serde_json.specs.{Data.{Data, number}, Find.{of_integer, as_number, as_i64}}
use Rattle.serde_json.specs.{View.{view, items_of}, declared.value.Value.Value}

pub items_same : (ds es : List Data) → items_of ds ≡ items_of es → ds ≡ es
items_same [] [] e = refl
items_same [] (d ∷ ds) e = absurd cc
items_same (d ∷ ds) [] e = absurd cc
items_same (d ∷ ds) (b ∷ bs) e =
    let first : d ≡ b = cc in
    let later : items_of ds ≡ items_of bs = cc in
    rw (first, items_same ds bs later) refl

module _ {X : Type 0} (f : X → Data) where
  pub as_long : (vs : List Value) (xs : List X) → map view vs ≡ map f xs → length vs ≡ length xs
  as_long vs xs e = sym (length-map vs view) ∙ (ap length e ∙ length-map xs f)

  pub item_at : (vs : List Value) (xs : List X) (i : ℕ) (v : Value) (x : X)
      → map view vs ≡ map f xs → i < length vs → view (get_or vs i v) ≡ f (get_or xs i x)
  item_at vs xs i v x e inside =
      let long = as_long vs xs e in
      sym (get_or-map view vs i v (view v) inside)
      ∙ (ap (λ ds. get_or ds i (view v)) e ∙ get_or-map f xs i x (view v) (omega (arith, long)))

pub integer_read : (z : ℤ) → FitsSigned w64 z
    → option_and_then as_i64 (as_number (number (of_integer z))) ≡ Some z
integer_read (pos n) fits = grind (arith, fits)
integer_read (negsuc n) fits = refl
