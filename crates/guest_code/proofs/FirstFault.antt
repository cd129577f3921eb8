-- The first refusal is at one use, with none in front of it.
use Rattle.std.proofs.Common.{◌≡◌, List, [], ◌∷◌, ◌++◌, Option, Some, None, refl, ap, ◌∙◌, append_assoc}
use Rattle.std.{specs.Option.option_or, proofs.lemmas.List.append-nil}
use Rattle.guest_code.specs.{Fault.{refusal, first}, FirstFault.IsFirstFault, Uses.Use}
use Rattle.guest_code.specs.declared.error.CheckError.{CheckError}

no_parts : (xs : List Use) (u : Use) (ys : List Use) → [] ≡ xs ++ u ∷ ys → ⊥
no_parts [] u ys e = cc
no_parts (x ∷ xs) u ys e = cc

clean_step : (all before : List Use) (v : Use) (front : List Use) → refusal all before v ≡ None
    → ((xs : List Use) (u : Use) (ys : List Use) → front ≡ xs ++ u ∷ ys
    → refusal all ((before ++ v ∷ []) ++ xs) u ≡ None)
    → (xs : List Use) (u : Use) (ys : List Use) → v ∷ front ≡ xs ++ u ∷ ys
    → refusal all (before ++ xs) u ≡ None
clean_step all before v front r h [] u ys e =
    let same : u ≡ v = cc in
    rw (append-nil before, same) r
clean_step all before v front r h (x ∷ xs) u ys e =
    let head : x ≡ v = cc in
    let tail : front ≡ xs ++ u ∷ ys = cc in
    rw (head, ← append_assoc before (v ∷ []) xs) (h xs u ys tail)

found_at : (all before : List Use) (v : Use) (us : List Use) (e : CheckError)
    (o : Option CheckError) → refusal all before v ≡ o
    → (first all (before ++ v ∷ []) us ≡ Some e → IsFirstFault all (before ++ v ∷ []) us e)
    → option_or o (first all (before ++ v ∷ []) us) ≡ Some e
    → IsFirstFault all before (v ∷ us) e
found_at all before v us e (Some d) r h s =
    record {
      front = [];
      here = v;
      after = us;
      parts = refl;
      clean = λ xs u ys p. absurd
          (no_parts xs u ys p);
      refused = rw (append-nil before) (r ∙ s);
    }
found_at all before v us e None r h s =
    let f : IsFirstFault all (before ++ v ∷ []) us e = h s in
    record {
      front = v ∷ f.front;
      here = f.here;
      after = f.after;
      parts = ap (λ (xs : List Use). v ∷ xs) f.parts;
      clean = clean_step all before v f.front r f.clean;
      refused = rw (← append_assoc before (v ∷ []) f.front) f.refused;
    }

pub first_found : (all before us : List Use) (e : CheckError) → first all before us ≡ Some e
    → IsFirstFault all before us e
first_found all before [] e s = absurd cc
first_found all before (v ∷ us) e s = found_at all before v us e (refusal all before v) refl
    (first_found all (before ++ v ∷ []) us e) s
