-- Where the first refusal is.
use Rattle.std.specs.Prelude.{◌≡◌, List, ◌∷◌, ◌++◌, Some, None}
use Rattle.guest_code.specs.{Fault.refusal, Uses.Use, declared.error.CheckError.CheckError}

-- one of these uses gets this refusal, and none in front of it gets any; `before` are in front of
-- all of them
pub record IsFirstFault (all before us : List Use) (e : CheckError) : Type 0 where
  pub front : List Use
  pub here : Use
  pub after : List Use
  pub parts : us ≡ front ++ here ∷ after
  pub clean : (xs : List Use) (u : Use) (ys : List Use) → front ≡ xs ++ u ∷ ys
      → refusal all (before ++ xs) u ≡ None
  pub refused : refusal all (before ++ front) here ≡ Some e
