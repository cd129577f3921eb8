-- What is read of a file up to a limit.
use Rattle.std.proofs.Common.{◌≡◌, ◌∙◌, ap, subst, ℕ, ◌+◌, List, [], ◌++◌, take}
use Rattle.std.proofs.Common.{Option, Some, None, IfSome, option_map}
use Rattle.guest_syntax.specs.declared.limits.TheConstants.{TEXT_BYTES}
use Rattle.ctxbound_answers.specs.Serve.{IsPartRead}

-- what an empty buffer holds after it was filled up to the limit
pub filled_is_part : (inner known : Option (List ℕ)) (limit : ℕ) (old new : List ℕ)
    → inner ≡ known → old ≡ [] → limit ≡ TEXT_BYTES + 1
    → IfSome (option_map (take limit) inner) (λ xs. new ≡ old ++ xs)
    → IfSome known (IsPartRead new)
filled_is_part inner None limit old new reader empty same filled = tt
filled_is_part inner (Some file) limit old new reader empty same filled =
    let filled_by : Option (List ℕ) → Type 0 =
    λ r. IfSome (option_map (take limit) r) (λ xs. new ≡ old ++ xs) in
    let part : new ≡ old ++ take limit file = subst filled_by reader filled in
    part ∙ ap (λ xs. xs ++ take limit file) empty ∙ ap (λ n. take n file) same
