-- The first elements of a queue, one after the other.
use Rattle.std.proofs.Common.{◌≡◌, ℕ, zero, suc, ◌+◌, ◌<◌, ◌≤◌, List, [], ◌∷◌, ◌++◌, length, take, Some, None, ap, ◌∙◌, sym, arith}
use Rattle.std.{specs.List.slice_get, proofs.lemmas.List.{take_more, take_all}}
use Rattle.std.proofs.lemmas.Option.{slice_get_within, get_or_from_slice_get}

pub taken_more : (q old new : List ℕ) (k t : ℕ) → old ≡ take k q → slice_get q k ≡ Some t →
    new ≡ old ++ t ∷ [] → new ≡ take (k + 1) q
taken_more q old new k t e at pushed =
    pushed ∙ (ap (λ l. l ++ t ∷ []) e
    ∙ (ap (λ x. take k q ++ x ∷ []) (sym (get_or_from_slice_get q k t 0 at))
    ∙ sym (take_more q k 0 (slice_get_within q k t at))))

none_past : (xs : List ℕ) (k : ℕ) → slice_get xs k ≡ None → length xs ≤ k
none_past [] k h = omega arith
none_past (x ∷ xs) zero h = absurd cc
none_past (x ∷ xs) (suc k) h = let l = none_past xs k h in omega (arith, l)

-- where there are no more, all are taken
pub taken_all : (q old : List ℕ) (k most : ℕ) → old ≡ take k q → slice_get q k ≡ None →
    k < most → old ≡ take most q
taken_all q old k most e none l =
    let past = none_past q k none in
    let enough : length q ≤ most = omega (arith, past, l) in
    e ∙ (take_all k q past ∙ sym (take_all most q enough))
