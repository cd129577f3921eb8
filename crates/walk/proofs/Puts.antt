-- What is put off, where it is listed.
use Rattle.std.proofs.Common.{◌≡◌, List, ◌++◌, ℕ, ap, ◌∙◌, sym, append_assoc, []}
use Rattle.std.proofs.lemmas.List.{append-nil}
use Rattle.walk_items.{specs.Walks.listed_if, proofs.Listed.{listed_none, listed_both}}
use Rattle.walk.specs.{declared.found.Found.Found, inner.WalkerInvariant.HasPut}

-- nothing was put off
pub put_none : (f g : Found) → g.lists ≡ f.lists → g.deferred ≡ f.deferred → HasPut f [] g
put_none f g lists same = record {
  lists = lists;
  deferred = same ∙ sym (ap (λ xs. f.deferred ++ xs) (listed_none f.lists) ∙ append-nil f.deferred);
}

-- nothing more was
pub put_same : (f g h : Found) (xs : List (List ℕ)) → HasPut f xs g → h.lists ≡ g.lists →
    h.deferred ≡ g.deferred → HasPut f xs h
put_same f g h xs put lists same = record {
  lists = lists ∙ put.lists;
  deferred = same ∙ put.deferred;
}

-- more were
pub put_more : (f g h : Found) (xs ys : List (List ℕ)) → HasPut f xs g → HasPut g ys h →
    HasPut f (xs ++ ys) h
put_more f g h xs ys put more = record {
  lists = more.lists ∙ put.lists;
  deferred = more.deferred
      ∙ ((λ k. put.deferred k ++ listed_if (put.lists k) ys)
      ∙ (append_assoc f.deferred (listed_if f.lists xs) (listed_if f.lists ys)
      ∙ ap (λ zs. f.deferred ++ zs) (listed_both f.lists xs ys)));
}
