-- What a worker keeps of a round, and what it settles.
use Rattle.std.proofs.Common.{◌≡◌, ℕ, Bool, true, false, List, [], ◌∷◌, flat_map, refl, sym, subst}
use Rattle.std.proofs.Common.{Result, Ok, Err}
use Rattle.std.specs.declared.alloc.AllocError.{AllocError}
use Rattle.guest_code.specs.Program.{Program}
use Rattle.walk_items.specs.{Items.ItemView, Walks.{WalkView, items_at, listed_if}}
use Rattle.walk_items.specs.declared.mode.Mode.{Mode}
use Rattle.walk.specs.declared.found.Found.{Found}
use Rattle.book.specs.Books.{BookView, AreWalksAt, HaveFound, HaveSettled}
use Rattle.runner_rounds.specs.Rounds.{IsOf}

-- a book where walks were settled is of the same search
pub settled_of : (i : ItemView) (mode : Mode) (quick lists : Bool) (ws : List WalkView)
    (old new : BookView) → IsOf old i mode quick lists → HaveSettled old ws new →
    IsOf new i mode quick lists
settled_of i mode quick lists [] old new of h = subst (λ z. IsOf z i mode quick lists) (sym h) of
settled_of i mode quick lists (w ∷ ws) old new of h =
    settled_of i mode quick lists ws h.0 new
    (subst (λ z. IsOf z i mode quick lists) (sym h.1.book)
    (record { of = of.of; mode = of.mode; quick = of.quick; lists = of.lists })) h.2

-- and so it is where they were taken or not
pub kept_of : (i : ItemView) (mode : Mode) (quick lists : Bool) (ws : List WalkView)
    (old new : BookView) (r : Result Bool AllocError) → IsOf old i mode quick lists →
    (r ≡ Ok true → HaveSettled old ws new) → ((r ≡ Ok true → ⊥) → new ≡ old) →
    IsOf new i mode quick lists
kept_of i mode quick lists ws old new (Ok true) of f g =
    settled_of i mode quick lists ws old new of (f refl)
kept_of i mode quick lists ws old new (Ok false) of f g =
    subst (λ z. IsOf z i mode quick lists) (sym (g (λ e. cc))) of
kept_of i mode quick lists ws old new (Err x) of f g =
    subst (λ z. IsOf z i mode quick lists) (sym (g (λ e. cc))) of

-- what was found in a round, with the names that another holder has for the same
abbrev pub found_in : (p q : Program) (mode other : Mode) (items is : List ItemView)
    (places ks : List ℕ) (f : Found) → q ≡ p → other ≡ mode → is ≡ items → ks ≡ places →
    HaveFound p mode items places f → HaveFound q other is ks f
found_in p q mode other items is places ks f same in_mode e g h = record {
  walks = h.walks;
  of = subst (λ (m : Mode). AreWalksAt m is ks h.walks) (sym in_mode)
      (subst (λ (xs : List ItemView). AreWalksAt mode xs ks h.walks) (sym e)
      (subst (λ (ns : List ℕ). AreWalksAt mode items ns h.walks) (sym g) h.of));
  part = h.part;
  rest = h.rest;
  deferred = subst (λ (x : Program). items_at x f.deferred
      ≡ listed_if f.lists (flat_map (λ w. w.deferred) h.walks))
      (sym same) h.deferred;
}
