-- Walks that are gathered one after another, and settled at once.
use Rattle.std.proofs.Common.{◌≡◌, ℕ, ◌<◌, zero, suc, List, [], ◌∷◌, ◌++◌, length, flat_map, Some, slice_get, refl, ap, ◌∙◌, sym, subst, arith, append_assoc, All, true, false, not, ◌&&◌}
use Rattle.std.specs.List.{remove}
use Rattle.std.proofs.lemmas.{Grind.flat_map-append, List.append-nil, List.Edits.remove-append_left}
use Rattle.std.proofs.lemmas.List.Elements.{All-nil, All-cons}
use Rattle.guest_code.specs.Program.{Program}
use Rattle.walk_summary.specs.Summaries.{SummaryView, IsSummary, nothing, join}
use Rattle.walk_summary.proofs.SumsJoin.{join_assoc, join_nothing}
use Rattle.walk_items.specs.Items.{ItemView, AreOf}
use Rattle.walk_items.specs.Walks.{WalkView, IsWalked, items_at, listed_if}
use Rattle.walk_items.specs.declared.mode.Mode.{Mode}
use Rattle.walk_items.proofs.{Listed.{listed_none, listed_both, listed_twice}, Splits.split_kept}
use Rattle.walk.specs.{Founds.HasAdded, declared.found.Found.Found}
use Rattle.book.specs.Books.{BookView, Keeps, KeepsWhere, with_deferred, IsOpenAt, AreOpenAt, AreWalksAt, HaveFound, HaveSettled, settled, taken_in, remove_each, joined}
use Rattle.book.proofs.{PackedItems.got-left, Thinned.settles_any}

-- gathered one after another

pub walks_more : (mode : Mode) (items : List ItemView) (ks : List ℕ) (ws : List WalkView) (k : ℕ)
    (w : WalkView) → AreWalksAt mode items ks ws → w.mode ≡ mode → slice_get items k ≡ Some w.item →
    IsWalked w → AreWalksAt mode items (ks ++ k ∷ []) (ws ++ w ∷ [])
walks_more mode items [] [] k w h m at walked = (m, at, walked, tt)
walks_more mode items [] (x ∷ ws) k w h m at walked = absurd h
walks_more mode items (j ∷ ks) [] k w h m at walked = absurd h
walks_more mode items (j ∷ ks) (x ∷ ws) k w h m at walked =
    (h.0, h.1, h.2, walks_more mode items ks ws k w h.3 m at walked)

pub joined_more : (s : SummaryView) (ws : List WalkView) (w : WalkView) →
    joined s (ws ++ w ∷ []) ≡ join (joined s ws) w.part
joined_more s [] w = refl
joined_more s (x ∷ ws) w = joined_more (join s x.part) ws w

pub flat_more : (f : WalkView → List ItemView) (ws : List WalkView) (w : WalkView) →
    flat_map f (ws ++ w ∷ []) ≡ flat_map f ws ++ f w
flat_more f ws w =
    flat_map-append f ws (w ∷ []) ∙ ap (λ xs. flat_map f ws ++ xs) (append-nil (f w))

abbrev pub none_found : (p : Program) (mode : Mode) (items : List ItemView) (f : Found) →
    f.part ≡ nothing → f.rest.items ≡ [] → f.deferred ≡ [] → HaveFound p mode items [] f
none_found p mode items f part rest deferred = record {
  walks = [];
  of = tt;
  part = part;
  rest = rest;
  deferred = ap (items_at p) deferred ∙ sym (listed_none f.lists);
}

abbrev pub one_more_found : (p : Program) (mode : Mode) (items : List ItemView) (places : List ℕ)
    (place quota : ℕ) (i : ItemView) (f g : Found) → HaveFound p mode items places f →
    slice_get items place ≡ Some i → i.program ≡ p → HasAdded mode i quota f g →
    HaveFound p mode items (places ++ place ∷ []) g
one_more_found p mode items places place quota i f g h at of a = record {
  walks = h.walks ++ a.walk ∷ [];
  of = walks_more mode items places h.walks place a.walk h.of a.in_mode
      (at ∙ ap (λ j. Some j) (sym a.of)) a.walked;
  part = a.part ∙ (ap (λ s. join s a.walk.part) h.part ∙ sym (joined_more nothing h.walks a.walk));
  rest = a.rest ∙ (ap (λ xs. xs ++ a.walk.rest) h.rest
      ∙ sym (flat_more (λ w. w.rest) h.walks a.walk));
  deferred = subst (λ (q : Program). items_at q g.deferred
      ≡ items_at q f.deferred ++ listed_if f.lists a.walk.deferred) of a.deferred
      ∙ (ap (λ xs. xs ++ listed_if f.lists a.walk.deferred) h.deferred
      ∙ (listed_both f.lists (flat_map (λ w. w.deferred) h.walks) a.walk.deferred
      ∙ (λ k. listed_if (sym a.lists k) (sym (flat_more (λ w. w.deferred) h.walks a.walk) k))));
}

-- settled at once

-- what is finished is a summary
pub finished_kept : (b : BookView) → Keeps b → IsSummary b.finished
finished_kept b h = go b.dropped h.split
  where
    go : (d : _) → KeepsWhere d (with_deferred b h.put) → IsSummary b.finished
    go true t =
        split_kept b.mode b.of b.finished (t.gone ++ b.open_items) h.put t.split.split
    go false s = split_kept b.mode b.of b.finished b.open_items h.put s.split

got_within : {X : Type 0} (xs : List X) (k : ℕ) (x : X) → slice_get xs k ≡ Some x → k < length xs
got_within [] k x e = cc
got_within (y ∷ ys) zero x e = omega arith
got_within (y ∷ ys) (suc k) x e = let l = got_within ys k x e in omega (arith, l)

pub walked_within : (mode : Mode) (items : List ItemView) (ks : List ℕ) (ws : List WalkView) →
    AreWalksAt mode items ks ws → All (λ k. k < length items) ks
walked_within mode items [] ws h = All-nil (λ k. k < length items)
walked_within mode items (k ∷ ks) [] h = absurd h
walked_within mode items (k ∷ ks) (w ∷ ws) h =
    All-cons (λ k. k < length items) k ks (got_within items k w.item h.1)
    (walked_within mode items ks ws h.3)

joined_on : (s t : SummaryView) (ws : List WalkView) → join s (joined t ws) ≡ joined (join s t) ws
joined_on s t [] = refl
joined_on s t (w ∷ ws) =
    joined_on s (join t w.part) ws ∙ ap (λ x. joined x ws) (sym (join_assoc s t w.part))

own_item : (p : Program) (items : List ItemView) (k : ℕ) (i : ItemView) → AreOf p items →
    slice_get items k ≡ Some i → p ≡ i.program
own_item p [] k i h e = cc
own_item p (x ∷ xs) zero i h e =
    let f : x ≡ i = cc in sym (h 0 x (omega arith)) ∙ ap (λ (y : ItemView). y.program) f
own_item p (x ∷ xs) (suc k) i h e =
    own_item p xs k i (λ j d l. h (suc j) d (omega (arith, l))) e

-- the book where these walks are settled, and these open items are left before what came
after : BookView → List ItemView → List WalkView → BookView
after b left ws = record b {
  finished = joined b.finished ws;
  open_items = left ++ flat_map (λ w. w.rest) ws;
  deferred = b.deferred ++ listed_if b.lists (flat_map (λ w. w.deferred) ws);
}

settled_after : (items : List ItemView) (ks qs : List ℕ) (ws : List WalkView) (b : BookView)
    (xs come : List ItemView) → AreOf b.of.program items → b.open_items ≡ xs ++ come → Keeps b →
    AreWalksAt b.mode items ks ws → AreOpenAt xs items ks qs →
    HaveSettled b ws (after b (remove_each xs qs ++ come) ws)
    × Keeps (after b (remove_each xs qs ++ come) ws)
unfolding after
settled_after items [] [] [] b xs come own is h w o =
    let same : after b (xs ++ come) [] ≡ b = λ k. record b {
      open_items = (append-nil (xs ++ come) ∙ sym is) k;
      deferred = (ap (λ ds. b.deferred ++ ds) (listed_none b.lists) ∙ append-nil b.deferred) k;
    } in
    (same, subst Keeps (sym same) h)
settled_after items [] [] (x ∷ ws) b xs come own is h w o = absurd w
settled_after items [] (q ∷ qs) ws b xs come own is h w o = absurd o
settled_after items (k ∷ ks) qs [] b xs come own is h w o = absurd w
settled_after items (k ∷ ks) [] (x ∷ ws) b xs come own is h w o = absurd o
settled_after items (k ∷ ks) (q ∷ qs) (x ∷ ws) b xs come own is h w o =
    let at : IsOpenAt b x.item q = (
      subst (λ (ys : List ItemView). q < length ys) (sym is) (longer xs come q o.0),
      ap (λ ys. slice_get ys q) is ∙ (got-left xs come q o.0 ∙ (sym o.1 ∙ w.1)),
    ) in
    let of : (b.mode ≡ x.mode) × (b.of.program ≡ x.item.program) =
    (sym w.0, own_item b.of.program items k x.item own w.1) in
    let next : BookView = settled b x q in
    let open_is : next.open_items ≡ remove xs q ++ (come ++ x.rest) =
    ap (λ ys. remove ys q ++ x.rest) is
    ∙ (ap (λ ys. ys ++ x.rest) (remove-append_left xs come q o.0)
    ∙ append_assoc (remove xs q) come x.rest) in
    let r = settled_after items ks qs ws next (remove xs q) (come ++ x.rest) own open_is
    (settles_any b x q h w.2 of at) w.3 o.2 in
    let rests : List ItemView = flat_map (λ y. y.rest) ws in
    let left : List ItemView = remove_each (remove xs q) qs in
    let same : after next (left ++ (come ++ x.rest)) ws ≡ after b (left ++ come) (x ∷ ws) =
    λ j. record b {
      finished = joined (join b.finished x.part) ws;
      open_items = (ap (λ ys. ys ++ rests) (sym (append_assoc left come x.rest))
          ∙ append_assoc (left ++ come) x.rest rests) j;
      deferred = (append_assoc b.deferred (listed_if b.lists x.deferred)
          (listed_if b.lists (flat_map (λ y. y.deferred) ws))
          ∙ ap (λ ds. b.deferred ++ ds)
          (listed_both b.lists x.deferred (flat_map (λ y. y.deferred) ws))) j;
    } in (
      (
        next,
        record { of = of; place = q; is_open = at; book = refl },
        subst (HaveSettled next ws) same r.0,
      ),
      subst Keeps same r.1,
    )
  where
    longer : (ys zs : List ItemView) (n : ℕ) → n < length ys → n < length (ys ++ zs)
    longer [] zs n l = absurd (omega arith)
    longer (y ∷ ys) zs zero l = omega arith
    longer (y ∷ ys) zs (suc n) l = let m = longer ys zs n (omega arith) in omega (arith, m)

-- so what they found together settles them, one after another
pub settled_together : (items : List ItemView) (ks qs : List ℕ) (found : Found) (b : BookView) →
    AreOf b.of.program items → Keeps b → AreOpenAt b.open_items items ks qs →
    (b.lists && not found.lists) ≡ false → (f : HaveFound b.of.program b.mode items ks found) →
    HaveSettled b f.walks (taken_in b (remove_each b.open_items qs) found)
    × Keeps (taken_in b (remove_each b.open_items qs) found)
unfolding after
settled_together items ks qs found b own h o lists f =
    let r = settled_after items ks qs f.walks b b.open_items [] own (sym (append-nil b.open_items)) h
    f.of o in
    let left : List ItemView = remove_each b.open_items qs in
    let same : after b (left ++ []) f.walks ≡ taken_in b left found =
    λ k. record b {
      finished = (sym (ap (join b.finished) f.part ∙ (joined_on b.finished nothing f.walks
          ∙ ap (λ s. joined s f.walks) (join_nothing b.finished (finished_kept b h))))) k;
      open_items = append-nil left k ++ sym f.rest k;
      deferred = b.deferred
          ++ sym (ap (listed_if b.lists) f.deferred ∙ listed_twice b.lists found.lists lists _) k;
    } in
    (subst (HaveSettled b f.walks) same r.0, subst Keeps same r.1)
