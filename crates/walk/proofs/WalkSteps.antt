-- What a turn does to the walk of an item: the first open item gives way to its children, or is
-- tried.
use Rattle.std.proofs.Common.{◌≡◌, ℕ, Bool, true, false, ◌||◌, List, [], ◌∷◌, ◌++◌, ap, ◌∙◌, sym}
use Rattle.std.proofs.Common.{subst}
use Rattle.std.proofs.lemmas.List.{append-nil, Elements.All-head}
use Rattle.guest_code.specs.Program.{Program}
use Rattle.semantics.specs.{Ends.{is_terminal, is_empty, enabled}, Machine.Snapshot, Reachable.IsOf}
use Rattle.semantics_schedules.specs.Order.{end_of}
use Rattle.walk_items.specs.Children.{state_of, IsWithin, passes_bound, children, past_children}
use Rattle.walk_items.specs.Items.{ItemView, IsItem}
use Rattle.walk_items.specs.{Walks.{WalkView, IsWalked, IsBelow, items_at}, declared.mode.Mode.Mode}
use Rattle.walk_items.proofs.ItemsWalked.{leaf_walked, node_walked}
use Rattle.walk_items.proofs.Splits.{first_within, split_kept, walked_further}
use Rattle.walk_summary.specs.Summaries.{SummaryView, IsSummary, nothing, sum_of, join, with_beyond}
use Rattle.walk_summary.specs.Summaries.{added}
use Rattle.walk_summary.proofs.{PartsJoin.{join_past, join_leaf}, SumsJoin.{join_assoc, join_kept}}
use Rattle.walk.specs.{declared.found.Found.Found, inner.WalkerInvariant.IsWalkedOn}
use Rattle.walk.proofs.Puts.{put_same}

-- a walk of these parts
abbrev pub walk_of : Mode → ItemView → SummaryView → List ItemView → List ItemView → WalkView
walk_of mode i part rest deferred = record {
  mode = mode;
  item = i;
  part = part;
  rest = rest;
  deferred = deferred;
}

-- what is known of the first item that is open
pub record IsFirst (mode : Mode) (p : Program) (c : ItemView) : Type 0 where
  pub item : IsItem c
  pub program : c.program ≡ p
  pub within : IsWithin mode c

pub first_open : (mode : Mode) (i c : ItemView) (part : SummaryView)
    (rest deferred : List ItemView) →
    IsWalked (walk_of mode i part (c ∷ rest) deferred) → IsFirst mode i.program c
first_open mode i c part rest deferred h =
    let below = All-head (λ (r : ItemView). IsBelow i r) c (rest ++ deferred) h.split.below in
    record {
      item = below.item;
      program = below.program;
      within = first_within mode i c rest deferred h.split.cut;
    }

-- it is complete, and tried
pub walked_leaf : (mode : Mode) (i c : ItemView) (part : SummaryView)
    (rest deferred : List ItemView) →
    is_terminal c.program (state_of c) ≡ true → IsWalked (walk_of mode i part (c ∷ rest) deferred) →
    IsWalked (walk_of mode i (added part c.prefix (end_of c.program c.prefix)) rest deferred)
walked_leaf mode i c part rest deferred over h =
    let f = first_open mode i c part rest deferred h in
    let kept : IsSummary part = split_kept mode i part (c ∷ rest) deferred h.split in
    subst (λ (s : SummaryView). IsWalked (walk_of mode i s rest deferred))
    (join_leaf c.program part c.prefix kept)
    (subst (λ (ds : List ItemView). IsWalked
    (walk_of mode i (join part (sum_of c.program (c.prefix ∷ []))) rest ds))
    (append-nil deferred)
    (walked_further mode i c part (sum_of c.program (c.prefix ∷ [])) rest deferred [] [] h
    (leaf_walked mode c f.item over f.within)))

-- it goes on, and gives way to its children
pub walked_node : (mode : Mode) (i c : ItemView) (part : SummaryView)
    (rest deferred : List ItemView) →
    IsOf c.program (state_of c) → is_terminal c.program (state_of c) ≡ false →
    IsWalked (walk_of mode i part (c ∷ rest) deferred) →
    IsWalked (walk_of mode i (with_beyond part (part.beyond || passes_bound mode c))
    (children mode c ++ rest)
    (deferred ++ past_children mode c))
walked_node mode i c part rest deferred of' more h =
    let f = first_open mode i c part rest deferred h in
    let kept : IsSummary part = split_kept mode i part (c ∷ rest) deferred h.split in
    subst (λ (s : SummaryView). IsWalked (walk_of mode i s (children mode c ++ rest)
    (deferred ++ past_children mode c)))
    (join_past part (passes_bound mode c) kept)
    (walked_further mode i c part (with_beyond nothing (passes_bound mode c)) rest deferred
    (children mode c) (past_children mode c) h (node_walked mode c f.item of' more f.within))

-- the same, where what is found is added to what was found before

pub first_on : {b : Found} (mode : Mode) (i c : ItemView) (f : Found) (rest : List ItemView) →
    IsWalkedOn b mode i f (c ∷ rest) → IsFirst mode i.program c
first_on mode i c f rest h = first_open mode i c h.own rest (items_at i.program h.put) h.walked

pub own_kept : {b : Found} (mode : Mode) (i : ItemView) (f : Found) (rest : List ItemView)
    (h : IsWalkedOn b mode i f rest) → IsSummary h.own
own_kept mode i f rest h =
    split_kept mode i h.own rest (items_at i.program h.put) h.walked.split

join_added : (p : Program) (a s : SummaryView) (w : List ℕ) → IsSummary a → IsSummary s →
    added (join a s) w (end_of p w) ≡ join a (added s w (end_of p w))
join_added p a s w h k =
    sym (join_leaf p (join a s) w (join_kept a s h k))
    ∙ (join_assoc a s (sum_of p (w ∷ [])) ∙ ap (join a) (join_leaf p s w k))

pub join_beyond_on : (a s : SummaryView) (past : Bool) → IsSummary a → IsSummary s →
    with_beyond (join a s) ((join a s).beyond || past)
    ≡ join a (with_beyond s (s.beyond || past))
join_beyond_on a s past h k =
    sym (join_past (join a s) past (join_kept a s h k))
    ∙ (join_assoc a s (with_beyond nothing past) ∙ ap (join a) (join_past s past k))

pub leaf_on : {b : Found} (mode : Mode) (i c : ItemView) (f g : Found) (rest : List ItemView) →
    is_terminal c.program (state_of c) ≡ true → IsWalkedOn b mode i f (c ∷ rest) →
    g.part ≡ added f.part c.prefix (end_of c.program c.prefix) →
    g.rest.items ≡ f.rest.items → g.lists ≡ f.lists → g.deferred ≡ f.deferred
    → IsWalkedOn b mode i g rest
leaf_on {b} mode i c f g rest over h part left lists deferred = record {
  own = added h.own c.prefix (end_of c.program c.prefix);
  put = h.put;
  walked = walked_leaf mode i c h.own rest (items_at i.program h.put) over h.walked;
  sound = h.sound;
  part = part ∙ (ap (λ s. added s c.prefix (end_of c.program c.prefix)) h.part
      ∙ join_added c.program b.part h.own c.prefix h.sound (own_kept mode i f (c ∷ rest) h));
  rest = left ∙ h.rest;
  deferred = put_same b f g h.put h.deferred lists deferred;
}

-- nothing is enabled, or something is
pub over_none : (p : Program) (s : Snapshot) → enabled p s ≡ [] → is_terminal p s ≡ true
unfolding is_terminal
over_none p s e = ap is_empty e

pub over_some : (p : Program) (s : Snapshot) (t : ℕ) (ts : List ℕ) → enabled p s ≡ t ∷ ts
    → is_terminal p s ≡ false
unfolding is_terminal
over_some p s t ts e = ap is_empty e
