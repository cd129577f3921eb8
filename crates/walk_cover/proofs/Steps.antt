-- What the loops over an item's steps and over items keep.
use Rattle.std.proofs.Common.{◌≡◌, ◌⊎◌, inl, inr, ℕ, zero, suc, ◌+◌, ◌<◌, ◌≤◌, Bool, true, false}
use Rattle.std.proofs.Common.{cond, ◌&&◌, List, [], ◌∷◌, ◌++◌, length, take, get_or, refl, ap, ◌∙◌}
use Rattle.std.proofs.Common.{sym, subst, arith, append_assoc}
use Rattle.std.specs.List.{All, filter, flat_map}
use Rattle.std.proofs.lemmas.List.{map_push, take_more, flat_map_more, length_push}
use Rattle.std.proofs.lemmas.List.Elements.{All-nil, All-cons, All-head, All-tail, All-append}
use Rattle.std.proofs.lemmas.List.Elements.{All-push, All-map}
use Rattle.guest_code.specs.Program.{Program, IsWellFormed}
use Rattle.semantics.specs.{Ends.{enabled, is_terminal}, Machine.{Snapshot, start, is_enabled}}
use Rattle.semantics.specs.{Work.up_from, declared.mask.Mask.Mask}
use Rattle.semantics_schedules.specs.{Schedules.runs, declared.limits.TheConstants.STEPS}
use Rattle.semantics_schedules.proofs.ScheduleLengths.{schedule_within}
use Rattle.semantics_schedules.proofs.UnfoldingUnderPrefix.{runs-push, first_enabled}
use Rattle.replay.proofs.LinesOfSteps.{passed_more, passed_same}
use Rattle.walk_items.specs.Children.{child_of, children_of, mask_after, next_steps}
use Rattle.walk_items.specs.{Items.{ItemView, IsItem, root_of, state_of}, Walks.IsBelow}
use Rattle.walk_items.{specs.declared.mode.Mode.Mode, proofs.Filters.filter_twice}
use Rattle.walk_cover.specs.Covers.{IsCover}
use Rattle.walk_cover.specs.Prefixes.{is_entered, longer, further, prefixes_of, IsComplete, IsListOf}
use Rattle.walk_cover.proofs.Covers.{prefixes_cover}

-- the thread is enabled, and its step is gone into
abbrev pub is_next : Mode → ItemView → ℕ → Bool
is_next mode i t = is_enabled i.program (state_of i) t && is_entered mode i t

-- the items of the steps of the first threads
abbrev first_longer : Mode → ItemView → ℕ → List ItemView
first_longer mode i n = children_of mode i (filter (is_next mode i) (up_from 0 n))

-- whether it is, of a program and a state that are the item's
pub next_is : (mode : Mode) (i : ItemView) (t : ℕ) (p : Program) (s : Snapshot) (a b : Bool) →
    p ≡ i.program → s ≡ state_of i → a ≡ is_enabled p s t → b ≡ is_entered mode i t →
    is_next mode i t ≡ (a && b)
next_is mode i t p s a b program state e f =
    (λ k. is_enabled (sym program k) (sym state k) t && is_entered mode i t)
    ∙ (λ k. sym e k && sym f k)

-- the prefix with a step of an enabled thread runs
pub longer_runs : (i : ItemView) (t : ℕ) (p : Program) (s : Snapshot) (x : List ℕ) →
    p ≡ i.program → s ≡ state_of i → x ≡ i.prefix → IsItem i → is_enabled p s t ≡ true →
    runs i.program (start i.program) (x ++ t ∷ []) ≡ true
longer_runs i t p s x program state prefix h e =
    (λ k. runs i.program (start i.program) (prefix k ++ t ∷ []))
    ∙ runs-push i.program (start i.program) i.prefix t h
    ((λ k. is_enabled (sym program k) (sym state k) t) ∙ e)

-- the item of such a step
pub child_is : (mode : Mode) (i : ItemView) (t : ℕ) (x : ItemView) (prefix : List ℕ)
    (mask : Mask) →
    x ≡ record { program = i.program; prefix = prefix ++ t ∷ []; mask = mask } →
    prefix ≡ i.prefix → mask ≡ mask_after mode i t → x ≡ child_of mode i t
child_is mode i t x prefix mask is steps sleep =
    is ∙ (λ k. record { program = i.program; prefix = steps k ++ t ∷ []; mask = sleep k })

pub longer_more : (mode : Mode) (i : ItemView) (t : ℕ) (old mid new : List ItemView)
    (x : ItemView) → mid ≡ old ++ first_longer mode i t → is_next mode i t ≡ true →
    new ≡ mid ++ x ∷ [] → x ≡ child_of mode i t → new ≡ old ++ first_longer mode i (t + 1)
longer_more mode i t old mid new x e h made is =
    made ∙ ((λ k. e k ++ is k ∷ [])
    ∙ (append_assoc old (first_longer mode i t) (child_of mode i t ∷ [])
    ∙ ap (λ is. old ++ is) (sym (map_push (child_of mode i) (filter (is_next mode i) (up_from 0 t))
    t) ∙ ap (children_of mode i) (passed_more (is_next mode i) t
    (filter (is_next mode i) (up_from 0 t)) _ refl h refl))))

pub longer_same : (mode : Mode) (i : ItemView) (t : ℕ) (old mid : List ItemView) →
    mid ≡ old ++ first_longer mode i t → is_next mode i t ≡ false →
    mid ≡ old ++ first_longer mode i (t + 1)
longer_same mode i t old mid e h =
    e ∙ ap (λ ts. old ++ children_of mode i ts)
    (passed_same (is_next mode i) t (filter (is_next mode i) (up_from 0 t)) refl h)

pub longer_all : (mode : Mode) (i : ItemView) (n : ℕ) (old mid : List ItemView) →
    mid ≡ old ++ first_longer mode i n → n ≡ length (state_of i).threads →
    mid ≡ old ++ longer mode i
unfolding enabled
longer_all mode i n old mid e last =
    e ∙ (ap (λ k. old ++ first_longer mode i k) last
    ∙ ap (λ ts. old ++ children_of mode i ts) (sym (filter_twice (is_entered mode i)
    (is_enabled i.program (state_of i)) (up_from 0 (length (state_of i).threads)))))

-- one item more

pub further_more : (mode : Mode) (items : List ItemView) (k : ℕ) (x : ItemView)
    (old new : List ItemView) → k < length items → x ≡ get_or items k x →
    old ≡ flat_map (further mode) (take k items) → new ≡ old ++ further mode x →
    new ≡ flat_map (further mode) (take (k + 1) items)
further_more mode items k x old new inside is e made =
    made ∙ (ap (λ is. is ++ further mode x) e
    ∙ (flat_map_more (further mode) [] (take k items) x
    ∙ ap (flat_map (further mode)) (ap (λ y. take k items ++ y ∷ []) is
    ∙ sym (take_more items k x inside))))

pub complete_more : (items : List ItemView) (k : ℕ) (x : ItemView) → k < length items →
    x ≡ get_or items k x → All IsComplete (take k items) → IsComplete x →
    All IsComplete (take (k + 1) items)
complete_more items k x inside is old h =
    subst (All IsComplete) (ap (λ y. take k items ++ y ∷ []) is ∙ sym (take_more items k x inside))
    (All-push IsComplete (take k items) x old h)

-- complete schedules go on to themselves
pub settled : (mode : Mode) (items : List ItemView) → All IsComplete items →
    flat_map (further mode) items ≡ items
settled mode [] h = refl
settled mode (i ∷ is) h =
    λ k. cond (All-head IsComplete i is h k) (i ∷ []) (longer mode i)
    ++ settled mode is (All-tail IsComplete i is h) k

-- a prefix of a length has as many steps, or is complete

IsAt : ℕ → ItemView → Type 0
IsAt n i = IsComplete i ⊎ (length i.prefix ≡ n)

further_at : (mode : Mode) (n : ℕ) (i : ItemView) → IsAt n i → All (IsAt (suc n)) (further mode i)
unfolding IsAt
further_at mode n i h = go (is_terminal i.program (state_of i)) refl h
  where
    go : (b : Bool) → is_terminal i.program (state_of i) ≡ b →
        (is_terminal i.program (state_of i) ≡ true) ⊎ (length i.prefix ≡ n) →
        All (IsAt (suc n)) (cond b (i ∷ []) (longer mode i))
    go true e k = All-cons (IsAt (suc n)) i [] (inl e) (All-nil (IsAt (suc n)))
    go false e (inl k) = cc
    go false e (inr k) =
        All-map (IsAt (suc n)) (child_of mode i) (filter (is_entered mode i) (next_steps i))
        (λ j d l. inr (length_push i.prefix _ ∙ omega (arith, k)))

all_at : (mode : Mode) (n : ℕ) (items : List ItemView) → All (IsAt n) items →
    All (IsAt (suc n)) (flat_map (further mode) items)
all_at mode n [] h = All-nil (IsAt (suc n))
all_at mode n (i ∷ is) h =
    All-append (IsAt (suc n)) (further mode i) (flat_map (further mode) is)
    (further_at mode n i (All-head (IsAt n) i is h)) (all_at mode n is (All-tail (IsAt n) i is h))

prefixes_at : (mode : Mode) (p : Program) (n : ℕ) → All (IsAt n) (prefixes_of mode p n)
unfolding IsAt
prefixes_at mode p zero = All-cons (IsAt 0) (root_of p) [] (inr refl) (All-nil (IsAt 0))
prefixes_at mode p (suc n) = all_at mode n (prefixes_of mode p n) (prefixes_at mode p n)

-- at the limit of steps all are complete
pub all_complete : (mode : Mode) (p : Program) (n : ℕ) → IsWellFormed p → STEPS ≤ n →
    All IsComplete (prefixes_of mode p n)
unfolding IsAt
all_complete mode p n fine most k d l =
    one _ ((prefixes_cover mode p n fine).below k d l) (prefixes_at mode p n k d l)
  where
    one : (i : ItemView) → IsBelow (root_of p) i →
        (is_terminal i.program (state_of i) ≡ true) ⊎ (length i.prefix ≡ n) → IsComplete i
    one i b (inl e) = e
    one i b (inr e) = go (is_terminal i.program (state_of i)) refl
      where
        go : (on : Bool) → is_terminal i.program (state_of i) ≡ on →
            is_terminal i.program (state_of i) ≡ true
        go true h = h
        go false h =
            let t = first_enabled i.program (state_of i) h in
            let more = runs-push i.program (start i.program) i.prefix t.0 b.item t.1 in
            let few = schedule_within i.program (i.prefix ++ t.0 ∷ [])
            (subst IsWellFormed (sym b.program) fine) more in
            let count = length_push i.prefix t.0 in
            absurd (omega (arith, few, count, e, most))

-- where all are complete, the list is the last one
pub last_list : (mode : Mode) (p : Program) (n at_least : ℕ) (items slice next : List ItemView) →
    items ≡ prefixes_of mode p n →
    ((k : ℕ) → k < n → length (prefixes_of mode p k) < at_least) → slice ≡ items →
    next ≡ flat_map (further mode) slice → All IsComplete slice → IsListOf mode p at_least next
last_list mode p n at_least items slice next all least same made complete =
    let e : next ≡ slice = made ∙ settled mode slice complete in
    record {
      steps = n;
      all = e ∙ (same ∙ all);
      enough = inr (subst (All IsComplete) (sym e) complete);
      least = least;
    }

pub list_cover : (mode : Mode) (p : Program) (at_least : ℕ) (items : List ItemView) →
    IsWellFormed p → IsListOf mode p at_least items → IsCover mode (root_of p) items
list_cover mode p at_least items fine h =
    subst (IsCover mode (root_of p)) (sym h.all) (prefixes_cover mode p h.steps fine)
