-- What sleep sets leave of the schedules that begin with a prefix, and with one more step.
use Rattle.std.proofs.Common.{◌≡◌, ℕ, Bool, true, false, cond, not, ◌&&◌, ◌||◌, nat_lt, List}
use Rattle.std.proofs.Common.{[], ◌∷◌, ◌++◌, length, map, drop, refl, ap, ◌∙◌, sym, subst, arith}
use Rattle.std.proofs.Common.{append_assoc, inl, inr}
use Rattle.std.{specs.List.{filter, flat_map}, proofs.lemmas.List.map-append}
use Rattle.guest_code.specs.Program.{Program}
use Rattle.semantics.specs.Ends.{enabled, is_terminal}
use Rattle.semantics.specs.{Machine.{Snapshot, start, step, is_enabled}, Mask.has, Reachable.IsOf}
use Rattle.semantics.{specs.Waiters.In, proofs.ListMembers.{from_map, from_filter}}
use Rattle.semantics.proofs.{Masks.has-mask_of, StepsKeepStates.step_is_of, WorkFalls.enabled_below}
use Rattle.semantics_schedules.specs.Schedules.{complete_schedules, schedules_under, state_after, runs, before, begins_with}
use Rattle.semantics_schedules.specs.Sleep.{reduced_schedules, is_kept, next_sleep_set, independent}
use Rattle.semantics_schedules.proofs.ReducedSchedules.{from_enabled}
use Rattle.semantics_schedules.proofs.SchedulesUnderPrefix.{schedules_under-longer, begins_longer}
use Rattle.semantics_schedules.proofs.SleepSets.{reduced_schedules-more}
use Rattle.semantics_schedules.proofs.UnfoldingUnderPrefix.{schedules_under_is, runs-push, state_after-push}
use Rattle.walk_items.specs.Children.{state_of, child_of}
use Rattle.walk_items.specs.Items.{ItemView, IsItem, kept_schedules}
use Rattle.walk_items.{specs.declared.mode.Mode.TheVariants.Reduced, proofs.Filters.filter_same}

-- the schedules that sleep sets leave after a prefix where these threads sleep
abbrev pub kept_after : Program → List ℕ → (ℕ → Bool) → List (List ℕ)
kept_after p x Z = map (λ w. x ++ w) (reduced_schedules p (state_after p (start p) x) Z)

-- whether one is left, by what follows its prefix
abbrev is_kept_after : Program → List ℕ → (ℕ → Bool) → List ℕ → Bool
is_kept_after p x Z w = is_kept p (state_after p (start p) x) Z (drop (length x) w)

-- who sleeps matters only among the enabled

next_alike : (p : Program) (s : Snapshot) (Z Y : ℕ → Bool) (t v : ℕ) →
    ((u : ℕ) → is_enabled p s u ≡ true → Z u ≡ Y u) →
    next_sleep_set p s Z t v ≡ next_sleep_set p s Y t v
next_alike p s Z Y t v h = go (is_enabled p s v) refl
  where
    go : (b : Bool) → is_enabled p s v ≡ b →
        (b && ((Z v || nat_lt v t) && independent p s t v))
        ≡ (b && ((Y v || nat_lt v t) && independent p s t v))
    go true e = ap (λ z. (z || nat_lt v t) && independent p s t v) (h v e)
    go false e = refl

is_kept_alike : (p : Program) (s : Snapshot) (Z Y : ℕ → Bool) (w : List ℕ) →
    ((u : ℕ) → is_enabled p s u ≡ true → Z u ≡ Y u) → is_kept p s Z w ≡ is_kept p s Y w
is_kept_alike p s Z Y [] h = refl
is_kept_alike p s Z Y (t ∷ w) h = go (is_enabled p s t) refl
  where
    then : (ℕ → Bool) → Bool
    then X = is_kept p (step p s t) X w

    go : (b : Bool) → is_enabled p s t ≡ b →
        (b && (not (Z t) && then (next_sleep_set p s Z t)))
        ≡ (b && (not (Y t) && then (next_sleep_set p s Y t)))
    go true e = λ i. not (h t e i) && then (λ v. next_alike p s Z Y t v h i)
    go false e = refl

pub reduced_alike : (p : Program) (s : Snapshot) (Z Y : ℕ → Bool) →
    ((u : ℕ) → is_enabled p s u ≡ true → Z u ≡ Y u) →
    reduced_schedules p s Z ≡ reduced_schedules p s Y
unfolding reduced_schedules
reduced_alike p s Z Y h =
    λ i. filter (λ w. is_kept_alike p s Z Y w h i) (complete_schedules p s)

-- the item one step further

state_after_child : (i : ItemView) (t : ℕ) →
    state_after i.program (start i.program) (i.prefix ++ t ∷ []) ≡ step i.program (state_of i) t
state_after_child i t = state_after-push i.program (start i.program) i.prefix t

pub child_is_of : (i : ItemView) (t : ℕ) → IsOf i.program (state_of i) →
    is_enabled i.program (state_of i) t ≡ true →
    IsOf i.program (state_after i.program (start i.program) (i.prefix ++ t ∷ []))
child_is_of i t of e =
    subst (IsOf i.program) (sym (state_after_child i t))
    (step_is_of i.program (state_of i) t of e)

-- the threads of its mask are those that sleep
pub asleep_after : (i : ItemView) (t : ℕ) → IsOf i.program (state_of i) →
    is_enabled i.program (state_of i) t ≡ true → (u : ℕ) →
    is_enabled i.program (state_of (child_of Reduced i t)) u ≡ true →
    has (child_of Reduced i t).mask u ≡ next_sleep_set i.program (state_of i) (has i.mask) t u
asleep_after i t of e u k =
    has-mask_of (next_sleep_set i.program (state_of i) (has i.mask) t) u
    (let few = (child_is_of i t of e).few in
    let l = enabled_below i.program (state_of (child_of Reduced i t)) u k in
    omega (arith, few, l))

kept_child : (i : ItemView) (t : ℕ) → IsOf i.program (state_of i) →
    is_enabled i.program (state_of i) t ≡ true →
    kept_schedules (child_of Reduced i t)
    ≡ kept_after i.program (i.prefix ++ t ∷ [])
    (next_sleep_set i.program (state_of i) (has i.mask) t)
kept_child i t of e =
    ap (map (λ w. (i.prefix ++ t ∷ []) ++ w))
    (reduced_alike i.program (state_of (child_of Reduced i t)) _ _ (asleep_after i t of e))

-- lists

pub drop_prefix : (x w : List ℕ) → drop (length x) (x ++ w) ≡ w
drop_prefix [] w = refl
drop_prefix (t ∷ x) w = drop_prefix x w

pub map_filter : (x : List ℕ) (f : List ℕ → Bool) (L : List (List ℕ)) →
    map (λ w. x ++ w) (filter f L)
    ≡ filter (λ w. f (drop (length x) w)) (map (λ w. x ++ w) L)
map_filter x f [] = refl
map_filter x f (w ∷ L) =
    go (f w) (f (drop (length x) (x ++ w))) (ap f (sym (drop_prefix x w))) (map_filter x f L)
  where
    test : List ℕ → Bool
    test v = f (drop (length x) v)

    put : List (List ℕ) → List (List ℕ)
    put K = map (λ v. x ++ v) K

    go : (a b : Bool) → a ≡ b → put (filter f L) ≡ filter test (put L) →
        put (cond a (w ∷ filter f L) (filter f L))
        ≡ cond b ((x ++ w) ∷ filter test (put L)) (filter test (put L))
    go true true e r = ap (λ K. (x ++ w) ∷ K) r
    go true false e r = cc
    go false true e r = cc
    go false false e r = r

pub filter_swap : {A : Type 0} (f g : A → Bool) (L : List A) →
    filter f (filter g L) ≡ filter g (filter f L)
filter_swap f g [] = refl
filter_swap {A} f g (x ∷ L) = go (f x) (g x) refl refl (filter_swap f g L)
  where
    go : (a b : Bool) → f x ≡ a → g x ≡ b → filter f (filter g L) ≡ filter g (filter f L) →
        filter f (cond b (x ∷ filter g L) (filter g L))
        ≡ filter g (cond a (x ∷ filter f L) (filter f L))
    go true true d e r = rw d (rw e (ap (λ ys. x ∷ ys) r))
    go true false d e r = rw e r
    go false true d e r = rw d r
    go false false d e r = r

kept_filter : (p : Program) (x : List ℕ) (Z : ℕ → Bool) → runs p (start p) x ≡ true →
    kept_after p x Z ≡ filter (is_kept_after p x Z) (schedules_under p x)
unfolding reduced_schedules
kept_filter p x Z h =
    let s : Snapshot = state_after p (start p) x in
    map_filter x (is_kept p s Z) (complete_schedules p s)
    ∙ ap (filter (is_kept_after p x Z)) (sym (schedules_under_is p x h))

-- after a step of a thread that doesn't sleep are left those that begin with it
kept_after_step : (p : Program) (x : List ℕ) (Z : ℕ → Bool) (t : ℕ) →
    runs p (start p) x ≡ true → is_enabled p (state_after p (start p) x) t ≡ true → Z t ≡ false →
    kept_after p (x ++ t ∷ []) (next_sleep_set p (state_after p (start p) x) Z t)
    ≡ filter (begins_with (x ++ t ∷ [])) (kept_after p x Z)
kept_after_step p x Z t h e z =
    let k : runs p (start p) y ≡ true = runs-push p (start p) x t h e in
    kept_filter p y after k
    ∙ (filter_same (is_kept_after p y after) (is_kept_after p x Z) (schedules_under p y)
    (λ w m. alike w (from_map (λ v. y ++ v) (complete_schedules p (state_after p (start p) y)) w
    (subst (λ L. In L w) (schedules_under_is p y k) m)))
    ∙ (ap (filter (is_kept_after p x Z)) (schedules_under-longer p x y (begins_longer x (t ∷ [])))
    ∙ (filter_swap (is_kept_after p x Z) (begins_with y) (schedules_under p x)
    ∙ ap (filter (begins_with y)) (sym (kept_filter p x Z h)))))
  where
    s : Snapshot
    s = state_after p (start p) x

    y : List ℕ
    y = x ++ t ∷ []

    after : ℕ → Bool
    after = next_sleep_set p s Z t

    alike : (w : List ℕ) →
        (v : List ℕ) × In (complete_schedules p (state_after p (start p) y)) v × (y ++ v ≡ w) →
        is_kept_after p y after w ≡ is_kept_after p x Z w
    alike w r =
        ap (is_kept_after p y after) (sym r.2)
        ∙ (ap (is_kept p (state_after p (start p) y) after) (drop_prefix y r.0)
        ∙ (ap (λ q. is_kept p q after r.0) (state_after-push p (start p) x t)
        ∙ ((λ i. sym e i && (not (sym z i) && is_kept p (step p s t) after r.0))
        ∙ (ap (is_kept p s Z)
        (sym (ap (drop (length x)) (append_assoc x (t ∷ []) r.0) ∙ drop_prefix x (t ∷ r.0)))
        ∙ ap (is_kept_after p x Z) r.2))))

-- what goes on from a prefix, by its next steps
pub after_prefix : (x : List ℕ) (rest : ℕ → List (List ℕ)) (ts : List ℕ) →
    map (λ w. x ++ w) (flat_map (λ t. before t (rest t)) ts)
    ≡ flat_map (λ t. map (λ w. (x ++ t ∷ []) ++ w) (rest t)) ts
after_prefix x rest [] = refl
after_prefix x rest (t ∷ ts) =
    map-append (λ w. x ++ w) (before t (rest t)) (flat_map (λ u. before u (rest u)) ts)
    ∙ (λ i. moved (rest t) i ++ after_prefix x rest ts i)
  where
    moved : (L : List (List ℕ)) →
        map (λ w. x ++ w) (before t L) ≡ map (λ w. (x ++ t ∷ []) ++ w) L
    moved [] = refl
    moved (w ∷ L) = λ i. sym (append_assoc x (t ∷ []) w) i ∷ moved L i

pub flat_map_alike : (f g : ℕ → List (List ℕ)) (ts : List ℕ) →
    ((t : ℕ) → In ts t → f t ≡ g t) → flat_map f ts ≡ flat_map g ts
flat_map_alike f g [] h = refl
flat_map_alike f g (t ∷ ts) h =
    λ j. h t (inl refl) j ++ flat_map_alike f g ts (λ u m. h u (inr m)) j

-- what sleep sets leave after a prefix that goes on, child after child
kept_after_more : (p : Program) (x : List ℕ) (Z : ℕ → Bool) →
    is_terminal p (state_after p (start p) x) ≡ false →
    kept_after p x Z
    ≡ flat_map (λ t. kept_after p (x ++ t ∷ [])
    (next_sleep_set p (state_after p (start p) x) Z t))
    (filter (λ t. not (Z t)) (enabled p (state_after p (start p) x)))
kept_after_more p x Z more =
    let s : Snapshot = state_after p (start p) x in
    let ts : List ℕ = filter (λ t. not (Z t)) (enabled p s) in
    ap (map (λ w. x ++ w)) (reduced_schedules-more p s Z more)
    ∙ (after_prefix x (λ t. reduced_schedules p (step p s t) (next_sleep_set p s Z t)) ts
    ∙ (λ i. flat_map (λ t. map (λ w. (x ++ t ∷ []) ++ w)
    (reduced_schedules p (sym (state_after-push p (start p) x t) i) (next_sleep_set p s Z t))) ts))

-- the child of a thread that doesn't sleep has its item's schedules that begin with its prefix
pub child_keeps : (i : ItemView) (t : ℕ) → IsItem i → IsOf i.program (state_of i) →
    is_enabled i.program (state_of i) t ≡ true → has i.mask t ≡ false →
    kept_schedules (child_of Reduced i t)
    ≡ filter (begins_with (i.prefix ++ t ∷ [])) (kept_schedules i)
child_keeps i t h of e z =
    kept_child i t of e ∙ kept_after_step i.program i.prefix (has i.mask) t h e z

-- an item that goes on has the schedules of its children, one child after another
pub children_keep : (i : ItemView) → IsOf i.program (state_of i) →
    is_terminal i.program (state_of i) ≡ false →
    kept_schedules i
    ≡ flat_map (λ t. kept_schedules (child_of Reduced i t))
    (filter (λ t. not (has i.mask t)) (enabled i.program (state_of i)))
children_keep i of more =
    kept_after_more p i.prefix (has i.mask) more
    ∙ flat_map_alike _ (λ t. kept_schedules (child_of Reduced i t)) (filter awake (enabled p s))
    (λ t m. sym (kept_child i t of
    (from_enabled p s t (from_filter awake (enabled p s) t m).0)))
  where
    p : Program
    p = i.program

    s : Snapshot
    s = state_of i

    awake : ℕ → Bool
    awake t = not (has i.mask t)
