-- What is still open after one turn of a walk.
use Rattle.std.proofs.Common.{◌≡◌, ℕ, ◌+◌, ◌-◌, ◌<◌, Bool, true, false, not, ◌&&◌, List, [], ◌∷◌, ◌++◌, length}
use Rattle.std.proofs.Common.{map, refl, ap, ◌∙◌, sym, arith, subst, cond, take, nat_le, nat_lt}
use Rattle.std.{specs.List.filter, proofs.lemmas.List.{length_push, take_at, get_or_at, map-append}}
use Rattle.guest_code.specs.{Program.Program, declared.limits.TheConstants.THREADS}
use Rattle.semantics.specs.{Ends.enabled, Machine.{is_enabled, start}}
use Rattle.semantics.specs.Mask.{has, members_from, HasEnabled, one_if}
use Rattle.semantics.specs.{Reachable.IsOf, Work.up_from, declared.mask.Mask.Mask}
use Rattle.semantics.proofs.{Masks.members_enabled, WorkFalls.disabled_past}
use Rattle.semantics_schedules.specs.Schedules.{runs, preempts, preemptions}
use Rattle.semantics_schedules.proofs.{Executions.runs_at, UnfoldingUnderPrefix.preemptions-push}
use Rattle.walk_items.specs.Children.{child_of, children_of, past_children, kept_steps, past_steps}
use Rattle.walk_items.specs.Children.{is_hidden_after, is_kept_step, is_past_step}
use Rattle.walk_items.specs.{Items.{ItemView, item_at}, declared.mode.Mode.Mode}
use Rattle.walk_items.specs.declared.mode.Mode.TheVariants.{Bounded, Reduced, BoundedOnce, ReducedOnce}
use Rattle.walk_items.proofs.{Children.{reduced_past, once_past}, Filters.filter_twice}
use Rattle.walk.specs.{declared.path.Node.Node, inner.Paths.{is_preempting, IsNode, state_at}}
use Rattle.walk.specs.inner.WalkerInvariant.{item_of, is_tried_at, is_put_off_at}
use Rattle.walk.proofs.PathSteps.{preempts_is}

-- the step of an item that is one step further is one of an enabled thread
pub step_enabled : (p : Program) (w : List ℕ) (t : ℕ) → runs p (start p) (w ++ t ∷ []) ≡ true →
    is_enabled p (state_at p w) t ≡ true
step_enabled p w t h =
    let n : length w < length (w ++ t ∷ []) = let e = length_push w t in omega (arith, e) in
    let on = runs_at p (start p) (w ++ t ∷ []) (length w) h n in
    subst (λ (v : List ℕ). is_enabled p (state_at p v) t ≡ true)
    (take_at w (t ∷ []) (length w) refl)
    (subst (λ (u : ℕ). is_enabled p (state_at p (take (length w) (w ++ t ∷ []))) u ≡ true)
    (get_or_at w t [] 0 (length w) refl) on)

-- filters by tests that agree
pub filter_alike : (f g : ℕ → Bool) (xs : List ℕ) → ((t : ℕ) → f t ≡ g t) →
    filter f xs ≡ filter g xs
filter_alike f g [] h = refl
filter_alike f g (x ∷ xs) h = rw (h x) (ap (λ (ys : List ℕ). cond (g x) (x ∷ ys) ys)
    (filter_alike f g xs h))

-- the members that pass a test
pub members_chosen : (m e : Mask) (f : ℕ → Bool) → ((t : ℕ) → has m t ≡ (has e t && f t)) →
    members_from m 0 ≡ filter f (members_from e 0)
unfolding members_from
members_chosen m e f h =
    filter_alike (has m) (λ t. has e t && f t) (up_from 0 (THREADS - 0)) h
    ∙ sym (filter_twice f (has e) (up_from 0 (THREADS - 0)))

-- the threads that are enabled at a node
pub node_enabled : (p : Program) (w : List ℕ) (e : Mask) → HasEnabled e p (state_at p w)
    → IsOf p (state_at p w) → members_from e 0 ≡ enabled p (state_at p w)
node_enabled p w e h o =
    members_enabled p (state_at p w) e h o.few (disabled_past p (state_at p w))

-- the preemptions after one more step
pub used_after : (p : Program) (w : List ℕ) (e : Mask) (n : Node) (t : ℕ) → IsNode p w e n →
    n.used + one_if (is_preempting e n t) ≡ preemptions p (w ++ t ∷ [])
used_after p w e n t h =
    (λ i. h.reaches.preemptions i + one_if (preempts_is p (state_at p w) e n.last t h.enabled i))
    ∙ ((λ i. preemptions p w + one_if (preempts p (state_at p w) (h.reaches.last i) t)) ∙ sym
    (preemptions-push p w t))

pub and_true : (b : Bool) → (b && true) ≡ b
and_true true = refl
and_true false = refl

pub kept_alike : (mode : Mode) (p : Program) (w : List ℕ) (e : Mask) (n : Node) → IsNode p w e n
    → (t : ℕ) → is_tried_at mode (item_of p w n) e n t ≡ is_kept_step mode (item_of p w n) t
kept_alike (Bounded bound) p w e n h t =
    and_true _ ∙ ap (λ (k : ℕ). nat_le k bound) (used_after p w e n t h)
kept_alike Reduced p w e n h t = and_true _
kept_alike (BoundedOnce bound) p w e n h t = ap (λ (k : ℕ). nat_le k bound
    && not (is_hidden_after (BoundedOnce bound) (item_of p w n) t)) (used_after p w e n t h)
kept_alike ReducedOnce p w e n h t = refl

past_alike : (mode : Mode) (p : Program) (w : List ℕ) (e : Mask) (n : Node) → IsNode p w e n
    → (t : ℕ) → is_put_off_at mode (item_of p w n) e n t ≡ is_past_step mode (item_of p w n) t
past_alike (Bounded bound) p w e n h t =
    and_true _ ∙ ap (λ (k : ℕ). nat_lt bound k) (used_after p w e n t h)
past_alike Reduced p w e n h t = refl
past_alike (BoundedOnce bound) p w e n h t = ap (λ (k : ℕ). nat_lt bound k
    && not (is_hidden_after (BoundedOnce bound) (item_of p w n) t)) (used_after p w e n t h)
past_alike ReducedOnce p w e n h t = refl

-- the steps that are kept, by the node
pub kept_members : (mode : Mode) (p : Program) (w : List ℕ) (e : Mask) (n : Node) (m : Mask)
    → IsNode p w e n → IsOf p (state_at p w)
    → ((t : ℕ) → has m t ≡ (has e t && is_tried_at mode (item_of p w n) e n t))
    → members_from m 0 ≡ kept_steps mode (item_of p w n)
kept_members mode p w e n m h o kept =
    members_chosen m e (is_tried_at mode (item_of p w n) e n) kept
    ∙ (ap (filter (is_tried_at mode (item_of p w n) e n)) (node_enabled p w e h.enabled o)
    ∙ filter_alike (is_tried_at mode (item_of p w n) e n) (is_kept_step mode (item_of p w n))
    (enabled p (state_at p w)) (kept_alike mode p w e n h))

-- and those that pass the bound
pub past_members : (mode : Mode) (p : Program) (w : List ℕ) (e : Mask) (n : Node) (m : Mask)
    → IsNode p w e n → IsOf p (state_at p w)
    → ((t : ℕ) → has m t ≡ (has e t && is_put_off_at mode (item_of p w n) e n t))
    → members_from m 0 ≡ past_steps mode (item_of p w n)
past_members mode p w e n m h o past =
    members_chosen m e (is_put_off_at mode (item_of p w n) e n) past
    ∙ (ap (filter (is_put_off_at mode (item_of p w n) e n)) (node_enabled p w e h.enabled o)
    ∙ filter_alike (is_put_off_at mode (item_of p w n) e n) (is_past_step mode (item_of p w n))
    (enabled p (state_at p w)) (past_alike mode p w e n h))

-- what is put off are the children past the bound
module _ (mode : Mode) (i : ItemView) (L : List (List ℕ))
    (none : (t : ℕ) → item_at i.program (i.prefix ++ t ∷ []) ≡ child_of mode i t) where
  all_at : (ts : List ℕ) → map (item_at i.program) (map (λ t. i.prefix ++ t ∷ []) ts)
      ≡ map (child_of mode i) ts
  all_at [] = refl
  all_at (t ∷ ts) = λ k. none t k ∷ all_at ts k

  deferred_at : map (item_at i.program) (L ++ map (λ t. i.prefix ++ t ∷ []) (past_steps mode i))
      ≡ map (item_at i.program) L ++ past_children mode i
  deferred_at = map-append (item_at i.program) L (map (λ t. i.prefix ++ t ∷ []) (past_steps mode i))
      ∙ ap (λ (xs : List ItemView). map (item_at i.program) L ++ xs) (all_at (past_steps mode i))

none_deferred : (mode : Mode) (i : ItemView) (L : List (List ℕ)) → past_steps mode i ≡ []
    → map (item_at i.program) (L ++ map (λ t. i.prefix ++ t ∷ []) (past_steps mode i))
    ≡ map (item_at i.program) L ++ past_children mode i
none_deferred mode i L none =
    map-append (item_at i.program) L (map (λ t. i.prefix ++ t ∷ []) (past_steps mode i))
    ∙ (λ k. map (item_at i.program) L ++ map (item_at i.program)
    (map (λ t. i.prefix ++ t ∷ []) (none k)))
    ∙ (λ k. map (item_at i.program) L ++ children_of mode i (sym none k))

pub deferred_are : (mode : Mode) (i : ItemView) (L : List (List ℕ)) →
    map (item_at i.program) (L ++ map (λ t. i.prefix ++ t ∷ []) (past_steps mode i))
    ≡ map (item_at i.program) L ++ past_children mode i
deferred_are (Bounded bound) i L = deferred_at (Bounded bound) i L (λ t. refl)
deferred_are Reduced i L = none_deferred Reduced i L (reduced_past i)
deferred_are (BoundedOnce bound) i L = deferred_at (BoundedOnce bound) i L (λ t. refl)
deferred_are ReducedOnce i L = none_deferred ReducedOnce i L (once_past i)
