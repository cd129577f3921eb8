-- What a walk puts in the place of an item: the items of one more step; and how much there is to
-- do.
use Rattle.std.specs.Prelude.{ℕ, zero, suc, ◌+◌, ◌*◌, Bool, false, not, ◌&&◌, nat_le, nat_lt}
use Rattle.std.specs.Prelude.{List, [], ◌∷◌, ◌++◌, map, filter, None}
use Rattle.guest_code.specs.declared.limits.TheConstants.{THREADS}
use Rattle.semantics.specs.{Ends.{enabled, is_empty}, Mask.{no_threads, has, mask_of}, Work.work}
use Rattle.semantics.specs.declared.mask.Mask.{Mask}
use Rattle.semantics_schedules.specs.{EqualThreads.is_hidden, Schedules.{preemptions, last_of}}
use Rattle.semantics_schedules.specs.Sleep.{next_sleep_set}
use Rattle.walk_items.specs.{Items.ItemView, declared.mode.Mode.Mode}
use Rattle.walk_items.specs.declared.mode.Mode.TheVariants.{Bounded, Reduced, BoundedOnce, ReducedOnce}
pub use Rattle.walk_items.specs.Items.{state_of}
pub use Rattle.walk_items.specs.Walks.{IsWithin}

-- the threads that can take the next step
abbrev pub next_steps : ItemView → List ℕ
next_steps i = enabled i.program (state_of i)

-- whether a thread is hidden after an item's prefix. At a bound that of the last step isn't, and
-- hides nobody, since to go on with it costs no preemption
abbrev pub is_hidden_after : Mode → ItemView → ℕ → Bool
is_hidden_after (Bounded bound) i t = false
is_hidden_after Reduced i t = false
is_hidden_after (BoundedOnce bound) i t = is_hidden i.program (state_of i) (last_of i.prefix) t
is_hidden_after ReducedOnce i t = is_hidden i.program (state_of i) None t

-- whether the item's schedules go on by a step of this thread: the step stays within the bound; or
-- the thread doesn't sleep. Where equal threads are once, nor is it hidden
abbrev pub is_kept_step : Mode → ItemView → ℕ → Bool
is_kept_step (Bounded bound) i t = nat_le (preemptions i.program (i.prefix ++ t ∷ [])) bound
is_kept_step Reduced i t = not (has i.mask t)
is_kept_step (BoundedOnce bound) i t =
    nat_le (preemptions i.program (i.prefix ++ t ∷ [])) bound
    && not (is_hidden_after (BoundedOnce bound) i t)
is_kept_step ReducedOnce i t = not (has i.mask t) && not (is_hidden_after ReducedOnce i t)

-- whether a step of this thread passes the bound, and the thread isn't hidden
abbrev pub is_past_step : Mode → ItemView → ℕ → Bool
is_past_step (Bounded bound) i t = nat_lt bound (preemptions i.program (i.prefix ++ t ∷ []))
is_past_step Reduced i t = false
is_past_step (BoundedOnce bound) i t =
    nat_lt bound (preemptions i.program (i.prefix ++ t ∷ []))
    && not (is_hidden_after (BoundedOnce bound) i t)
is_past_step ReducedOnce i t = false

-- the next steps that are gone into, rising
abbrev pub kept_steps : Mode → ItemView → List ℕ
kept_steps mode i = filter (is_kept_step mode i) (next_steps i)

-- those that pass the bound, rising
abbrev pub past_steps : Mode → ItemView → List ℕ
past_steps mode i = filter (is_past_step mode i) (next_steps i)

-- the next steps by which an item's schedules go on, within the bound or past it
abbrev pub steps_of : Mode → ItemView → List ℕ
steps_of (Bounded bound) i = next_steps i
steps_of Reduced i = kept_steps Reduced i
steps_of (BoundedOnce bound) i =
    filter (λ t. not (is_hidden_after (BoundedOnce bound) i t)) (next_steps i)
steps_of ReducedOnce i = kept_steps ReducedOnce i

-- whether one passes the bound
abbrev pub passes_bound : Mode → ItemView → Bool
passes_bound mode i = not (is_empty (past_steps mode i))

-- the threads that sleep after a step; at a bound nobody does
abbrev pub mask_after : Mode → ItemView → ℕ → Mask
mask_after (Bounded bound) i t = no_threads
mask_after Reduced i t = mask_of (next_sleep_set i.program (state_of i) (has i.mask) t)
mask_after (BoundedOnce bound) i t = no_threads
mask_after ReducedOnce i t = mask_of (next_sleep_set i.program (state_of i) (has i.mask) t)

-- the item one step further
abbrev pub child_of : Mode → ItemView → ℕ → ItemView
child_of mode i t = record {
  program = i.program;
  prefix = i.prefix ++ t ∷ [];
  mask = mask_after mode i t;
}

-- the items of these steps
abbrev pub children_of : Mode → ItemView → List ℕ → List ItemView
children_of mode i steps = map (child_of mode i) steps

-- the items that take an item's place
abbrev pub children : Mode → ItemView → List ItemView
children mode i = children_of mode i (kept_steps mode i)

-- those that its bound puts off
abbrev pub past_children : Mode → ItemView → List ItemView
past_children mode i = children_of mode i (past_steps mode i)

-- more turns than a subtree of so much work can take
abbrev pub turns : ℕ → ℕ
turns zero = 2
turns (suc n) = 2 + THREADS * turns n

-- more turns than an item can take
abbrev pub cost_of : ItemView → ℕ
cost_of i = turns (work i.program (state_of i))

-- and all of these
abbrev pub costs : List ItemView → ℕ
costs [] = 0
costs (i ∷ is) = cost_of i + costs is
