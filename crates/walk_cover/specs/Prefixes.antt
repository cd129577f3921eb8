-- The prefixes of a program's schedules, as items, a length after another.
use Rattle.std.specs.Prelude.{◌≡◌, ◌≤◌, ◌<◌, ◌⊎◌, ℕ, zero, suc, Bool, true, not, List, All, [], ◌∷◌}
use Rattle.std.specs.Prelude.{◌++◌, length, filter, flat_map, codes, if◌then◌else◌}
use Rattle.guest_code.specs.Program.{Program}
use Rattle.semantics.specs.{Ends.is_terminal, Mask.has}
use Rattle.replay.specs.Spelling.{printed}
use Rattle.walk_items.specs.Children.{next_steps, children_of}
use Rattle.walk_items.specs.{Items.{ItemView, root_of, state_of}, declared.mode.Mode.Mode}
use Rattle.walk_items.specs.declared.mode.Mode.TheVariants.{Bounded, Reduced, BoundedOnce, ReducedOnce}

-- whether a step of this thread is gone into: each is, whatever its preemptions; pruned, that of a
-- thread that doesn't sleep. A mode with equal threads once counts as the one with all
abbrev pub is_entered : Mode → ItemView → ℕ → Bool
is_entered (Bounded bound) i t = true
is_entered Reduced i t = not (has i.mask t)
is_entered (BoundedOnce bound) i t = true
is_entered ReducedOnce i t = not (has i.mask t)

-- the items of one more step, rising
abbrev pub longer : Mode → ItemView → List ItemView
longer mode i = children_of mode i (filter (is_entered mode i) (next_steps i))

-- what an item goes on to: itself, where its prefix is a complete schedule
abbrev pub further : Mode → ItemView → List ItemView
further mode i = if is_terminal i.program (state_of i) then i ∷ [] else longer mode i

-- the prefixes of this length, rising; a complete schedule that is shorter stands for itself
abbrev pub prefixes_of : Mode → Program → ℕ → List ItemView
prefixes_of mode p zero = root_of p ∷ []
prefixes_of mode p (suc n) = flat_map (further mode) (prefixes_of mode p n)

-- the item's prefix is a complete schedule
abbrev pub IsComplete : ItemView → Type 0
IsComplete i = is_terminal i.program (state_of i) ≡ true

-- the prefixes of the least length at which there are `at_least`, or more, or at which all are
-- complete schedules
pub record IsListOf (mode : Mode) (p : Program) (at_least : ℕ) (items : List ItemView) :
    Type 0 where
  pub steps : ℕ
  pub all : items ≡ prefixes_of mode p steps
  pub enough : (at_least ≤ length items) ⊎ All IsComplete items
  pub least : (n : ℕ) → n < steps → length (prefixes_of mode p n) < at_least

-- the line of an item's prefix
abbrev pub prefix_line : ItemView → List ℕ
prefix_line i = printed i.prefix ++ codes "\n"
