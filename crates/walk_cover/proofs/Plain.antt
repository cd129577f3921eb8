-- Modes with all threads, and that with equal threads once the prefixes are the same.
use Rattle.std.proofs.Common.{◌≡◌, ℕ, refl}
use Rattle.walk_items.specs.{Items.ItemView, declared.mode.Mode.Mode}
use Rattle.walk_items.specs.declared.mode.Mode.TheVariants.{Bounded, Reduced, BoundedOnce, ReducedOnce}
use Rattle.walk_cover.specs.{Covers.plain, Prefixes.longer}

-- what is so at each bound and pruned is so of each mode with all threads
pub by_plain : (P : Mode → Type 0) → ((bound : ℕ) → P (Bounded bound)) → P Reduced →
    (mode : Mode) → P (plain mode)
by_plain P at pruned (Bounded bound) = at bound
by_plain P at pruned Reduced = pruned
by_plain P at pruned (BoundedOnce bound) = at bound
by_plain P at pruned ReducedOnce = pruned

pub longer_plain : (mode : Mode) (i : ItemView) → longer (plain mode) i ≡ longer mode i
longer_plain (Bounded bound) i = refl
longer_plain Reduced i = refl
longer_plain (BoundedOnce bound) i = refl
longer_plain ReducedOnce i = refl
