-- Steps that can be taken back one after the other.
use Rattle.std.specs.Prelude.{◌≡◌, List, [], ◌∷◌, reverse}
use Rattle.guest_code.specs.Program.{Program}
use Rattle.semantics.specs.{Machine.Snapshot, Reachable.IsOf, Undoing.{undone, IsRecordOf}}
use Rattle.semantics.specs.declared.undo.Undo.{Undo}
use Rattle.check_lint.specs.declared.exploration.{Exploration.Exploration, Frame.Frame}

-- by this record a state goes back to the one before it
pub record TakesBack (p : Program) (u : Undo) (old new : Snapshot) : Type 0 where
  pub of : IsOf p new
  pub record_of : IsRecordOf u new
  pub back : undone u new ≡ old

-- the steps, the last first, can be taken back from a state
abbrev pub Stacked : Program → List Frame → Snapshot → Type 0
Stacked p [] s = Unit {0}
Stacked p (f ∷ fs) s = IsRecordOf f.undo s × IsOf p (undone f.undo s)
    × Stacked p fs (undone f.undo s)

pub record IsExploration (p : Program) (t : Exploration) : Type 0 where
  pub of : IsOf p t.state
  pub steps : Stacked p (reverse t.frames.items) t.state
