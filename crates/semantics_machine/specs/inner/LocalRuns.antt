-- A thread apart from its locals, and what it does with those of them that are kept.
use Rattle.std.specs.Prelude.{◌≡◌, ℕ, take}
use Rattle.semantics.specs.declared.{local.Landing.Landing, state.Thread.Thread}

-- a thread of which only the first `width` locals are kept
abbrev pub narrow : ℕ → Thread → Thread
narrow width th = record th { locals = take width th.locals }

-- the thread is where it says
pub record IsLandingOf (at : Landing) (th : Thread) : Type 0 where
  pub pc : at.pc ≡ th.pc
  pub status : at.status ≡ th.status
