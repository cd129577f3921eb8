use Rattle.std.proofs.Common.{◌≡◌, ℕ, ◌<◌, get_or}
use Rattle.std.specs.Prelude.{◌↔◌, IsTrue}
use Rattle.guest_code.specs.declared.program.Instruction.TheVariants.{Skip}
use Rattle.explain_waits.specs.declared.fate.Fate.TheVariants.{Ahead, OutOfReach}
use Rattle.explain_waits.specs.Endings.{could_end}
use Rattle.explain_waits.specs.inner.Rows.{FindsHelp}
use Rattle.explain_waits.proofs.ending.comes_to_help.Given as goal

abbrev pub invariant-loop-at : goal.invariant-loop-at
invariant-loop-at l = record {
  helps : IsTrue l.helps ↔ FindsHelp l.code l.fates l.look l.at;
  none : (k : ℕ) → k < l.at →
      IsTrue (could_end l.blocked l.other k (get_or l.code k (Skip 0))) →
      get_or l.fates k OutOfReach ≡ Ahead → ¬ FindsHelp l.code l.fates l.look k;
}
