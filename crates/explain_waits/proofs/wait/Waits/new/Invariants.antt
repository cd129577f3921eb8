use Rattle.std.specs.Prelude.{All, is_some}
use Rattle.std.proofs.Common.{◌≡◌, map}
use Rattle.std.specs.List.{filter}
use Rattle.semantics.specs.Work.{up_from}
use Rattle.explain_waits.specs.{Endings.blocked_of, Waiting.TellsWait, declared.wait.Wait.Wait}
use Rattle.explain_waits.specs.inner.Rows.{lists}
use Rattle.explain_waits.proofs.wait.Waits.new.Given as goal

abbrev pub invariant-loop-t : goal.invariant-loop-t
invariant-loop-t l = record {
  threads : map (λ (w : Wait). w.thread) l.waits.items
      ≡ filter (λ t. is_some (blocked_of l.told t)) (up_from 0 l.t);
  each : All (TellsWait l.program l.told (lists l.fates.items)) l.waits.items;
}
