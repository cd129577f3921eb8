use Rattle.std.proofs.Common.{◌≡◌, map, take, drop, None}
use Rattle.guest_syntax.specs.Tree.{declaration_view, thread_view}
use Rattle.guest_code.specs.{Code.thread_code, Fault.too_long, Program.thread_view as code_view}
use Rattle.guest_code.proofs.lowering.lower_threads.Given as goal

abbrev pub invariant-loop-i : goal.invariant-loop-i
invariant-loop-i l = record {
  same : map code_view l.all.items ≡ map (thread_code (map declaration_view l.declarations))
      (map thread_view (take l.i l.threads));
  short : too_long l.i (map thread_view (drop l.i l.threads)) ≡ None;
}
