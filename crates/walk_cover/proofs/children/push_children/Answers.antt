use Rattle.std.proofs.Common.{◌≡◌, Bool, true, false, ◌&&◌, refl, ap, sym, ◌∙◌, arith, length}
use Rattle.semantics.specs.Machine.{Snapshot}
use Rattle.guest_code.specs.Program.{Program}
use Rattle.walk_cover.specs.Prefixes.{is_entered}
use Rattle.walk_cover.proofs.Steps.{is_next, next_is, longer_runs, child_is, longer_more, longer_same, longer_all}
use Rattle.walk_cover.proofs.children.push_children.Goals.{then-is_enabled+then-is_entered+in_ok-with_prefix+in_ok-push, else-is_enabled, else-is_enabled-via-then-is_enabled+else-is_entered, else-is_enabled-via-else-is_enabled}
use Rattle.walk_cover.proofs.children.push_children.Goals as goal

next : (c : goal.Joined-is_enabled) (a b : Bool) → a ≡ c.is_enabled.result →
    b ≡ is_entered c.args.mode c.args.item.now c.loop-thread.thread →
    is_next c.args.mode c.args.item.now c.loop-thread.thread ≡ (a && b)
next c a b e f =
    next_is c.args.mode c.args.item.now c.loop-thread.thread _ _ a b
    c.program-in-loop-thread.ensures c.requires.state (e ∙ c.is_enabled.ensures) f

pub with_prefix-requires : goal.with_prefix-requires
with_prefix-requires c =
    longer_runs c.args.item.now c.loop-thread.thread _ _ _ c.program-in-loop-thread.ensures
    c.requires.state c.prefix.ensures.prefix c.prefix.ensures.runs
    (sym c.is_enabled.ensures ∙ c.if-is_enabled.true)

pub loop-thread-preserved : goal.loop-thread-preserved
loop-thread-preserved c = elim c.if-is_enabled.branch [
  | then-is_enabled+then-is_entered+in_ok-with_prefix+in_ok-push w ↦
      longer_more c.args.mode c.args.item.now c.loop-thread.thread c.args.items.now.items
      c.loop-thread.items.items _ _ c.loop-thread.invariant
      (next c true true (sym w.if-is_enabled.true) (sym w.if-is_entered.true
      ∙ w.is_entered.ensures))
      (ap (λ v. v.items) w.items-is ∙ w.in_ok-push.ensures.items)
      (child_is c.args.mode c.args.item.now c.loop-thread.thread _ w.prefix.result.now
      w.sleepers-mask.result w.in_ok-with_prefix.ensures w.prefix.ensures.prefix
      w.sleepers-mask.ensures)
  | else-is_enabled w ↦ ap (λ v. v.items) w.items-is
      ∙ longer_same c.args.mode c.args.item.now c.loop-thread.thread c.args.items.now.items
      c.loop-thread.items.items c.loop-thread.invariant
      (elim w.else-is_enabled.branch [
        | else-is_enabled-via-then-is_enabled+else-is_entered v ↦
            next c true false (sym v.if-is_enabled.true) (sym v.if-is_entered.false
            ∙ v.is_entered.ensures)
        | else-is_enabled-via-else-is_enabled v ↦
            next c false _ (sym v.if-is_enabled.false) refl
      ])
]

pub returns : goal.returns
returns c =
    longer_all c.args.mode c.args.item.now c.loop-thread.thread c.args.items.now.items _
    c.loop-thread.invariant
    (let state = ap (λ (s : Snapshot). length s.threads) c.requires.state in
    let program = ap (λ (p : Program). length p.threads) c.program.ensures in
    omega (
      arith,
      state,
      program,
      c.requires.of.threads,
      c.threads-thread-end.ensures.number,
      c.loop-thread-test.false,
      c.loop-thread.auto.thread-end,
    ))
