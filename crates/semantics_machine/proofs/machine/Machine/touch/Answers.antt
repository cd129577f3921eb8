use Rattle.std.proofs.Common.{arith, ◌<◌, ◌∙◌, length, get_or, None, ap, sym, subst, inl, inr}
use Rattle.semantics_machine.specs.Touches.{touch_of}
use Rattle.semantics_machine.proofs.Sleepers.{place_there, touches_running, touches_woken, either}
use Rattle.semantics_machine.proofs.machine.Machine.touch.Goals as goal

pub index-requires-2 : goal.index-requires-2
index-requires-2 c =
    let p = c.requires.0 in
    let s = c.requires.1 in
    let row = c.index.result.now in
    let l = subst (λ r. get_or c.args.self.now.control.places c.args.thread 0 < length r.items)
    (sym c.index.ensures)
    (place_there p c.args.self.now s c.args.thread c.requires.2 c.requires.3 row) in
    omega (arith, l, row.ok.0)

pub returns : goal.returns
returns c = λ p s shows on.
    let m = c.args.self.now in
    let t = c.args.thread in
    let row = c.index.result.now in
    let at = c.index-2.result.now in
    let kept = c.index-2.ensures
    ∙ ap (λ r. get_or r.items (get_or m.control.places t 0) at) c.index.ensures in
    elim (either c.has-woken.result) [
      | inl e ↦ rw e (ap (λ xs. get_or xs 1 (touch_of None)) kept
          ∙ touches_woken p m s t shows on row at (sym c.has-woken.ensures ∙ e))
      | inr e ↦ rw e (ap (λ xs. get_or xs 0 (touch_of None)) kept
          ∙ touches_running p m s t shows on row at (sym c.has-woken.ensures ∙ e))
    ]
