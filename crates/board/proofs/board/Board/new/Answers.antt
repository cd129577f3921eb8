use Rattle.std.proofs.Common.{rules, ◌≡◌, refl, ap, ◌∙◌, false, arith}
use Rattle.std.proofs.lemmas.List.Elements.{All-push, All-same}
use Rattle.board.{specs.Board.{SeatView, new_seat}, specs.inner.Rule.Mine, proofs.Steps.splitting}
use Rattle.board.proofs.board.Board.new.Goals as goal

pub split_seat-inner-requires : goal.split_seat-inner-requires
split_seat-inner-requires c =
    let me = c.loop.invariant.me in let root = c.loop.root in
    let some_left = c.loop-test.true in (
      search rules,
      search rules,
      splitting c.in_ok-table.table.shared.key root.id root.me.0
          (rw me (omega arith)) (rw me refl) (rw me refl) (rw me refl),
    )

pub loop-preserved : goal.loop-preserved
loop-preserved c =
    let me = c.loop.invariant.me in let e = c.split_seat-inner.ensures in
    let P : SeatView → Type 0 = λ s. s ≡ new_seat record {
      table = c.in_ok-table.root.table_id;
      limit = c.from-limit.result;
    } in
    let pushed : P record {
      board = record {
        table = c.split_seat-inner.result.table_id;
        limit = c.split_seat-inner.result.me.0.limit;
      };
      drawn = c.split_seat-inner.result.me.0.drawn;
      told = c.split_seat-inner.result.me.0.told;
      answered = c.split_seat-inner.result.me.0.answered;
      marked = false;
    } = λ i. record {
      board = record {
        table = (e.3 ∙ c.loop.invariant.table) i;
        limit = (ap (λ (m : Mine). m.0.limit) e.4 ∙ ap (λ (m : Mine). m.0.limit) me) i;
      };
      drawn = (ap (λ (m : Mine). m.0.drawn) e.4) i;
      told = (ap (λ (m : Mine). m.0.told) e.4) i;
      answered = (ap (λ (m : Mine). m.0.answered) e.4) i;
      marked = false;
    } in record {
      table = search rules;
      me = search rules;
      many = search rules;
      fresh = All-same P _ _ c.in_ok-push.ensures.items
          (All-push P c.loop.all.items _ c.loop.invariant.fresh pushed);
    }
