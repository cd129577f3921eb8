use Rattle.std.proofs.Common.{rules, ◌≡◌, ◌∙◌, ◌+◌, ◌-◌, ap, sym, arith, length, get_or}
use Rattle.walk_items.specs.Items.{ItemView}
use Rattle.runner.proofs.Shrinks.{round_less, last_at}
use Rattle.runner.proofs.alone.Lone.walk_and_settle_each.Goals as goal

pub walk_and_settle-requires-clause-item : goal.walk_and_settle-requires-clause-item
walk_and_settle-requires-clause-item c =
    let i = c.item-item.result in
    let at : i ≡ get_or c.next_round.new.items.items c.loop-item.item-index i = search rules in
    ap (λ (x : ItemView). x.program) at
    ∙ (c.next_round.ensures.program c.loop-item.item-index i (search rules)
    ∙ (c.requires.book ∙ sym c.loop-item.invariant.walker))

pub loop-item-preserved : goal.loop-item-preserved
loop-item-preserved c =
    let b = c.args.book.now in
    let at = last_at b.open_items c.next_round.new.items.items (length b.open_items - 64)
    c.loop-item.item-index c.item-item.result c.in_ok-next_round.ensures.items (search rules)
    (search rules) in
    let less =
    round_less b c.loop-item.book c.walk_and_settle.new.book c.item-item.result
    c.loop-item.item-index c.loop-item.invariant.start c.loop-item.invariant.less
    c.in_ok-walk_and_settle.ensures.book (length b.open_items - 64 + c.loop-item.item-index) at.0 at.1 in
    record {
      start = λ e. absurd (omega arith);
      less = λ _. less;
      of = less.of;
      walker = c.walk_and_settle.ensures.walker ∙ c.loop-item.invariant.walker;
    }
