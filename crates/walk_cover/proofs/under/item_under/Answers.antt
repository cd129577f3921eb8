use Rattle.std.proofs.Common.{ap}
use Rattle.std.specs.Arc.{arc_value}
use Rattle.walk_cover.{specs.Covers.plain, proofs.Asleep.bounded_under}
use Rattle.walk_cover.proofs.under.item_under.Goals as goal

pub returns-in-Bounded-clause-value : goal.returns-in-Bounded-clause-value
returns-in-Bounded-clause-value c =
    bounded_under c.args.mode c.in-Bounded.field-0 (arc_value c.args.program) c.args.prefix.now
    c.in_ok-item.item (ap plain c.in-Bounded.is) c.in_ok-item.ensures.item
    c.in_ok-item.ensures.runs

pub returns-in-BoundedOnce-clause-value : goal.returns-in-BoundedOnce-clause-value
returns-in-BoundedOnce-clause-value c =
    bounded_under c.args.mode c.in-BoundedOnce.field-0 (arc_value c.args.program)
    c.args.prefix.now c.in_ok-item.item (ap plain c.in-BoundedOnce.is) c.in_ok-item.ensures.item
    c.in_ok-item.ensures.runs
