use Rattle.runner_joining.specs.Parts.{last_mode, prefixes_for}
use Rattle.runner_joining.proofs.Sums.{items_listed, first_of_program, report_means, none_means}
use Rattle.runner_joining.proofs.joined.Joining.report_at.Goals as goal

pub sum_at-requires-clause-listed : goal.sum_at-requires-clause-listed
sum_at-requires-clause-listed c =
    items_listed (last_mode c.args.self.now.search) c.args.self.now.program.now
    (prefixes_for c.args.self.now.search c.args.self.now.parts.now.parts.now)
    c.args.self.now.items.now c.requires.items

pub report_of-requires-clause-bad : goal.report_of-requires-clause-bad
report_of-requires-clause-bad c =
    first_of_program c.args.self.now.program.now c.args.self.now.parts.now.parts.now c.args.bound
    c.args.self.now.items.now c.in_ok-sum.sum c.requires.schedules c.in_ok-sum.ensures.told

pub returns-in-Ok-clause-some : goal.returns-in-Ok-clause-some
returns-in-Ok-clause-some c =
    report_means c.args.self.now.program.now c.args.self.now.search
    c.args.self.now.parts.now.parts.now c.args.bound c.args.self.now.items.now
    c.new-options.result c.mode_of.result c.in_ok-sum.sum c.in-Ok.report c.requires.comes
    c.requires.items c.in_ok-sum.ensures.told c.new-options.ensures c.mode_of.ensures
    c.in-Ok.ensures.report

pub returns-in-Ok-clause-none : goal.returns-in-Ok-clause-none
returns-in-Ok-clause-none c =
    none_means c.args.self.now.program.now c.args.self.now.search
    c.args.self.now.parts.now.parts.now c.args.bound c.args.self.now.items.now
    c.new-options.result c.mode_of.result c.in_ok-sum.sum c.in-Ok.report c.requires.items
    c.in_ok-sum.ensures.told c.new-options.ensures c.mode_of.ensures c.in-Ok.ensures.none
