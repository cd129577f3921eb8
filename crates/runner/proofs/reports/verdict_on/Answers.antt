use Rattle.runner.proofs.reports.verdict_on.Goals as goal

pub end_of-requires : goal.end_of-requires
end_of-requires c = c.requires c.in-Some.schedule.now c.in-Some.ensures
