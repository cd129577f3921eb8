use Rattle.ctxbound_suite.proofs.found.named_bad_schedule.Goals as goal

pub end_of-requires : goal.end_of-requires
end_of-requires c = (c.requires c.in-Some.steps.now c.in-Some.ensures).0
