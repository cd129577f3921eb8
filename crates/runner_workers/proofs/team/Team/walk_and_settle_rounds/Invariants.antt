use Rattle.runner_workers.proofs.team.Team.walk_and_settle_rounds.Given as goal

-- the search that the stretch is of
abbrev pub ghosts-run : goal.ghosts-run
ghosts-run g a = record {
  of = a.self.book.of;
  mode = a.self.book.mode;
  quick = a.self.book.quick;
  lists = a.self.book.lists;
}

-- and that the workers' own rounds are of
abbrev pub ghosts-run_own_rounds : goal.ghosts-run_own_rounds
ghosts-run_own_rounds g a = record {
  of = a.team.book.of;
  mode = a.team.book.mode;
  quick = a.team.book.quick;
  lists = a.team.book.lists;
}
