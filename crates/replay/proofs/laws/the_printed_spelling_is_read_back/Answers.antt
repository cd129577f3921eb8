use Rattle.std.proofs.Common.{sym, subst}
use Rattle.replay.{specs.Spelling.Spells, proofs.PrintedRuns.printed_spells}
use Rattle.replay.proofs.SpelledOnce.{spelt_once}
use Rattle.replay.proofs.laws.the_printed_spelling_is_read_back.Goals as goal

pub returns-clause-spells : goal.returns-clause-spells
returns-clause-spells c = printed_spells

pub returns-clause-once : goal.returns-clause-once
returns-clause-once c text v w e s small fits =
    spelt_once text v w s (subst (λ x. Spells x w) (sym e) (printed_spells w small fits))
