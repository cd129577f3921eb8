-- What is answered to the question whether a program is right.
use Rattle.std.specs.Prelude.{◌⊎◌, ℕ, ◌+◌, ◌<◌, min, List, true, false, nat_le, Option, Some, None}
use Rattle.guest_code.specs.Program.{Program}
use Rattle.runner_report.specs.{Reports.NoBadBelow, Texts.IsProgramOf}
use Rattle.runner_report.specs.declared.options.Search.TheVariants.{UpTo, Unbounded}
use Rattle.ctxbound_answers.specs.declared.limits.Limits.{Limits}
use Rattle.ctxbound_suite.specs.Shown.{options_of, IsRight, IsBadOf, WasCut, Names}
use Rattle.ctxbound_suite.specs.declared.answer.Correctness.{Correctness}
use Rattle.ctxbound_suite.specs.declared.answer.Correctness.TheVariants.{Right, Bad, Undecided}
use Rattle.ctxbound_suite.specs.declared.found.BadSchedule.{BadSchedule}

-- the bounds below this one are gone through: up to the last, or to the preemptions of a bad
-- schedule that is known
abbrev pub stop_of : Option BadSchedule → ℕ → ℕ
stop_of None bound = bound + 1
stop_of (Some b) bound = min b.preemptions (bound + 1)

-- the answer where no bad schedule has fewer preemptions than `clear`: the nearer bad one, or the one
-- that was known before
abbrev pub answer_of : Option BadSchedule → Option BadSchedule → ℕ → Correctness
answer_of (Some b) known clear = Bad b (nat_le b.preemptions clear)
answer_of None (Some b) clear = Bad b (nat_le b.preemptions clear)
answer_of None None clear = Undecided clear

-- the status after an answer
abbrev pub status_of : Correctness → ℕ
status_of Right = 0
status_of (Bad b is_fewest) = 1
status_of (Undecided below) = 3

-- no bad schedule has fewer preemptions than this, and whether one has as many is left open: the
-- search up to it was cut short and names none, unless it is past the last bound
pub record IsOpen (p : Program) (l : Limits) (below : ℕ) : Type 0 where
  pub none : NoBadBelow p below
  pub cut : (l.bound < below) ⊎ WasCut p (options_of (UpTo below) l.limit)

-- the search without a bound names this bad schedule, and whether one with fewer preemptions is bad
-- is left open
pub record MayHaveFewer (p : Program) (l : Limits) (b : BadSchedule) : Type 0 where
  pub named : Names p (options_of Unbounded l.limit) b
  pub below : ℕ
  pub fewer : below < b.preemptions
  pub rest : IsOpen p l below

-- what an answer says: no schedule is bad; this one is, and none with fewer preemptions, or where
-- that isn't told it is left open; or that is open from this many preemptions on, and the search
-- without a bound was cut short
abbrev pub AnswerMeans : Program → Limits → Correctness → Type 0
AnswerMeans p l Right = IsRight p
AnswerMeans p l (Bad b true) = IsBadOf p b × NoBadBelow p b.preemptions
AnswerMeans p l (Bad b false) = IsBadOf p b × MayHaveFewer p l b
AnswerMeans p l (Undecided below) = IsOpen p l below × WasCut p (options_of Unbounded l.limit)

-- the text spells a program, and the answer is of it
pub record IsAnswerOfText (text : List ℕ) (l : Limits) (a : Correctness) : Type 0 where
  pub program : Program
  pub is_program : IsProgramOf text program
  pub means : AnswerMeans program l a
