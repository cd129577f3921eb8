-- What is printed of the prefixes of the schedules of a program.
use Rattle.std.specs.Prelude.{◌≡◌, ℕ, List, Bool, true, false}
use Rattle.std.specs.List.{flat_map}
use Rattle.guest_code.specs.Program.{Program}
use Rattle.runner_report.specs.Texts.{IsProgramOf}
use Rattle.walk_items.specs.{Items.ItemView, declared.limits.TheConstants.BOUND}
use Rattle.walk_items.specs.declared.mode.Mode.{Mode, TheVariants.{Bounded, Reduced}}
use Rattle.ctxbound_answers.specs.declared.answer.Printed.{Printed}
use Rattle.ctxbound_answers.specs.declared.request.PrefixesRequest.{PrefixesRequest}
use Rattle.walk_cover.specs.Prefixes.{IsListOf, prefix_line}

-- the mode whose prefixes are listed; a prefix may have more preemptions than the bound
abbrev pub listing_mode : Bool → Mode
listing_mode true = Reduced
listing_mode false = Bounded BOUND

-- a line for each prefix of the program that the text spells, of the least length at which there
-- are as many as asked for, or more
pub record IsListingOf (text : List ℕ) (request : PrefixesRequest) (printed : Printed) :
    Type 0 where
  pub program : Program
  pub of : IsProgramOf text program
  pub items : List ItemView
  pub all : IsListOf (listing_mode request.is_pruned) program request.at_least items
  pub lines : printed.output.items ≡ flat_map prefix_line items
  pub status : printed.status ≡ 0
