-- What the user is told of an error.
use Rattle.std.specs.Prelude.{ℕ, Bool, true, false, List, [], ◌++◌, Option, Some, None, codes}
use Rattle.std.specs.Fmt.{decimal}
use Rattle.replay.specs.Spelling.{printed}
use Rattle.runner_joining.specs.declared.error.JoinError.{JoinError}
use Rattle.runner_joining.specs.declared.error.JoinError.TheVariants.{Missing, Nested, Unused, Lacks, Cut, Disagree, Untrue, OutOfMemory}
use Rattle.runner_joining.specs.declared.error.PartPlace.{PartPlace}

abbrev pub bound_text : Option ℕ → List ℕ
bound_text None = []
bound_text (Some bound) = codes " at bound " ++ decimal bound

abbrev pub place_text : PartPlace → List ℕ
place_text place = bound_text place.bound ++ (codes " under " ++ printed place.under.items)

abbrev pub join_error_text : JoinError → List ℕ
join_error_text (Missing v) = codes "nothing under " ++ printed v.items
join_error_text (Nested v w) =
    printed v.items ++ (codes " holds " ++ (printed w.items ++ codes " too"))
join_error_text (Unused v) = codes "no schedule begins with " ++ printed v.items
join_error_text (Lacks place) = codes "nothing" ++ place_text place
join_error_text (Cut place) = codes "cut short" ++ place_text place
join_error_text (Disagree place) = codes "two parts disagree" ++ place_text place
join_error_text (Untrue place) = codes "an untrue schedule" ++ place_text place
join_error_text OutOfMemory = codes "memory"

-- whether a search of more would help
abbrev pub needs_work : JoinError → Bool
needs_work (Missing v) = true
needs_work (Nested v w) = false
needs_work (Unused v) = false
needs_work (Lacks place) = true
needs_work (Cut place) = true
needs_work (Disagree place) = false
needs_work (Untrue place) = false
needs_work OutOfMemory = false
