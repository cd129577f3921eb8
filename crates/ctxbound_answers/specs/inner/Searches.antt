-- That the bound of a search is one that there is has one proof at most.
use Rattle.std.specs.Coded.{Unit-prop, le_prop}
use Rattle.runner_report.specs.{Promises.IsSearch, declared.options.Search.Search}
use Rattle.runner_report.specs.declared.options.Search.TheVariants.{UpTo, Unbounded}

pub IsSearch-prop : (search : Search) → IsProp (IsSearch search)
IsSearch-prop (UpTo last) = le_prop
IsSearch-prop Unbounded = Unit-prop
