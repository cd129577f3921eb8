-- What the user is told of a line that is no part's.
use Rattle.std.specs.Prelude.{ℕ, List, ◌++◌, codes}
use Rattle.std.specs.Fmt.{decimal}
use Rattle.runner_parts.specs.declared.error.{LineError.LineError, PartError.PartError}
use Rattle.runner_parts.specs.declared.error.PartError.TheVariants.{NotJson, OtherVersion, Missing, Wrong, Inconsistent, NotPrinted, OutOfMemory}
use Rattle.runner_parts.specs.declared.part.TheConstants.{VERSION}

-- the key, and what is wrong with it
abbrev pub part_error_text : PartError → List ℕ
part_error_text NotJson = codes "no JSON"
part_error_text (OtherVersion version) =
    codes "parts are of version " ++ (decimal VERSION ++ (codes ", not " ++ decimal version))
part_error_text (Missing key) = codes "no key " ++ key.now
part_error_text (Wrong key wanted) = key.now ++ (codes " is not " ++ wanted.now)
part_error_text Inconsistent = codes "ends, failed, stuck and schedule do not fit one another"
part_error_text NotPrinted = codes "a key or a spelling that no part has"
part_error_text OutOfMemory = codes "memory"

-- the line's number, and what is wrong with it
abbrev pub line_error_text : LineError → List ℕ
line_error_text e = decimal e.number ++ (codes ": " ++ part_error_text e.error)
