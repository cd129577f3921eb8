-- What the user is told of a refused tree.
use Rattle.std.specs.Prelude.{ℕ, List, ◌++◌, codes}
use Rattle.std.specs.Fmt.{decimal}
use Rattle.guest_syntax.specs.ErrorTexts.{place_text}
use Rattle.guest_code.specs.declared.error.CheckError.{CheckError}
use Rattle.guest_code.specs.declared.error.CheckError.TheVariants as errors

-- the number and the name of the refusal, and its place or its thread
abbrev pub check_error_text : CheckError → List ℕ
check_error_text (errors.Duplicate at) = codes "check C1 Duplicate at " ++ place_text at
check_error_text (errors.Unknown at) = codes "check C2 Unknown at " ++ place_text at
check_error_text (errors.WrongKind at) = codes "check C3 WrongKind at " ++ place_text at
check_error_text errors.NoThreads = codes "check C4 NoThreads"
check_error_text (errors.TooMany at) = codes "check C5 TooMany at " ++ place_text at
check_error_text (errors.CodeTooLong t) = codes "check C6 CodeTooLong in thread " ++ decimal t
check_error_text (errors.LeaveOutside at) = codes "check C7 LeaveOutside at " ++ place_text at
check_error_text errors.OutOfMemory = codes "memory"
