-- What the user is told where a book refuses.
use Rattle.std.specs.Prelude.{ℕ, List, codes}
use Rattle.book.specs.declared.errors.{RaiseError.RaiseError, SettleError.SettleError}
use Rattle.book.specs.declared.errors.SettleError.TheVariants as settling
use Rattle.book.specs.declared.errors.RaiseError.TheVariants as raising

-- the number and the name of the refusal
abbrev pub settle_error_text : SettleError → List ℕ
settle_error_text settling.NotOpen = codes "book B1 NotOpen"
settle_error_text settling.Stranger = codes "book B2 Stranger"
settle_error_text settling.OutOfMemory = codes "memory"

-- the number and the name of the refusal
abbrev pub raise_error_text : RaiseError → List ℕ
raise_error_text raising.StillOpen = codes "book B4 StillOpen"
raise_error_text raising.LastBound = codes "book B5 LastBound"
raise_error_text raising.Dropped = codes "book B6 Dropped"
