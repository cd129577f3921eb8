-- What reading code gives, by a function on lists.
use Rattle.std.specs.Prelude.{◌≡◌, Option, Some, None, Result, Ok, Err}
use Rattle.guest_syntax.specs.declared.error.SyntaxError.{SyntaxError}
use Rattle.guest_syntax.specs.declared.error.SyntaxError.TheVariants as errors

-- a refusal comes only where there is nothing to read, unless memory ran out
abbrev pub Fails : {Y : Type 0} → SyntaxError → Option Y → Type 0
Fails errors.OutOfMemory read = Unit {0}
Fails (errors.NotAscii p) read = read ≡ None
Fails (errors.BadChar p) read = read ≡ None
Fails (errors.Expected p) read = read ≡ None
Fails (errors.NumberTooBig p) read = read ≡ None
Fails (errors.TooLong p) read = read ≡ None
Fails (errors.TooDeep p) read = read ≡ None

-- what a function returned, seen by view, is what reading gives, unless memory ran out
abbrev pub Gives : {X Y : Type 0} → (X → Y) → Result X SyntaxError → Option Y → Type 0
Gives view (Ok x) read = read ≡ Some (view x)
Gives view (Err e) read = Fails e read
