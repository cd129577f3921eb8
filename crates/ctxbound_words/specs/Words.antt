-- What is said of command words that ask for nothing.
use Rattle.std.specs.Prelude.{ℕ}
use Rattle.std.specs.declared.io.ErrorKind.{ErrorKind as IoKind}
use Rattle.std.specs.declared.io.ErrorKind.TheVariants as io
use Rattle.clap.specs.declared.error.{Error.Error, kind.ErrorKind.ErrorKind}
use Rattle.clap.specs.declared.error.kind.ErrorKind.TheVariants as clap
use Rattle.ctxbound_words.specs.declared.fault.WordsFault.{WordsFault}
use Rattle.ctxbound_words.specs.declared.fault.WordsFault.TheVariants.{NotUtf8, OutOfMemory, Clap}

-- the fault of an error of `clap` that has this kind
abbrev pub of_clap : ErrorKind → Error → WordsFault
of_clap clap.OutOfMemory e = OutOfMemory
of_clap kind e = Clap e

-- the fault of words that can't be read, by the kind of the error
abbrev pub of_words_error : IoKind → WordsFault
of_words_error io.OutOfMemory = OutOfMemory
of_words_error kind = NotUtf8

-- the status after refused words: 2 for what the user gave, 4 where memory ran out
abbrev pub words_status : WordsFault → ℕ
words_status NotUtf8 = 2
words_status (Clap e) = 2
words_status OutOfMemory = 4
