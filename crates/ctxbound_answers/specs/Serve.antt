-- What is served of a reader whose bytes are known.
use Rattle.std.specs.Prelude.{◌≡◌, ℕ, ◌+◌, List, [], Option, Result, Ok, Err, OnOk, take}
use Rattle.std.specs.Io.KnownBytes.{Appends}
use Rattle.guest_syntax.specs.declared.limits.TheConstants.{TEXT_BYTES}
use Rattle.ctxbound_answers.specs.{Answer.Means, Status.fault_status}
use Rattle.ctxbound_answers.specs.declared.answer.Printed.{Printed}
use Rattle.ctxbound_answers.specs.declared.exploration.GuestRequest.{GuestRequest}
use Rattle.ctxbound_answers.specs.declared.fault.Fault.{Fault}

-- what is read of a file: at most one byte more than a program may have
abbrev pub part_read : List ℕ → List ℕ
part_read file = take (TEXT_BYTES + 1) file

abbrev pub IsPartRead : List ℕ → List ℕ → Type 0
IsPartRead text file = text ≡ part_read file

-- where the bytes that a writer holds are known, a success has added these to them
abbrev pub IsWritten : {T E : Type 0} → Result T E → Option (List ℕ) → Option (List ℕ) → List ℕ
    → Type 0
IsWritten result before after bytes = OnOk result (Appends before after bytes)

-- what is printed on standard output, and the status: a fault prints nothing there
abbrev pub output_of : Result Printed Fault → List ℕ
output_of (Ok printed) = printed.output.items
output_of (Err fault) = []

abbrev pub status_of : Result Printed Fault → ℕ
status_of (Ok printed) = printed.status
status_of (Err fault) = fault_status fault

-- the request was answered for what is read of this file: the output was added to what the writer
-- held, and this is the status
pub record IsServed (request : GuestRequest) (file : List ℕ) (before after : Option (List ℕ))
    (status : ℕ) : Type 0 where
  pub result : Result Printed Fault
  pub means : Means request (part_read file) result
  pub output : Appends before after (output_of result)
  pub ends : status ≡ status_of result
