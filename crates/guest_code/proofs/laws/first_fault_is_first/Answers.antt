use Rattle.std.proofs.Common.{[]}
use Rattle.guest_code.proofs.FirstFault.{first_found}
use Rattle.guest_code.proofs.laws.first_fault_is_first.Goals as goal

pub returns : goal.returns
returns c = λ all us e s. first_found all [] us e s
