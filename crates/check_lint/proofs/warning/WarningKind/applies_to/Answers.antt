use Rattle.std.proofs.Common.{◌≡◌, ◌↔◌, ℕ, Bool, IsTrue, List, subst, sym}
use Rattle.guest_code.specs.{Program.{Program, code_of}, declared.program.Instruction.Instruction}
use Rattle.check_lint.specs.Warnings.{IsSo, WaitNotLookedAtAgain}
use Rattle.check_lint.specs.declared.warning.WarningKind.{WarningKind}
use Rattle.check_lint.specs.declared.warning.WarningKind.TheVariants as kinds
use Rattle.check_lint.proofs.warning.WarningKind.applies_to.Goals as goal

of_wait : (p : Program) (kind : WarningKind) (t k : ℕ) (code : List Instruction) (b : Bool)
    → kind ≡ kinds.WaitNotLookedAtAgain t → code ≡ code_of p t
    → (IsTrue b ↔ WaitNotLookedAtAgain code k) → IsTrue b ↔ IsSo p kind k
of_wait p kind t k code b same is e =
    let P : List Instruction → Type 0 = λ is. IsTrue b ↔ WaitNotLookedAtAgain is k in
    let Q : WarningKind → Type 0 = λ kind. IsTrue b ↔ IsSo p kind k in
    subst Q (sym same) (subst P is e)

pub returns-in_ok-waits_without_recheck-in-WaitNotLookedAtAgain :
    goal.returns-in_ok-waits_without_recheck-in-WaitNotLookedAtAgain
returns-in_ok-waits_without_recheck-in-WaitNotLookedAtAgain c =
    of_wait c.args.program.now c.args.self c.in-WaitNotLookedAtAgain.thread c.args.number
    c.code_of-in-WaitNotLookedAtAgain.result.now
    c.in_ok-waits_without_recheck-in-WaitNotLookedAtAgain.field-0
    c.in-WaitNotLookedAtAgain.is c.code_of-in-WaitNotLookedAtAgain.ensures.code
    c.in_ok-waits_without_recheck-in-WaitNotLookedAtAgain.ensures
