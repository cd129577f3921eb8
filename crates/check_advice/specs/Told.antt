-- What a person is told of a text.
use Rattle.std.specs.Prelude.{◌≡◌, List, ℕ, Bool, true, false, Some, None}
use Rattle.std.proofs.Common.{Vec, Global}
use Rattle.std.specs.List.{list_any}
use Rattle.guest_syntax.specs.{Answers.RefusalIn, ErrorTexts.syntax_error_text, Grammar.Spells}
use Rattle.guest_syntax.specs.{Place.start, Tree.Tree, declared.error.SyntaxError.SyntaxError}
use Rattle.guest_code.specs.{ErrorTexts.check_error_text, Fault.fault}
use Rattle.guest_code.specs.declared.error.CheckError.{CheckError}
use Rattle.check_hints.specs.declared.diagnostic.{Diagnostic.Diagnostic, Severity.Severity}
use Rattle.check_hints.specs.declared.diagnostic.Severity.TheVariants as severities
use Rattle.check_hints.specs.Refusals.{syntax_place, check_place, IsDiagnosticOf}
use Rattle.check_advice.specs.declared.Checked.{Checked, TheVariants.{Sound, Refused}}

-- What is told of a text: that it is refused, and why, exactly where it spells no tree without a
-- fault; else warnings and remarks.
pub data Tells (text : List ℕ) : Checked → Type 0 where
  is_sound : {as_ : Vec Diagnostic Global} → (t : Tree) → Spells text t → fault t ≡ None
      → Tells text (Sound as_)
  spells_none : {a : Diagnostic} → ((t : Tree) → ¬ Spells text t) → (e : SyntaxError)
      → RefusalIn start text e → IsDiagnosticOf a (syntax_error_text e) (Some (syntax_place e))
      → Tells text (Refused a)
  has_fault : {a : Diagnostic} → (t : Tree) → Spells text t → (e : CheckError) → fault t ≡ Some e
      → IsDiagnosticOf a (check_error_text e) (check_place t e) → Tells text (Refused a)

-- a diagnostic is a warning, and some of a text are
abbrev pub is_warning : Severity → Bool
is_warning severities.Refusal = false
is_warning severities.Warning = true
is_warning severities.Remark = false

abbrev pub is_warned : Checked → Bool
is_warned (Sound as_) = list_any (λ a. is_warning a.severity) as_.items
is_warned (Refused a) = false
