-- What a thread is about to do is on objects of the program.
use Rattle.std.specs.Prelude.{IfSome}
use Rattle.std.proofs.Common.{rules, Option, Some}
use Rattle.guest_code.specs.{Program.{Program, IsValid}, declared.program.Instruction.Instruction}
use Rattle.guest_code.specs.declared.program.Instruction.TheVariants.{Load, Add, Cas, Wait, Set, Assert, SkipIfZero, Skip}
use Rattle.semantics.specs.{Actions.{action_of, action_at}, Reachable.IsValidAction}
use Rattle.semantics.specs.declared.state.Status.{Status, TheVariants.{Running, Woken}}

valid_action_of : (p : Program) (i : Instruction) → IsValid p i
    → IfSome (action_of i) (IsValidAction p)
valid_action_of p (Load r x) h = (h.1, h.0)
valid_action_of p (Add r x a) h = (h.1, (h.0, h.2))
valid_action_of p (Cas r x a b) h = (h.1, (h.0, h.2, h.3))
valid_action_of p (Set r e) h = tt
valid_action_of p (Assert e) h = tt
valid_action_of p (SkipIfZero e n) h = tt
valid_action_of p (Skip n) h = tt
valid_action_of p i h = h

pub valid_action_at : (p : Program) (status : Status) (i : Option Instruction)
    → IfSome i (IsValid p) → IfSome (action_at status i) (IsValidAction p)
valid_action_at p Running (Some i) h = valid_action_of p i h
valid_action_at p Woken (Some (Wait c m)) h = h.1
valid_action_at p status i h = search rules
