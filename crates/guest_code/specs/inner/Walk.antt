-- The walk along the uses of one thread's body, which carries the thread's locals, and what the
-- code of the check answers by it.
use Rattle.std.specs.Prelude.{◌≡◌, ℕ, List, [], ◌∷◌, map, Option, Some, None, Result, Ok, Err}
use Rattle.std.proofs.Common.{Vec, Global}
use Rattle.guest_syntax.specs.Tree.{declaration_view, thread_view, tree_view}
use Rattle.guest_syntax.specs.declared.tree.Declaration as code-declaration
use Rattle.guest_syntax.specs.declared.tree.Thread as code-thread
use Rattle.guest_syntax.specs.declared.tree.Tree as code-tree
use Rattle.guest_code.specs.{Fault.{object_refusal, local_refusal, Refuses}, Program.locals_view}
use Rattle.guest_code.specs.Uses.{Use, declares, object, local, outside, declarations_uses, uses, kind_in, with_name}
use Rattle.guest_code.specs.declared.error.CheckError.{CheckError, TheVariants.LeaveOutside}
use Rattle.guest_code.specs.declared.check.Scope as code-scope

-- all uses in a tree in memory, in declarations in memory, and in those and threads in memory
unfoldable pub all_uses : code-tree.Tree → List Use
all_uses t = uses (tree_view t).declarations (tree_view t).threads

abbrev pub declared_in : List code-declaration.Declaration → List Use
declared_in ds = declarations_uses (map declaration_view ds)

abbrev pub uses_of : List code-declaration.Declaration → List code-thread.Thread → List Use
uses_of ds ts = uses (map declaration_view ds) (map thread_view ts)

-- ---- the walk

-- what a check with this refusal answers, where it leaves x
abbrev pub passed : {X : Type 0} → Option CheckError → X → Result X CheckError
passed None x = Ok x
passed (Some e) x = Err e

-- the locals so far, or a refusal
abbrev pub Checked : Type 0
Checked = Result (List (List ℕ)) CheckError

-- one check, and then another with the locals that the first left
abbrev pub and_then : Checked → (List (List ℕ) → Checked) → Checked
and_then (Ok ns) f = f ns
and_then (Err e) f = Err e

-- the uses of a body, one after the other, with the locals before them
abbrev pub walk : List Use → List (List ℕ) → List Use → Checked
walk all ns [] = Ok ns
walk all ns (declares k n ∷ us) = walk all ns us
walk all ns (object k n ∷ us) = and_then (passed (object_refusal k n (kind_in all n.text)) ns)
    (λ ms. walk all ms us)
walk all ns (local n ∷ us) = and_then
    (passed (local_refusal n (kind_in all n.text) ns) (with_name ns n.text)) (λ ms. walk all ms us)
walk all ns (outside at ∷ us) = Err (LeaveOutside at)

-- ---- what is answered

-- what a function returned is Ok exactly where there is no fault, and else the fault, unless memory
-- ran out
abbrev pub Answers : {X : Type 0} → Result X CheckError → Option CheckError → Type 0
Answers (Ok x) fault = fault ≡ None
Answers (Err e) fault = Refuses e fault

-- the refusal of an answer
abbrev pub fault_of : {Y : Type 0} → Result Y CheckError → Option CheckError
fault_of (Ok y) = None
fault_of (Err e) = Some e

-- what a function returned, leaving this value, is what is checked, unless memory ran out
abbrev pub Gives : {X Y : Type 0} → Result X CheckError → Y → Result Y CheckError → Type 0
Gives (Ok x) y checked = checked ≡ Ok y
Gives (Err e) y checked = Refuses e (fault_of checked)

-- what a function returned that met some uses, with the locals before the call and after the call
abbrev pub Meets : {X : Type 0} → Result X CheckError → code-scope.Scope
    → (old new : Vec (Vec ℕ Global) Global) → List Use → Type 0
Meets result scope old new us = Gives result (locals_view new)
    (walk (all_uses scope.tree.now) (locals_view old) us)

-- what a function returned that looked for the locals of these uses
abbrev pub Finds : Result (Vec (Vec ℕ Global) Global) CheckError → code-tree.Tree → List Use
    → Type 0
Finds (Ok v) tree us = walk (all_uses tree) [] us ≡ Ok (locals_view v)
Finds (Err e) tree us = Refuses e (fault_of (walk (all_uses tree) [] us))
