-- The tree of a text.
use Rattle.std.specs.Prelude.{IfOk, IfErr, ◌≢◌}
use Rattle.std.proofs.Common.{◌≡◌, ℕ, ◌≤◌, List, length, Some, Result, Ok, Err, refl, sym, ap, subst, ◌∙◌}
use Rattle.guest_syntax.specs.{Answers.Answers, Grammar.Spells, Tree.{Tree, tree_view}}
use Rattle.guest_syntax.specs.declared.error.SyntaxError.{SyntaxError}
use Rattle.guest_syntax.specs.declared.{limits.TheConstants.TEXT_BYTES, place.Pos.Pos}
use Rattle.guest_syntax.specs.reader.{Gives.Gives, Scanner.tokens_from, Trees.tree_from}
use Rattle.guest_syntax.proofs.{NoBadTokens.tree_clean, OptionCases.some_is}
use Rattle.guest_syntax.proofs.TokensOfText.{tokens_takes, tokens_again}
use Rattle.guest_syntax.proofs.TreeReaders.{tree_takes, tree_again}
use Rattle.guest_syntax.specs.declared.error.SyntaxError.TheVariants as errors
use Rattle.guest_syntax.specs.declared.tree.Tree as code

abbrev pub start : Pos
start = record { line = 1; col = 1 }

pub text_takes : (text : List ℕ) (t : Tree) → length text ≤ TEXT_BYTES
    → tree_from (tokens_from start text) ≡ Some t → Spells text t
text_takes text t le e =
    let is = tree_takes (tokens_from start text) t e in
    let h = tokens_takes start text (tree_clean t (tokens_from start text) is) in
    record { tokens = tokens_from start text; spelt = h.0; ascii = h.1; short = le; tree = is }

pub text_again : (text : List ℕ) (t : Tree) → Spells text t
    → tree_from (tokens_from start text) ≡ Some t
text_again text t s = ap tree_from (tokens_again start text s.tokens s.spelt s.ascii) ∙ tree_again
    t s.tokens s.tree

pub one_tree : (text : List ℕ) (t u : Tree) → Spells text t → Spells text u → t ≡ u
one_tree text t u s r = some_is t u (sym (text_again text t s) ∙ text_again text u r)

pub found : (text : List ℕ) (r : Result code.Tree SyntaxError) → length text ≤ TEXT_BYTES
    → Gives tree_view r (tree_from (tokens_from start text))
    → IfOk r (λ t. Spells text (tree_view t))
found text (Ok t) le g = text_takes text (tree_view t) le g
found text (Err e) le g = tt

-- what is read is answered, or memory ran out
answers : (r : Result code.Tree SyntaxError) (t : Tree) → Gives tree_view r (Some t) → Answers r t
answers (Ok x) t g = sym (some_is t (tree_view x) g)
answers (Err errors.OutOfMemory) t g = refl
answers (Err e) t g = absurd cc

pub only : (text : List ℕ) (r : Result code.Tree SyntaxError)
    → Gives tree_view r (tree_from (tokens_from start text)) → (t : Tree) → Spells text t
    → Answers r t
only text r g t s = answers r t (subst (Gives tree_view r) (text_again text t s) g)

-- what is refused spells nothing
pub refused : (text : List ℕ) (r : Result code.Tree SyntaxError)
    → ((t : Tree) → Spells text t → Answers r t)
    → IfErr r (λ e. e ≢ errors.OutOfMemory → (t : Tree) → Spells text t → ⊥)
refused text (Ok x) h = tt
refused text (Err e) h = λ other t s. other (h t s)
