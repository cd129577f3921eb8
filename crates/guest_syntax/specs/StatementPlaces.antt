-- Where the statements of a thread are in their text.
use Rattle.std.specs.Prelude.{List, [], ◌∷◌, All}
use Rattle.guest_syntax.specs.{Place.Before, Tree.{Stmt, Block, Thread}, declared.place.Pos.Pos}
use Rattle.guest_syntax.specs.Tree as tree

-- P holds of the place of each statement inside a statement, and of a block
abbrev mutual
  pub Inside : (Pos → Type 0) → Stmt → Type 0
  Inside P (tree.if_then e b) = EachPlace P b
  Inside P (tree.if_else e b c) = EachPlace P b × EachPlace P c
  Inside P (tree.repeat n b) = EachPlace P b
  Inside P _ = Unit {0}

  pub EachPlace : (Pos → Type 0) → Block → Type 0
  EachPlace P tree.nothing = Unit {0}
  EachPlace P (tree.next at s b) = P at × Inside P s × EachPlace P b

-- a place in the text of a thread: after its name, and before the names of the threads after it
abbrev pub IsInThread : Thread → List Thread → Pos → Type 0
IsInThread t later p = Before t.name.at p × All (λ u. Before p u.name.at) later

-- each statement is in the text of its thread
abbrev pub AreInThreads : List Thread → Type 0
AreInThreads [] = Unit {0}
AreInThreads (t ∷ ts) = EachPlace (IsInThread t ts) t.body × AreInThreads ts
