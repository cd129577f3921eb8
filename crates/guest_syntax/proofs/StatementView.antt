-- A statement, one level at a time.
use Rattle.std.proofs.Common.{◌≡◌, Some, Vec, Global, rules}
use Rattle.guest_syntax.specs.Tree.{if_else, expr_view, stmt_view, placed_view, block_view}
use Rattle.guest_syntax.specs.declared.tree.{Expr.Expr, Placed.Placed, Statement.{If, the_lemmas}}

pub view-placed : (p : Placed)
    → placed_view p ≡ record { at = p.at; statement = stmt_view p.statement }
view-placed p = search (rules, the_lemmas)

pub view-else : (e : Expr) (b c : Vec Placed Global)
    → stmt_view (If e b (Some c)) ≡ if_else (expr_view e) (block_view b.items) (block_view c.items)
view-else e b c = search (rules, the_lemmas)
