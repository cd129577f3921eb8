use Rattle.guest_syntax.specs.Tree.{tree_view}
use Rattle.check_advice.proofs.Tellings.{told_sound}
use Rattle.check_advice.proofs.check_tree.Goals as goal

pub returns-in_ok-all-in-Ok : goal.returns-in_ok-all-in-Ok
returns-in_ok-all-in-Ok c = told_sound c.args.text.now (tree_view c.args.tree.now)
    c.in_ok-all-in-Ok.all c.requires c.in-Ok.ensures.0
