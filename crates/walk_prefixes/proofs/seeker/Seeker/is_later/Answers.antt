use Rattle.std.proofs.Common.{◌≡◌, nat_lt, get_or, sym, ap, ◌∙◌, arith}
use Rattle.walk_prefixes.specs.PrefixLists.{common_length}
use Rattle.walk_prefixes.proofs.Later.{common_short, later_at, never_later, never_past, common_turned}
use Rattle.walk_prefixes.proofs.seeker.Seeker.is_later.Goals as goal

pub returns-then-self : goal.returns-then-self
returns-then-self c = λ last long alike next.
    let wanted = c.args.wanted.now in
    sym (never_past wanted last
    (common_turned wanted last ∙ (sym alike ∙ omega (arith, c.if-self.true, long))))

pub returns-then-self-wanted : goal.returns-then-self-wanted
returns-then-self-wanted c = λ last long alike next.
    let wanted = c.args.wanted.now in
    sym (never_later wanted last
    (common_turned wanted last ∙ (sym alike ∙ omega (arith, c.if-self-wanted.true))))

pub returns : goal.returns
returns c = λ last long alike next.
    let wanted = c.args.wanted.now in
    let e : c.args.self.now.shared ≡ common_length wanted last = alike ∙ common_turned last wanted in
    ap (nat_lt (get_or wanted c.args.self.now.shared 0)) next
    ∙ ((λ i. nat_lt (get_or wanted (e i) 0) (get_or last (e i) 0))
    ∙ later_at wanted last
    (omega (arith, e, c.requires, c.if-self-wanted.false))
    (omega (arith, e, alike, long, c.if-self.false, common_short last wanted)))
