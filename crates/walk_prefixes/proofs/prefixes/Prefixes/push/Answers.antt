use Rattle.std.proofs.Common.{◌≡◌, take, sym, ◌∙◌, ap, arith}
use Rattle.walk_prefixes.proofs.{ListFields.{none_in, last_in}, PackedPrefixes.taken_after}
use Rattle.walk_prefixes.proofs.prefixes.Prefixes.push.Goals as goal

pub push_first-requires : goal.push_first-requires
push_first-requires c = none_in c.self.inside c.args.self.now c.self.view_is c.if-self-eq0.true

pub returns-then-self-eq0 : goal.returns-then-self-eq0
returns-then-self-eq0 c =
    let none = none_in c.self.inside c.args.self.now c.self.view_is c.if-self-eq0.true in
    rw none c.push_first.ensures

pub returns : goal.returns
returns c =
    let last = c.self.inside.last.items in
    let k = c.shared_len-shared.result in
    let alike : take k last ≡ take k c.args.prefix.now
    = ap (take k) (sym c.as_slice.ensures.value) ∙ c.shared_len-shared.ensures.alike in
    rw (← taken_after c.args.self.now last c.args.prefix.now k
    (last_in c.self.inside c.args.self.now c.self.view_is (omega arith)) alike)
    c.push_after.ensures
