use Rattle.std.proofs.Common.{◌++◌, ℕ, List, arith, ap, refl, rules}
use Rattle.walk_items.specs.Children.{children_of, costs}
use Rattle.walk.specs.inner.WalkerInvariant.{here, left_above, turns_left}
use Rattle.walk.proofs.Expansions.{turned_here, search_turned}
use Rattle.walk.proofs.path.Path.search_in.Goals as goal

pub take_branch-requires : goal.take_branch-requires
take_branch-requires c =
    let p = c.args.item.now.program in
    let t = c.loop-going.self in
    let b = c.requires.search.0 in
    let h = c.loop-going.invariant.search b c.requires.search.1 in
    record {
      search = (
        b,
        search_turned c.args.mode c.args.item.now t _ c.loop-going.found _ _ h
            (turned_here t _ refl refl refl refl refl refl refl) h.place.path.room
            (ap (λ (ts : List ℕ). children_of c.args.mode (here p t) ts
            ++ left_above c.args.mode p t) c.without_first-self.ensures),
      );
    }

pub loop-going-preserved-in-Continue-1 : goal.loop-going-preserved-in-Continue-1
loop-going-preserved-in-Continue-1 c =
    let p = c.args.item.now.program in
    let t = c.loop-going.self in
    record {
      search = λ b k. let h = c.loop-going.invariant.search b k in
          c.in_ok-take_branch-in-Some.ensures.search b
          (search_turned c.args.mode c.args.item.now t _ c.loop-going.found _ _ h
          (turned_here t _ refl refl refl refl refl refl refl) h.place.path.room
          (ap (λ (ts : List ℕ). children_of c.args.mode (here p t) ts
          ++ left_above c.args.mode p t) c.without_first-self.ensures));
      few = search rules;
      over = search rules;
    }

pub backtrack-going-requires-clause-search : goal.backtrack-going-requires-clause-search
backtrack-going-requires-clause-search c =
    let h = c.requires.search in (h.0, c.loop-going.invariant.search h.0 h.1)

pub loop-going-preserved : goal.loop-going-preserved
loop-going-preserved c = record {
  search = λ b h. c.backtrack-going.ensures.search b (c.loop-going.invariant.search b h);
  few = search rules;
  over = search rules;
}

pub returns-else-is_below_limit-clause-path : goal.returns-else-is_below_limit-clause-path
returns-else-is_below_limit-clause-path c =
    let h = c.requires.search in (c.loop-going.invariant.search h.0 h.1).place.path

pub returns-after-loop-going-clause-path : goal.returns-after-loop-going-clause-path
returns-after-loop-going-clause-path c =
    let h = c.requires.search in (c.loop-going.invariant.search h.0 h.1).place.path

pub loop-going-smaller-in-Continue-1 : goal.loop-going-smaller-in-Continue-1
unfolding turns_left
loop-going-smaller-in-Continue-1 c =
    let p = c.args.item.now.program in
    let t = c.loop-going.self in
    let e = ap (λ (ts : List ℕ). costs (children_of c.args.mode (here p t) ts
    ++ left_above c.args.mode p t)) c.without_first-self.ensures in
    let f = c.in_ok-take_branch-in-Some.ensures.further in
    omega (arith, e, f)
