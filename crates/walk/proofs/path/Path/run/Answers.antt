use Rattle.std.proofs.Common.{ℕ, List, length, true, false, ap, arith, rules}
use Rattle.semantics_schedules.proofs.ScheduleLengths.{schedule_within}
use Rattle.walk.{specs.inner.WalkerInvariant.turns_next, proofs.Expansions.next_is}
use Rattle.walk.proofs.path.Path.run.Goals as goal

pub take_run-requires : goal.take_run-requires
take_run-requires c = record {
  search = (
    c.requires.search.0,
    next_is c.args.mode c.args.item.now c.loop-going.self c.loop-going.found c.args.thread
        c.loop-going.going true c.loop-going-test.true
        (c.loop-going.invariant.search c.requires.search.0 c.requires.search.1),
  );
}

pub defer_others_if_alone-requires-clause-search : goal.defer_others_if_alone-requires-clause-search
defer_others_if_alone-requires-clause-search c = (
  c.requires.search.0,
  c.in_ok-take_run.ensures.search c.requires.search.0
      (next_is c.args.mode c.args.item.now c.loop-going.self c.loop-going.found c.args.thread
      c.loop-going.going true c.loop-going-test.true
      (c.loop-going.invariant.search c.requires.search.0 c.requires.search.1)),
)

pub loop-going-preserved : goal.loop-going-preserved
loop-going-preserved c =
    let t = c.loop-going.self in
    let once = c.in_ok-take_run.ensures.falls in
    let next = ap (turns_next c.args.mode c.args.item.now.program t c.args.thread)
    c.loop-going-test.true in
    let before = c.loop-going.invariant.falls in
    let falls = c.in_ok-going.ensures.falls in
    record {
      path = search rules;
      search = λ b h. c.in_ok-going.ensures.search b
          (c.in_ok-take_run.ensures.search b
          (next_is c.args.mode c.args.item.now t c.loop-going.found c.args.thread
          c.loop-going.going true c.loop-going-test.true (c.loop-going.invariant.search b h)));
      free = search rules;
      falls = omega (arith, once, next, falls, before);
      tried = search rules;
    }

pub loop-going-smaller : goal.loop-going-smaller
loop-going-smaller c =
    let p = c.args.item.now.program in
    let path = c.take_run.ensures.path in
    let short = schedule_within p c.take_run.new.self.steps.items path.well_formed
    path.reaches.runs in
    let further = c.in_ok-take_run.ensures.further in
    let same = ap (λ (w : List ℕ). length w) c.defer_others_if_alone.ensures.steps in
    omega (arith, short, further, same)

pub returns-clause-search : goal.returns-clause-search
returns-clause-search c = λ b h. next_is c.args.mode c.args.item.now c.loop-going.self
    c.loop-going.found c.args.thread c.loop-going.going false c.loop-going-test.false
    (c.loop-going.invariant.search b h)

pub returns-clause-falls : goal.returns-clause-falls
returns-clause-falls c =
    let next = ap (turns_next c.args.mode c.args.item.now.program c.loop-going.self c.args.thread)
    c.loop-going-test.false in
    let before = c.loop-going.invariant.falls in
    omega (arith, next, before)
