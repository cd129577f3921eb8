use Rattle.std.proofs.Common.{subst, arith}
use Rattle.std.proofs.lemmas.Result.{on_ok_weaker}
use Rattle.guest_code.specs.Program.{Program}
use Rattle.walk.specs.inner.WalkerInvariant.{IsPlace, IsPushedIfOpen}
use Rattle.walk.proofs.Expansions.{pushed_search, pushed_turns}
use Rattle.walk.proofs.path.Path.take_branch.Goals as goal

pub run-requires : goal.run-requires
run-requires c =
    let program = c.program.ensures in
    record {
      search = (
        c.requires.search.0,
        pushed_search c.args.mode c.args.item.now c.args.self.now c.push_frame_if_open.new.self
            c.args.found.now c.args.thread c.requires.search.1
            (subst (λ (q : Program). IsPlace q c.push_frame_if_open.new.self) program
            c.in_ok-push_frame_if_open.ensures.place)
            (subst (λ (q : Program). IsPushedIfOpen q c.args.self.now c.push_frame_if_open.new.self)
            program
            c.in_ok-push_frame_if_open.ensures.pushed),
      );
    }

pub expand-requires-clause-search : goal.expand-requires-clause-search
expand-requires-clause-search c =
    let program = c.program.ensures in
    let h = c.requires.search in (
      h.0,
      c.in_ok-run.ensures.search h.0
          (pushed_search c.args.mode c.args.item.now c.args.self.now c.push_frame_if_open.new.self
          c.args.found.now c.args.thread h.1
          (subst (λ (q : Program). IsPlace q c.push_frame_if_open.new.self) program
          c.in_ok-push_frame_if_open.ensures.place)
          (subst (λ (q : Program). IsPushedIfOpen q c.args.self.now c.push_frame_if_open.new.self) program
          c.in_ok-push_frame_if_open.ensures.pushed)),
    )

pub returns-clause-search : goal.returns-clause-search
returns-clause-search c =
    let program = c.program.ensures in
    on_ok_weaker c.expand.result (λ arrived b h. arrived b (c.in_ok-run.ensures.search b
    (pushed_search c.args.mode c.args.item.now c.args.self.now c.push_frame_if_open.new.self
    c.args.found.now c.args.thread h
    (subst (λ (q : Program). IsPlace q c.push_frame_if_open.new.self) program
    c.in_ok-push_frame_if_open.ensures.place)
    (subst (λ (q : Program). IsPushedIfOpen q c.args.self.now c.push_frame_if_open.new.self) program
    c.in_ok-push_frame_if_open.ensures.pushed)))) c.expand.ensures.search

pub returns-clause-further : goal.returns-clause-further
returns-clause-further c =
    let program = c.program.ensures in
    let e = pushed_turns c.args.mode c.args.item.now.program c.args.self.now c.push_frame_if_open.new.self
    c.args.thread
    (subst (λ (q : Program). IsPushedIfOpen q c.args.self.now c.push_frame_if_open.new.self) program
    c.in_ok-push_frame_if_open.ensures.pushed) in
    let f = c.in_ok-run.ensures.falls in
    on_ok_weaker c.expand.result (λ l. omega (arith, e, f, l)) c.expand.ensures.falls
