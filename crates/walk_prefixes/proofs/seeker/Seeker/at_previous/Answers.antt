use Rattle.std.proofs.Common.{◌∙◌, take, arith}
use Rattle.walk_prefixes.proofs.CommonSteps.{kept_before, past_before, next_kept, next_past}
use Rattle.walk_prefixes.proofs.seeker.Seeker.at_previous.Goals as goal

pub returns-then-self-kept-clause-shared : goal.returns-then-self-kept-clause-shared
returns-then-self-kept-clause-shared c = λ last long alike. alike
    ∙ kept_before c.saturating_sub-kept.result (take c.args.self.now.end c.args.deltas.now) last
    c.args.wanted.now
    (omega (arith, long, c.saturating_sub-kept.ensures, c.last_delta-top.ensures.dropped))
    (omega (arith, alike, c.if-self-kept.true))

pub returns-then-self-kept-clause-next : goal.returns-then-self-kept-clause-next
returns-then-self-kept-clause-next c = λ last long alike next. next
    ∙ next_kept c.saturating_sub-kept.result c.args.self.now.shared
    (take c.args.self.now.end c.args.deltas.now) last
    (omega (arith, long, c.saturating_sub-kept.ensures, c.last_delta-top.ensures.dropped))
    c.if-self-kept.true

pub returns-clause-shared : goal.returns-clause-shared
returns-clause-shared c = λ last long alike.
    past_before c.saturating_sub-kept.result c.shared_len-more.result c.last_delta-top.result.start
    c.last_delta-top.result.end (take c.args.self.now.end c.args.deltas.now) last c.args.wanted.now
    c.last_delta-top.ensures.start c.last_delta-top.ensures.end
    (omega (arith, long, c.saturating_sub-kept.ensures, c.last_delta-top.ensures.dropped))
    (omega (arith, alike, c.if-self-kept.false)) c.shared_len-more.ensures.all

pub returns-clause-next : goal.returns-clause-next
returns-clause-next c = λ last long alike next.
    c.step_at.ensures
    ∙ next_past c.saturating_sub-kept.result c.shared_len-more.result c.last_delta-top.result.start
    c.last_delta-top.result.end (take c.args.self.now.end c.args.deltas.now) last
    c.last_delta-top.ensures.start c.last_delta-top.ensures.end
    (omega (arith, long, c.saturating_sub-kept.ensures, c.last_delta-top.ensures.dropped))
    (omega (arith, long, c.saturating_sub-kept.ensures, c.args.self.now.shared))
