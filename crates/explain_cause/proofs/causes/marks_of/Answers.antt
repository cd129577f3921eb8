use Rattle.std.proofs.Common.{◌≡◌, ◌∙◌, [], ◌<◌, ◌+◌, ◌-◌, sym, subst, refl, arith, take, drop, length}
use Rattle.std.proofs.lemmas.List.{length-set}
use Rattle.explain_cause.specs.{Causes.{event_at, marked, marks_in, no_event}, Needs.AreMarks}
use Rattle.explain_cause.specs.inner.Wanting.{IsWanted}
use Rattle.explain_cause.proofs.Back.{wanted_back, marks_back, used_here}
use Rattle.explain_cause.proofs.{Marks.marks_are_the_cause, Places.{first_event, rest_marked}}
use Rattle.explain_cause.proofs.Valid.{reads_few, uses_few}
use Rattle.explain_cause.proofs.causes.marks_of.Goals as goal

pub take_event-requires-clause-used : goal.take_event-requires-clause-used
take_event-requires-clause-used c =
    let p = c.args.program.now in
    let es = c.args.events.now in
    let k = c.events.at - 1 in
    let l : k < length es = omega arith in
    let on : c.events.at ≡ k + 1 = omega arith in
    let v = c.requires k first_event l in
    used_here p es k first_event c.events.backward_slice c.keeps_limits.ensures l v
    (subst (λ n. IsWanted (take n es) (rest_marked p es n) c.events.backward_slice) on
    c.events.invariant.backward_slice) _ refl (uses_few p _ c.keeps_limits.ensures v.statement)

pub events-preserved : goal.events-preserved
events-preserved c =
    let p = c.args.program.now in
    let es = c.args.events.now in
    let k = c.events.at - 1 in
    let l : k < length es = omega arith in
    let on : c.events.at ≡ k + 1 = omega arith in
    let v = c.requires k first_event l in
    let w = subst (λ n. IsWanted (take n es) (rest_marked p es n) c.events.backward_slice) on
    c.events.invariant.backward_slice in
    record {
      inside = omega arith;
      backward_slice = wanted_back p es k first_event c.events.backward_slice
          c.keeps_limits.ensures l v w
          c.needs-needed.result c.take_event.new.self c.needs-needed.ensures
          c.in_ok-take_event.ensures;
      marks = marks_back p es k first_event c.events.backward_slice c.keeps_limits.ensures l v w
          c.needs-needed.result c.events.marks.items c.needs-needed.ensures
          c.events.invariant.all
          (subst (λ n. drop n c.events.marks.items ≡ marks_in (rest_marked p es n)) on
          c.events.invariant.marks);
      all = length-set c.events.marks.items k c.needs-needed.result ∙ c.events.invariant.all;
    }

pub returns : goal.returns
returns c =
    let p = c.args.program.now in
    let es = c.args.events.now in
    let end : c.events.at ≡ 0 = omega arith in
    let all : c.events.marks.items ≡ marks_in (marked p [] es) =
    subst (λ n. drop n c.events.marks.items ≡ marks_in (rest_marked p es n)) end
    c.events.invariant.marks in
    subst (λ ms. AreMarks p es ms) (sym all) (marks_are_the_cause p es (λ i l.
    let a = (c.requires i no_event l).thread in let b = c.keeps_limits.ensures.threads in
    omega (arith, a, b)) (λ i l x h. reads_few p (event_at es i).statement x
    c.keeps_limits.ensures (c.requires i no_event l).statement h))
