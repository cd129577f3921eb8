use Rattle.std.specs.Prelude.{false, None, slice_index_or, if◌then◌else◌}
use Rattle.std.proofs.Common.{◌∙◌, ◌<◌, ◌+◌, ◌&&◌, [], ap, refl, arith, replicate, get_or, length}
use Rattle.std.{specs.List.count_by, proofs.lemmas.List.{get_or-replicate, take_all, length-set}}
use Rattle.guest_code.specs.declared.limits.TheConstants.{THREADS, LOCALS, VARIABLES}
use Rattle.check_lint.specs.Uses.{is, variable_used}
use Rattle.explain_cause.specs.{Events.is_use, declared.event.Event.Event, inner.Keeping.count}
use Rattle.explain_cause.proofs.{Places.first_event, Rows.{counted_on, row_on}}
use Rattle.explain_cause.proofs.backward_slice.BackwardSlice.at_end.Goals as goal

pub loop-event-init : goal.loop-event-init
loop-event-init c = record {
  counted = λ t x l m.
      ap (λ r. slice_index_or r x 0) (get_or-replicate THREADS t (replicate VARIABLES 0) [] l)
      ∙ get_or-replicate VARIABLES x 0 0 m;
  all = refl;
}

pub loop-event-preserved : goal.loop-event-preserved
loop-event-preserved c =
    let es = c.args.events.now in
    let i = c.loop-event.event-index in
    let e : Event = get_or es i first_event in
    let long = c.loop-event.invariant.all in
    let few : e.thread < length c.loop-event.uses = (let a = (c.requires i first_event
    (omega arith)).thread in let b = c.keeps_limits.ensures.threads in
    omega (arith, a, b, long)) in
    record {
      counted = λ t x l m. counted_on (is_use t x) es i first_event (count c.loop-event.uses t x) _
          (omega arith) (c.loop-event.invariant.counted t x l m)
          (row_on c.loop-event.uses e.thread t x c.count_use.new.uses 0
          (λ b n. if (b && is x (variable_used e.statement)) then n + 1 else n) few (λ a. refl)
          (c.count_use.ensures x m ∙ ap (λ o. if is x o
          then slice_index_or (slice_index_or c.loop-event.uses e.thread []) x 0 + 1
          else slice_index_or (slice_index_or c.loop-event.uses e.thread []) x 0)
          c.variable_used.ensures));
      all = length-set c.loop-event.uses e.thread _ ∙ long;
    }

pub returns : goal.returns
returns c = record {
  read = λ x l. get_or-replicate VARIABLES x false false l;
  used = λ t r l m.
      ap (λ row. slice_index_or row r false) (get_or-replicate THREADS t (replicate LOCALS false) [] l)
      ∙ get_or-replicate LOCALS r false false m;
  next = λ t x l m.
      ap (λ row. slice_index_or row x false) (get_or-replicate THREADS t (replicate VARIABLES false) [] l)
      ∙ get_or-replicate VARIABLES x false false m;
  uses = λ t x l m. c.loop-event.invariant.counted t x l m
      ∙ ap (λ es. count_by (is_use t x) es) (take_all c.loop-event.event-index c.args.events.now
      (omega arith));
  least = λ t l. get_or-replicate THREADS t None None l;
  ends = c.new.ensures.items;
}
