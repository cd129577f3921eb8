-- What follows of the marks.
use Rattle.std.specs.Prelude.{Bool, true, false, ◌&&◌, nat_eq, slice_index_or}
use Rattle.std.proofs.Common.{◌≡◌, inl, inr, ℕ, ◌+◌, ◌<◌, List, length, Option, Some, None, refl, sym, subst, arith}
use Rattle.std.{specs.Option.option_or, proofs.lemmas.Bool.{eq-eqb, eqb-true}}
use Rattle.guest_code.specs.Program.{Program}
use Rattle.explain_run.specs.declared.explanation.Explanation.{Explanation}
use Rattle.explain_cause.specs.{Asked.asks_for, Causes.{NoneOf, event_at}}
use Rattle.explain_cause.specs.Events.{is_end, reads, sets_local, uses_local, writes, written_by}
use Rattle.explain_cause.specs.{Needs.{FlowsFrom, InCause, Needs, ends, needed}, Tests.passes_write}
use Rattle.explain_cause.specs.Told.{Tells}
use Rattle.explain_cause.specs.Touching.{passes_variable, touches, uses_own, uses_variable}
use Rattle.explain_cause.specs.declared.{causes.Causes.Causes, event.Event.Event}
use Rattle.explain_cause.proofs.Marks.{and_true, both_true, in_run, left_true, right_true}
use Rattle.check_lint.specs.Paths.{is_test}
use Rattle.check_lint.specs.Uses.{is, local_set, variable_read, variable_used, variable_written}

-- the events in the cause are marked
marked_in : (p : Program) (run : Explanation) (told : Causes) (k : ℕ) → Tells p run told →
    InCause p told.events.items k → slice_index_or told.marks.items k false ≡ true
marked_in p run told k tells held =
    (tells.marks.each k (in_run p told.events.items k held)).1 held

pub setting_in_cause : (p : Program) (run : Explanation) (told : Causes) (r j k step : ℕ) →
    Tells p run told → j < length told.events.items → k < j →
    is_end (event_at told.events.items j) ≡ true →
    uses_local (event_at told.events.items j).thread r (event_at told.events.items j) ≡ true →
    sets_local (event_at told.events.items j).thread r (event_at told.events.items k) ≡ true →
    NoneOf told.events.items (sets_local (event_at told.events.items j).thread r) (k + 1) j →
    (event_at told.events.items k).step ≡ Some step → step < length run.steps.items →
    slice_index_or told.steps.items step false ≡ true
setting_in_cause p run told r j k step tells inside before end uses sets last at few =
    let es = told.events.items in
    let t = (event_at es j).thread in
    let same : (event_at es k).thread ≡ t =
    eqb-true (event_at es k).thread t (and_true (nat_eq (event_at es k).thread t) _ sets).0 in
    let flows : FlowsFrom es j k = record {
      local = r;
      uses = subst (λ u. uses_local u r (event_at es j) ≡ true) (sym same) uses;
      sets = subst (λ u. sets_local u r (event_at es k) ≡ true) (sym same) sets;
      last = subst (λ u. NoneOf es (sets_local u r) (k + 1) j) (sym same) last;
    } in
    let held : InCause p es k = needed j k before (inr (inl flows)) (ends j inside end) in
    (tells.steps.each step few).1 (record {
      place = k;
      inside = omega (arith, before, inside);
      marked = marked_in p run told k tells held;
      step = at;
    })

-- a statement that reads a variable, or uses one, uses it
read_used : (x : ℕ) (o w : Option ℕ) → is x o ≡ true → is x (option_or o w) ≡ true
read_used x None w h = absurd cc
read_used x (Some y) w h = h

-- where a variable is the one that is written, it is used
written_used : (x : ℕ) (o : Option ℕ) (e : Event) → is x o ≡ true →
    is x (variable_used e.statement) ≡ true → uses_variable o e ≡ true
written_used x None e h u = absurd cc
written_used x (Some y) e h u =
    subst (λ n. is n (variable_used e.statement) ≡ true) (sym (eqb-true y x h)) u

-- where a variable is read, what passed by a write of it passed by what is read
read_passed : (p : Program) (x : ℕ) (o : Option ℕ) (e : Event) → is x o ≡ true →
    passes_write p x e ≡ true → passes_variable p e o ≡ true
read_passed p x None e h w = absurd cc
read_passed p x (Some y) e h w =
    subst (λ n. passes_write p n e ≡ true) (sym (eqb-true y x h)) w

set_used : (t r : ℕ) (o : Option ℕ) (e : Event) → is r o ≡ true →
    uses_local t r e ≡ true → uses_own t o e ≡ true
set_used t r None e h u = absurd cc
set_used t r (Some q) e h u = subst (λ n. uses_local t n e ≡ true) (sym (eqb-true q r h)) u

-- whatever needs an event is touched by it
touched : (p : Program) (es : List Event) (j k : ℕ) → Needs p es j k →
    touches p (event_at es k) (event_at es j) ≡ true
touched p es j k n = elim n [
  | inl r ↦ left_true (uses_variable (written_by e.statement e.deed) later) _
      (written_used r.variable (written_by e.statement e.deed) later r.written
      (read_used r.variable (variable_read later.statement) (variable_written later.statement)
      r.reads))
  | inr n1 ↦ elim n1 [
    | inl r ↦ right_true (uses_variable (written_by e.statement e.deed) later) _
        (left_true (uses_own e.thread (local_set e.statement) later) _
        (set_used e.thread r.local (local_set e.statement) later
        (and_true (nat_eq e.thread e.thread) _ r.sets).1 r.uses))
    | inr n2 ↦ elim n2 [
      | inl r ↦ right_true (uses_variable (written_by e.statement e.deed) later) _
          (right_true (uses_own e.thread (local_set e.statement) later) _
          (left_true (is_test e.statement && nat_eq later.thread e.thread) _
          (both_true (is_test e.statement) (nat_eq later.thread e.thread) r.test
          (eq-eqb later.thread e.thread r.thread))))
      | inr n3 ↦ elim n3 [
        | inl r ↦ left_true (uses_variable (written_by e.statement e.deed) later) _
            (written_used r.variable (written_by e.statement e.deed) later r.writes
            (and_true (nat_eq later.thread later.thread) _ r.again).1)
        | inr n4 ↦ elim n4 [
          | inl r ↦ right_true (uses_variable (written_by e.statement e.deed) later) _
              (right_true (uses_own e.thread (local_set e.statement) later) _
              (right_true (is_test e.statement && nat_eq later.thread e.thread) _
              (left_true (passes_variable p e (variable_read later.statement)) _
              (read_passed p r.variable (variable_read later.statement) e r.reads r.passed))))
          | inr r ↦ right_true (uses_variable (written_by e.statement e.deed) later) _
              (right_true (uses_own e.thread (local_set e.statement) later) _
              (right_true (is_test e.statement && nat_eq later.thread e.thread) _
              (right_true (passes_variable p e (variable_read later.statement)) _
              (both_true (is_end later) (asks_for p later e) r.end r.asks))))
        ]
      ]
    ]
  ]
]
  where
    e : Event
    e = event_at es k

    later : Event
    later = event_at es j

pub untouched_out : (p : Program) (run : Explanation) (told : Causes) (k : ℕ) →
    Tells p run told → k < length told.events.items →
    is_end (event_at told.events.items k) ≡ false →
    ((j : ℕ) → k < j → slice_index_or told.marks.items j false ≡ true →
    touches p (event_at told.events.items k) (event_at told.events.items j) ≡ false) →
    slice_index_or told.marks.items k false ≡ false
untouched_out p run told k tells inside no_end apart =
    out (slice_index_or told.marks.items k false) refl
  where
    never : InCause p told.events.items k → ⊥
    never (ends k l end) = absurd cc
    never (needed j k l n held) =
        let a = apart j l (marked_in p run told j tells held) in
        let b = touched p told.events.items j k n in absurd cc

    out : (b : Bool) → slice_index_or told.marks.items k false ≡ b → b ≡ false
    out false h = refl
    out true h = absurd (never ((tells.marks.each k inside).0 h))
