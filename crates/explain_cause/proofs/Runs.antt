-- What happens in a run, one thing after the other.
use Rattle.std.specs.Prelude.{true, false, nat_eq, slice_set, slice_get, if◌then◌else◌}
use Rattle.std.proofs.Common.{◌≡◌, ℕ, zero, suc, ◌+◌, ◌-◌, ◌<◌, ℤ, List, [], ◌∷◌, ◌++◌, length, drop, get_or, Option, Some, None, ap, ◌∙◌, sym, arith, add-one, append_assoc}
use Rattle.std.proofs.{Math.Seq.drop-cons, lemmas.List.{get_or-set_same, set-get_or, set-set}}
use Rattle.guest_code.specs.{Program.{Program, code_of}, declared.program.Instruction.Instruction}
use Rattle.explain_run.specs.declared.step.Step.{Step}
use Rattle.explain_cause.specs.Course.{all_after, events_by, events_from, events_in, local_events, locals_after, locals_with, opening_from, row, visible_event}
use Rattle.explain_cause.specs.{Events.value_by, declared.event.Event.Event}
use Rattle.check_lint.specs.Uses.{local_set}

-- an instruction that is passed over
pub jumped : (t : ℕ) (step : Option ℕ) (code : List Instruction) (k skip : ℕ) (locals : List ℤ)
    (d : Instruction) → k < length code → 0 < skip →
    local_events t step (drop k code) k skip locals
    ≡ local_events t step (drop (k + 1) code) (k + 1) (skip - 1) locals
jumped t step code k zero locals d l some = absurd (omega (arith, some))
jumped t step code k (suc skip) locals d l some =
    ap (λ is. local_events t step is k (suc skip) locals)
    (drop-cons code k d l ∙ ap (λ n. get_or code k d ∷ drop n code) (sym (add-one k)))
    ∙ ap (λ n. local_events t step (drop (k + 1) code) (k + 1) n locals)
    (let e : skip ≡ suc skip - 1 = omega arith in e)

-- the step at a place, and those after it
pub steps_on : (p : Program) (all : List (List ℤ)) (steps : List Step) (k : ℕ) (s : Step) →
    k < length steps → s ≡ get_or steps k s →
    events_from p all k (drop k steps)
    ≡ events_in (code_of p s.line.thread) k s (row all s.line.thread)
    ++ events_from p (all_after all s.line.thread
    (events_in (code_of p s.line.thread) k s (row all s.line.thread))) (k + 1)
    (drop (k + 1) steps)
steps_on p all steps k s l is = ap (λ ss. events_from p all k ss)
    (drop-cons steps k s l ∙ (ap (λ x. x ∷ drop (suc k) steps) (sym is)
    ∙ ap (λ n. s ∷ drop n steps) (sym (add-one k))))

-- a thread that is not there, or has no such instruction, does nothing
pub nothing_by : (code : List Instruction) (k : ℕ) (s : Step) (locals : List ℤ) →
    slice_get code s.instruction ≡ None → events_in code k s locals ≡ []
nothing_by code k s locals e = ap (λ i. events_by code k s locals i) e

pub nothing_set : (all : List (List ℤ)) (t : ℕ) (es : List Event) → es ≡ [] →
    all_after all t es ≡ all
nothing_set all t es e = ap (λ fs. all_after all t fs) e ∙ set-get_or all t []

-- a thread that stays at its instruction does no more
pub step_alone : (code : List Instruction) (k : ℕ) (s : Step) (locals : List ℤ)
    (i : Instruction) → slice_get code s.instruction ≡ Some i →
    nat_eq s.next s.instruction ≡ true →
    events_in code k s locals ≡ visible_event k s i ∷ []
step_alone code k s locals i e h = ap (λ o. events_by code k s locals o) e
    ∙ ap (λ b. visible_event k s i ∷ (if b then [] else
    local_events s.line.thread (Some k) (drop (s.instruction + 1) code) (s.instruction + 1) 0
    (locals_with locals (local_set i) (value_by (visible_event k s i).deed)))) h

pub step_on : (code : List Instruction) (k : ℕ) (s : Step) (locals : List ℤ)
    (i : Instruction) → slice_get code s.instruction ≡ Some i →
    nat_eq s.next s.instruction ≡ false →
    events_in code k s locals ≡ visible_event k s i
    ∷ local_events s.line.thread (Some k) (drop (s.instruction + 1) code) (s.instruction + 1) 0
    (locals_with locals (local_set i) (value_by (visible_event k s i).deed))
step_on code k s locals i e h = ap (λ o. events_by code k s locals o) e
    ∙ ap (λ b. visible_event k s i ∷ (if b then [] else
    local_events s.line.thread (Some k) (drop (s.instruction + 1) code) (s.instruction + 1) 0
    (locals_with locals (local_set i) (value_by (visible_event k s i).deed)))) h

-- the locals of a thread are written one after the other
pub row_set : (all : List (List ℤ)) (t : ℕ) (one : List ℤ) → t < length all →
    row (slice_set all t one) t ≡ one
row_set all t one l = get_or-set_same all t one [] l

pub set_on : (all : List (List ℤ)) (t : ℕ) (one : List ℤ) (es : List Event) → t < length all →
    all_after (slice_set all t one) t es ≡ slice_set all t (locals_after one es)
set_on all t one es l = set-set all t one (locals_after (row (slice_set all t one) t) es)
    ∙ ap (λ r. slice_set all t (locals_after r es)) (row_set all t one l)

-- what one thread does before the first step, and the others
pub opened : (p : Program) (steps : List Step) (t left : ℕ) (code : List Instruction)
    (before after : List Event) (all next : List (List ℤ)) (whole : List Event) →
    code ≡ code_of p t →
    after ≡ before ++ local_events t None code 0 0 (row all t) →
    next ≡ all_after all t (local_events t None code 0 0 (row all t)) →
    before ++ opening_from p steps all t (suc left) ≡ whole →
    after ++ opening_from p steps next (t + 1) left ≡ whole
opened p steps t left code before after all next whole is e f h =
    ap (λ es. es ++ opening_from p steps next (t + 1) left) (e ∙ ap (λ c. before
    ++ local_events t None c 0 0 (row all t)) is)
    ∙ (ap (λ l. (before ++ local_events t None (code_of p t) 0 0 (row all t))
    ++ opening_from p steps l (t + 1) left) (f ∙ ap (λ c. all_after all t
    (local_events t None c 0 0 (row all t))) is)
    ∙ (append_assoc before (local_events t None (code_of p t) 0 0 (row all t))
    (opening_from p steps (all_after all t (local_events t None (code_of p t) 0 0 (row all t)))
    (t + 1) left) ∙ h))

-- a step, after which its thread goes on
module _ (code : List Instruction) (k : ℕ) (s : Step) (i : Instruction) (all next : List (List ℤ))
    (l : s.line.thread < length all) (is : slice_get code s.instruction ≡ Some i)
    (on : nat_eq s.next s.instruction ≡ false)
    (set : next ≡ slice_set all s.line.thread (locals_with (row all s.line.thread) (local_set i)
    (value_by (visible_event k s i).deed))) where
  abbrev pub mine : List ℤ
  mine = locals_with (row all s.line.thread) (local_set i) (value_by (visible_event k s i).deed)

  abbrev pub then_by : List ℤ → List Event
  then_by locals = local_events s.line.thread (Some k) (drop (s.instruction + 1) code)
      (s.instruction + 1) 0 locals

  mine_is : row next s.line.thread ≡ mine
  mine_is = ap (λ rows. row rows s.line.thread) set ∙ row_set all s.line.thread mine l

  pub on_events : (before mid after : List Event) → mid ≡ before ++ visible_event k s i ∷ [] →
      after ≡ mid ++ then_by (row next s.line.thread) →
      after ≡ before ++ events_in code k s (row all s.line.thread)
  on_events before mid after e f = f ∙ (ap (λ r. mid ++ then_by r) mine_is
      ∙ (ap (λ es. es ++ then_by mine) e
      ∙ (append_assoc before (visible_event k s i ∷ []) (then_by mine)
      ∙ ap (λ es. before ++ es) (sym (step_on code k s (row all s.line.thread) i is on)))))

  pub on_locals : (after : List (List ℤ)) →
      after ≡ all_after next s.line.thread (then_by (row next s.line.thread)) →
      after ≡ all_after all s.line.thread (events_in code k s (row all s.line.thread))
  on_locals after f = f ∙ (ap (λ r. all_after next s.line.thread (then_by r)) mine_is
      ∙ (ap (λ rows. all_after rows s.line.thread (then_by mine)) set
      ∙ (set_on all s.line.thread mine (then_by mine) l
      ∙ ap (λ es. all_after all s.line.thread es)
      (sym (step_on code k s (row all s.line.thread) i is on)))))
