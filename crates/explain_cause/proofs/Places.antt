-- The marks from a place on.
use Rattle.std.specs.Prelude.{Bool, None, pos, slice_set}
use Rattle.std.proofs.Common.{◌≡◌, ℕ, zero, suc, ◌+◌, ◌<◌, List, [], ◌∷◌, ◌++◌, length, take, drop, get_or, refl, ap, ◌∙◌, sym, arith, add-one}
use Rattle.std.proofs.Math.Seq.{take-suc, drop-cons}
use Rattle.guest_code.specs.{Program.Program, declared.program.Instruction.TheVariants.Load}
use Rattle.replay.specs.declared.run.Act.TheVariants.{Load as Loads}
use Rattle.explain_cause.specs.Causes.{Marked, is_needed, marked}
use Rattle.explain_cause.specs.declared.event.{Deed.TheVariants.Stepped, Event.Event}

-- what the code reads where no event is
abbrev pub first_event : Event
first_event = record {
  thread = 0;
  step = None;
  instruction = 0;
  statement = Load 0 0;
  deed = Stepped (Loads 0 (pos 0)) None;
}

-- the events after place k, marked
abbrev pub rest_marked : Program → List Event → ℕ → List Marked
rest_marked p events k = marked p (take k events) (drop k events)

pub up_to : (events : List Event) (k : ℕ) (d : Event) → k < length events →
    take (k + 1) events ≡ take k events ++ get_or events k d ∷ []
up_to events k d l = ap (λ n. take n events) (add-one k) ∙ take-suc events k d l

pub marked_at : (p : Program) (events : List Event) (k : ℕ) (d : Event) → k < length events →
    rest_marked p events k ≡ record {
      event = get_or events k d;
      mark = is_needed p (take (k + 1) events) (rest_marked p events (k + 1))
          (get_or events k d);
    } ∷ rest_marked p events (k + 1)
marked_at p events k d l = ap (λ es. marked p (take k events) es)
    (drop-cons events k d l ∙ ap (λ n. get_or events k d ∷ drop n events) (sym (add-one k)))
    ∙ ap (λ before. let ms = marked p before (drop (k + 1) events) in record {
      event = get_or events k d;
      mark = is_needed p before ms (get_or events k d);
    } ∷ ms) (sym (up_to events k d l))

-- a flag that is set
set_next : (flags : List Bool) (k : ℕ) (v : Bool) → k < length flags →
    drop k (slice_set flags k v) ≡ v ∷ drop (suc k) flags
set_next [] k v l = absurd (omega (arith, l))
set_next (x ∷ xs) zero v l = refl
set_next (x ∷ xs) (suc k) v l = set_next xs k v (omega (arith, l))

pub set_at : (flags : List Bool) (k : ℕ) (v : Bool) → k < length flags →
    drop k (slice_set flags k v) ≡ v ∷ drop (k + 1) flags
set_at flags k v l = set_next flags k v l ∙ ap (λ n. v ∷ drop n flags) (sym (add-one k))
