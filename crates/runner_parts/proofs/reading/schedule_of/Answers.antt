use Rattle.std.proofs.Common.{◌≡◌, ◌≤◌, ◌<◌, ℕ, List, length, rules, refl, subst, sym, arith}
use Rattle.replay.specs.Spelling.{Spells, printed, IsBadAt, IsTooLongAt, ScheduleErrorMeans}
use Rattle.replay.specs.declared.schedule.TheConstants.{PLACES}
use Rattle.replay.specs.declared.error.ScheduleError.{ScheduleError}
use Rattle.replay.specs.declared.error.ScheduleError.TheVariants.{BadSchedule, TooLong, OutOfMemory}
use Rattle.runner_parts.proofs.reading.schedule_of.Goals as goal

pub returns-in-Ok : goal.returns-in-Ok
returns-in-Ok c = λ w is e.
    let text : c.as_bytes.result.now ≡ printed w = search rules in
    c.the_printed_spelling_is_read_back.ensures.once c.as_bytes.result.now c.in-Ok.schedule.items w
    text c.in-Ok.ensures.value is.small (omega (arith, is.short))

-- only memory can run out for a schedule that the text spells
only_memory : (text w : List ℕ) → Spells text w → length w ≤ PLACES
    → ((text w : List ℕ) (at : ℕ) → IsBadAt text at → Spells text w → ⊥)
    → ((text w : List ℕ) (at : ℕ) → IsTooLongAt text at → Spells text w → PLACES < length w)
    → (error : ScheduleError) → ScheduleErrorMeans text error → error ≡ OutOfMemory
only_memory text w spelt short bad long (BadSchedule at) means = absurd (bad text w at means spelt)
only_memory text w spelt short bad long (TooLong at) means =
    absurd (omega (arith, long text w at means spelt))
only_memory text w spelt short bad long OutOfMemory means = refl

pub returns-after-error : goal.returns-after-error
returns-after-error c = λ w is e.
    let text : c.as_bytes.result.now ≡ printed w = search rules in
    let spelt = c.the_printed_spelling_is_read_back.ensures.spells w is.small
    (omega (arith, is.short)) in
    let laws = c.a_refused_text_spells_nothing_short.ensures in
    let out = only_memory c.as_bytes.result.now w (subst (λ t. Spells t w) (sym text) spelt)
    is.short laws.bad laws.long c.in-Err.error c.in-Err.ensures.value in
    search rules
