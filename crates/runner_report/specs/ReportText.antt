-- The text of a report: compact JSON of one object, its keys in the order of their bytes.
use Rattle.std.specs.Prelude.{ℕ, ℤ, Bool, true, false, List, [], ◌∷◌, map, Option, Some, None, codes}
use Rattle.semantics.specs.{View.View, declared.view.Kind.Kind}
use Rattle.semantics.specs.declared.view.Kind.TheVariants.{Done, Failed, Stuck}
use Rattle.replay.specs.Spelling.{printed}
use Rattle.serde_json.specs.Data.{Data, null, boolean, number, unsigned, string, array, object}
use Rattle.serde_json.specs.Data.{Members, no_members, member, put}
use Rattle.serde_json.specs.{Find.of_integer, View.items_of, Written.compact_text}
use Rattle.runner_report.specs.declared.report.Cause.{Cause, TheVariants.{Limit, Stopped}}
use Rattle.runner_report.specs.declared.report.{Report.Report, Verdict.Verdict}
use Rattle.runner_report.specs.declared.report.Verdict.TheVariants.{Clean, Bad, Incomplete}

-- ---- values

abbrev pub kind_data : Kind → Data
kind_data Done = string (codes "done")
kind_data Failed = string (codes "failed")
kind_data Stuck = string (codes "stuck")

abbrev pub cause_data : Cause → Data
cause_data Limit = string (codes "limit")
cause_data Stopped = string (codes "stopped")

abbrev pub count_data : ℕ → Data
count_data n = number (unsigned n)

-- a bound, or null where there is none
abbrev pub bound_data : Option ℕ → Data
bound_data (Some bound) = count_data bound
bound_data None = null

-- the values of variables
abbrev pub values_data : List ℤ → Data
values_data values = array (items_of (map (λ z. number (of_integer z)) values))

-- an end view: how schedules end, and the values of the variables
abbrev pub end_data : View → Data
end_data v = object
    (member (codes "kind") (kind_data v.kind)
    (member (codes "vars") (values_data v.vars) no_members))

abbrev pub ends_data : List View → Data
ends_data views = array (items_of (map end_data views))

-- a schedule in its printed spelling
abbrev pub schedule_data : List ℕ → Data
schedule_data w = string (printed w)

-- a schedule, or null where there is none
abbrev pub first_bad_data : Option (List ℕ) → Data
first_bad_data (Some w) = schedule_data w
first_bad_data None = null

-- ---- members

-- a key and its value
abbrev pub Member : Type 0
Member = List ℕ × Data

-- these members too, each at its place in the order of the bytes of the keys
abbrev pub with_members : List Member → Members → Members
with_members [] old = old
with_members (m ∷ ms) old = with_members ms (put m.0 m.1 old)

-- the members of every report
abbrev pub common_members : Report → List Member
common_members r =
    (codes "bound", bound_data r.bound)
    ∷ (codes "ends", ends_data r.summary.ends)
    ∷ (codes "failed", count_data r.summary.failed)
    ∷ (codes "stuck", count_data r.summary.stuck)
    ∷ (codes "tried", count_data r.summary.tried)
    ∷ []

-- the member of a report of which this is so
abbrev pub flag_members : List ℕ → Bool → List Member
flag_members key true = (key, boolean true) ∷ []
flag_members key false = []

-- the members of a clean report
abbrev pub clean_members : Bool → List Member
clean_members all = (codes "verdict", string (codes "clean")) ∷ (codes "all", boolean all) ∷ []

-- the members of a bad report: the schedule's preemptions, itself, and how it ends
abbrev pub bad_members : ℕ → List ℕ → Kind → List Member
bad_members preemptions schedule kind =
    (codes "verdict", string (codes "bad"))
    ∷ (codes "kind", kind_data kind)
    ∷ (codes "preemptions", count_data preemptions)
    ∷ (codes "schedule", schedule_data schedule)
    ∷ []

-- the members of an incomplete report, where the summary has this first bad schedule
abbrev pub incomplete_members : Cause → Option ℕ → Option (List ℕ) → List Member
incomplete_members cause finished first_bad =
    (codes "verdict", string (codes "incomplete"))
    ∷ (codes "cause", cause_data cause)
    ∷ (codes "finished", bound_data finished)
    ∷ (codes "schedule", first_bad_data first_bad)
    ∷ []

-- the members of a verdict, where the summary has this first bad schedule
abbrev pub verdict_members : Option (List ℕ) → Verdict → List Member
verdict_members first_bad (Clean all) = clean_members all
verdict_members first_bad (Bad preemptions schedule kind) =
    bad_members preemptions schedule.items kind
verdict_members first_bad (Incomplete cause finished) =
    incomplete_members cause finished first_bad

-- ---- the text

abbrev pub report_data : Report → Data
report_data r = object
    (with_members (verdict_members r.summary.first_bad r.verdict)
    (with_members (flag_members (codes "symmetry") r.symmetry)
    (with_members (flag_members (codes "quick") r.quick)
    (with_members (common_members r) no_members))))

abbrev pub report_text : Report → List ℕ
report_text r = compact_text (report_data r)

-- ---- the schedule that the text names, if any

-- that of a verdict, where the summary has this first bad schedule
abbrev pub verdict_schedule : Option (List ℕ) → Verdict → Option (List ℕ)
verdict_schedule first_bad (Clean all) = None
verdict_schedule first_bad (Bad preemptions schedule kind) = Some schedule.items
verdict_schedule first_bad (Incomplete cause finished) = first_bad

abbrev pub named_schedule : Report → Option (List ℕ)
named_schedule r = verdict_schedule r.summary.first_bad r.verdict
