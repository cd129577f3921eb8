-- A report has no number that is not whole.
use Rattle.std.proofs.Common.{◌≡◌, refl, ℕ, ℤ, pos, negsuc, Bool, true, false, ◌||◌, List, [], ◌∷◌, codes}
use Rattle.std.proofs.Common.{map, Option, Some, None}
use Rattle.std.specs.{Cmp.Lexicographic.slice_cmp, Ordering.{nat_cmp, match_ordering}}
use Rattle.std.specs.declared.cmp.Ordering.{Ordering, TheVariants.{Less, Equal, Greater}}
use Rattle.semantics.specs.{View.View, declared.view.Kind.Kind}
use Rattle.semantics.specs.declared.view.Kind.TheVariants.{Done, Failed, Stuck}
use Rattle.serde_json.specs.{Data.{Data, number, Members, no_members, member, put}, Find.of_integer}
use Rattle.serde_json.specs.View.{items_of}
use Rattle.serde_json.specs.Written.{has_float, items_have_float, members_have_float}
use Rattle.runner_report.specs.ReportText.{kind_data, cause_data, bound_data, values_data, end_data, first_bad_data, Member, with_members, common_members, flag_members, verdict_members, report_data}
use Rattle.runner_report.specs.declared.report.Cause.{Cause, TheVariants.{Limit, Stopped}}
use Rattle.runner_report.specs.declared.report.{Report.Report, Verdict.Verdict}
use Rattle.runner_report.specs.declared.report.Verdict.TheVariants.{Clean, Bad, Incomplete}

-- the one or the other, where neither
neither : (a b : Bool) → a ≡ false → b ≡ false → (a || b) ≡ false
neither a b e f = cc

put_whole : (k : List ℕ) (d : Data) (ms : Members) → has_float d ≡ false
    → members_have_float ms ≡ false → members_have_float (put k d ms) ≡ false
put_whole k d no_members e f = neither (has_float d) false e refl
put_whole k d (member l x ms) e f =
    go (slice_cmp nat_cmp k l) (has_float x) refl f (λ h. put_whole k d ms e h)
  where
    go : (o : Ordering) (b : Bool) → has_float x ≡ b → (b || members_have_float ms) ≡ false
        → (members_have_float ms ≡ false → members_have_float (put k d ms) ≡ false)
        → members_have_float (match_ordering o (member k d (member l x ms)) (member l d ms)
        (member l x (put k d ms))) ≡ false
    go o true same h later = absurd cc
    go Less false same h later = neither (has_float d) _ e (neither (has_float x) _ same h)
    go Equal false same h later = neither (has_float d) _ e h
    go Greater false same h later = neither (has_float x) _ same (later h)

-- each value of these members is whole
abbrev AllWhole : List Member → Type 0
AllWhole [] = Unit {0}
AllWhole (m ∷ ms) = (has_float m.1 ≡ false) × AllWhole ms

with_whole : (new : List Member) (old : Members) → AllWhole new
    → members_have_float old ≡ false → members_have_float (with_members new old) ≡ false
with_whole [] old h e = e
with_whole (m ∷ ms) old h e = with_whole ms (put m.0 m.1 old) h.1 (put_whole m.0 m.1 old h.0 e)

values_whole : (zs : List ℤ)
    → items_have_float (items_of (map (λ z. number (of_integer z)) zs)) ≡ false
values_whole [] = refl
values_whole (pos n ∷ zs) = values_whole zs
values_whole (negsuc n ∷ zs) = values_whole zs

kind_whole : (k : Kind) → has_float (kind_data k) ≡ false
kind_whole Done = refl
kind_whole Failed = refl
kind_whole Stuck = refl

pub cause_whole : (c : Cause) → has_float (cause_data c) ≡ false
cause_whole Limit = refl
cause_whole Stopped = refl

pub bound_whole : (b : Option ℕ) → has_float (bound_data b) ≡ false
bound_whole (Some bound) = refl
bound_whole None = refl

pub first_bad_whole : (w : Option (List ℕ)) → has_float (first_bad_data w) ≡ false
first_bad_whole (Some w) = refl
first_bad_whole None = refl

end_whole : (v : View) → has_float (end_data v) ≡ false
end_whole v =
    neither (has_float (kind_data v.kind)) _ (kind_whole v.kind)
    (neither (has_float (values_data v.vars)) false (values_whole v.vars) refl)

pub ends_whole : (vs : List View) → items_have_float (items_of (map end_data vs)) ≡ false
ends_whole [] = refl
ends_whole (v ∷ vs) =
    neither (has_float (end_data v)) (items_have_float (items_of (map end_data vs)))
    (end_whole v) (ends_whole vs)

verdict_whole : (first_bad : Option (List ℕ)) (v : Verdict)
    → AllWhole (verdict_members first_bad v)
verdict_whole first_bad (Clean all) = (refl, (refl, tt))
verdict_whole first_bad (Bad preemptions schedule kind) =
    (refl, (kind_whole kind, (refl, (refl, tt))))
verdict_whole first_bad (Incomplete cause finished) =
    (refl, (cause_whole cause, (bound_whole finished, (first_bad_whole first_bad, tt))))

flag_whole : (key : List ℕ) (flag : Bool) → AllWhole (flag_members key flag)
flag_whole key true = (refl, tt)
flag_whole key false = tt

pub report_whole : (r : Report) → has_float (report_data r) ≡ false
report_whole r =
    let common = with_members (common_members r) no_members in
    let quick = flag_members (codes "quick") r.quick in
    let symmetry = flag_members (codes "symmetry") r.symmetry in
    with_whole (verdict_members r.summary.first_bad r.verdict)
    (with_members symmetry (with_members quick common))
    (verdict_whole r.summary.first_bad r.verdict)
    (with_whole symmetry (with_members quick common) (flag_whole (codes "symmetry") r.symmetry)
    (with_whole quick common (flag_whole (codes "quick") r.quick)
    (with_whole (common_members r) no_members
    (bound_whole r.bound, (ends_whole r.summary.ends, (refl, (refl, (refl, tt))))) refl)))
