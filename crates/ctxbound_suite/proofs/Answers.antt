-- What an answer says of the searches that it is from.
use Rattle.std.proofs.Common.{◌≡◌, ◌⊎◌, ℕ, ◌+◌, ◌<◌, ◌≤◌, nat_le, Bool, true, false, List, Option, Some, None, inl, inr, refl, sym, ap, subst, arith}
use Rattle.std.proofs.lemmas.Bool.{leb-true, leb-false, le-leb}
use Rattle.guest_code.specs.Program.{Program}
use Rattle.semantics_schedules.specs.Schedules.{preemptions}
use Rattle.ctxbound_answers.specs.declared.limits.Limits.{Limits}
use Rattle.runner_report.specs.{ReportText.{named_schedule, verdict_schedule}, Reports.NoBadBelow}
use Rattle.runner_report.specs.declared.options.Options.{Options}
use Rattle.runner_report.specs.declared.options.Search.TheVariants.{UpTo, Unbounded}
use Rattle.runner_report.specs.declared.report.Verdict.{Verdict}
use Rattle.runner_report.specs.declared.report.Verdict.TheVariants.{Clean, Bad, Incomplete}
use Rattle.ctxbound_suite.specs.Answers.{AnswerMeans, answer_of, stop_of}
use Rattle.ctxbound_suite.specs.Shown.{options_of, is_clean, is_cut_short, IsBadOf, IsNamedBad, IsFound, WasCut, Names, IsLeft}
use Rattle.ctxbound_suite.specs.declared.found.{BadSchedule.BadSchedule, Found.Found}
use Rattle.ctxbound_suite.proofs.Shows.{named_has_few}
use Rattle.ctxbound_suite.specs.declared.answer.Correctness.TheVariants as answers

-- none has fewer preemptions than this many, so none has fewer than fewer
fewer : (p : Program) (m n : ℕ) → m ≤ n → NoBadBelow p n → NoBadBelow p m
fewer p m n le none w bad = let k : n ≤ preemptions p w = none w bad in omega (arith, k, le)

-- a bad schedule that a report names
named_bad : (p : Program) (named : Option (List ℕ)) (b : BadSchedule)
    → IsNamedBad p named (Some b) → (named ≡ Some b.steps.items) × IsBadOf p b
named_bad p None b is = absurd cc
named_bad p (Some w) b is = (ap Some (sym is.0), is.1)

names_bad : (p : Program) (o : Options) (b : BadSchedule) (n : Names p o b)
    → (named_schedule n.found.report ≡ Some b.steps.items) × IsBadOf p b
names_bad p o b n =
    named_bad p (named_schedule n.found.report) b
    (subst (IsNamedBad p (named_schedule n.found.report)) n.named n.of.bad)

-- a search up to a bound names a schedule with no more preemptions
names_few : (p : Program) (l : Limits) (bound : ℕ) (b : BadSchedule)
    → Names p (options_of (UpTo bound) l.limit) b → b.preemptions ≤ bound
names_few p l bound b n =
    let is = names_bad p (options_of (UpTo bound) l.limit) b n in
    let few : preemptions p b.steps.items ≤ bound =
    named_has_few p (record (options_of (UpTo bound) l.limit) { symmetry = n.of.report.once }) bound
    n.found.report n.of.report.is.2
    b.steps.items is.0 in
    let count : b.preemptions ≡ preemptions p b.steps.items = is.1.count in
    omega (arith, few, count)

none_named : (p : Program) (named : Option (List ℕ)) → IsNamedBad p named None → named ≡ None
none_named p None is = refl
none_named p (Some w) is = absurd is

cut_of : (first : Option (List ℕ)) (v : Verdict) → is_clean v ≡ false
    → verdict_schedule first v ≡ None → is_cut_short v ≡ true
cut_of first (Clean all) dirty none = absurd cc
cut_of first (Bad k w kind) dirty none = absurd cc
cut_of first (Incomplete cause finished) dirty none = refl

-- a search that isn't clean names a schedule, or was cut short
pub left_by : (p : Program) (o : Options) (f : Found) → IsFound p o f
    → is_clean f.report.verdict ≡ false → IsLeft p o f.bad
left_by p o f is dirty = go f.bad refl
  where
    go : (bad : Option BadSchedule) → f.bad ≡ bad → IsLeft p o bad
    go None e =
        let unnamed = none_named p (named_schedule f.report)
        (subst (IsNamedBad p (named_schedule f.report)) e is.bad) in
        record {
          report = f.report;
          of = is.report;
          cut = cut_of f.report.summary.first_bad f.report.verdict dirty unnamed;
          unnamed = unnamed;
        }
    go (Some b) e = record { found = f; of = is; named = e }

-- no bound that is gone through is past the last
pub stop_low : (known : Option BadSchedule) (bound : ℕ) → stop_of known bound ≤ bound + 1
stop_low None bound = omega arith
stop_low (Some b) bound = omega arith

-- the bad schedule that the search without a bound names, where none has fewer preemptions than
-- `clear`
far_means : (p : Program) (l : Limits) (b : BadSchedule) (clear : ℕ)
    → Names p (options_of Unbounded l.limit) b → NoBadBelow p clear
    → (clear < b.preemptions → (l.bound < clear) ⊎ WasCut p (options_of (UpTo clear) l.limit))
    → AnswerMeans p l (answers.Bad b (nat_le b.preemptions clear))
far_means p l b clear named none cut = go (nat_le b.preemptions clear) refl
  where
    bad : IsBadOf p b
    bad = (names_bad p (options_of Unbounded l.limit) b named).1

    go : (is_fewest : Bool) → nat_le b.preemptions clear ≡ is_fewest
        → AnswerMeans p l (answers.Bad b is_fewest)
    go true e = (bad, fewer p b.preemptions clear (leb-true b.preemptions clear e) none)
    go false e =
        let more : clear < b.preemptions = leb-false b.preemptions clear e in (
          bad,
          record {
            named = named;
            below = clear;
            fewer = more;
            rest = record { none = none; cut = cut more };
          },
        )

-- after a search up to a bound that isn't clean
pub stopped_at : (p : Program) (l : Limits) (f : Found) (known : Option BadSchedule) (bound : ℕ)
    → IsFound p (options_of (UpTo bound) l.limit) f → is_clean f.report.verdict ≡ false
    → IsLeft p (options_of Unbounded l.limit) known → NoBadBelow p bound
    → AnswerMeans p l (answer_of f.bad known bound)
stopped_at p l f known bound is dirty far none =
    go f.bad known (left_by p (options_of (UpTo bound) l.limit) f is dirty) far
  where
    go : (near far : Option BadSchedule) → IsLeft p (options_of (UpTo bound) l.limit) near
        → IsLeft p (options_of Unbounded l.limit) far → AnswerMeans p l (answer_of near far bound)
    go (Some b) far near-is far-is =
        let few = names_few p l bound b near-is in
        subst (λ is_fewest. AnswerMeans p l (answers.Bad b is_fewest))
        (sym (le-leb b.preemptions bound few)) (
          (names_bad p (options_of (UpTo bound) l.limit) b near-is).1,
          fewer p b.preemptions bound few none,
        )
    go None (Some b) near-is far-is = far_means p l b bound far-is none (λ more. inr near-is)
    go None None near-is far-is = (record { none = none; cut = inr near-is }, far-is)

-- after clean searches up to all bounds
pub gone_through : (p : Program) (l : Limits) (known : Option BadSchedule)
    → IsLeft p (options_of Unbounded l.limit) known → NoBadBelow p (stop_of known l.bound)
    → AnswerMeans p l (answer_of None known (stop_of known l.bound))
gone_through p l (Some b) far none =
    far_means p l b (stop_of (Some b) l.bound) far none (λ more. inl (omega (arith, more)))
gone_through p l None far none = (record { none = none; cut = inl (omega arith) }, far)
