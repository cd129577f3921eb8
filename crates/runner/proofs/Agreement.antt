-- Two reports of one program and search that were not cut short say one thing.
use Rattle.std.proofs.Common.{◌≡◌, inl, inr, ℕ, ◌+◌, ◌<◌, ◌≤◌, Bool, true, false, nat_lt, nat_eq, ◌||◌}
use Rattle.std.proofs.Common.{◌&&◌, List, [], ◌∷◌, Option, Some, refl, ap, ◌∙◌, sym, arith, subst}
use Rattle.std.proofs.Common.{Vec, Global}
use Rattle.std.proofs.lemmas.Bool.{cases_lt, Decides.nat_tests}
use Rattle.guest_code.specs.Program.{Program}
use Rattle.semantics.specs.declared.view.Kind.{Kind}
use Rattle.semantics_schedules.specs.{Order.precedes, Schedules.preemptions}
use Rattle.walk_items.specs.{Items.whole, Once.{up_to, pruned}, declared.mode.Mode.TheVariants.Bounded}
use Rattle.walk_summary.specs.Summaries.{SummaryView, end_kind}
use Rattle.runner_report.specs.Promises.{IsReport, IsReportFor, IsBoundedVerdict, IsUnboundedVerdict, IsWhole}
use Rattle.runner_report.specs.ReportText.{verdict_members, report_text, bad_members, clean_members}
use Rattle.runner_report.specs.{Reports.{IsBad, IsClean, SomeExceeds}, Unbounded.IsFirstBad}
use Rattle.runner_report.specs.declared.options.{Options.Options, Search.Search}
use Rattle.runner_report.specs.declared.options.Search.TheVariants.{UpTo, Unbounded}
use Rattle.runner_report.specs.declared.report.{Report.Report, Verdict.Verdict}
use Rattle.runner_report.specs.declared.report.Verdict.TheVariants.{Clean, Bad, Incomplete}
use Rattle.runner.specs.Agreement.{SayTheSame}

-- neither of two schedules comes before the other: they are one
neither_first : (v w : List ℕ) → precedes v w ≡ false → precedes w v ≡ false → v ≡ w
neither_first [] [] h k = refl
neither_first [] (u ∷ w) h k = absurd cc
neither_first (t ∷ v) [] h k = absurd cc
neither_first (t ∷ v) (u ∷ w) h k =
    go (nat_lt t u) (nat_eq t u) (nat_lt u t) (nat_eq u t) refl refl refl refl h k
    (neither_first v w)
  where
    go : (a b c d : Bool) → nat_lt t u ≡ a → nat_eq t u ≡ b → nat_lt u t ≡ c → nat_eq u t ≡ d →
        (a || (b && precedes v w)) ≡ false → (c || (d && precedes w v)) ≡ false →
        (precedes v w ≡ false → precedes w v ≡ false → v ≡ w) → t ∷ v ≡ u ∷ w
    go false true false true p q r s h k rest =
        let head : t ≡ u = grind (arith, nat_tests) in
        ap (λ x. x ∷ v) head ∙ ap (λ x. u ∷ x) (rest h k)
    go false false false d p q r s h k rest = absurd (grind (arith, nat_tests))
    go false true false false p q r s h k rest = absurd (grind (arith, nat_tests))
    go true b c d p q r s h k rest = absurd cc
    go false b true d p q r s h k rest = absurd cc

-- a report's text is made of what it says, its counts, and its flags
one_text : (r s : Report) → SayTheSame r s → r.summary ≡ s.summary → r.quick ≡ s.quick
    → r.symmetry ≡ s.symmetry → report_text r ≡ report_text s
one_text r s h summary quick symmetry = cc (h.bound, h.verdict, summary, quick, symmetry)

-- verdicts that say one thing whatever the summary
abbrev SayOne : Option (List ℕ) → Option (List ℕ) → Verdict → Verdict → Type 0
SayOne a b v w = verdict_members a v ≡ verdict_members b w

-- two summaries with verdicts on them, of searches that try equal threads once or not
record Agree (once other : Bool) (sum all : SummaryView) (v w : Verdict) : Type 0 where
  ends : sum.ends ≡ all.ends
  summary : once ≡ other → sum ≡ all
  verdict : SayOne sum.first_bad all.first_bad v w

two_bad : (x y : Bool) (p : Program) (last bound other : ℕ) (sum all : SummaryView) (k l : ℕ)
    (v w : List ℕ) (kind end : Kind) → IsBad false x p last bound sum k v kind
    → IsBad false y p last other all l w end → (k ≡ l) × (v ≡ w)
two_bad x y p last bound other sum all k l v w kind end a b =
    let low : k ≤ preemptions p w = a.first.fewest w b.first.bad in
    let high : l ≤ preemptions p v = b.first.fewest v a.first.bad in
    let counts = a.first.count in
    let others = b.first.count in
    let same : k ≡ l = omega (arith, low, high, counts, others) in (
      same,
      neither_first v w (b.first.first v a.first.bad (counts ∙ same))
          (a.first.first w b.first.bad (others ∙ sym same)),
    )

bad_and_clean : (x y : Bool) (p : Program) (last bound other : ℕ) (sum all : SummaryView) (k : ℕ)
    (v : List ℕ) (kind : Kind) (e : Bool) → IsBad false x p last bound sum k v kind
    → IsClean y p last other all e → ⊥
bad_and_clean x y p last bound other sum all k v kind e a b =
    let past : last + 1 ≤ preemptions p v = b.none v a.first.bad in
    let count = a.first.count in
    let low = a.low in
    omega (arith, past, count, low)

-- a clean search doesn't end below the bound at which another one ended
not_below : (x y : Bool) (p : Program) (last bound other : ℕ) (sum all : SummaryView) (d e : Bool)
    → IsClean x p last bound sum d → IsClean y p last other all e → bound < other → ⊥
not_below x y p last bound other sum all d e a b l = elim a.ended [
  | inl at ↦ let low = b.low in omega (arith, at, low, l)
  | inr whole ↦ a.within.0 whole (b.least bound l)
]

two_bounds : (x y : Bool) (p : Program) (last bound other : ℕ) (sum all : SummaryView)
    (d e : Bool) → IsClean x p last bound sum d → IsClean y p last other all e → bound ≡ other
two_bounds x y p last bound other sum all d e a b = elim (cases_lt bound other) [
  | inl l ↦ absurd (not_below x y p last bound other sum all d e a b l)
  | inr le ↦ elim (cases_lt other bound) [
    | inl l ↦ absurd (not_below y x p last other bound all sum e d b a l)
    | inr ge ↦ omega (arith, le, ge)
  ]
]

both : (d e : Bool) → (d ≡ true → e ≡ true) → (e ≡ true → d ≡ true) → d ≡ e
both true e f g = sym (f refl)
both false true f g = g refl
both false false f g = refl

-- bad verdicts on one schedule, with its preemptions and its kind
same_bad : (a b : Option (List ℕ)) (k l : ℕ) (v w : Vec ℕ Global) (kind end : Kind) → k ≡ l
    → v.items ≡ w.items → kind ≡ end → SayOne a b (Bad k v kind) (Bad l w end)
same_bad a b k l v w kind end c i e =
    ap (λ (x : ℕ). bad_members x v.items kind) c
    ∙ ap (λ (x : List ℕ). bad_members l x kind) i
    ∙ ap (λ (x : Kind). bad_members l w.items x) e

bounded : (may other : Bool) (p : Program) (o q : Options) (last bound at : ℕ)
    (sum all : SummaryView) (v w : Verdict) → o.quick ≡ false → q.quick ≡ false
    → IsWhole v → IsWhole w → IsBoundedVerdict may p o last bound sum v
    → IsBoundedVerdict other p q last at all w
    → (bound ≡ at) × Agree o.symmetry q.symmetry sum all v w
bounded may other p o q last bound at sum all (Incomplete c f) w n m h k a b = absurd h
bounded may other p o q last bound at sum all (Clean d) (Incomplete c f) n m h k a b = absurd k
bounded may other p o q last bound at sum all (Bad x v kind) (Incomplete c f) n m h k a b = absurd k
bounded may other p o q last bound at sum all (Clean d) (Bad y w end) n m h k a b =
    let bad = subst (λ z. IsBad z q.symmetry p last at all y w.items end) m b in
    absurd (bad_and_clean q.symmetry o.symmetry p last at bound all sum y w.items end d bad a)
bounded may other p o q last bound at sum all (Bad x v kind) (Clean e) n m h k a b =
    let bad = subst (λ z. IsBad z o.symmetry p last bound sum x v.items kind) n a in
    absurd (bad_and_clean o.symmetry q.symmetry p last bound at sum all x v.items kind e bad b)
bounded may other p o q last bound at sum all (Clean d) (Clean e) n m h k a b =
    let one = two_bounds o.symmetry q.symmetry p last bound at sum all d e a b in (
      one,
      record {
        ends = a.summary.ends ∙ ap (λ x. (whole p (Bounded x)).ends) one ∙ sym b.summary.ends;
        summary = λ same. a.summary.summary ∙ ap (λ x. whole p (up_to o.symmetry x)) one
            ∙ ap (λ x. whole p (up_to x at)) same ∙ sym b.summary.summary;
        verdict = ap clean_members (both d e
            (λ t. b.within.1 (λ x. a.within.0 t (subst (SomeExceeds p) (sym one) x)))
            (λ t. a.within.1 (λ x. b.within.0 t (subst (SomeExceeds p) one x))));
      },
    )
bounded may other p o q last bound at sum all (Bad x v kind) (Bad y w end) n m h k a b =
    let bad = subst (λ z. IsBad z o.symmetry p last bound sum x v.items kind) n a in
    let bad' = subst (λ z. IsBad z q.symmetry p last at all y w.items end) m b in
    let one = two_bad o.symmetry q.symmetry p last bound at sum all x y v.items w.items kind end bad bad' in (
      bad.at ∙ one.0 ∙ sym bad'.at,
      record {
        ends = bad.summary.ends ∙ ap (λ x. (whole p (Bounded x)).ends) one.0
            ∙ sym bad'.summary.ends;
        summary = λ same. bad.summary.summary ∙ ap (λ x. whole p (up_to o.symmetry x)) one.0
            ∙ ap (λ x. whole p (up_to x y)) same ∙ sym bad'.summary.summary;
        verdict = same_bad sum.first_bad all.first_bad x y v w kind end one.0 one.1
            (bad.ends ∙ ap (end_kind p) one.1 ∙ sym bad'.ends);
      },
    )

unbounded : (may other : Bool) (p : Program) (o q : Options)
    (sum all : SummaryView) (v w : Verdict) → o.quick ≡ false → q.quick ≡ false
    → IsWhole v → IsWhole w → IsUnboundedVerdict may p o sum v
    → IsUnboundedVerdict other p q all w → Agree o.symmetry q.symmetry sum all v w
unbounded may other p o q sum all (Incomplete c f) w n m h k a b = absurd h
unbounded may other p o q sum all (Clean d) (Incomplete c f) n m h k a b = absurd k
unbounded may other p o q sum all (Bad x v kind) (Incomplete c f) n m h k a b = absurd k
unbounded may other p o q sum all (Clean d) (Bad y w end) n m h k a b =
    absurd (a.1.none w.items b.bad)
unbounded may other p o q sum all (Bad x v kind) (Clean e) n m h k a b =
    absurd (b.1.none v.items a.bad)
unbounded may other p o q sum all (Clean d) (Clean e) n m h k a b = record {
  ends = a.1.summary.ends ∙ sym b.1.summary.ends;
  summary = λ same. a.1.summary.summary ∙ ap (λ x. whole p (pruned x)) same
      ∙ sym b.1.summary.summary;
  verdict = ap clean_members (a.0 ∙ sym b.0);
}
unbounded may other p o q sum all (Bad x v kind) (Bad y w end) n m h k a b =
    let bad = subst (λ z. IsFirstBad z o.symmetry p sum x v.items kind) n a in
    let bad' = subst (λ z. IsFirstBad z q.symmetry p all y w.items end) m b in
    let one = neither_first v.items w.items (bad'.first v.items bad.bad)
    (bad.first w.items bad'.bad) in
    record {
      ends = bad.summary.ends ∙ sym bad'.summary.ends;
      summary = λ same. bad.summary.summary ∙ ap (λ x. whole p (pruned x)) same
          ∙ sym bad'.summary.summary;
      verdict = same_bad sum.first_bad all.first_bad x y v w kind end
          (bad.count ∙ ap (preemptions p) one ∙ sym bad'.count) one
          (bad.ends ∙ ap (end_kind p) one ∙ sym bad'.ends);
    }

-- the same of whole reports
reports : (may other : Bool) (p : Program) (o q : Options) (x : Search) (r s : Report)
    → o.quick ≡ false → q.quick ≡ false → IsWhole r.verdict → IsWhole s.verdict
    → IsReportFor may p o x r → IsReportFor other p q x s
    → SayTheSame r s × (o.symmetry ≡ q.symmetry → r.summary ≡ s.summary)
reports may other p o q (UpTo last) r s n m h k a b =
    let one = bounded may other p o q last a.0 b.0 r.summary s.summary r.verdict s.verdict
    n m h k a.2 b.2 in (
      record {
        bound = a.1 ∙ ap (λ (x : ℕ). Some x) one.0 ∙ sym b.1;
        ends = one.1.ends;
        verdict = one.1.verdict;
      },
      one.1.summary,
    )
reports may other p o q Unbounded r s n m h k a b =
    let one = unbounded may other p o q r.summary s.summary r.verdict s.verdict n m h k a.1 b.1 in
    (record { bound = a.0 ∙ sym b.0; ends = one.ends; verdict = one.verdict }, one.summary)

of_one_search : (may other : Bool) (p : Program) (o q : Options) (r s : Report)
    → o.search ≡ q.search → o.quick ≡ false → q.quick ≡ false
    → IsReport may p o r → IsReport other p q s → IsWhole r.verdict → IsWhole s.verdict
    → SayTheSame r s × (o.symmetry ≡ q.symmetry → r.summary ≡ s.summary)
of_one_search may other p o q r s e n m a b h k =
    reports may other p o q o.search r s n m h k a.2
    (subst (λ (x : Search). IsReportFor other p q x s) (sym e) b.2)

pub reports_agree : (may other : Bool) (p : Program) (o q : Options) (r s : Report)
    → o.search ≡ q.search → o.symmetry ≡ q.symmetry → o.quick ≡ false → q.quick ≡ false
    → IsReport may p o r → IsReport other p q s → IsWhole r.verdict → IsWhole s.verdict
    → report_text r ≡ report_text s
reports_agree may other p o q r s e y n m a b h k =
    let one = of_one_search may other p o q r s e n m a b h k in
    one_text r s one.0 (one.1 y) (a.0 ∙ n ∙ sym m ∙ sym b.0) (a.1 ∙ y ∙ sym b.1)

pub say_the_same : (may other : Bool) (p : Program) (o q : Options) (r s : Report)
    → o.search ≡ q.search → o.quick ≡ false → q.quick ≡ false
    → IsReport may p o r → IsReport other p q s → IsWhole r.verdict → IsWhole s.verdict
    → SayTheSame r s
say_the_same may other p o q r s e n m a b h k =
    (of_one_search may other p o q r s e n m a b h k).0
