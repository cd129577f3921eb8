-- The JSON of a part has no number that is not whole, and is shallow.
use Rattle.std.proofs.Common.{◌≡◌, ◌≤◌, ℕ, ℤ, refl, arith, false, List, [], ◌∷◌, map, Option, Some, None, Result, Ok, Err, IfOk}
use Rattle.runner_report.specs.ReportText.{bound_data, cause_data, first_bad_data, end_data}
use Rattle.runner_report.specs.declared.report.Cause.{Cause, TheVariants.{Limit, Stopped}}
use Rattle.runner_report.proofs.ReportTexts.{bound_whole, cause_whole, first_bad_whole, ends_whole}
use Rattle.semantics.specs.{View.View, declared.view.Kind.Kind}
use Rattle.semantics.specs.declared.view.Kind.TheVariants.{Done, Failed, Stuck}
use Rattle.serde_json.specs.Data.{number, depth, items_depth}
use Rattle.serde_json.specs.{Find.of_integer, Read.max_depth, View.items_of, Written.has_float}
use Rattle.runner_parts.specs.PartText.{PartView, part_data}

-- ---- whole numbers

pub part_whole : (x : PartView) → has_float (part_data x) ≡ false
part_whole x = go x.level.cause refl
  where
    go : (cause : Option Cause) → x.level.cause ≡ cause → has_float (part_data x) ≡ false
    go (Some cause) e = rw (
      e,
      bound_whole x.level.bound,
      cause_whole cause,
      ends_whole x.level.summary.ends,
      first_bad_whole x.level.summary.first_bad,
    ) refl
    go None e = rw (
      e,
      bound_whole x.level.bound,
      ends_whole x.level.summary.ends,
      first_bad_whole x.level.summary.first_bad,
    ) refl

pub both : {T E : Type 0} (r : Result T E) (P Q : T → Type 0) → IfOk r P → IfOk r Q
    → IfOk r (λ x. P x × Q x)
both (Ok x) P Q p q = (p, q)
both (Err e) P Q p q = tt

-- ---- depth

values_depth : (zs : List ℤ) → items_depth (items_of (map (λ z. number (of_integer z)) zs)) ≤ 0
values_depth [] = omega arith
values_depth (z ∷ zs) = let later = values_depth zs in omega arith

end_depth : (v : View) → depth (end_data v) ≤ 2
end_depth v = go v.kind
  where
    go : (k : Kind) → depth (end_data (record { kind = k; vars = v.vars })) ≤ 2
    go Done = let few = values_depth v.vars in omega arith
    go Failed = let few = values_depth v.vars in omega arith
    go Stuck = let few = values_depth v.vars in omega arith

ends_depth : (vs : List View) → items_depth (items_of (map end_data vs)) ≤ 2
ends_depth [] = omega arith
ends_depth (v ∷ vs) = let first = end_depth v in let later = ends_depth vs in omega arith

bound_depth : (b : Option ℕ) → depth (bound_data b) ≤ 3
bound_depth (Some b) = omega arith
bound_depth None = omega arith

first_bad_depth : (w : Option (List ℕ)) → depth (first_bad_data w) ≤ 3
first_bad_depth (Some w) = omega arith
first_bad_depth None = omega arith

cause_depth : (c : Cause) → depth (cause_data c) ≤ 0
cause_depth Limit = omega arith
cause_depth Stopped = omega arith

pub part_shallow : (x : PartView) → depth (part_data x) ≤ max_depth
part_shallow x = go x.level.cause refl
  where
    go : (cause : Option Cause) → x.level.cause ≡ cause → depth (part_data x) ≤ max_depth
    go (Some cause) e = rw e (omega (
      arith,
      bound_depth x.level.bound,
      cause_depth cause,
      ends_depth x.level.summary.ends,
      first_bad_depth x.level.summary.first_bad,
    ))
    go None e = rw e (omega (
      arith,
      bound_depth x.level.bound,
      ends_depth x.level.summary.ends,
      first_bad_depth x.level.summary.first_bad,
    ))
