-- What one search, or two, show of a text.
use Rattle.std.proofs.Common.{◌≡◌, ℕ, List, true, false, refl, arith, inl, inr}
use Rattle.guest_code.specs.Program.{Program}
use Rattle.runner_report.specs.declared.options.Search.TheVariants.{UpTo, Unbounded}
use Rattle.runner_report.specs.Texts.{IsProgramOf}
use Rattle.ctxbound_answers.specs.declared.limits.Limits.{Limits}
use Rattle.ctxbound_suite.specs.declared.found.Found.{Found}
use Rattle.ctxbound_suite.specs.Shown.{options_of, clean_below, IsFound}
use Rattle.ctxbound_suite.specs.Suites.{needs_no_second, second_bound, told_search, IsSearched}

pub one_search : (text : List ℕ) (p : Program) (l : Limits) (f : Found)
    → IsProgramOf text p → IsFound p (options_of Unbounded l.limit) f
    → needs_no_second f.report.verdict f.bad ≡ true
    → IsSearched text l (record { found = f; clear = 0 })
one_search text p l f of is enough = record {
  program = p;
  is_program = of;
  searches = inl (record { first = is; enough = enough; clear = refl });
  none_below = λ w bad. omega arith;
}

pub two_searches : (text : List ℕ) (p : Program) (l : Limits) (f g : Found)
    → IsProgramOf text p → IsFound p (options_of Unbounded l.limit) f
    → needs_no_second f.report.verdict f.bad ≡ false
    → IsFound p (options_of (UpTo (second_bound l.bound f.bad)) l.limit) g
    → IsSearched text l (record { found = told_search f g; clear = clean_below g.report })
two_searches text p l f g of is more bounded = record {
  program = p;
  is_program = of;
  searches = inr (record {
    first = f;
    unbounded = is;
    more = more;
    second = g;
    bounded = bounded;
    told = refl;
    clear = refl;
  });
  none_below = bounded.clear;
}
