-- What is told of one search, or of two.
use Rattle.std.proofs.Common.{◌≡◌, Bool, true, false, refl, sym, subst}
use Rattle.guest_code.specs.Program.{Program}
use Rattle.runner_report.specs.{Promises.IsReport, declared.options.Options.Options}
use Rattle.runner_report.specs.declared.report.Report.{Report}
use Rattle.ctxbound_answers.specs.Explained.{IsSearched, IsTold, is_followed, told_report, without_bound}

-- the same search with equal threads once, or without
abbrev pub by : Options → Bool → Options
by o once = record o { symmetry = once }

-- a search that none follows
pub alone : (p : Program) (o : Options) (once : Bool) (near : Report)
    → IsReport false p (by o once) near → is_followed o.search near ≡ false → IsSearched p o near
alone p o once near is e =
    (once, (near, is, subst (λ b. IsTold p (by o once) b near near) (sym e) refl))

-- a search that one without a bound follows
pub followed : (p : Program) (o : Options) (once : Bool) (near far : Report)
    → IsReport false p (by o once) near → is_followed o.search near ≡ true
    → IsReport false p (without_bound (by o once)) far → IsSearched p o (told_report near far)
followed p o once near far is e far-is = (
  once,
  (
    near,
    is,
    subst (λ b. IsTold p (by o once) b near (told_report near far)) (sym e) (far, far-is, refl),
  ),
)
