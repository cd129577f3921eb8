use Rattle.std.proofs.Common.{◌≡◌, ap, sym, refl}
use Rattle.book.specs.Books.{BookView}
use Rattle.runner.proofs.AfterRounds.{kept_on}
use Rattle.runner.proofs.together.judge_and_raise.Goals as goal

pub returns-in_ok-raise-in-Raise-clause-levels : goal.returns-in_ok-raise-in-Raise-clause-levels
returns-in_ok-raise-in-Raise-clause-levels c keeps levels =
    let b = c.args.book.now in
    let thin = c.drop_later-number.new.self in
    let new = c.raise.new.book in
    let of : thin.of ≡ b.of = ap (λ (x : BookView). x.of) c.drop_later-number.ensures.book in
    kept_on keeps thin.of b.of new.mode new.mode c.raise.new.levels (sym of) refl
    (c.in_ok-raise-in-Raise.ensures.levels keeps
    (kept_on keeps b.of thin.of b.mode thin.mode c.args.levels.now of
    (ap (λ (x : BookView). x.mode) c.drop_later-number.ensures.book) levels))
