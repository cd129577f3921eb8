-- An error that is handed on.
use Rattle.std.proofs.Common.{Result, Ok, Err, IfErr}
use Rattle.std.specs.Result.{IsErrAnd}

pub err_is : {X E : Type 0} (r : Result X E) (P Q : E → Type 0) → ((e : E) → P e → Q e) →
    IsErrAnd r P → IfErr r Q
err_is (Ok x) P Q f h = tt
err_is (Err e) P Q f h = f e h
