-- What one account with all seats says of the seats.
use Rattle.std.proofs.Common.{◌≡◌, ℕ, ◌+◌, ◌≤◌, inl, inr, ⊎_elim, min, List, [], length, sym, ap, subst, arith}
use Rattle.std.{specs.List.{All, sum_by, flat_map}, proofs.lemmas.List.Elements.All-weaker}
use mathlib.Core.Logic.{dite}
use native.Mathlib.Decide.{dec_lt}
use Rattle.board.specs.Board.{SeatView}
use Rattle.board.specs.Claims.{times, IsOneBelow, HasEachBelow, drawn_by, told_by, answered_to, WasTold, IsLeastTold, IsSomeTold}
use Rattle.board.specs.declared.account.Account.{Account}
use Rattle.board.specs.inner.Rule.{Mine, Counted, Closed, IsOfAccount}
use Rattle.board.proofs.Sums.{times-flat_map, Contains-times, All-by_times, one_same}

-- no seat is left, so the account has what all seats have
pub all_of : (f : SeatView → List ℕ) (mine : List ℕ) (left all : List SeatView) → left ≡ [] →
    ((x : ℕ) → times x mine + sum_by (λ s. times x (f s)) left ≡ sum_by (λ s. times x (f s)) all) →
    (x : ℕ) → times x (flat_map f all) ≡ times x mine
all_of f mine left all none sums x =
    let n = ap (sum_by (λ s. times x (f s))) none in let s = sums x in
    let t = times-flat_map f x all in omega arith

pub count_is : {before after : Mine} {found : ℕ} → Counted before found after → (count : ℕ) →
    count ≡ min found before.0.limit → count ≡ length before.0.drawn
count_is {before} {after} {found} r count is =
    let a = r.found_is in let b = r.within in let late = r.late in
    dite (dec_lt 0 before.0.marks)
    (λ some_marks. let full = late some_marks in omega arith)
    (λ none. omega arith)

pub each_drawn : (v : Account) (seats : List SeatView) →
    IsOneBelow (length v.drawn) (λ x. times x v.drawn) →
    ((x : ℕ) → times x (drawn_by seats) ≡ times x v.drawn) →
    (count : ℕ) → count ≡ length v.drawn → HasEachBelow count (drawn_by seats)
each_drawn v seats once same count is =
    subst (λ n. IsOneBelow n (λ x. times x (drawn_by seats))) (sym is)
    (one_same (length v.drawn) (λ x. times x v.drawn) (λ x. times x (drawn_by seats)) once same)

was_told : (v : Account) (seats : List SeatView) →
    ((x : ℕ) → times x (told_by seats) ≡ times x v.told) → (x : ℕ) → IsOfAccount v x →
    WasTold (told_by seats) x
was_told v seats same x of_v = let e = same x in
    ⊎_elim (λ p. inl p) (λ p. inr (Contains-times (told_by seats) x (omega arith))) of_v

pub least_told : (v : Account) (seats : List SeatView) (least : ℕ) → Closed v least →
    ((x : ℕ) → times x (told_by seats) ≡ times x v.told) → IsLeastTold least (told_by seats)
least_told v seats least r same = record {
  was_told = was_told v seats same least r.found_is;
  at_most = All-by_times (λ x. least ≤ x) v.told (told_by seats) same r.told;
}

pub each_answered : (v : Account) (seats : List SeatView) (least : ℕ) → Closed v least →
    ((x : ℕ) → times x (told_by seats) ≡ times x v.told) →
    ((x : ℕ) → times x (answered_to seats) ≡ times x v.answered) →
    All (IsSomeTold least (told_by seats)) (answered_to seats)
each_answered v seats least r told answered k d lt = record {
  was_told = All-by_times (WasTold (told_by seats)) v.answered (answered_to seats) answered
      (All-weaker (IsOfAccount v) (WasTold (told_by seats)) (was_told v seats told) v.answered
      r.answers) k d lt;
  at_least = All-by_times (λ x. least ≤ x) v.answered (answered_to seats) answered r.answered k d
      lt;
}
