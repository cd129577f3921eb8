-- The rule that the words of a board and the accounts of its seats keep between any two steps, and
-- what each step tells the one who makes it.
use Rattle.std.specs.Prelude.{◌≡◌, ◌⊎◌, ℕ, ◌+◌, ◌-◌, ◌<◌, ◌≤◌, List, [], ◌∷◌, ◌++◌, length, slice_index}
use Rattle.std.specs.List.{All, sum_by}
use mathlib.Core.Option.{some}
use lib.ListN.{get_elem?}
use Rattle.atomic_table.specs.Table.{Me}
use Rattle.board.specs.{Claims.{times, IsOneBelow}, declared.account.Account.Account}
use Rattle.board.specs.declared.board.TheConstants.{NONE_TOLD, WORDS, DRAWN, LEAST}

abbrev pub account : ℕ → ℕ → ℕ → List ℕ → List ℕ → List ℕ → Account
account limit seats marks drawn told answered = record {
  limit = limit;
  seats = seats;
  marks = marks;
  drawn = drawn;
  told = told;
  answered = answered;
}

-- one account

-- it has the board's limit, at most as many marks as seats, and nothing where it has no seat
pub record IsAccount (limit : ℕ) (v : Account) : Type 0 where
  pub marks : v.marks ≤ v.seats
  pub limit_is : 0 < v.seats → v.limit ≡ limit
  pub undrawn : v.seats ≡ 0 → v.drawn ≡ []
  pub untold : v.seats ≡ 0 → v.told ≡ []

-- an account with one seat less, and the account of that seat
abbrev pub without_one : Account → Account
without_one v = account v.limit (v.seats - 1) v.marks v.drawn v.told v.answered

abbrev pub of_one_seat : Account → Account
of_one_seat v = account v.limit 1 0 [] [] []

-- two accounts as one, and what is left of the second
abbrev pub both : Account → Account → Account
both v w = account v.limit (v.seats + w.seats) (v.marks + w.marks) (v.drawn ++ w.drawn)
    (v.told ++ w.told) (v.answered ++ w.answered)

abbrev pub empty : Account
empty = account 0 0 0 [] [] []

-- all accounts

abbrev pub drawn_in : List Account → ℕ
drawn_in views = sum_by (λ v. length v.drawn) views

abbrev pub marks_in : List Account → ℕ
marks_in views = sum_by (λ v. v.marks) views

abbrev pub seats_in : List Account → ℕ
seats_in views = sum_by (λ v. v.seats) views

abbrev pub times_in : ℕ → List Account → ℕ
times_in x views = sum_by (λ v. times x v.drawn) views

abbrev pub told_in : ℕ → List Account → ℕ
told_in x views = sum_by (λ v. times x v.told) views

abbrev pub EachView : (Account → Type 0) → List Account → Type 0
EachView P views = (id : ℕ) (v : Account) → get_elem? views id ≡ some v → P v

-- one word is the count of the numbers drawn and of the marks; a seat is marked only where all
-- numbers are drawn
pub record IsGiven (limit seats word : ℕ) (views : List Account) : Type 0 where
  pub once : IsOneBelow (drawn_in views) (λ x. times_in x views)
  pub within : drawn_in views ≤ limit
  pub word_is : word ≡ drawn_in views + marks_in views
  pub late : 0 < marks_in views → drawn_in views ≡ limit
  pub seated : seats_in views ≡ seats
  pub each : EachView (IsAccount limit) views

-- the opening number, or one that was told
abbrev pub IsAmongTold : List Account → ℕ → Type 0
IsAmongTold views x = (x ≡ NONE_TOLD) ⊎ (0 < told_in x views)

-- another is the least number told: what was told or answered is not below it
pub record IsLeast (word : ℕ) (views : List Account) : Type 0 where
  pub told : EachView (λ v. All (λ x. word ≤ x) v.told) views
  pub answered : EachView (λ v. All (λ x. word ≤ x) v.answered) views
  pub among : IsAmongTold views word
  pub answers : EachView (λ v. All (IsAmongTold views) v.answered) views

pub record IsBoard (limit seats : ℕ) (words : List ℕ) (views : List Account) : Type 0 where
  pub count : length words ≡ WORDS
  pub given : IsGiven limit seats (slice_index words DRAWN) views
  pub least : IsLeast (slice_index words LEAST) views

-- what a step tells

abbrev pub Mine : Type 0
Mine = Me (Unit {0}) Account

-- a number below the limit is drawn, and it is above those drawn before
pub record IsDrawn (v : Account) (found : ℕ) (w : Account) : Type 0 where
  pub after : w ≡ account v.limit v.seats v.marks (v.drawn ++ found ∷ []) v.told v.answered
  pub rising : All (λ x. x < found) v.drawn

-- the number found is drawn where it is below the limit, and else the seat is marked
pub record Claimed (before : Mine) (found : ℕ) (after : Mine) : Type 0 where
  pub bare : after.1 ≡ before.1
  pub draws : found < before.0.limit → IsDrawn before.0 found after.0
  pub marks : before.0.limit ≤ found → after.0 ≡ (let v = before.0 in
      account v.limit v.seats (v.marks + 1) v.drawn v.told v.answered)

-- the number is told
abbrev pub Told : ℕ → Mine → Mine → Type 0
Told k before after = let v = before.0 in
    after ≡ (account v.limit v.seats v.marks v.drawn (v.told ++ k ∷ []) v.answered, before.1)

-- the number found is at most all that the seat told or was answered
pub record Asked (before : Mine) (found : ℕ) (after : Mine) : Type 0 where
  pub after_is : after ≡ (
    let v = before.0 in
        account v.limit v.seats v.marks v.drawn v.told (v.answered ++ found ∷ []),
    before.1,
  )
  pub told : All (λ x. found ≤ x) before.0.told
  pub answered : All (λ x. found ≤ x) before.0.answered

-- one account has drawn all that was drawn
pub record Counted (before : Mine) (found : ℕ) (after : Mine) : Type 0 where
  pub same : after ≡ before
  pub once : IsOneBelow (length before.0.drawn) (λ x. times x before.0.drawn)
  pub within : length before.0.drawn ≤ before.0.limit
  pub found_is : found ≡ length before.0.drawn + before.0.marks
  pub late : 0 < before.0.marks → length before.0.drawn ≡ before.0.limit

-- a number that this account told, or the opening one
abbrev pub IsOfAccount : Account → ℕ → Type 0
IsOfAccount v x = (x ≡ NONE_TOLD) ⊎ (0 < times x v.told)

-- one account has told all that was told
pub record Closed (v : Account) (found : ℕ) : Type 0 where
  pub told : All (λ x. found ≤ x) v.told
  pub answered : All (λ x. found ≤ x) v.answered
  pub found_is : IsOfAccount v found
  pub answers : All (IsOfAccount v) v.answered
