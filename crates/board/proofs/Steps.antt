-- Each step of a board keeps its rule.
use Rattle.std.proofs.Common.{◌≡◌, ℕ, zero, suc, ◌+◌, ◌%◌, ◌^◌, ◌<◌, ◌≤◌, inl, inr, min, eqb, cond, List, [], ◌∷◌, ◌++◌, length, get_or, set, sym, refl, ap, ◌∙◌, subst, ⊎_elim, arith, length-set, length-append}
use Rattle.std.specs.List.{All, sum_by}
use Rattle.std.proofs.lemmas.List.Elements.{All-append, All-push, All-weaker, All-nil}
use Rattle.std.proofs.lemmas.List.Sums.{sum_by-cons, sum_by_push}
use mathlib.Core.{Logic.dite, Option.some}
use native.Mathlib.Decide.{dec_lt, dec_le}
use lib.ListN.{get_elem?}
use Rattle.atomic_table.specs.Table.{State, Act, Valid, carried_after, keeps, stepped, Allows, Splits, Joins}
use Rattle.atomic_table.proofs.Lists.{at_set, at_snoc, set_again}
use Rattle.board.specs.{Claims.{times, IsOneBelow}, declared.account.Account.Account}
use Rattle.board.specs.declared.{account.Size.Size, board.TheConstants.{WORDS, DRAWN, LEAST}}
use Rattle.board.specs.inner.Rule.{Mine, account, IsAccount, EachView, drawn_in, marks_in, seats_in, times_in, told_in, IsAmongTold, IsGiven, IsLeast, IsBoard, Claimed, Told, Asked, Counted, Closed, IsOfAccount, without_one, of_one_seat, both, empty}
use Rattle.board.proofs.Sums.{sum_by-replaced, at-le-sum_by, sum_by-none, hit_yes, times-append, times_push, All-below, one_more, one_same}

abbrev pub Kept : Size → State (Unit {0}) Account → Type 0
Kept size s = IsBoard size.limit size.seats s.words s.views

-- views

each_set : (P : Account → Type 0) (views : List Account) (i : ℕ) (w : Account) → P w →
    EachView P views → EachView P (set views i w)
each_set P views i w h all id v at =
    ⊎_elim (λ t. subst P t.1 h) (λ t. all id v t.1) (at_set views i id w v at)

each_push : (P : Account → Type 0) (views : List Account) (w : Account) → P w →
    EachView P views → EachView P (views ++ w ∷ [])
each_push P views w h all id v at =
    ⊎_elim (λ t. all id v t) (λ t. subst P t h) (at_snoc views w v id at)

-- where no account has more marks than seats, neither have all
marks_below : (views : List Account) → EachView (λ v. v.marks ≤ v.seats) views →
    marks_in views ≤ seats_in views
marks_below [] all = omega arith
marks_below (v ∷ vs) all =
    let a = all 0 v refl in let r = marks_below vs (λ i u at. all (suc i) u at) in
    let m = sum_by-cons (λ (u : Account). u.marks) v vs in
    let s = sum_by-cons (λ (u : Account). u.seats) v vs in omega arith

empty_is : (limit : ℕ) → IsAccount limit empty
empty_is limit = record {
  marks = omega arith;
  limit_is = λ some_seat. absurd (omega arith);
  undrawn = λ _. refl;
  untold = λ _. refl;
}

-- an account of one seat or more
seated_is : (limit : ℕ) (v : Account) → v.marks ≤ v.seats → v.limit ≡ limit → 0 < v.seats →
    IsAccount limit v
seated_is limit v marks same some_seat = record {
  marks = marks;
  limit_is = λ _. same;
  undrawn = λ no_seat. absurd (omega arith);
  untold = λ no_seat. absurd (omega arith);
}

-- words, one of them set

set_there : (ws : List ℕ) (i n : ℕ) → i < length ws → get_or (set ws i n) i 0 ≡ n
set_there [] i n h = absurd (omega arith)
set_there (x ∷ xs) zero n h = refl
set_there (x ∷ xs) (suc i) n h = set_there xs i n (omega arith)

set_other : (ws : List ℕ) (i j n : ℕ) → (i ≡ j → ⊥) → get_or (set ws i n) j 0 ≡ get_or ws j 0
set_other [] i j n h = refl
set_other (x ∷ xs) zero zero n h = absurd (h refl)
set_other (x ∷ xs) zero (suc j) n h = refl
set_other (x ∷ xs) (suc i) zero n h = refl
set_other (x ∷ xs) (suc i) (suc j) n h = set_other xs i j n (λ e. h (ap suc e))

same_there : (ws : List ℕ) (i : ℕ) → set ws i (get_or ws i 0) ≡ ws
same_there [] i = refl
same_there (x ∷ xs) zero = refl
same_there (x ∷ xs) (suc i) = ap (λ ys. x ∷ ys) (same_there xs i)

set_drawn : (ws : List ℕ) (n : ℕ) → length ws ≡ WORDS →
    (get_or (set ws DRAWN n) DRAWN 0 ≡ n) × (get_or (set ws DRAWN n) LEAST 0 ≡ get_or ws LEAST 0)
set_drawn ws n e = (
  set_there ws DRAWN n (omega (arith, e)),
  set_other ws DRAWN LEAST n (λ same. omega (arith, same)),
)

set_least : (ws : List ℕ) (n : ℕ) → length ws ≡ WORDS →
    (get_or (set ws LEAST n) LEAST 0 ≡ n) × (get_or (set ws LEAST n) DRAWN 0 ≡ get_or ws DRAWN 0)
set_least ws n e = (
  set_there ws LEAST n (omega (arith, e)),
  set_other ws LEAST DRAWN n (λ same. omega (arith, same)),
)

-- the word of what was drawn: the accounts are others, and say the same in all
abbrev SameInAll : List Account → List Account → Type 0
SameInAll views views' = (drawn_in views' ≡ drawn_in views) × (marks_in views' ≡ marks_in views)
    × (seats_in views' ≡ seats_in views) × ((x : ℕ) → times_in x views' ≡ times_in x views)

given_by : (size : Size) (word : ℕ) (views views' : List Account) →
    IsGiven size.limit size.seats word views → SameInAll views views' →
    EachView (IsAccount size.limit) views' → IsGiven size.limit size.seats word views'
given_by size word views views' r same each =
    let d = same.0 in let m = same.1 in let c = same.2 in
    let is = r.word_is in let late = r.late in let within = r.within in let seated = r.seated in
    record {
      once = subst (λ (z : ℕ). IsOneBelow z (λ x. times_in x views')) (sym d)
          (one_same (drawn_in views) (λ x. times_in x views) (λ x. times_in x views') r.once
          same.3);
      within = omega arith;
      word_is = omega arith;
      late = λ some_marks. d ∙ late (omega arith);
      seated = omega arith;
      each = each;
    }

-- the word of the least number told: the accounts are others, and what was told is no less

abbrev NotLess : List Account → List Account → Type 0
NotLess views views' = (x : ℕ) → told_in x views ≤ told_in x views'

-- what the rule says of one account
record Fits (word : ℕ) (views : List Account) (v : Account) : Type 0 where
  told : All (λ x. word ≤ x) v.told
  answered : All (λ x. word ≤ x) v.answered
  answers : All (IsAmongTold views) v.answered

fits : (word : ℕ) (views : List Account) → IsLeast word views → EachView (Fits word views) views
fits word views r id v at = record {
  told = r.told id v at;
  answered = r.answered id v at;
  answers = r.answers id v at;
}

empty_fits : (word : ℕ) (views : List Account) (v : Account) → v.told ≡ [] → v.answered ≡ [] →
    Fits word views v
empty_fits word views v untold unanswered = record {
  told = subst (All (λ x. word ≤ x)) (sym untold) (All-nil (λ x. word ≤ x));
  answered = subst (All (λ x. word ≤ x)) (sym unanswered) (All-nil (λ x. word ≤ x));
  answers = subst (All (IsAmongTold views)) (sym unanswered) (All-nil (IsAmongTold views));
}

told_more : (views views' : List Account) → NotLess views views' → (x : ℕ) →
    IsAmongTold views x → IsAmongTold views' x
told_more views views' more x t =
    let m = more x in ⊎_elim (λ e. inl e) (λ p. inr (omega arith)) t

least_by : (word : ℕ) (views views' : List Account) → IsLeast word views → NotLess views views' →
    EachView (Fits word views) views' → IsLeast word views'
least_by word views views' r more each = record {
  told = λ id v at. (each id v at).told;
  answered = λ id v at. (each id v at).answered;
  among = told_more views views' more word r.among;
  answers = λ id v at. All-weaker (IsAmongTold views) (IsAmongTold views')
      (told_more views views' more) v.answered (each id v at).answers;
}

-- an account that told and was answered the same
least_same : (word : ℕ) (views : List Account) (id : ℕ) (v w : Account) → IsLeast word views →
    get_elem? views id ≡ some v → w.told ≡ v.told → w.answered ≡ v.answered →
    IsLeast word (set views id w)
least_same word views id v w r at t s =
    let mine = fits word views r id v at in
    least_by word views (set views id w) r
    (λ x. let e = sum_by-replaced (λ (u : Account). times x u.told) views id v w at in
    let f = ap (times x) t in omega arith)
    (each_set (Fits word views) views id w record {
      told = subst (All (λ x. word ≤ x)) (sym t) mine.told;
      answered = subst (All (λ x. word ≤ x)) (sym s) mine.answered;
      answers = subst (All (IsAmongTold views)) (sym s) mine.answers;
    } (fits word views r))

-- drawing

module _ (size : Size) (slots id : ℕ) (me : Mine) (small : size.limit < 2 ^ 32)
    (few : size.seats < 2 ^ 32) (one : me.0.seats ≡ 1) (fresh : me.0.marks ≡ 0)
    (s : State (Unit {0}) Account) (r : Kept size s) (at : get_elem? s.views id ≡ some me.0) where
  abbrev n : ℕ
  n = get_or s.words DRAWN 0

  abbrev v : Account
  v = me.0

  abbrev next : ℕ
  next = (n + 1) % 2 ^ 64

  replaced : (f : Account → ℕ) (w : Account) →
      sum_by f (set s.views id w) + f v ≡ sum_by f s.views + f w
  replaced f w = sum_by-replaced f s.views id v w at

  by_word : (w : Account) → w.told ≡ v.told → w.answered ≡ v.answered →
      IsGiven size.limit size.seats next (set s.views id w) →
      Kept size (stepped s DRAWN next id me.1 w keeps)
  by_word w t e given = let f = set_drawn s.words next r.count in record {
    count = length-set s.words DRAWN next ∙ r.count;
    given = subst (λ (z : ℕ). IsGiven size.limit size.seats z (set s.views id w)) (sym f.0) given;
    least = subst (λ (z : ℕ). IsLeast z (set s.views id w)) (sym f.1)
        (least_same (get_or s.words LEAST 0) s.views id v w r.least at t e);
  }

  abbrev with_drawn : Account
  with_drawn = account v.limit v.seats v.marks (v.drawn ++ n ∷ []) v.told v.answered

  draws_here : n < size.limit → Kept size (stepped s DRAWN next id me.1 with_drawn keeps)
  draws_here lt =
      let views' = set s.views id with_drawn in let g = r.given in
      let d = replaced (λ (u : Account). length u.drawn) with_drawn in
      let m = replaced (λ (u : Account). u.marks) with_drawn in
      let c = replaced (λ (u : Account). u.seats) with_drawn in
      let len = length-append v.drawn (n ∷ []) in
      let word = g.word_is in let late = g.late in let within = g.within in
      let seated = g.seated in
      let is : n ≡ drawn_in s.views = grind arith in
      let more : drawn_in views' ≡ drawn_in s.views + 1 = omega arith in
      let mine = g.each id v at in
      let step : (x : ℕ) → times_in x views'
      ≡ times_in x s.views + cond (eqb (drawn_in s.views) x) 1 0 = λ x.
      let t = replaced (λ (u : Account). times x u.drawn) with_drawn in
      let a = times_push x v.drawn n in let hit : ℕ = cond (eqb n x) 1 0 in
      let same : hit ≡ cond (eqb (drawn_in s.views) x) 1 0 =
      ap (λ (z : ℕ). cond (eqb z x) 1 0) is in omega arith in
      by_word with_drawn refl refl record {
        once = subst (λ (z : ℕ). IsOneBelow z (λ x. times_in x views')) (sym more)
            (one_more (drawn_in s.views) (λ x. times_in x s.views) (λ x. times_in x views')
            g.once step);
        within = omega arith;
        word_is = let fit : n + 1 < 18446744073709551616 = omega arith in omega arith;
        late = λ some_marks. absurd (omega arith);
        seated = omega arith;
        each = each_set (IsAccount size.limit) s.views id with_drawn
            (seated_is size.limit with_drawn mine.marks (mine.limit_is (omega arith)) (omega arith))
            g.each;
      }

  abbrev with_mark : Account
  with_mark = account v.limit v.seats (v.marks + 1) v.drawn v.told v.answered

  marks_here : size.limit ≤ n → Kept size (stepped s DRAWN next id me.1 with_mark keeps)
  marks_here le =
      let views' = set s.views id with_mark in let g = r.given in
      let d = replaced (λ (u : Account). length u.drawn) with_mark in
      let m = replaced (λ (u : Account). u.marks) with_mark in
      let c = replaced (λ (u : Account). u.seats) with_mark in
      let word = g.word_is in let late = g.late in let within = g.within in
      let seated = g.seated in
      let same : drawn_in views' ≡ drawn_in s.views = omega arith in
      let full : drawn_in s.views ≡ size.limit = grind arith in
      let mine = g.each id v at in
      let bound : marks_in s.views ≤ seats_in s.views =
      marks_below s.views (λ i u a. (g.each i u a).marks) in
      let step : (x : ℕ) → times_in x views' ≡ times_in x s.views = λ x.
      let t = replaced (λ (u : Account). times x u.drawn) with_mark in omega arith in
      by_word with_mark refl refl record {
        once = subst (λ (z : ℕ). IsOneBelow z (λ x. times_in x views')) (sym same)
            (one_same (drawn_in s.views) (λ x. times_in x s.views) (λ x. times_in x views')
            g.once step);
        within = omega arith;
        word_is = let fit : n + 1 < 18446744073709551616 = omega arith in omega arith;
        late = λ _. omega arith;
        seated = omega arith;
        each = each_set (IsAccount size.limit) s.views id with_mark
            (seated_is size.limit with_mark (omega arith) (mine.limit_is (omega arith))
            (omega arith))
            g.each;
      }

  rising : All (λ x. x < n) v.drawn
  rising = All-below n v.drawn (λ x ge.
      let word = r.given.word_is in
      let o = r.given.once.no_other x (omega arith) in
      let t = at-le-sum_by (λ (u : Account). times x u.drawn) s.views id v at in omega arith)

  abbrev MayClaim : Type 0
  MayClaim = (w : Account) × (a : Act (Unit {0})) × Valid s.homes me.1 a
      × Kept size (stepped s DRAWN next id me.1 w a) × Claimed me n (w, carried_after me.1 a)

  pub claiming : v.limit ≡ size.limit → MayClaim
  claiming limit = dite (dec_lt n size.limit)
      (λ lt. (
        with_drawn,
        keeps,
        tt,
        draws_here lt,
        record {
          bare = refl;
          draws = λ _. record { after = refl; rising = rising };
          marks = λ le. absurd (omega arith);
        },
      ))
      (λ no. (
        with_mark,
        keeps,
        tt,
        marks_here (omega arith),
        record {
          bare = refl;
          draws = λ lt. absurd (omega arith);
          marks = λ _. refl;
        },
      ))

-- telling

-- the second word becomes m, and an account that has drawn the same
record SameDrawn (v w : Account) : Type 0 where
  limit : w.limit ≡ v.limit
  seats : w.seats ≡ v.seats
  marks : w.marks ≡ v.marks
  drawn : w.drawn ≡ v.drawn

by_least : (size : Size) (s : State (Unit {0}) Account) (id : ℕ) (me : Mine) (w : Account) (m : ℕ)
    →
    Kept size s → get_elem? s.views id ≡ some me.0 → SameDrawn me.0 w → 0 < me.0.seats →
    IsLeast m (set s.views id w) → Kept size (stepped s LEAST m id me.1 w keeps)
by_least size s id me w m r at same live least =
    let v = me.0 in let views' = set s.views id w in
    let f = set_least s.words m r.count in let mine = r.given.each id v at in
    let marks = mine.marks in let of_marks = same.marks in let of_seats = same.seats in
    let sum : (f : Account → ℕ) → f w ≡ f v → sum_by f views' ≡ sum_by f s.views = λ f e.
    let t = sum_by-replaced f s.views id v w at in omega arith in record {
      count = length-set s.words LEAST m ∙ r.count;
      given = subst (λ (z : ℕ). IsGiven size.limit size.seats z views') (sym f.1)
          (given_by size (get_or s.words DRAWN 0) s.views views' r.given (
            sum (λ (u : Account). length u.drawn) (ap length same.drawn),
            sum (λ (u : Account). u.marks) same.marks,
            sum (λ (u : Account). u.seats) same.seats,
            λ x. sum (λ (u : Account). times x u.drawn) (ap (times x) same.drawn),
          )
          (each_set (IsAccount size.limit) s.views id w
          (seated_is size.limit w (omega arith) (same.limit ∙ mine.limit_is live) (omega arith))
          r.given.each));
      least = subst (λ (z : ℕ). IsLeast z views') (sym f.0) least;
    }

lower : (a b : ℕ) → b ≤ a → (xs : List ℕ) → All (λ x. a ≤ x) xs → All (λ x. b ≤ x) xs
lower a b le xs all = All-weaker (λ x. a ≤ x) (λ x. b ≤ x) (λ x h. omega arith) xs all

pub telling : (size : Size) (slots id : ℕ) (me : Mine) (k : ℕ) → 0 < me.0.seats →
    Allows (Kept size) slots id me LEAST (λ n. min n k) (λ _ after. Told k me after)
telling size slots id me k live s r _ at _ =
    let v = me.0 in let n : ℕ = get_or s.words LEAST 0 in let m : ℕ = min n k in
    let w : Account = account v.limit v.seats v.marks v.drawn (v.told ++ k ∷ []) v.answered in
    let views' = set s.views id w in let old = r.least in
    let more : (y : ℕ) → told_in y views' ≡ told_in y s.views + cond (eqb k y) 1 0 = λ y.
    let t = sum_by-replaced (λ (u : Account). times y u.told) s.views id v w at in
    let a = times_push y v.told k in let hit : ℕ = cond (eqb k y) 1 0 in omega arith in
    let le : m ≤ n = omega arith in
    let up = told_more s.views views' (λ y. let e = more y in omega arith) in
    let Fine : Account → Type 0 = Fits m views' in
    let fine : (u : Account) → Fits n s.views u → Fits m views' u = λ u t. record {
      told = lower n m le u.told t.told;
      answered = lower n m le u.answered t.answered;
      answers = All-weaker (IsAmongTold s.views) (IsAmongTold views') up u.answered t.answers;
    } in
    let mine = fine v (fits n s.views old id v at) in
    let all = each_set (Fits m views') s.views id w record {
      told = All-push (λ y. m ≤ y) v.told k mine.told (omega arith);
      answered = mine.answered;
      answers = mine.answers;
    } (λ i u a. fine u (fits n s.views old i u a)) in
    let told_k : IsAmongTold views' k =
    inr (let t = more k in let hit = hit_yes k k refl in omega arith) in
    let same : SameDrawn v w = record { limit = refl; seats = refl; marks = refl; drawn = refl } in (
      w,
      keeps,
      tt,
      by_least size s id me w m r at same live record {
        told = λ i u a. (all i u a).told;
        answered = λ i u a. (all i u a).answered;
        among = dite (dec_le n k)
            (λ h. subst (IsAmongTold views') (let e : n ≡ m = omega arith in e) (up n old.among))
            (λ h. subst (IsAmongTold views') (let e : k ≡ m = omega arith in e) told_k);
        answers = λ i u a. (all i u a).answers;
      },
      refl,
    )

pub asking : (size : Size) (slots id : ℕ) (me : Mine) → 0 < me.0.seats →
    Allows (Kept size) slots id me LEAST (λ n. n) (Asked me)
asking size slots id me live s r _ at _ =
    let v = me.0 in let n : ℕ = get_or s.words LEAST 0 in
    let w : Account = account v.limit v.seats v.marks v.drawn v.told (v.answered ++ n ∷ []) in
    let views' = set s.views id w in let old = r.least in let mine = fits n s.views old id v at in
    let least : IsLeast n views' = least_by n s.views views' old
    (λ x. let t = sum_by-replaced (λ (u : Account). times x u.told) s.views id v w at in
    omega arith)
    (each_set (Fits n s.views) s.views id w record {
      told = mine.told;
      answered = All-push (λ y. n ≤ y) v.answered n mine.answered (omega arith);
      answers = All-push (IsAmongTold s.views) v.answered n mine.answers old.among;
    } (fits n s.views old)) in
    let same : SameDrawn v w = record { limit = refl; seats = refl; marks = refl; drawn = refl } in (
      w,
      keeps,
      tt,
      by_least size s id me w n r at same live least,
      record { after_is = refl; told = mine.told; answered = mine.answered },
    )

-- seats are made and taken in again

pub splitting : (size : Size) (id : ℕ) (v : Account) → 0 < v.seats → v.drawn ≡ [] → v.marks ≡ 0 →
    v.told ≡ [] → Splits (Kept size) id v (without_one v) (of_one_seat v)
splitting size id v live undrawn unmarked untold s r at =
    let left = set s.views id (without_one v) in let views' = left ++ of_one_seat v ∷ [] in
    let mine = r.given.each id v at in let word : ℕ = get_or s.words LEAST 0 in
    let limit_is = mine.limit_is live in
    let sum : (f : Account → ℕ) → f (without_one v) + f (of_one_seat v) ≡ f v →
    sum_by f views' ≡ sum_by f s.views = λ f e.
    let a = sum_by-replaced f s.views id v (without_one v) at in
    let b = sum_by_push f left (of_one_seat v) in omega arith in record {
      count = r.count;
      given = given_by size (get_or s.words DRAWN 0) s.views views' r.given (
        sum (λ (u : Account). length u.drawn) (omega arith),
        sum (λ (u : Account). u.marks) (omega arith),
        sum (λ (u : Account). u.seats) (omega arith),
        λ x. sum (λ (u : Account). times x u.drawn) (omega arith),
      )
          (each_push (IsAccount size.limit) left (of_one_seat v)
          (seated_is size.limit (of_one_seat v) (omega arith) limit_is (omega arith))
          (each_set (IsAccount size.limit) s.views id (without_one v) record {
            marks = omega arith;
            limit_is = λ _. limit_is;
            undrawn = λ _. undrawn;
            untold = λ _. untold;
          } r.given.each));
      least = least_by word s.views views' r.least
          (λ x. let e = sum (λ (u : Account). times x u.told) (omega arith) in omega arith)
          (each_push (Fits word s.views) left (of_one_seat v)
          (empty_fits word s.views (of_one_seat v) refl refl)
          (each_set (Fits word s.views) s.views id (without_one v) (
          let mine = fits word s.views r.least id v at in
          record { told = mine.told; answered = mine.answered; answers = mine.answers }
          ) (fits word s.views r.least)));
    }

pub joining : (size : Size) (id : ℕ) (v : Account) (other : ℕ) (w : Account) → 0 < v.seats →
    Joins (Kept size) id v other w (both v w) empty
joining size id v other w live s r at apart at' =
    let left = set s.views id (both v w) in let views' = set left other empty in
    let mine = r.given.each id v at in let word : ℕ = get_or s.words LEAST 0 in
    let there : get_elem? s.views other ≡ some w =
    ⊎_elim (λ t. absurd (apart t.0)) (λ t. t.1) (at_set s.views id other (both v w) w at') in
    let theirs : IsAccount size.limit w = r.given.each other w there in
    let marks = mine.marks in let their_marks = theirs.marks in
    let sum : (f : Account → ℕ) → f (both v w) ≡ f v + f w → f empty ≡ 0 →
    sum_by f views' ≡ sum_by f s.views = λ f e z.
    let a = sum_by-replaced f s.views id v (both v w) at in
    let b = sum_by-replaced f left other w empty at' in omega arith in
    let a = fits word s.views r.least id v at in
    let b = fits word s.views r.least other w there in record {
      count = r.count;
      given = given_by size (get_or s.words DRAWN 0) s.views views' r.given (
        sum (λ (u : Account). length u.drawn) (length-append v.drawn w.drawn) refl,
        sum (λ (u : Account). u.marks) refl refl,
        sum (λ (u : Account). u.seats) refl refl,
        λ x. sum (λ (u : Account). times x u.drawn) (times-append x v.drawn w.drawn) refl,
      )
          (each_set (IsAccount size.limit) left other empty (empty_is size.limit)
          (each_set (IsAccount size.limit) s.views id (both v w)
          (seated_is size.limit (both v w) (omega arith) (mine.limit_is live) (omega arith))
          r.given.each));
      least = least_by word s.views views' r.least
          (λ x. let e = sum (λ (u : Account). times x u.told) (times-append x v.told w.told) refl in
          omega arith)
          (each_set (Fits word s.views) left other empty (empty_fits word s.views empty refl refl)
          (each_set (Fits word s.views) s.views id (both v w) record {
            told = All-append (λ x. word ≤ x) v.told w.told a.told b.told;
            answered = All-append (λ x. word ≤ x) v.answered w.answered a.answered b.answered;
            answers = All-append (IsAmongTold s.views) v.answered w.answered a.answers b.answers;
          } (fits word s.views r.least)));
    }

-- one account has all seats: all others have nothing of f
alone : (size : Size) (id : ℕ) (v : Account) (word : ℕ) (views : List Account) →
    IsGiven size.limit size.seats word views → get_elem? views id ≡ some v →
    v.seats ≡ size.seats → (f : Account → ℕ) → f empty ≡ 0 →
    ((u : Account) → IsAccount size.limit u → u.seats ≡ 0 → f u ≡ 0) → sum_by f views ≡ f v
alone size id v word views r at all f z none_there =
    let left = set views id empty in let seated = r.seated in
    let c = sum_by-replaced (λ (u : Account). u.seats) views id v empty at in
    let bare : seats_in left ≡ 0 = omega arith in
    let each' = each_set (IsAccount size.limit) views id empty (empty_is size.limit) r.each in
    let a = sum_by-replaced f views id v empty at in
    let b = sum_by-none f (λ (u : Account). u.seats) left
    (λ i u at'. none_there u (each' i u at')) bare in omega arith

-- a load that changes nothing
unchanged : (size : Size) (s : State (Unit {0}) Account) (i id : ℕ) (me : Mine) → Kept size s →
    set s.words i (get_or s.words i 0) ≡ s.words → get_elem? s.views id ≡ some me.0 →
    Kept size (stepped s i (get_or s.words i 0) id me.1 me.0 keeps)
unchanged size s i id me r same at =
    subst (λ (z : List ℕ × List Account). IsBoard size.limit size.seats z.0 z.1)
    (λ j. (sym same j, sym (set_again s.views id me.0 at) j)) r

pub counting : (size : Size) (slots id : ℕ) (me : Mine) → me.0.seats ≡ size.seats →
    me.0.limit ≡ size.limit → Allows (Kept size) slots id me DRAWN (λ n. n) (Counted me)
counting size slots id me all limit s r _ at _ =
    let g = r.given in let word = g.word_is in let late = g.late in let within = g.within in
    let sum = alone size id me.0 (get_or s.words DRAWN 0) s.views g at all in
    let d = sum (λ (u : Account). length u.drawn) refl (λ u h e. ap length (h.undrawn e)) in
    let m = sum (λ (u : Account). u.marks) refl (λ u h e. let of = h.marks in omega arith) in
    let same : (x : ℕ) → times x me.0.drawn ≡ times_in x s.views = λ x.
    sym (sum (λ (u : Account). times x u.drawn) refl (λ u h e. ap (times x) (h.undrawn e))) in (
      me.0,
      keeps,
      tt,
      unchanged size s DRAWN id me r (same_there s.words DRAWN) at,
      record {
        same = refl;
        once = subst (λ (z : ℕ). IsOneBelow z (λ x. times x me.0.drawn)) d
            (one_same (drawn_in s.views) (λ x. times_in x s.views) (λ x. times x me.0.drawn)
            g.once same);
        within = omega arith;
        found_is = omega arith;
        late = λ some_marks. sym d ∙ (late (omega arith) ∙ sym limit);
      },
    )

pub closing : (size : Size) (slots id : ℕ) (me : Mine) → me.0.seats ≡ size.seats →
    Allows (Kept size) slots id me LEAST (λ n. n) (λ found _. Closed me.0 found)
closing size slots id me all s r _ at _ =
    let g = r.given in let word : ℕ = get_or s.words LEAST 0 in
    let told : (x : ℕ) → told_in x s.views ≡ times x me.0.told = λ x.
    alone size id me.0 (get_or s.words DRAWN 0) s.views g at all
    (λ (u : Account). times x u.told) refl (λ u h e. ap (times x) (h.untold e)) in
    let mine = fits word s.views r.least id me.0 at in
    let of_mine : (x : ℕ) → IsAmongTold s.views x → IsOfAccount me.0 x = λ x t.
    let e = told x in ⊎_elim (λ p. inl p) (λ p. inr (omega arith)) t in (
      me.0,
      keeps,
      tt,
      unchanged size s LEAST id me r (same_there s.words LEAST) at,
      record {
        told = mine.told;
        answered = mine.answered;
        found_is = of_mine word r.least.among;
        answers = All-weaker (IsAmongTold s.views) (IsOfAccount me.0) of_mine me.0.answered
            mine.answers;
      },
    )
