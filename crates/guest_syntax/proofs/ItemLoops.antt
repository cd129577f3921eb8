-- Items one after the other, as a loop reads them.
use Rattle.std.proofs.Common.{◌≡◌, ℕ, zero, suc, ◌<◌, List, [], ◌∷◌, ◌++◌, length, map, Some, None, refl, sym, ap, ◌∙◌, append_assoc, arith}
use Rattle.std.proofs.lemmas.List.{append-nil, map_push}
use Rattle.guest_syntax.specs.{Tokens.Token, declared.error.SyntaxError.SyntaxError}
use Rattle.guest_syntax.specs.reader.{Gives.Fails, Items.{Turn, many_by, many, all_from}}
use Rattle.guest_syntax.specs.reader.{Reads.Read, Scanner.◌>>=◌}
use Rattle.guest_syntax.proofs.NextToken.{fails_then}

-- what was read before, and what is still read
abbrev pub with_front : {A : Type 0} → List A → Read (List A) → Read (List A)
with_front front read = read >>= λ x. Some (front ++ x.0, x.1)

-- from here on the turns give the whole
pub record Goes {A : Type 0} (turn : Turn A) (front : List A) (ts : List Token)
    (total : Read (List A)) : Type 0 where
  pub room : ℕ
  pub enough : length ts < room
  pub same : with_front front (many turn room ts) ≡ total

nothing_before : {A : Type 0} (r : Read (List A)) → with_front [] r ≡ r
nothing_before (Some x) = refl
nothing_before None = refl

pub begins : {A : Type 0} (turn : Turn A) (ts : List Token) → Goes turn [] ts (all_from turn ts)
unfolding all_from
begins turn ts = record {
  room = suc (length ts);
  enough = omega arith;
  same = nothing_before (many turn (suc (length ts)) ts);
}

regroup : {A : Type 0} (front : List A) (a : A) (r : Read (List A))
    → with_front front (r >>= λ x. Some (a ∷ x.0, x.1)) ≡ with_front (front ++ a ∷ []) r
regroup {A = A} front a (Some x) = ap (λ (ns : List A). Some (ns, x.1)) (simp append_assoc)
regroup front a None = refl

pub goes_on_by : {A : Type 0} (turn : Turn A) (front : List A) (ts rest : List Token) (a : A)
    (total : Read (List A)) (room : ℕ)
    → turn ts ≡ Some (Some a, rest) → length rest < length ts → length ts < room
    → with_front front (many turn room ts) ≡ total → Goes turn (front ++ a ∷ []) rest total
unfolding many
goes_on_by turn front ts rest a total zero e shorter enough same = absurd (omega arith)
goes_on_by turn front ts rest a total (suc n) e shorter enough same =
    record {
      room = n;
      enough = omega arith;
      same = sym (regroup front a (many turn n rest)) ∙
          (ap (λ o. with_front front (o >>= λ x. many_by (many turn n) x.0 x.1)) (sym e) ∙ same);
    }

pub goes_on : {A X : Type 0} {turn : Turn A} (view : X → A) (before : List X) {after : List X}
    {ts rest : List Token} {x : X} {total : Read (List A)}
    → Goes turn (map view before) ts total → after ≡ before ++ x ∷ []
    → turn ts ≡ Some (Some (view x), rest) → length rest < length ts
    → Goes turn (map view after) rest total
goes_on {turn = turn} view before {ts = ts} {rest = rest} {x = x} {total = total} g is e shorter =
    rw (is, map_push view before x)
    (goes_on_by turn (map view before) ts rest (view x) total g.room e shorter g.enough g.same)

is_done_by : {A : Type 0} (turn : Turn A) (front : List A) (ts rest : List Token)
    (total : Read (List A)) (room : ℕ)
    → turn ts ≡ Some (None, rest) → length ts < room → with_front front (many turn room ts) ≡ total
    → total ≡ Some (front, rest)
unfolding many
is_done_by turn front ts rest total zero e enough same = absurd (omega arith)
is_done_by {A = A} turn front ts rest total (suc n) e enough same =
    sym same ∙ (ap (λ o. with_front front (o >>= λ x. many_by (many turn n) x.0 x.1)) e ∙
    ap (λ (ns : List A). Some (ns, rest)) (append-nil front))

pub is_done : {A : Type 0} {turn : Turn A} {front : List A} {ts rest : List Token}
    {total : Read (List A)}
    → Goes turn front ts total → turn ts ≡ Some (None, rest) → total ≡ Some (front, rest)
is_done {turn = turn} {front = front} {ts = ts} {rest = rest} {total = total} g e =
    is_done_by turn front ts rest total g.room e g.enough g.same

stops_by : {A : Type 0} (turn : Turn A) (front : List A) (ts : List Token) (total : Read (List A))
    (room : ℕ)
    → with_front front (many turn room ts) ≡ total → turn ts ≡ None → total ≡ None
unfolding many
stops_by turn front ts total zero same e = sym same
stops_by turn front ts total (suc n) same e =
    sym same ∙ ap (λ o. with_front front (o >>= λ x. many_by (many turn n) x.0 x.1)) e

pub stops : {A : Type 0} {turn : Turn A} {front : List A} {ts : List Token}
    {total : Read (List A)} (e : SyntaxError)
    → Goes turn front ts total → Fails e (turn ts) → Fails e total
stops {turn = turn} {front = front} {ts = ts} {total = total} e g h =
    fails_then e (turn ts) total (stops_by turn front ts total g.room g.same) h
