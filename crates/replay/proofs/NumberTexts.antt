-- What numbers and counts look like.
use Rattle.std.proofs.Common.{◌≡◌, ◌≢◌, ◌⊎◌, ℕ, ◌-◌, ◌<◌, ◌≤◌, ◌^◌, true, false, ◌&&◌, ◌==◌, List, [], ◌∷◌, length, refl, ap, ◌∙◌, sym, subst, arith, inl, inr, decimal, get_or, codes, min, Bool, not}
use Rattle.std.specs.{Char.is_ascii_digit, List.{All, list_all}, Str.{IsUtf8, all_ascii_digits}}
use Rattle.std.{specs.Str.Parse.{AllDigits, IsNumeral, digits_value}, proofs.lemmas.Bool.cases_lt}
use Rattle.std.proofs.lemmas.Bool.Decides.{nat_tests}
use Rattle.std.proofs.lemmas.Fmt.{decimal_is_IsNumeral, first_decimal, decimal-digits_value, decimal_digit, decimal_injective, IsAscii-from_digits}
use Rattle.std.proofs.lemmas.{List.Elements.All-from_get_or, Str.IsUtf8-from_ascii}
use Rattle.std.proofs.lemmas.Str.Parse.{IsNumeralModel, digit_at, numerals_by_value, tells_all_ascii_digits}
use Rattle.replay.specs.Spelling.{SpellsNumber, SpellsCount}

own : IsNumeralModel (AllDigits 10) (digits_value 10)
own = record { to = λ ds h. h; from = λ ds h. h; same = λ ds h. refl }

-- no byte that is no digit is in digits
pub digits_without : (ds : List ℕ) (c : ℕ) → AllDigits 10 ds → (c < 48) ⊎ (57 < c) →
    All (λ b. (b == c) ≡ false) ds
digits_without ds c digits apart = All-from_get_or (λ b. (b == c) ≡ false) ds 0 (λ i l.
    let at = digit_at ds i digits l in
    elim apart [
      | inl low ↦ grind (arith, nat_tests, at.0, at.1, low)
      | inr high ↦
          grind (arith, nat_tests, at.0, at.1, high)
    ])

pub number_digits : (text : List ℕ) (t : ℕ) → SpellsNumber text t → IsNumeral 10 text
number_digits text t s =
    subst (IsNumeral 10) (sym s.written) (decimal_is_IsNumeral t (omega (arith, s.small))).0

-- a text is one number, and one count
pub number_once : (text : List ℕ) (s t : ℕ) → SpellsNumber text s → SpellsNumber text t → s ≡ t
number_once text s t a b =
    decimal_injective s t (omega (arith, a.small)) (omega (arith, b.small))
    (sym a.written ∙ b.written)

pub count_once : (text : List ℕ) (m n : ℕ) → SpellsCount text m → SpellsCount text n → m ≡ n
count_once text m n a b = a.value ∙ sym b.value

-- a number above 0 in decimal is a count
pub decimal_counts : (n : ℕ) → 0 < n → n < 2 ^ 64 → SpellsCount (decimal n) n
decimal_counts n some fits = record {
  digits = (decimal_is_IsNumeral n fits).0;
  first = λ e. let high = first_decimal n some fits in omega (arith, high, e);
  value = sym (decimal_is_IsNumeral n fits).1;
}

-- a small count is the number in decimal
pub count_written : (text : List ℕ) (n : ℕ) → SpellsCount text n → n < 2 ^ 64 → text ≡ decimal n
count_written text n s fits =
    sym (decimal-digits_value own text s.digits.1 s.digits.0 (λ e. absurd (s.first e))
    (omega (arith, s.value, fits)))
    ∙ ap decimal (sym s.value)

-- the one number with a zero first is 0
pub zero_or_count : (text : List ℕ) (t : ℕ) → SpellsNumber text t →
    (text ≡ codes "0") ⊎ SpellsCount text t
zero_or_count text t s = elim (cases_lt 0 t) [
  | inl some ↦ inr
      (subst (λ ds. SpellsCount ds t) (sym s.written)
      (decimal_counts t some (omega (arith, s.small))))
  | inr none ↦
      (let zero : t ≡ 0 = omega (arith, none) in
      inl (s.written ∙ ap decimal zero ∙ decimal_digit 0 (omega arith)))
]

pub zero_is_number : (text : List ℕ) → text ≡ codes "0" → SpellsNumber text 0
zero_is_number text e =
    record { small = omega arith; written = e ∙ sym (decimal_digit 0 (omega arith)) }

pub count_is_number : (text : List ℕ) (n : ℕ) → SpellsCount text n → n < 256 → SpellsNumber text n
count_is_number text n s small =
    record { small = small; written = count_written text n s (omega (arith, small)) }

pub utf8_numeral : (text : List ℕ) → IsNumeral 10 text → IsUtf8 text
utf8_numeral text h = IsUtf8-from_ascii text (IsAscii-from_digits text h.1)

-- the test of each byte
all_is : (text : List ℕ) → list_all is_ascii_digit text ≡ all_ascii_digits text
all_is [] = refl
all_is (b ∷ text) = ap (λ r. is_ascii_digit b && r) (all_is text)

digits_model : IsNumeralModel (λ ds. all_ascii_digits ds ≡ true) (digits_value 10)
digits_model = numerals_by_value (λ ds. all_ascii_digits ds ≡ true) tells_all_ascii_digits

pub digits_when : (text : List ℕ) → list_all is_ascii_digit text ≡ true → AllDigits 10 text
digits_when text e = digits_model.to text (sym (all_is text) ∙ e)

pub whether_digits : (text : List ℕ) → AllDigits 10 text → list_all is_ascii_digit text ≡ true
whether_digits text h = all_is text ∙ digits_model.from text h

-- a text that is no `0` is a number where it is a count below 256
pub number_by_count : (text : List ℕ) (held n : ℕ) → SpellsCount text n →
    held ≡ min n (2 ^ 64 - 1) → held < 256 → SpellsNumber text held
number_by_count text held n s e small =
    let same : held ≡ n = omega (arith, e, small) in
    subst (SpellsNumber text) (sym same) (count_is_number text n s (omega (arith, same, small)))

pub no_number : (text : List ℕ) (t : ℕ) → text ≢ codes "0" →
    ((n : ℕ) → SpellsCount text n → 256 ≤ n) → SpellsNumber text t → ⊥
no_number text t some large s = elim (zero_or_count text t s) [
  | inl only ↦ some only
  | inr count ↦ (let big = large t count in let small = s.small in omega (arith, big, small))
]

pub number_large : (text : List ℕ) (held m n : ℕ) → SpellsCount text m → SpellsCount text n →
    held ≡ min m (2 ^ 64 - 1) → 256 ≤ held → 256 ≤ n
number_large text held m n a b e large = let same = count_once text m n a b in
    omega (arith, e, large, same)

-- a text that is not empty and has no zero first
pub plain_first : (text : List ℕ) (empty test : Bool) → empty ≡ false →
    empty ≡ (length text == 0) → test ≡ true → test ≡ not (get_or text 0 0 == 48) →
    (0 < length text) × (get_or text 0 0 ≢ 48)
plain_first text empty test e is t first =
    (grind (arith, nat_tests, e, is), λ zero. grind (arith, nat_tests, t, first, zero))
