-- One token among bytes: what was read is spelled so, and what is spelled so is read.
use Rattle.std.specs.Prelude.{find, fold, nat_eq, ◌==◌}
use Rattle.std.proofs.Common.{◌≡◌, ◌≢◌, ℕ, ◌+◌, ◌-◌, ◌*◌, ◌^◌, min, ◌<◌, Bool, true, false, cond, List, [], ◌∷◌, ◌++◌, length, take, drop, Option, Some, None, refl, sym, ap, subst, ◌∙◌, arith, true≢false, lit<}
use Rattle.std.specs.Cmp.Derive.{both_true}
use Rattle.std.specs.List.{prefix_len, list_all, starts_with, AllByRecursion}
use Rattle.std.specs.{Option.option_map_or, Str.bytes_eq}
use Rattle.std.proofs.lemmas.{Bool.Decides.Decides-eqb, List.{take_at, take-append-drop}}
use Rattle.std.proofs.lemmas.List.Folds.{list_all-append}
use Rattle.std.proofs.lemmas.Slice.Eq.{bytes_eq-Decides, slice_eq-Decides}
use Rattle.guest_syntax.specs.Tokens.{TokenKind, name, keyword, number, symbol, bad, Spelling, IsLongest, IsIdentifier, keyword_text, symbol_text, value, is_letter, is_digit, is_name_byte}
use Rattle.guest_syntax.specs.declared.token.{Keyword.Keyword, Symbol.Symbol}
use Rattle.guest_syntax.specs.declared.token.TheConstants.{KEYWORDS, SYMBOLS}
use Rattle.guest_syntax.specs.reader.Scanner.{name_or_keyword, capped, symbol_at, kind_by, kind_at}
use Rattle.guest_syntax.proofs.BlankRuns.{Ascii}
use Rattle.guest_syntax.proofs.ByteClasses.{and_parts, or_left, or_right, letter_no_digit, name_byte_ascii, digit_ascii}
use Rattle.guest_syntax.proofs.LongestPrefix.{Front, front, prefix_is}
use Rattle.guest_syntax.proofs.OptionCases.{map_some, some_is}
use Rattle.guest_syntax.specs.declared.token.Keyword.TheVariants as keywords
use Rattle.guest_syntax.specs.declared.token.Symbol.TheVariants as symbols

-- ---- lists of bytes that pass

all_last : (p : ℕ → Bool) (xs : List ℕ) (b : ℕ) → list_all p (xs ++ b ∷ []) ≡ true → p b ≡ true
all_last p xs b e =
    let last = (and_parts (list_all p xs) _ (sym (list_all-append p xs (b ∷ [])) ∙ e)).1 in
    (and_parts (p b) true last).0

all_then : (p : ℕ → Bool) (xs : List ℕ) (b : ℕ) → list_all p xs ≡ true → p b ≡ true
    → list_all p (xs ++ b ∷ []) ≡ true
all_then p xs b e h = list_all-append p xs (b ∷ []) ∙ both_true e (both_true h refl)

all_ascii : (p : ℕ → Bool) → ((b : ℕ) → p b ≡ true → b < 128) → (xs : List ℕ)
    → list_all p xs ≡ true → Ascii xs
all_ascii p f [] e = tt
all_ascii p f (x ∷ xs) e = let a = and_parts (p x) (list_all p xs) e in
    (f x a.0, all_ascii p f xs a.1)

letter_name : (b : ℕ) → is_letter b ≡ true → is_name_byte b ≡ true
letter_name b e = or_left (is_letter b) (is_digit b) e

digit_name : (b : ℕ) → is_digit b ≡ true → is_name_byte b ≡ true
digit_name b e = or_right (is_letter b) (is_digit b) e

identifier_all : (s : List ℕ) → IsIdentifier s → list_all is_name_byte s ≡ true
identifier_all [] h = elim h [ ]
identifier_all (b ∷ s) h = both_true (letter_name b h.0) h.1

pub keyword_is_identifier : (w : Keyword) → IsIdentifier (keyword_text w)
keyword_is_identifier keywords.Var = (refl, refl)
keyword_is_identifier w = (refl, refl)

first_is : (a b : ℕ) (xs ys : List ℕ) → a ∷ xs ≡ b ∷ ys → a ≡ b
first_is a b xs ys e = cc

symbol_head : (s : Symbol) (c : ℕ) (t : List ℕ) → symbol_text s ≡ c ∷ t → is_name_byte c ≡ false
symbol_head symbols.Equal c t e = subst (λ c. is_name_byte c ≡ false) (first_is 61 c _ t e) refl
symbol_head s c t e = subst (λ c. is_name_byte c ≡ false) (first_is _ c _ t e) refl

-- ---- words

find_some_by : {A : Type 0} (p : A → Bool) (y x : A) (o : Option A) (b : Bool) → p y ≡ b
    → (o ≡ Some x → p x ≡ true) → cond b (Some y) o ≡ Some x → p x ≡ true
find_some_by p y x o true h ih e = subst (λ z. p z ≡ true) (some_is y x e) h
find_some_by p y x o false h ih e = ih e

find_some : {A : Type 0} (p : A → Bool) (xs : List A) (x : A) → find p xs ≡ Some x → p x ≡ true
find_some p [] x e = absurd cc
find_some p (y ∷ ys) x e = find_some_by p y x (find p ys) (p y) refl (find_some p ys x) e

find_none_by : {A : Type 0} (y : A) (o : Option A) (b : Bool) → cond b (Some y) o ≡ None
    → (b ≡ false) × (o ≡ None)
find_none_by y o true e = absurd cc
find_none_by y o false e = (refl, e)

pub find_none : {A : Type 0} (p : A → Bool) (xs : List A) → find p xs ≡ None
    → AllByRecursion (λ x. p x ≡ false) xs
find_none p [] e = tt
find_none p (y ∷ ys) e = let h = find_none_by y (find p ys) (p y) e in (h.0, find_none p ys h.1)

each_keyword : (P : Keyword → Type 0) → AllByRecursion P KEYWORDS → (w : Keyword) → P w
each_keyword P h keywords.Var = h.0
each_keyword P h keywords.Mutex = h.1.0
each_keyword P h keywords.Cond = h.1.1.0
each_keyword P h keywords.Sem = h.1.1.1.0
each_keyword P h keywords.Thread = h.1.1.1.1.0
each_keyword P h keywords.Load = h.1.1.1.1.1.0
each_keyword P h keywords.Store = h.1.1.1.1.1.1.0
each_keyword P h keywords.Add = h.1.1.1.1.1.1.1.0
each_keyword P h keywords.Cas = h.1.1.1.1.1.1.1.1.0
each_keyword P h keywords.Lock = h.1.1.1.1.1.1.1.1.1.0
each_keyword P h keywords.Unlock = h.1.1.1.1.1.1.1.1.1.1.0
each_keyword P h keywords.Wait = h.1.1.1.1.1.1.1.1.1.1.1.0
each_keyword P h keywords.Signal = h.1.1.1.1.1.1.1.1.1.1.1.1.0
each_keyword P h keywords.Broadcast = h.1.1.1.1.1.1.1.1.1.1.1.1.1.0
each_keyword P h keywords.Acquire = h.1.1.1.1.1.1.1.1.1.1.1.1.1.1.0
each_keyword P h keywords.Release = h.1.1.1.1.1.1.1.1.1.1.1.1.1.1.1.0
each_keyword P h keywords.Set = h.1.1.1.1.1.1.1.1.1.1.1.1.1.1.1.1.0
each_keyword P h keywords.If = h.1.1.1.1.1.1.1.1.1.1.1.1.1.1.1.1.1.0
each_keyword P h keywords.Else = h.1.1.1.1.1.1.1.1.1.1.1.1.1.1.1.1.1.1.0
each_keyword P h keywords.Repeat = h.1.1.1.1.1.1.1.1.1.1.1.1.1.1.1.1.1.1.1.0
each_keyword P h keywords.Leave = h.1.1.1.1.1.1.1.1.1.1.1.1.1.1.1.1.1.1.1.1.0
each_keyword P h keywords.Assert = h.1.1.1.1.1.1.1.1.1.1.1.1.1.1.1.1.1.1.1.1.1.0

abbrev looked_up : List ℕ → Option Keyword
looked_up text = find (λ w. bytes_eq (keyword_text w) text) KEYWORDS

no_keyword : (text : List ℕ) → looked_up text ≡ None → (w : Keyword) → text ≢ keyword_text w
no_keyword text e w is =
    let none = each_keyword (λ w. bytes_eq (keyword_text w) text ≡ false)
    (find_none (λ w. bytes_eq (keyword_text w) text) KEYWORDS e) w in
    true≢false (sym ((bytes_eq-Decides (keyword_text w) text).1 (sym is)) ∙ none)

keyword_found : (text : List ℕ) (w : Keyword) → looked_up text ≡ Some w → text ≡ keyword_text w
keyword_found text w e = sym ((bytes_eq-Decides (keyword_text w) text).0
    (find_some (λ w. bytes_eq (keyword_text w) text) KEYWORDS w e))

keyword_itself : (w : Keyword) → looked_up (keyword_text w) ≡ Some w
keyword_itself keywords.Var = refl
keyword_itself w = refl

not_found : (text : List ℕ) (o : Option Keyword) → looked_up text ≡ o
    → ((w : Keyword) → text ≢ keyword_text w) → o ≡ None
not_found text None e h = refl
not_found text (Some w) e h = absurd (h w (keyword_found text w e))

-- an identifier is a name or a word
spelt_by : (text : List ℕ) (o : Option Keyword) → looked_up text ≡ o → IsIdentifier text
    → Spelling (option_map_or keyword o (name text)) text
spelt_by text None e h = (refl, h, no_keyword text e)
spelt_by text (Some w) e h = keyword_found text w e

identifier_spelt : (text : List ℕ) → IsIdentifier text → Spelling (name_or_keyword text) text
identifier_spelt text h = spelt_by text (looked_up text) refl h

-- ---- what can't go on

pub false_true : {b : Bool} → b ≡ false → b ≡ true → ⊥
false_true e h = true≢false (sym h ∙ e)

-- an identifier that stops at its end
name_longest : (c : ℕ) (text rest : List ℕ) → is_letter c ≡ true
    → ((b : ℕ) (more : List ℕ) → rest ≡ b ∷ more → is_name_byte b ≡ false)
    → IsLongest (c ∷ text) rest
name_longest c text rest l next b more e (name s) h =
    false_true (next b more e) (all_last is_name_byte (c ∷ text) b
    (subst (λ t. list_all is_name_byte t ≡ true) (sym h.0) (identifier_all s h.1)))
name_longest c text rest l next b more e (keyword w) h =
    false_true (next b more e) (all_last is_name_byte (c ∷ text) b
    (subst (λ t. list_all is_name_byte t ≡ true) (sym h)
    (identifier_all (keyword_text w) (keyword_is_identifier w))))
name_longest c text rest l next b more e (number n) h =
    false_true (next b more e) (digit_name b (all_last is_digit (c ∷ text) b h.1))
name_longest c text rest l next b more e (symbol s) h =
    false_true (symbol_head s c (text ++ b ∷ []) (sym h)) (letter_name c l)
name_longest c text rest l next b more e bad h = h

identifier_head : (c : ℕ) (text s : List ℕ) → c ∷ text ≡ s → IsIdentifier s → is_letter c ≡ true
identifier_head c text [] e h = absurd cc
identifier_head c text (b ∷ s) e h = let is : b ≡ c = cc in subst (λ c. is_letter c ≡ true) is h.0

number_longest : (c : ℕ) (text rest : List ℕ) → is_digit c ≡ true
    → ((b : ℕ) (more : List ℕ) → rest ≡ b ∷ more → is_digit b ≡ false) → IsLongest (c ∷ text) rest
number_longest c text rest d next b more e (name s) h =
    false_true (letter_no_digit c (identifier_head c (text ++ b ∷ []) s h.0 h.1)) d
number_longest c text rest d next b more e (keyword w) h =
    false_true (letter_no_digit c (identifier_head c (text ++ b ∷ []) (keyword_text w) h
    (keyword_is_identifier w))) d
number_longest c text rest d next b more e (number n) h =
    false_true (next b more e) (all_last is_digit (c ∷ text) b h.1)
number_longest c text rest d next b more e (symbol s) h =
    false_true (symbol_head s c (text ++ b ∷ []) (sym h)) (digit_name c d)
number_longest c text rest d next b more e bad h = h

-- ---- numbers

abbrev limit : ℕ
limit = 2 ^ 64 - 1

capped_from : (xs : List ℕ) (n m : ℕ) → n ≡ min m limit
    → fold (λ n b. min (min (n * 10) limit + (b - 48)) limit) n xs
    ≡ min (fold (λ n b. 10 * n + (b - 48)) m xs) limit
capped_from [] n m e = e
capped_from (b ∷ xs) n m e = capped_from xs (min (min (n * 10) limit + (b - 48)) limit)
    (10 * m + (b - 48)) (omega arith)

capped_is : (xs : List ℕ) → capped xs ≡ min (value xs) limit
capped_is xs = capped_from xs 0 0 (omega arith)

-- ---- signs

symbol_parts : (s : Symbol) → (c : ℕ) × (t : List ℕ) × (symbol_text s ≡ c ∷ t)
symbol_parts symbols.Equal = (_, _, refl)
symbol_parts s = (_, _, refl)

-- the symbol that this one and `=` after it are
abbrev with_equals : Symbol → Option Symbol
with_equals symbols.Less = Some symbols.LessOrEqual
with_equals symbols.Greater = Some symbols.GreaterOrEqual
with_equals symbols.Assign = Some symbols.Equal
with_equals _ = None

-- a sign that is another and one byte more
longer : (u g : Symbol) (b : ℕ) → symbol_text u ≡ symbol_text g ++ b ∷ []
    → (with_equals g ≡ Some u) × (b ≡ 61)
longer symbols.Equal symbols.Assign b e = (refl, cc)
longer symbols.LessOrEqual symbols.Less b e = (refl, cc)
longer symbols.GreaterOrEqual symbols.Greater b e = (refl, cc)
longer u symbols.Equal b e = absurd (omega (arith, first_is _ _ _ _ e, ap length e))
longer u g b e = absurd (omega (arith, first_is _ _ _ _ e, ap length e))

abbrev NoLonger : Symbol → List ℕ → Type 0
NoLonger g rest = (b : ℕ) (more : List ℕ) → rest ≡ b ∷ more → (u : Symbol)
    → symbol_text u ≡ symbol_text g ++ b ∷ [] → ⊥

symbol_longest_by : (g : Symbol) (rest : List ℕ) (c : ℕ) (t : List ℕ) → symbol_text g ≡ c ∷ t
    → NoLonger g rest → (b : ℕ) (more : List ℕ) → rest ≡ b ∷ more → (k : TokenKind)
    → Spelling k (symbol_text g ++ b ∷ []) → ⊥
symbol_longest_by g rest c t is none b more e (name s) h =
    false_true (symbol_head g c t is) (letter_name c
    (identifier_head c (t ++ b ∷ []) s (ap (λ u. u ++ b ∷ []) (sym is) ∙ h.0) h.1))
symbol_longest_by g rest c t is none b more e (keyword w) h =
    false_true (symbol_head g c t is) (letter_name c
    (identifier_head c (t ++ b ∷ []) (keyword_text w) (ap (λ u. u ++ b ∷ []) (sym is) ∙ h)
    (keyword_is_identifier w)))
symbol_longest_by g rest c t is none b more e (number n) h =
    false_true (symbol_head g c t is) (digit_name c
    (and_parts (is_digit c) _ (subst (λ u. list_all is_digit (u ++ b ∷ []) ≡ true) is h.1)).0)
symbol_longest_by g rest c t is none b more e (symbol u) h = none b more e u (sym h)
symbol_longest_by g rest c t is none b more e bad h = h

symbol_longest : (g : Symbol) (rest : List ℕ) → NoLonger g rest → IsLongest (symbol_text g) rest
symbol_longest g rest none = let p = symbol_parts g in symbol_longest_by g rest p.0 p.1 p.2 none

symbol_starts : (s : List ℕ) (g : Symbol) → symbol_at s ≡ Some g
    → take (length (symbol_text g)) s ≡ symbol_text g
symbol_starts s g e = sym ((slice_eq-Decides Decides-eqb (symbol_text g)
    (take (length (symbol_text g)) s) _ refl).0
    (find_some (λ g. starts_with nat_eq s (symbol_text g)) SYMBOLS g e))

-- a symbol and `=` after it is not read as the symbol alone
not_alone : (g u : Symbol) (more : List ℕ) → with_equals g ≡ Some u
    → symbol_at (symbol_text g ++ 61 ∷ more) ≡ Some g → ⊥
not_alone symbols.Less u more l e = let same : symbols.LessOrEqual ≡ symbols.Less =
    some_is symbols.LessOrEqual symbols.Less e in absurd cc
not_alone symbols.Greater u more l e = let same : symbols.GreaterOrEqual ≡ symbols.Greater =
    some_is symbols.GreaterOrEqual symbols.Greater e in absurd cc
not_alone symbols.Assign u more l e = let same : symbols.Equal ≡ symbols.Assign =
    some_is symbols.Equal symbols.Assign e in absurd cc
not_alone g u more l e = absurd cc

symbol_no_longer : (s rest : List ℕ) (g : Symbol) → s ≡ symbol_text g ++ rest
    → symbol_at s ≡ Some g → NoLonger g rest
symbol_no_longer s rest g is e b more re u h =
    let l = longer u g b h in
    let whole : s ≡ symbol_text g ++ 61 ∷ more =
    is ∙ ap (λ r. symbol_text g ++ r) (re ∙ ap (λ b. b ∷ more) l.1) in
    not_alone g u more l.0 (sym (ap symbol_at whole) ∙ e)

symbol_ascii : (s : Symbol) → Ascii (symbol_text s)
symbol_ascii symbols.Equal = (lit< tt, (lit< tt, tt))
symbol_ascii symbols.NotEqual = (lit< tt, (lit< tt, tt))
symbol_ascii symbols.LessOrEqual = (lit< tt, (lit< tt, tt))
symbol_ascii symbols.GreaterOrEqual = (lit< tt, (lit< tt, tt))
symbol_ascii s = (lit< tt, tt)

-- ---- what was read is spelled so

pub record Reads (s : List ℕ) (x : TokenKind × ℕ) : Type 0 where
  pub spelt : Spelling x.0 (take x.1 s)
  pub longest : IsLongest (take x.1 s) (drop x.1 s)
  pub ascii : Ascii (take x.1 s)

front_head : (p : ℕ → Bool) (b : ℕ) (bs text rest : List ℕ) → Front p (b ∷ bs) text rest
    → p b ≡ true → (t : List ℕ) × (text ≡ b ∷ t)
front_head p b bs [] rest f e = absurd (false_true (f.next b bs (sym f.parts)) e)
front_head p b bs (c ∷ t) rest f e = let is : b ≡ c =
    (let h = f.parts in cc) in (t, ap (λ c. c ∷ t) (sym is))

name_reads : (b : ℕ) (bs text rest : List ℕ) → is_letter b ≡ true
    → Front is_name_byte (b ∷ bs) text rest → Spelling (name_or_keyword text) text
    × IsLongest text rest × Ascii text
name_reads b bs text rest l f =
    let h = front_head is_name_byte b bs text rest f (letter_name b l) in
    let all = and_parts (is_name_byte b) (list_all is_name_byte h.0)
    (subst (λ t. list_all is_name_byte t ≡ true) h.1 f.all) in (
      identifier_spelt text (subst IsIdentifier (sym h.1) (l, all.1)),
      subst (λ t. IsLongest t rest) (sym h.1) (name_longest b h.0 rest l f.next),
      all_ascii is_name_byte name_byte_ascii text f.all,
    )

number_reads : (b : ℕ) (bs text rest : List ℕ) → is_digit b ≡ true
    → Front is_digit (b ∷ bs) text rest → Spelling (number (capped text)) text
    × IsLongest text rest × Ascii text
number_reads b bs text rest d f =
    let h = front_head is_digit b bs text rest f d in
    let some : 0 < length text = subst (λ t. 0 < length t) (sym h.1) (omega arith) in (
      (some, f.all, capped_is text),
      subst (λ t. IsLongest t rest) (sym h.1)
          (number_longest b h.0 rest d f.next),
      all_ascii is_digit digit_ascii text f.all,
    )

kind_by_reads : (b : ℕ) (bs : List ℕ) (l d : Bool) → is_letter b ≡ l → is_digit b ≡ d
    → (x : TokenKind × ℕ) → kind_by l d (b ∷ bs) ≡ Some x → Reads (b ∷ bs) x
kind_by_reads b bs true d il id x e =
    let r = name_reads b bs _ _ il (front is_name_byte (b ∷ bs)) in
    subst (Reads (b ∷ bs)) (some_is _ x e) (record { spelt = r.0; longest = r.1; ascii = r.2 })
kind_by_reads b bs false true il id x e =
    let r = number_reads b bs _ _ id (front is_digit (b ∷ bs)) in
    subst (Reads (b ∷ bs)) (some_is _ x e) (record { spelt = r.0; longest = r.1; ascii = r.2 })
kind_by_reads b bs false false il id x e =
    let g = map_some (λ s. (symbol s, length (symbol_text s))) (symbol_at (b ∷ bs)) x e in
    let is = symbol_starts (b ∷ bs) g.0 g.1 in
    let rest = drop (length (symbol_text g.0)) (b ∷ bs) in
    let whole : b ∷ bs ≡ symbol_text g.0 ++ rest =
    sym (take-append-drop (length (symbol_text g.0)) (b ∷ bs)) ∙ ap (λ t. t ++ rest) is in
    subst (Reads (b ∷ bs)) g.2 (record {
      spelt = is;
      longest = subst (λ t. IsLongest t rest) (sym is)
          (symbol_longest g.0 rest (symbol_no_longer (b ∷ bs) rest g.0 whole g.1));
      ascii = subst Ascii (sym is) (symbol_ascii g.0);
    })

pub kind_reads : (b : ℕ) (bs : List ℕ) (x : TokenKind × ℕ) → kind_at (b ∷ bs) ≡ Some x → Reads (b ∷ bs) x
unfolding kind_at
kind_reads b bs x e = kind_by_reads b bs (is_letter b) (is_digit b) refl refl x e

-- ---- what is spelled so is read

not_true : (x : Bool) → (x ≡ true → ⊥) → x ≡ false
not_true true h = absurd (h refl)
not_true false h = refl

identifier_more : (text : List ℕ) (b : ℕ) → IsIdentifier text → is_name_byte b ≡ true
    → IsIdentifier (text ++ b ∷ [])
identifier_more [] b h e = elim h [ ]
identifier_more (c ∷ t) b h e = (h.0, all_then is_name_byte t b h.1 e)

identifier_again : (text rest : List ℕ) → IsIdentifier text → IsLongest text rest
    → kind_at (text ++ rest) ≡ Some (name_or_keyword text, length text)
unfolding kind_at
identifier_again [] rest h longest = elim h [ ]
identifier_again (c ∷ t) rest h longest =
    let next : (b : ℕ) (more : List ℕ) → rest ≡ b ∷ more → is_name_byte b ≡ false =
    λ b more e. not_true (is_name_byte b)
    (λ n. longest b more e (name_or_keyword ((c ∷ t) ++ b ∷ []))
    (identifier_spelt ((c ∷ t) ++ b ∷ []) (identifier_more (c ∷ t) b h n))) in
    let len : prefix_len is_name_byte ((c ∷ t) ++ rest) ≡ length (c ∷ t) =
    prefix_is is_name_byte (c ∷ t) rest (identifier_all (c ∷ t) h) next in
    let taken : take (length (c ∷ t)) ((c ∷ t) ++ rest) ≡ c ∷ t =
    take_at (c ∷ t) rest (length (c ∷ t)) refl in
    ap (λ l. kind_by l (is_digit c) ((c ∷ t) ++ rest)) h.0
    ∙ ap (λ n. Some (name_or_keyword (take n ((c ∷ t) ++ rest)), n)) len
    ∙ ap (λ u. Some (name_or_keyword u, length (c ∷ t))) taken

name_is_name : (s : List ℕ) → ((w : Keyword) → s ≢ keyword_text w) → name_or_keyword s ≡ name s
name_is_name s h = ap (λ o. option_map_or keyword o (name s)) (not_found s (looked_up s) refl h)

number_again : (n : ℕ) (text rest : List ℕ) → Spelling (number n) text → IsLongest text rest
    → kind_at (text ++ rest) ≡ Some (number n, length text)
unfolding kind_at
number_again n [] rest h longest = absurd (omega (arith, h.0))
number_again n (c ∷ t) rest h longest =
    let next : (b : ℕ) (more : List ℕ) → rest ≡ b ∷ more → is_digit b ≡ false =
    λ b more e. not_true (is_digit b) (λ d. longest b more e
    (number (min (value ((c ∷ t) ++ b ∷ [])) limit))
    (omega arith, all_then is_digit (c ∷ t) b h.1 d, refl)) in
    let len : prefix_len is_digit ((c ∷ t) ++ rest) ≡ length (c ∷ t) =
    prefix_is is_digit (c ∷ t) rest h.1 next in
    let taken : take (length (c ∷ t)) ((c ∷ t) ++ rest) ≡ c ∷ t =
    take_at (c ∷ t) rest (length (c ∷ t)) refl in
    let digit : is_digit c ≡ true = (and_parts (is_digit c) (list_all is_digit t) h.1).0 in
    let letter : is_letter c ≡ false = not_true (is_letter c)
    (λ l. false_true (letter_no_digit c l) digit) in
    ap (λ l. kind_by l (is_digit c) ((c ∷ t) ++ rest)) letter
    ∙ ap (λ d. kind_by false d ((c ∷ t) ++ rest)) digit
    ∙ ap (λ n. Some (number (capped (take n ((c ∷ t) ++ rest))), n)) len
    ∙ ap (λ u. Some (number (capped u), length (c ∷ t))) taken
    ∙ ap (λ n. Some (number n, length (c ∷ t))) (capped_is (c ∷ t) ∙ sym h.2)

-- a byte after a symbol that is not read with it
no_equals : (u : Symbol) (c b : ℕ) (more : List ℕ) → c ∷ 61 ∷ [] ≡ symbol_text u
    → IsLongest (c ∷ []) (b ∷ more) → (61 == b) ≡ false
no_equals u c b more is longest = not_true (61 == b) (λ e. longest b more refl (symbol u)
    (ap (λ b. c ∷ b ∷ []) (sym ((Decides-eqb 61 b).0 e)) ∙ is))

symbol_again : (g : Symbol) (rest : List ℕ) → IsLongest (symbol_text g) rest
    → kind_at (symbol_text g ++ rest) ≡ Some (symbol g, length (symbol_text g))
unfolding kind_at
symbol_again symbols.Less (b ∷ more) longest =
    rw (no_equals symbols.LessOrEqual 60 b more refl longest) refl
symbol_again symbols.Greater (b ∷ more) longest =
    rw (no_equals symbols.GreaterOrEqual 62 b more refl longest) refl
symbol_again symbols.Assign (b ∷ more) longest =
    rw (no_equals symbols.Equal 61 b more refl longest) refl
symbol_again g rest longest = refl

pub kind_again : (k : TokenKind) (text rest : List ℕ) → Spelling k text → IsLongest text rest
    → kind_at (text ++ rest) ≡ Some (k, length text)
kind_again (name s) text rest h longest =
    identifier_again text rest (subst IsIdentifier (sym h.0) h.1) longest ∙
    ap (λ k. Some (k, length text)) (ap name_or_keyword h.0 ∙ name_is_name s h.2)
kind_again (keyword w) text rest h longest =
    identifier_again text rest (subst IsIdentifier (sym h) (keyword_is_identifier w)) longest ∙
    ap (λ k. Some (k, length text)) (ap name_or_keyword h ∙
    ap (λ o. option_map_or keyword o (name (keyword_text w))) (keyword_itself w))
kind_again (number n) text rest h longest = number_again n text rest h longest
kind_again (symbol g) text rest h longest =
    ap (λ t. kind_at (t ++ rest)) h ∙ symbol_again g rest (subst (λ t. IsLongest t rest) h longest)
    ∙ ap (λ t. Some (symbol g, length t)) (sym h)
kind_again bad text rest h longest = elim h [ ]
