-- The tokens that are read are those that the text spells.
use Rattle.std.specs.Prelude.{IsSome}
use Rattle.std.proofs.Common.{◌≡◌, ℕ, zero, suc, ◌<◌, Bool, true, false, List, [], ◌∷◌, ◌++◌, length, take, drop, Option, Some, None, refl, sym, ap, subst, ◌∙◌, arith}
use Rattle.std.specs.List.{list_all}
use Rattle.std.proofs.lemmas.List.{append-nil, take_at, drop_at, take-append-drop}
use Rattle.guest_syntax.specs.Place.{after}
use Rattle.guest_syntax.specs.Tokens.{TokenKind, name, keyword, number, symbol, bad, Token, Tokens, Begins, Spelling, IsIdentifier, keyword_text, symbol_text, blank, is_digit}
use Rattle.guest_syntax.specs.declared.{place.Pos.Pos, token.Symbol.Symbol}
use Rattle.guest_syntax.specs.reader.BlankBytes.{Stops, gap_step}
use Rattle.guest_syntax.specs.reader.Scanner.{◌>>=◌, skipped, kind_at, first_from, first, scan_with, scan, tokens_from}
use Rattle.guest_syntax.proofs.BlankRuns.{Ascii, ascii_append, ascii_parts, Gap, skip_takes, skip_again, stop_again}
use Rattle.guest_syntax.proofs.ByteClasses.{and_parts, letter_stops, digit_stops}
use Rattle.guest_syntax.proofs.{NoBadTokens.Clean, OptionCases.{bind_some, some_is}}
use Rattle.guest_syntax.proofs.ScannerProgress.{first_len}
use Rattle.guest_syntax.proofs.TokenSpelling.{kind_reads, kind_again, keyword_is_identifier}
use Rattle.guest_syntax.specs.declared.token.Symbol.TheVariants as symbols

-- ---- what is read is spelled

record Opens (at : Pos) (bytes : List ℕ) (x : Token × Pos × List ℕ) : Type 0 where
  begins : Begins at bytes x.0 x.2
  next_is : begins.next ≡ x.1
  ascii : Ascii x.2 → Ascii bytes

first_from_takes : (at p : Pos) (bytes rest : List ℕ) → Gap false at bytes (p, rest)
    → (x : Token × Pos × List ℕ) → first_from p rest ≡ Some (Some x) → Opens at bytes x
first_from_takes at p bytes [] g x e = absurd cc
first_from_takes at p bytes (b ∷ bs) g x e =
    let k = bind_some (kind_at (b ∷ bs)) _ _ e in
    let r = kind_reads b bs k.0 k.1 in
    let split = take-append-drop k.0.1 (b ∷ bs) in
    subst (Opens at bytes) (some_is _ x (some_is _ (Some x) k.2)) (record {
      begins = record {
        gap = g.gap;
        text = take k.0.1 (b ∷ bs);
        parts = g.parts ∙ ap (λ r. g.gap ++ r) (sym split);
        is_gap = g.is_gap ∙ ap (λ (s : Bool). Some s) g.stop.0;
        place = g.place;
        spelt = r.spelt;
        longest = r.longest;
        next = after p (take k.0.1 (b ∷ bs));
        next_is = refl;
      };
      next_is = refl;
      ascii = λ a. subst Ascii (sym g.parts)
          (ascii_append g.gap (b ∷ bs) g.ascii
          (subst Ascii split (ascii_append (take k.0.1 (b ∷ bs)) (drop k.0.1 (b ∷ bs)) r.ascii a)));
    })

first_takes : (at : Pos) (bytes : List ℕ) (x : Token × Pos × List ℕ)
    → first at bytes ≡ Some (Some x) → Opens at bytes x
unfolding first
first_takes at bytes x e =
    let s = bind_some (skipped false at bytes) _ _ e in
    first_from_takes at s.0.0 bytes s.0.1 (skip_takes bytes false at s.0 s.1) x s.2

-- at the end nothing but blanks is left
ends_by : (at p : Pos) (bytes rest : List ℕ) → Gap false at bytes (p, rest)
    → first_from p rest ≡ Some None → IsSome (blank false bytes) × Ascii bytes
ends_by at p bytes [] g e =
    let is : bytes ≡ g.gap = g.parts ∙ append-nil g.gap in (
      subst (λ o. IsSome o) (sym (ap (blank false) is ∙ g.is_gap)) refl,
      subst Ascii (sym is) g.ascii,
    )
ends_by at p bytes (b ∷ bs) g e = let k =
    bind_some (kind_at (b ∷ bs)) _ _ e in absurd (let h = some_is _ _ k.2 in cc)

ends : (at : Pos) (bytes : List ℕ) → first at bytes ≡ Some None → IsSome (blank false bytes)
    × Ascii bytes
unfolding first
ends at bytes e =
    let s = bind_some (skipped false at bytes) _ _ e in
    ends_by at s.0.0 bytes s.0.1 (skip_takes bytes false at s.0 s.1) s.2

scan_with_takes : (at : Pos) (bytes : List ℕ) (o : Option (Option (Token × Pos × List ℕ)))
    → first at bytes ≡ o → (more : Pos → List ℕ → List Token)
    → ((p : Pos) (bs : List ℕ) → length bs < length bytes → Clean (more p bs)
    → Tokens p bs (more p bs) × Ascii bs) → Clean (scan_with at o more)
    → Tokens at bytes (scan_with at o more) × Ascii bytes
scan_with_takes at bytes None e more ih c = absurd (let h = c.0 in cc)
scan_with_takes at bytes (Some None) e more ih c = ends at bytes e
scan_with_takes at bytes (Some (Some x)) e more ih c =
    let f = first_takes at bytes x e in
    let r = ih x.1 x.2 (first_len at bytes x e) c.1 in
    ((x.2, f.begins, subst (λ p. Tokens p x.2 (more x.1 x.2)) (sym f.next_is) r.0), f.ascii r.1)

scan_takes : (n : ℕ) (at : Pos) (bytes : List ℕ) → length bytes < n → Clean (scan n at bytes)
    → Tokens at bytes (scan n at bytes) × Ascii bytes
unfolding scan
scan_takes zero at bytes lt c = absurd (omega arith)
scan_takes (suc n) at bytes lt c = scan_with_takes at bytes (first at bytes) refl
    (λ p bs. scan n p bs) (λ p bs less d. scan_takes n p bs (omega arith) d) c

pub tokens_takes : (at : Pos) (bytes : List ℕ) → Clean (tokens_from at bytes)
    → Tokens at bytes (tokens_from at bytes) × Ascii bytes
unfolding tokens_from
tokens_takes at bytes c = scan_takes (suc (length bytes)) at bytes (omega arith) c

-- ---- what is spelled is read

record Head (text : List ℕ) : Type 0 where
  first : ℕ
  more : List ℕ
  is : text ≡ first ∷ more
  stops : gap_step false first ≡ Stops

identifier_head : (s : List ℕ) → IsIdentifier s → Head s
identifier_head [] h = elim h [ ]
identifier_head (b ∷ s) h = record { first = b; more = s; is = refl; stops = letter_stops b h.0 }

digits_head : (s : List ℕ) → 0 < length s → list_all is_digit s ≡ true → Head s
digits_head [] h a = absurd (omega arith)
digits_head (b ∷ s) h a = record {
  first = b;
  more = s;
  is = refl;
  stops = digit_stops b (and_parts (is_digit b) (list_all is_digit s) a).0;
}

symbol_head : (s : Symbol) → Head (symbol_text s)
symbol_head symbols.Equal = record { first = 61; more = 61 ∷ []; is = refl; stops = refl }
symbol_head symbols.NotEqual = record { first = 33; more = 61 ∷ []; is = refl; stops = refl }
symbol_head symbols.LessOrEqual = record { first = 60; more = 61 ∷ []; is = refl; stops = refl }
symbol_head symbols.GreaterOrEqual = record { first = 62; more = 61 ∷ []; is = refl; stops = refl }
symbol_head symbols.Less = record { first = 60; more = []; is = refl; stops = refl }
symbol_head symbols.Greater = record { first = 62; more = []; is = refl; stops = refl }
symbol_head symbols.Plus = record { first = 43; more = []; is = refl; stops = refl }
symbol_head symbols.Minus = record { first = 45; more = []; is = refl; stops = refl }
symbol_head symbols.Times = record { first = 42; more = []; is = refl; stops = refl }
symbol_head symbols.Assign = record { first = 61; more = []; is = refl; stops = refl }
symbol_head symbols.Open = record { first = 123; more = []; is = refl; stops = refl }
symbol_head symbols.Close = record { first = 125; more = []; is = refl; stops = refl }
symbol_head symbols.End = record { first = 59; more = []; is = refl; stops = refl }

head_of : (k : TokenKind) (text : List ℕ) → Spelling k text → Head text
head_of (name s) text h = subst Head (sym h.0) (identifier_head s h.1)
head_of (keyword w) text h = subst Head (sym h)
    (identifier_head (keyword_text w) (keyword_is_identifier w))
head_of (number n) text h = digits_head text h.0 h.1
head_of (symbol s) text h = subst Head (sym h) (symbol_head s)
head_of bad text h = elim h [ ]

first_from_again : (p : Pos) (b : ℕ) (bs : List ℕ) (k : TokenKind) (n : ℕ)
    → kind_at (b ∷ bs) ≡ Some (k, n) → first_from p (b ∷ bs)
    ≡ Some (Some (record { kind = k; at = p }, after p (take n (b ∷ bs)), drop n (b ∷ bs)))
first_from_again p b bs k n e = rw e refl

first_again : (at : Pos) (bytes rest : List ℕ) (t : Token) (b : Begins at bytes t rest)
    → Ascii bytes → first at bytes ≡ Some (Some (t, b.next, rest))
unfolding first
first_again at bytes rest t b a =
    let h = head_of t.kind b.text b.spelt in
    let parts : bytes ≡ b.gap ++ ((h.first ∷ h.more) ++ rest) =
    b.parts ∙ ap (λ u. b.gap ++ (u ++ rest)) h.is in
    let skip : skipped false at bytes ≡ Some (t.at, (h.first ∷ h.more) ++ rest) =
    ap (skipped false at) parts
    ∙ skip_again b.gap false at ((h.first ∷ h.more) ++ rest) false b.is_gap
    (ascii_parts b.gap (b.text ++ rest) (subst Ascii b.parts a)).0
    ∙ stop_again h.first (h.more ++ rest) (after at b.gap) h.stops
    ∙ ap (λ (p : Pos). Some (p, (h.first ∷ h.more) ++ rest)) (sym b.place) in
    let kind : kind_at ((h.first ∷ h.more) ++ rest) ≡ Some (t.kind, length b.text) =
    ap (λ u. kind_at (u ++ rest)) (sym h.is) ∙ kind_again t.kind b.text rest b.spelt b.longest
    in
    let taken : take (length b.text) ((h.first ∷ h.more) ++ rest) ≡ b.text =
    ap (λ u. take (length b.text) (u ++ rest)) (sym h.is) ∙ take_at b.text rest (length b.text)
    refl in
    let left : drop (length b.text) ((h.first ∷ h.more) ++ rest) ≡ rest =
    ap (λ u. drop (length b.text) (u ++ rest)) (sym h.is) ∙ drop_at b.text rest (length b.text)
    refl in
    ap (λ o. o >>= λ s. first_from s.0 s.1) skip
    ∙ first_from_again t.at h.first (h.more ++ rest) t.kind (length b.text) kind
    ∙ ap (λ u. Some (Some (t, after t.at u, drop (length b.text) ((h.first ∷ h.more) ++ rest))))
    taken
    ∙ ap (λ u. Some (Some (t, after t.at b.text, u))) left
    ∙ ap (λ (p : Pos). Some (Some (t, p, rest))) (sym b.next_is)

end_again_by : (at : Pos) (bytes : List ℕ) (o : Option Bool) → blank false bytes ≡ o → IsSome o
    → Ascii bytes → first at bytes ≡ Some None
unfolding first skipped
end_again_by at bytes None e h a = absurd cc
end_again_by at bytes (Some state) e h a =
    ap (λ o. o >>= λ s. first_from s.0 s.1)
    (ap (skipped false at) (sym (append-nil bytes)) ∙ skip_again bytes false at [] state e a)

scan_again : (ts : List Token) (n : ℕ) (at : Pos) (bytes : List ℕ) → length bytes < n
    → Tokens at bytes ts → Ascii bytes → scan n at bytes ≡ ts
unfolding scan
scan_again ts zero at bytes lt h a = absurd (omega arith)
scan_again [] (suc n) at bytes lt h a = ap (λ o. scan_with at o (λ p bs. scan n p bs))
    (end_again_by at bytes (blank false bytes) refl h a)
scan_again (t ∷ ts) (suc n) at bytes lt (rest, b, more) a =
    let f = first_again at bytes rest t b a in
    let left = ascii_parts b.text rest (ascii_parts b.gap (b.text ++ rest)
    (subst Ascii b.parts a)).1 in
    ap (λ o. scan_with at o (λ p bs. scan n p bs)) f
    ∙ ap (λ us. t ∷ us) (scan_again ts n b.next rest
    (omega (arith, first_len at bytes (t, b.next, rest) f)) more left.1)

pub tokens_again : (at : Pos) (bytes : List ℕ) (ts : List Token) → Tokens at bytes ts → Ascii bytes
    → tokens_from at bytes ≡ ts
unfolding tokens_from
tokens_again at bytes ts h a = scan_again ts (suc (length bytes)) at bytes (omega arith) h a
