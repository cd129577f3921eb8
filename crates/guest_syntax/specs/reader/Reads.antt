-- What a method of a reader reads, by a reader of tokens: between the reader before it and after it.
use Rattle.std.specs.Prelude.{◌≡◌, ◌<◌, [], List, length, IfOk, IfErr, IsSome, Option, Result, Ok, Err, option_map}
use Rattle.guest_syntax.specs.Answers.{IsTokenIn, IsTokenOrEnd, RefusalIn}
use Rattle.guest_syntax.specs.{Place.{start, Follows}, Tokens.Token, declared.cursor.Cursor.Cursor}
use Rattle.guest_syntax.specs.declared.{error.SyntaxError.SyntaxError, place.Pos.Pos}
use Rattle.guest_syntax.specs.{declared.tokens.Reader.Reader, reader.Gives.Gives}
use Rattle.guest_syntax.specs.reader.{Scanner.{first, tokens_from}, TokenViews.token_view}
use Rattle.guest_syntax.specs.declared.token.Token as code

-- the first token of the bytes, its end and the bytes after it, or none at the end
abbrev pub Scans : Result (Option code.Token × Cursor) SyntaxError → Cursor → Type 0
Scans result text =
    Gives (λ x. option_map (λ t. (token_view t, x.1.at, x.1.rest.now)) x.0) result
    (first text.at text.rest.now)

-- the tokens that a reader has before it
abbrev pub rest_of : Reader → List Token
rest_of r = tokens_from r.cursor.at r.cursor.rest.now

-- what was read, and the tokens after it
abbrev pub Read : Type 0 → Type 0
Read A = Option (A × List Token)

-- what was read, seen by view, and the tokens after it are what the reader of tokens gives
abbrev pub Reads : {X Y : Type 0} → (X → Y) → Result X SyntaxError
    → (List Token → Read Y) → Reader → Reader → Type 0
Reads view result reads old new = Gives (λ x. (view x, rest_of new)) result (reads (rest_of old))

-- at least one token was read
abbrev pub TakesToken : {X : Type 0} → Result X SyntaxError → Reader → Reader → Type 0
TakesToken result old new = IfOk result (λ _. length (rest_of new) < length (rest_of old))

-- at least one token was read, where an item was
abbrev pub ItemTakesToken : {X : Type 0} → Result (Option X) SyntaxError → Reader → Reader → Type 0
ItemTakesToken result old new =
    IfOk result (λ x. IsSome x → length (rest_of new) < length (rest_of old))

-- the place of a token of the reader's text, or its end
abbrev pub IsPlaceOf : Reader → Pos → Type 0
IsPlaceOf r p = IsTokenOrEnd start r.cursor.text.now p

-- a token of the reader's text
abbrev pub IsTokenOf : Reader → Token → Type 0
IsTokenOf r t = IsTokenIn start r.cursor.text.now t.kind t.at

-- the end of the reader's text
abbrev pub IsEndOf : Reader → Pos → Type 0
IsEndOf r p = Follows start r.cursor.text.now p []

-- the reader stays in the same text, and a refusal is at a place of it
abbrev pub StaysIn : {X : Type 0} → Result X SyntaxError → Reader → Reader → Type 0
StaysIn (Ok x) old new = new.cursor.text.now ≡ old.cursor.text.now
StaysIn (Err e) old new = RefusalIn start old.cursor.text.now e

-- what was read is what the reader of tokens gives, and at least one token; the reader stays in the
-- same text, and a refusal is at a place of it
pub record Parses {X Y : Type 0} (view : X → Y) (result : Result X SyntaxError)
    (reads : List Token → Read Y) (old new : Reader) : Type 0 where
  pub gives : Reads view result reads old new
  pub within : StaysIn result old new
  pub shorter : TakesToken result old new

-- a refusal is at a place of the reader's text
abbrev pub StaysAt : {X : Type 0} → Result X SyntaxError → Reader → Type 0
StaysAt result r = IfErr result (RefusalIn start r.cursor.text.now)
