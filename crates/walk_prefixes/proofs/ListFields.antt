-- What a list's own fields say of it, and how they hold one prefix more.
use Rattle.std.proofs.Common.{◌≡◌, ℕ, Bool, ◌+◌, ◌-◌, ◌^◌, ◌<◌, ◌≤◌, false, List, [], ◌∷◌, ◌++◌, length, take, drop, sym, ◌∙◌, ap, arith, length-drop, vec_capacity}
use Rattle.std.proofs.lemmas.List.{length_push, take_rest}
use Rattle.walk_prefixes.specs.{PrefixLists.last_of, declared.prefixes.Prefixes.TheInside.Inside}
use Rattle.walk_prefixes.specs.inner.Packed.{IsPacked, IsCounted, IsStack, way_bytes, start_of, before, removed_of, listed}
use Rattle.walk_prefixes.proofs.PackedPrefixes.{CameOff, comes_off, Holds, held_count, packed_stack, packed_few, packed_more, length_listed, listed_none, last_of_listed, pushed, grown_after}

-- the invariant of a list
abbrev pub IsHeld : Inside → Type 0
IsHeld i = (i.front ≤ length i.bytes.items)
    × IsPacked i.count (drop i.front i.bytes.items) i.last.items (take i.front i.bytes.items)
    (vec_capacity i.last)
    × IsCounted i.count i.removed (drop i.front i.bytes.items) i.last.items

-- the prefixes that the fields hold
abbrev pub list_of : Inside → List (List ℕ)
list_of i = listed i.count (drop i.front i.bytes.items) i.last.items false

-- a list that counts none has none
pub none_in : (i : Inside) (p : List (List ℕ)) → list_of i ≡ p → i.count ≡ 0 → p ≡ []
none_in i p e none = sym e ∙ listed_none i.count (drop i.front i.bytes.items) i.last.items false none

-- a list that has one counts it
pub some_in : (i : Inside) (p : List (List ℕ)) → list_of i ≡ p → 0 < length p → 0 < i.count
some_in i p e some =
    omega (
      arith,
      some,
      ap length e,
      length_listed i.count (drop i.front i.bytes.items) i.last.items false,
    )

-- it counts those that it has and those that are removed
pub count_in : (i : Inside) (p : List (List ℕ)) → IsHeld i → list_of i ≡ p →
    i.count ≡ length p + i.removed
count_in i p held e = omega (arith, held.2, ap length e)

-- the last prefix of a list that has some
pub last_in : (i : Inside) (p : List (List ℕ)) → list_of i ≡ p → 0 < i.count
    → last_of p ≡ i.last.items
last_in i p e some =
    ap last_of (sym e) ∙ last_of_listed i.count (drop i.front i.bytes.items) i.last.items some

-- a list counts few
pub counted_few : (i : Inside) → IsHeld i → i.count ≤ length i.bytes.items + 1
counted_few i held =
    omega (
      arith,
      packed_few i.count (drop i.front i.bytes.items) i.last.items (take i.front i.bytes.items)
          (vec_capacity i.last) held.1,
      length-drop i.front i.bytes.items,
    )

-- so that one more can be counted
pub more_counted : (i : Inside) → IsHeld i → i.count + 1 < 2 ^ 64
more_counted i held = omega (arith, counted_few i held, i.bytes.ok.0, i.bytes.ok.1, i.bytes.small)

-- the stack of a list that has some
pub stack_of : (i : Inside) → IsHeld i → 0 < i.count
    → IsStack i.count (drop i.front i.bytes.items) i.last.items (take i.front i.bytes.items)
    (vec_capacity i.last)
stack_of i held some =
    packed_stack i.count (drop i.front i.bytes.items) i.last.items (take i.front i.bytes.items)
    (vec_capacity i.last) held.1 some

-- the same bytes and the same last prefix, with as much room or more
pub with_room : (i : Inside) (c top : List ℕ) (m : ℕ) → IsHeld i → vec_capacity i.last ≤ m
    → c ≡ i.bytes.items → top ≡ i.last.items
    → (i.front ≤ length c) × IsPacked i.count (drop i.front c) top (take i.front c) m
    × IsCounted i.count i.removed (drop i.front c) top
with_room i c top m held le e f =
    rw (e, f) (
      held.0,
      packed_more i.count (drop i.front i.bytes.items) i.last.items (take i.front i.bytes.items)
          (vec_capacity i.last) m le held.1,
      held.2,
    )

-- what is cut off the last prefix is short
pub cut_short : (i : Inside) (k : ℕ) (t : List ℕ) → t ≡ drop k i.last.items → length t < 2 ^ 64
cut_short i k t tail =
    omega (arith, ap length tail, length-drop k i.last.items, i.last.ok.0, i.last.small)

-- one prefix more, which begins as the last one does
pub one_more : (i : Inside) (p : List (List ℕ)) (rest c top t : List ℕ) (k m : ℕ) → IsHeld i
    → list_of i ≡ p → 0 < i.count → k ≤ length i.last.items → t ≡ drop k i.last.items
    → length rest < 2 ^ 64 → c ≡ i.bytes.items ++ way_bytes (length rest) t false
    → top ≡ take k i.last.items ++ rest → vec_capacity i.last ≤ m → length top ≤ m
    → Holds (i.count + 1) i.front c top m (p ++ (take k (last_of p) ++ rest) ∷ [])
one_more i p rest c top t k m held e some low tail long wrote made room fits =
    rw (last_in i p e some, ← e)
    (grown_after (i.count + 1) i.front i.bytes.items (way_bytes (length rest) t false) c top m _ held.0
    wrote
    (λ d w. pushed i.count (drop i.front i.bytes.items) i.last.items (take i.front i.bytes.items)
    (vec_capacity i.last) rest d top t k m (stack_of i held some) low long (cut_short i k t tail)
    tail w made room fits))

-- what a list with one prefix more keeps
pub held_one_more : (i : Inside) (p : List (List ℕ)) (w c top : List ℕ) (m : ℕ) → IsHeld i
    → list_of i ≡ p → Holds (i.count + 1) i.front c top m (p ++ w ∷ [])
    → (i.front ≤ length c) × IsPacked (i.count + 1) (drop i.front c) top (take i.front c) m
    × IsCounted (i.count + 1) i.removed (drop i.front c) top
held_one_more i p w c top m held e h = (
  h.within,
  h.packed,
  held_count (i.count + 1) i.removed i.front c top m (p ++ w ∷ []) h
      (omega (arith, count_in i p held e, length_push p w)),
)

-- the last prefix of a list comes off, by what the calls for that say
pub came : (i : Inside) (D new top : List ℕ) (start end : ℕ) → i.front ≤ length i.bytes.items
    → D ≡ i.bytes.items → start ≡ start_of (take (length D - i.front) (drop i.front D))
    → start ≤ end → end ≤ length (take (length D - i.front) (drop i.front D))
    → new ≡ take (i.front + start) i.bytes.items
    → top ≡ before (take (length D - i.front) (drop i.front D)) i.last.items
    → CameOff i.front i.bytes.items i.last.items new top
came i D new top start end within same from low high cut back =
    let ways : take (length D - i.front) (drop i.front D) ≡ drop i.front i.bytes.items =
    take_rest D i.front ∙ ap (drop i.front) same in
    let at : start ≡ start_of (drop i.front i.bytes.items) = from ∙ ap start_of ways in
    comes_off i.front i.bytes.items i.last.items new top within
    (omega (arith, at, low, high, ap length ways))
    (cut ∙ ap (λ n. take (i.front + n) i.bytes.items) at)
    (back ∙ ap (λ b. before b i.last.items) ways)

-- what the call finds of the last way
pub gone_of : (i : Inside) (D : List ℕ) (g : Bool) → D ≡ i.bytes.items
    → g ≡ removed_of (take (length D - i.front) (drop i.front D))
    → removed_of (drop i.front i.bytes.items) ≡ g
gone_of i D g same e =
    sym (e ∙ ap removed_of (take_rest D i.front ∙ ap (drop i.front) same))
