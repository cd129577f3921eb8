-- What was written as a way back is read as that way.
use Rattle.std.proofs.Common.{◌≡◌, ℕ, ◌+◌, ◌-◌, ◌*◌, ◌/◌, ◌%◌, ◌^◌, ◌<◌, ◌≤◌, Bool, true, false, ltb, ◌&&◌, List, [], ◌∷◌, ◌++◌, length, take, drop, refl, sym, ◌∙◌, arith, append_assoc, length-append, ⊎_elim, ◌⊎◌, inl, inr}
use Rattle.std.specs.Int.{from_le_bytes, to_le_bytes, w64}
use Rattle.std.proofs.lemmas.List.{get_or_push, length_push, take_at, drop_at}
use Rattle.std.proofs.lemmas.Bool.{lt-ltb, le-ltb, cases_Bool, and_parts, ltb-true, and_right}
use Rattle.std.proofs.lemmas.Nat.{from_le_bytes-to_le_bytes_8}
use Rattle.walk_prefixes.specs.inner.Packed.{mark, way_bytes, head_of, number_at, is_short, dropped_of, end_of, start_of, removed_of, below_of, before}

pub record Reads (x t b : List ℕ) (d : ℕ) (g : Bool) : Type 0 where
  pub dropped : dropped_of b ≡ d
  pub start : start_of b ≡ length x
  pub end : end_of b ≡ length x + length t
  pub front : take (length x) b ≡ x
  pub tail : take (length x + length t - length x) (drop (length x) b) ≡ t
  pub removed : removed_of b ≡ g

head_of-push : (y : List ℕ) (h : ℕ) → head_of (y ++ h ∷ []) ≡ h
unfolding head_of
head_of-push y h = get_or_push y h 0 _ (omega (arith, length_push y h))

number_at-append : (y l z : List ℕ) (i : ℕ) → length l ≡ 8 → i ≡ length y
    → number_at i (y ++ (l ++ z)) ≡ from_le_bytes w64 l
unfolding number_at
number_at-append y l z i long at = rw (drop_at y (l ++ z) i (sym at), take_at l z 8 long) refl

front_at : (x t r : List ℕ) → take (length x) ((x ++ t) ++ r) ≡ x
front_at x t r = rw append_assoc (take_at x (t ++ r) _ refl)

tail_at : (x t r : List ℕ) → take (length x + length t - length x)
    (drop (length x) ((x ++ t) ++ r)) ≡ t
tail_at x t r = rw (append_assoc x t r, drop_at x (t ++ r) (length x) refl)
    (take_at t r _ (omega arith))

short_by : (b : List ℕ) (h : ℕ) → head_of b ≡ h → h % 16 < 15 → is_short b ≡ true
unfolding is_short
short_by b h e l = rw (e, lt-ltb (h % 16) 15 l) refl

long_by : (b : List ℕ) (h : ℕ) → head_of b ≡ h → 15 ≤ h % 16 → is_short b ≡ false
unfolding is_short
long_by b h e l = rw (e, le-ltb (h % 16) 15 l) refl

removed_by : (b : List ℕ) (h : ℕ) → head_of b ≡ h → 127 < h → removed_of b ≡ true
unfolding removed_of
removed_by b h e l = rw (e, lt-ltb 127 h l) refl

stays_by : (b : List ℕ) (h : ℕ) → head_of b ≡ h → h ≤ 127 → removed_of b ≡ false
unfolding removed_of
stays_by b h e l = rw (e, le-ltb 127 h l) refl

mark_by : (b : List ℕ) (h : ℕ) (g : Bool) → head_of b ≡ mark g + h → h ≤ 127 → removed_of b ≡ g
mark_by b h true e l = removed_by b (128 + h) e (omega arith)
mark_by b h false e l = stays_by b h (e ∙ omega arith) l

dropped_small : (b : List ℕ) (h : ℕ) → head_of b ≡ h → h % 16 < 15 → dropped_of b ≡ h / 16 % 8
unfolding dropped_of
dropped_small b h e l = rw (short_by b h e l, e) refl

end_small : (b : List ℕ) (h : ℕ) → head_of b ≡ h → h % 16 < 15 → end_of b ≡ length b - 1
unfolding end_of
end_small b h e l = rw (short_by b h e l) refl

start_small : (b : List ℕ) (h : ℕ) → head_of b ≡ h → h % 16 < 15 →
    start_of b ≡ end_of b - h % 16
unfolding start_of
start_small b h e l = rw (short_by b h e l, e) refl

dropped_large : (b : List ℕ) (h : ℕ) → head_of b ≡ h → 15 ≤ h % 16 → 17 ≤ length b
    → dropped_of b ≡ number_at (length b - 17) b
unfolding dropped_of
dropped_large b h e l long = rw (long_by b h e l, le-ltb (length b) 17 long) refl

end_large : (b : List ℕ) (h : ℕ) → head_of b ≡ h → 15 ≤ h % 16 → end_of b ≡ length b - 17
unfolding end_of
end_large b h e l = rw (long_by b h e l) refl

start_large : (b : List ℕ) (h : ℕ) → head_of b ≡ h → 15 ≤ h % 16 → 17 ≤ length b
    → start_of b ≡ end_of b - number_at (length b - 9) b
unfolding start_of
start_large b h e l long = rw (long_by b h e l, le-ltb (length b) 17 long) refl

-- what one byte says
digits : (d n : ℕ) (g : Bool) → d < 8 → n < 15 →
    ((mark g + (d * 16 + n)) / 16 % 8 ≡ d) × ((mark g + (d * 16 + n)) % 16 ≡ n)
digits d n true small short = (omega arith, omega arith)
digits d n false small short = (omega arith, omega arith)

reads_small : (x t : List ℕ) (d : ℕ) (g : Bool) → d < 8 → length t < 15
    → Reads x t ((x ++ t) ++ (mark g + (d * 16 + length t)) ∷ []) d g
reads_small x t d g small short =
    let h = mark g + (d * 16 + length t) in
    let b = (x ++ t) ++ h ∷ [] in
    let e : head_of b ≡ h = head_of-push (x ++ t) h in
    let says = digits d (length t) g small short in
    let low : h % 16 < 15 = omega (arith, says.1, short) in
    let long : length b ≡ length x + length t + 1 =
    omega (arith, length_push (x ++ t) h, length-append x t) in
    let end : end_of b ≡ length x + length t = omega (arith, end_small b h e low, long) in
    record {
      dropped = dropped_small b h e low ∙ says.0;
      start = omega (arith, start_small b h e low, end, says.1);
      end = end;
      front = front_at x t _;
      tail = tail_at x t _;
      removed = mark_by b (d * 16 + length t) g e (omega arith);
    }

large_bytes : List ℕ → List ℕ → ℕ → ℕ → List ℕ
large_bytes x t d h = (x ++ t) ++ (to_le_bytes w64 d ++ (to_le_bytes w64 (length t) ++ h ∷ []))

length-large : (x t : List ℕ) (d h : ℕ) → length (large_bytes x t d h) ≡ length x + length t + 17
unfolding large_bytes
length-large x t d h = omega (
  arith,
  length-append (x ++ t)
      (to_le_bytes w64 d ++ (to_le_bytes w64 (length t) ++ h ∷ [])),
  length-append x t,
)

head_of-large : (x t : List ℕ) (d h : ℕ) → head_of (large_bytes x t d h) ≡ h
unfolding large_bytes
head_of-large x t d h =
    rw (
      ← append_assoc (to_le_bytes w64 d) (to_le_bytes w64 (length t)) (h ∷ []),
      ← append_assoc (x ++ t) (to_le_bytes w64 d ++ to_le_bytes w64 (length t)) (h ∷ []),
    )
    (head_of-push _ h)

first_number : (x t : List ℕ) (d h i : ℕ) → d < 2 ^ 64 → i ≡ length x + length t
    → number_at i (large_bytes x t d h) ≡ d
unfolding large_bytes
first_number x t d h i fits at =
    number_at-append (x ++ t) (to_le_bytes w64 d) _ i refl (omega (arith, length-append x t)) ∙
    from_le_bytes-to_le_bytes_8 d fits

second_number : (x t : List ℕ) (d h i : ℕ) → length t < 2 ^ 64 → i ≡ length x + length t + 8
    → number_at i (large_bytes x t d h) ≡ length t
unfolding large_bytes
second_number x t d h i fits at =
    rw (← append_assoc (x ++ t) (to_le_bytes w64 d) (to_le_bytes w64 (length t) ++ h ∷ []))
    (number_at-append ((x ++ t) ++ to_le_bytes w64 d) (to_le_bytes w64 (length t)) _ i refl
    (omega (arith, length-append (x ++ t) (to_le_bytes w64 d), length-append x t)) ∙
    from_le_bytes-to_le_bytes_8 (length t) fits)

no_digit : (g : Bool) → 15 ≤ (mark g + 15) % 16
no_digit true = omega arith
no_digit false = omega arith

reads_large : (x t : List ℕ) (d : ℕ) (g : Bool) → d < 2 ^ 64 → length t < 2 ^ 64
    → Reads x t (large_bytes x t d (mark g + 15)) d g
unfolding large_bytes
reads_large x t d g fits short =
    let h = mark g + 15 in
    let b = large_bytes x t d h in
    let e : head_of b ≡ h = head_of-large x t d h in
    let high = no_digit g in
    let l = length-large x t d h in
    let long : 17 ≤ length b = omega (arith, l) in
    let end : end_of b ≡ length x + length t = omega (arith, end_large b h e high, l) in
    record {
      dropped = dropped_large b h e high long ∙ first_number x t d h _ fits (omega (arith, l));
      start = omega (
        arith,
        start_large b h e high long,
        end,
        second_number x t d h (length b - 9) short (omega (arith, l)),
      );
      end = end;
      front = front_at x t _;
      tail = tail_at x t _;
      removed = mark_by b 15 g e (omega arith);
    }

reads_by : (x t : List ℕ) (d : ℕ) (g test : Bool) → (ltb d 8 && ltb (length t) 15) ≡ test
    → d < 2 ^ 64 → length t < 2 ^ 64 → Reads x t (x ++ way_bytes d t g) d g
unfolding way_bytes large_bytes
reads_by x t d g true e fits short =
    let p = and_parts _ _ e in
    rw (e, ← append_assoc x t ((mark g + (d * 16 + length t)) ∷ []))
    (reads_small x t d g (ltb-true _ _ p.0) (ltb-true _ _ p.1))
reads_by x t d g false e fits short =
    rw (
      e,
      append_assoc (t ++ to_le_bytes w64 d) (to_le_bytes w64 (length t)) ((mark g + 15) ∷ []),
      append_assoc t (to_le_bytes w64 d) (to_le_bytes w64 (length t) ++ (mark g + 15) ∷ []),
      ← append_assoc x t (to_le_bytes w64 d ++ (to_le_bytes w64 (length t) ++ (mark g + 15) ∷ [])),
    )
    (reads_large x t d g fits short)

pub reads : (x t : List ℕ) (d : ℕ) (g : Bool) → d < 2 ^ 64 → length t < 2 ^ 64
    → Reads x t (x ++ way_bytes d t g) d g
reads x t d g fits short = reads_by x t d g _ refl fits short

-- the bytes below it, and the schedule that it leads to
pub below_of-way : (x t : List ℕ) (d : ℕ) (g : Bool) → d < 2 ^ 64 → length t < 2 ^ 64
    → below_of (x ++ way_bytes d t g) ≡ x
below_of-way x t d g fits short = let r = reads x t d g fits short in rw r.start r.front

pub before-way : (x t : List ℕ) (d : ℕ) (g : Bool) (last : List ℕ) → d < 2 ^ 64
    → length t < 2 ^ 64 → before (x ++ way_bytes d t g) last ≡ take (length last - d) last ++ t
before-way x t d g last fits short =
    let r = reads x t d g fits short in
    rw (r.dropped, r.start, r.end, r.tail) refl

-- and whether that is removed
pub removed_of-way : (x t : List ℕ) (d : ℕ) (g : Bool) → d < 2 ^ 64 → length t < 2 ^ 64
    → removed_of (x ++ way_bytes d t g) ≡ g
removed_of-way x t d g fits short = (reads x t d g fits short).removed

pub length-way : (d : ℕ) (t : List ℕ) (g : Bool) → 1 ≤ length (way_bytes d t g)
unfolding way_bytes
length-way d t g =
    ⊎_elim
    (λ e. rw e (omega (arith, length_push t (mark g + (d * 16 + length t)))))
    (λ e. rw e (omega (
      arith,
      length_push ((t ++ to_le_bytes w64 d) ++ to_le_bytes w64 (length t))
          (mark g + 15),
    )))
    (cases_Bool (ltb d 8 && ltb (length t) 15))

-- what a writer leaves, from what each of its calls says
pub small_way : (b t s new : List ℕ) (d v : ℕ) → d < 8 → length t < 15 → s ≡ b ++ t
    → v ≡ d * 16 + length t → new ≡ s ++ v ∷ [] → new ≡ b ++ way_bytes d t false
unfolding way_bytes
small_way b t s new d v small short e f g =
    let h : 0 + (d * 16 + length t) ≡ d * 16 + length t = omega arith in
    rw (lt-ltb d 8 small, lt-ltb (length t) 15 short, h, g, e, f)
    (append_assoc b t ((d * 16 + length t) ∷ []))

large_test : (d n : ℕ) → ((8 ≤ d) ⊎ (15 ≤ n)) → (ltb d 8 && ltb n 15) ≡ false
large_test d n (inl h) = rw (le-ltb d 8 h) refl
large_test d n (inr h) = and_right (ltb d 8) (ltb n 15) (le-ltb n 15 h)

pub large_way : (b t s u v new : List ℕ) (d : ℕ) → ((8 ≤ d) ⊎ (15 ≤ length t)) → s ≡ b ++ t
    → u ≡ s ++ to_le_bytes w64 d → v ≡ u ++ to_le_bytes w64 (length t) → new ≡ v ++ 15 ∷ []
    → new ≡ b ++ way_bytes d t false
unfolding way_bytes
large_way b t s u v new d test e f g h =
    rw (
      large_test d (length t) test,
      h,
      g,
      f,
      e,
      append_assoc b t (to_le_bytes w64 d),
      append_assoc b (t ++ to_le_bytes w64 d) (to_le_bytes w64 (length t)),
      append_assoc b (t ++ to_le_bytes w64 d ++ to_le_bytes w64 (length t)) (15 ∷ []),
    ) refl
