-- How a stack of schedules grows, shrinks, and goes on top of another.
use Rattle.std.proofs.Common.{◌≡◌, ℕ, suc, ◌+◌, ◌-◌, ◌%◌, ◌^◌, ◌<◌, ◌≤◌, ◌⊎◌, List, [], ◌∷◌, ◌++◌, length, take, drop, refl, sym, ◌∙◌, ap, arith, append_assoc, length-append, length-take, length-drop, zero, inl, inr, Result, Ok, Err, cond, is_ok, OnOk, IsOk, Some, slice_get, slice_index_or, subst, ⊎_elim, min, Bool, true, false, nat_lt}
use Rattle.std.proofs.lemmas.List.{append-nil, take_at, length_push, take-append-drop, get_or_push, take_rest, take-take, take_all, drop_all, drop-take, drop-append-le, take-append-le}
use Rattle.std.proofs.lemmas.Bool.{cases_lt}
use Rattle.walk_prefixes.specs.inner.Packed.{Way, IsPacked, IsCounted, way_bytes, ways_bytes, first_by, AreWays, IsStack, back, unless, listed, before, below_of, removed_of, tail_of, start_of, end_of, dropped_of, head_of, number_at, is_short}
use Rattle.walk_prefixes.specs.PrefixLists.{last_of, common_length}
use Rattle.walk_prefixes.proofs.CommonSteps.{same_where, where_same}
use Rattle.walk_prefixes.proofs.WayBytes.{below_of-way, before-way, removed_of-way, length-way}

few_unless : (g : Bool) (last : List ℕ) → length (unless g last) ≤ 1
few_unless true last = omega arith
few_unless false last = omega arith

-- no more are listed than that many
pub length_listed : (n : ℕ) (b last : List ℕ) (g : Bool) → length (listed n b last g) ≤ n
unfolding listed
length_listed zero b last g = omega arith
length_listed (suc n) b last g =
    omega (
      arith,
      length-append (listed n (below_of b) (before b last) (removed_of b)) (unless g last),
      few_unless g last,
      length_listed n (below_of b) (before b last) (removed_of b),
    )

pub listed_one : (b last : List ℕ) (g : Bool) → listed 1 b last g ≡ unless g last
unfolding listed
listed_one b last g = refl

pub listed_more : (n : ℕ) (b last : List ℕ) (g : Bool) → 0 < n → listed n b last g
    ≡ listed (n - 1) (below_of b) (before b last) (removed_of b) ++ unless g last
unfolding listed
listed_more zero b last g more = absurd (omega arith)
listed_more (suc n) b last g more = let e : suc n - 1 ≡ n = omega arith in rw e refl

-- where the last one is removed, one less is listed
pub fewer_listed : (n : ℕ) (b last : List ℕ) → 0 < n → length (listed n b last true) < n
fewer_listed n b last more =
    let below = listed (n - 1) (below_of b) (before b last) (removed_of b) in
    omega (
      arith,
      ap length (listed_more n b last true more),
      length-append below [],
      length_listed (n - 1) (below_of b) (before b last) (removed_of b),
    )

pub listed_push : (n : ℕ) (b t : List ℕ) (d : ℕ) (g : Bool) (last next : List ℕ) (h : Bool)
    → d < 2 ^ 64 → length t < 2 ^ 64 → back (d, t, g) next ≡ last
    → listed (n + 1) (b ++ way_bytes d t g) next h ≡ listed n b last g ++ unless h next
listed_push n b t d g last next h fits short leads =
    let e : n + 1 - 1 ≡ n = omega arith in
    rw (
      listed_more (n + 1) (b ++ way_bytes d t g) next h (omega arith),
      e,
      below_of-way b t d g fits short,
      before-way b t d g next fits short,
      removed_of-way b t d g fits short,
      leads,
    ) refl

pub more_room : (ws : List Way) (last : List ℕ) (l m : ℕ) → AreWays ws last l → l ≤ m
    → AreWays ws last m
unfolding AreWays
more_room [] last l m a le = omega arith
more_room (w ∷ ws) last l m a le = (
  a.0,
  a.1,
  omega (arith, a.2),
  more_room ws (back w last) l m a.3 le,
)

pub last_short : (ws : List Way) (last : List ℕ) (l : ℕ) → AreWays ws last l → length last ≤ l
unfolding AreWays
last_short [] last l a = a
last_short (w ∷ ws) last l a = a.2

pub stack_one : (s : List ℕ) (l : ℕ) → length s ≤ l → IsStack 1 [] s s l
unfolding ways_bytes first_by AreWays
stack_one s l short = record {
  ways = [];
  counted = omega arith;
  spelt = refl;
  leads = refl;
  sound = short;
}

pub stack_short : (n : ℕ) (b last first : List ℕ) (l : ℕ) → IsStack n b last first l
    → length last ≤ l
stack_short n b last first l s = last_short s.ways last l s.sound

pub stack_push : (n : ℕ) (b last first : List ℕ) (l m : ℕ) (t next : List ℕ) (d : ℕ)
    → IsStack n b last first l → l ≤ m → length next ≤ m → d < 2 ^ 64 → length t < 2 ^ 64
    → back (d, t, false) next ≡ last → IsStack (n + 1) (b ++ way_bytes d t false) next first m
unfolding ways_bytes first_by AreWays
stack_push n b last first l m t next d s le short fits fit leads = record {
  ways = (d, t, false) ∷ s.ways;
  counted = omega (arith, s.counted);
  spelt = ap (λ x. x ++ way_bytes d t false) s.spelt;
  leads = rw leads s.leads;
  sound = (fits, fit, short, rw leads (more_room s.ways last l m s.sound le));
}

pop_ways : (ws : List Way) (n : ℕ) (b last first : List ℕ) (l : ℕ) → n ≡ length ws + 1
    → b ≡ ways_bytes ws → first ≡ first_by ws last → AreWays ws last l → 1 < n
    → IsStack (n - 1) (below_of b) (before b last) first l
unfolding ways_bytes first_by AreWays
pop_ways [] n b last first l c s e a more = absurd (omega arith)
pop_ways (w ∷ ws) n b last first l c s e a more = record {
  ways = ws;
  counted = omega arith;
  spelt = rw (s, below_of-way (ways_bytes ws) w.1 w.0 w.2 a.0 a.1) refl;
  leads = rw (s, before-way (ways_bytes ws) w.1 w.0 w.2 last a.0 a.1) e;
  sound = rw (s, before-way (ways_bytes ws) w.1 w.0 w.2 last a.0 a.1) a.3;
}

pub stack_pop : (n : ℕ) (b last first : List ℕ) (l : ℕ) → IsStack n b last first l → 1 < n
    → IsStack (n - 1) (below_of b) (before b last) first l
stack_pop n b last first l s more = pop_ways s.ways n b last first l s.counted s.spelt s.leads
    s.sound more

no_tail : (i j : ℕ) (b : List ℕ) → b ≡ [] → length (take j (drop i b)) ≤ 0
no_tail i j b e = omega (arith, length-drop i b, length-take j (drop i b), ap length e)

before_ways : (ws : List Way) (b last : List ℕ) (l : ℕ) → b ≡ ways_bytes ws → AreWays ws last l
    → length (before b last) ≤ l
unfolding ways_bytes AreWays
before_ways [] b last l s a =
    rw s (omega (
      arith,
      length-append (take (length last - dropped_of []) last) (tail_of []),
      length-take (length last - dropped_of []) last,
      no_tail (start_of []) (end_of [] - start_of []) [] refl,
    ))
before_ways (w ∷ ws) b last l s a =
    rw (s, before-way (ways_bytes ws) w.1 w.0 w.2 last a.0 a.1) (last_short ws (back w last) l a.3)

pub before_short : (n : ℕ) (b last first : List ℕ) (l : ℕ) → IsStack n b last first l
    → length (before b last) ≤ l
before_short n b last first l s = before_ways s.ways b last l s.spelt s.sound

count_ways : (ws : List Way) → length ws ≤ length (ways_bytes ws)
unfolding ways_bytes
count_ways [] = omega arith
count_ways (w ∷ ws) =
    omega (
      arith,
      count_ways ws,
      length-append (ways_bytes ws) (way_bytes w.0 w.1 w.2),
      length-way w.0 w.1 w.2,
    )

pub stack_count : (n : ℕ) (b last first : List ℕ) (l : ℕ) → IsStack n b last first l
    → n ≤ length b + 1
stack_count n b last first l s = omega (arith, count_ways s.ways, s.counted, ap length s.spelt)

pub ways_bytes-append : (us ws : List Way) → ways_bytes (us ++ ws) ≡ ways_bytes ws ++ ways_bytes us
unfolding ways_bytes
ways_bytes-append [] ws = sym (append-nil (ways_bytes ws))
ways_bytes-append (u ∷ us) ws = rw (ways_bytes-append us ws)
    (append_assoc (ways_bytes ws) (ways_bytes us) (way_bytes u.0 u.1 u.2))

pub first_by-append : (us ws : List Way) (last : List ℕ)
    → first_by (us ++ ws) last ≡ first_by ws (first_by us last)
unfolding first_by
first_by-append [] ws last = refl
first_by-append (u ∷ us) ws last = first_by-append us ws (back u last)

pub AreWays-append : (us ws : List Way) (last : List ℕ) (l : ℕ) → AreWays us last l
    → AreWays ws (first_by us last) l → AreWays (us ++ ws) last l
unfolding AreWays first_by
AreWays-append [] ws last l a c = c
AreWays-append (u ∷ us) ws last l a c = (a.0, a.1, a.2, AreWays-append us ws (back u last) l a.3 c)

first_short : (us : List Way) (last : List ℕ) (l : ℕ) → AreWays us last l
    → length (first_by us last) ≤ l
unfolding AreWays first_by
first_short [] last l a = a
first_short (u ∷ us) last l a = first_short us (back u last) l a.3

pub stack_append : (n k : ℕ) (b c last first end start : List ℕ) (l j m : ℕ) (t : List ℕ) (d : ℕ)
    → IsStack n b last first l → IsStack k c end start j → l ≤ m → j ≤ m → d < 2 ^ 64
    → length t < 2 ^ 64 → back (d, t, false) start ≡ last
    → IsStack (n + k) ((b ++ way_bytes d t false) ++ c) end first m
unfolding ways_bytes first_by AreWays
stack_append n k b c last first end start l j m t d s r le je fits fit leads =
    let over = more_room r.ways end j m r.sound je in
    let w : Way = (d, t, false) in
    record {
      ways = r.ways ++ w ∷ s.ways;
      counted = omega (arith, s.counted, r.counted, length-append r.ways (w ∷ s.ways));
      spelt = rw (s.spelt, r.spelt, ways_bytes-append r.ways (w ∷ s.ways)) refl;
      leads = rw (first_by-append r.ways (w ∷ s.ways) end, ← r.leads, leads) s.leads;
      sound = AreWays-append r.ways (w ∷ s.ways) end m over
          (rw (← r.leads) (
            fits,
            fit,
            rw r.leads (first_short r.ways end m over),
            rw leads (more_room s.ways last l m s.sound le),
          ));
    }

pub listed_over : (us : List Way) (n : ℕ) (b last : List ℕ) (g : Bool) (l : ℕ)
    (x : List (List ℕ)) → AreWays us last l
    → listed n (below_of b) (before b (first_by us last)) (removed_of b) ≡ x
    → listed (n + length us + 1) (b ++ ways_bytes us) last g
    ≡ x ++ listed (length us + 1) (ways_bytes us) last g
unfolding AreWays first_by ways_bytes
listed_over [] n b last g l x a e =
    let k : n + 0 + 1 - 1 ≡ n = omega arith in
    rw (append-nil b, listed_more (n + 0 + 1) b last g (omega arith), k, e, listed_one [] last g) refl
listed_over (u ∷ us) n b last g l x a e =
    let k : n + suc (length us) + 1 ≡ n + length us + 1 + 1 = omega arith in
    let j : suc (length us) + 1 ≡ length us + 1 + 1 = omega arith in
    rw (
      k,
      j,
      ← append_assoc b (ways_bytes us) (way_bytes u.0 u.1 u.2),
      listed_push (n + length us + 1) (b ++ ways_bytes us) u.1 u.0 u.2 (back u last) last g a.0 a.1
          refl,
      listed_push (length us + 1) (ways_bytes us) u.1 u.0 u.2 (back u last) last g a.0 a.1 refl,
      listed_over us n b (back u last) u.2 l x a.3 e,
    ) (append_assoc x (listed (length us + 1) (ways_bytes us) (back u last) u.2) (unless g last))

pub listed_append : (n k : ℕ) (b c last end start : List ℕ) (j : ℕ) (t : List ℕ) (d : ℕ)
    → IsStack k c end start j → d < 2 ^ 64 → length t < 2 ^ 64 → back (d, t, false) start ≡ last
    → listed (n + k) ((b ++ way_bytes d t false) ++ c) end false
    ≡ listed n b last false ++ listed k c end false
listed_append n k b c last end start j t d r fits fit leads =
    let e : n + (length r.ways + 1) ≡ n + length r.ways + 1 = omega arith in
    rw (r.counted, r.spelt, e)
    (listed_over r.ways n (b ++ way_bytes d t false) end false j (listed n b last false) r.sound
    (rw (
      ← r.leads,
      below_of-way b t d false fits fit,
      before-way b t d false start fits fit,
      removed_of-way b t d false fits fit,
      leads,
    ) refl))

pub packed_pop : (n : ℕ) (b last first : List ℕ) (l : ℕ) → IsPacked n b last first l → 0 < n
    → IsPacked (n - 1) (below_of b) (before b last) first l
packed_pop n b last first l (inl e) more = absurd (omega arith)
packed_pop n b last first l (inr s) more =
    ⊎_elim (λ h. inr (stack_pop n b last first l s h)) (λ h. inl (omega arith)) (cases_lt 1 n)

-- and where longer schedules are allowed
pub packed_more : (n : ℕ) (b last first : List ℕ) (l m : ℕ) → l ≤ m → IsPacked n b last first l
    → IsPacked n b last first m
packed_more n b last first l m le (inl e) = inl e
packed_more n b last first l m le (inr s) = inr (record {
  ways = s.ways;
  counted = s.counted;
  spelt = s.spelt;
  leads = s.leads;
  sound = more_room s.ways last l m s.sound le;
})

pub packed_before : (n : ℕ) (b last first : List ℕ) (l : ℕ) → IsPacked n b last first l → 0 < n
    → length (before b last) ≤ l
packed_before n b last first l (inl e) more = absurd (omega arith)
packed_before n b last first l (inr s) more = before_short n b last first l s

pub packed_stack : (n : ℕ) (b last first : List ℕ) (l : ℕ) → IsPacked n b last first l → 0 < n
    → IsStack n b last first l
packed_stack n b last first l (inl e) more = absurd (omega arith)
packed_stack n b last first l (inr s) more = s

-- one alone has no way on top
pub one_stays : (n : ℕ) (b last first : List ℕ) (l : ℕ) → IsPacked n b last first l →
    0 < n → removed_of b ≡ true → 1 < n
unfolding ways_bytes removed_of head_of
one_stays n b last first l (inl e) more g = absurd (omega arith)
one_stays n b last first l (inr s) more g =
    ⊎_elim (λ h. h)
    (λ h. absurd (no_way s.ways s.spelt (omega (arith, s.counted, h, more))))
    (cases_lt 1 n)
  where
    no_way : (ws : List Way) → b ≡ ways_bytes ws → length ws ≡ 0 → ⊥
    no_way [] e z = let f : removed_of [] ≡ true = subst (λ (x : List ℕ). removed_of x ≡ true) e g in
        cc
    no_way (w ∷ ws) e z = absurd (omega (arith, z))

-- the schedule before the last one comes back in its place, if it was removed
pub record CameBack (removed : Bool) (old new : List (List ℕ)) : Type 0 where
  pub rest : take (length old - 1) new ≡ take (length old - 1) old
  pub number : length new ≡ cond removed (length old) (length old - 1)

pub comes_back : (n : ℕ) (b last first : List ℕ) (l : ℕ) → IsPacked n b last first l → 0 < n →
    CameBack (removed_of b) (listed n b last false) (listed (n - 1) (below_of b) (before b last) false)
comes_back n b last first l packed more = go (removed_of b) refl
  where
    mid : Bool → List (List ℕ)
    mid g = listed (n - 1) (below_of b) (before b last) g

    whole : (g : Bool) → removed_of b ≡ g → listed n b last false ≡ mid g ++ last ∷ []
    whole g e = listed_more n b last false more ∙ ap (λ r. mid r ++ last ∷ []) e

    cut : (g : Bool) → removed_of b ≡ g →
        take (length (listed n b last false) - 1) (listed n b last false) ≡ mid g
    cut g e =
        let k : length (listed n b last false) - 1 ≡ length (mid g) =
        omega (arith, ap length (whole g e), length_push (mid g) last) in
        (λ i. take (k i) (whole g e i)) ∙ take_at (mid g) (last ∷ []) (length (mid g)) refl

    go : (g : Bool) → removed_of b ≡ g → CameBack g (listed n b last false) (mid false)
    go false e = record {
      rest = take_all _ (mid false)
          (omega (arith, ap length (whole false e), length_push (mid false) last))
          ∙ sym (cut false e);
      number = omega (arith, ap length (whole false e), length_push (mid false) last);
    }
    go true e =
        let two = one_stays n b last first l packed more e in
        let less = n - 1 in
        let low = listed (less - 1) (below_of (below_of b)) (before (below_of b) (before b last))
        (removed_of (below_of b)) in
        let gone : mid true ≡ low =
        listed_more less (below_of b) (before b last) true (omega (arith, two)) ∙ append-nil low in
        let stays : mid false ≡ low ++ before b last ∷ [] =
        listed_more less (below_of b) (before b last) false (omega (arith, two)) in
        let k : length (listed n b last false) - 1 ≡ length low =
        omega (arith, ap length (whole true e), length_push (mid true) last, ap length gone) in
        record {
          rest = (λ i. take (k i) (stays i)) ∙ (take_at low (before b last ∷ []) (length low) refl
              ∙ (sym gone ∙ sym (cut true e)));
          number = omega (
            arith,
            ap length (whole true e),
            length_push (mid true) last,
            ap length gone,
            ap length stays,
            length_push low (before b last),
          );
        }

-- of a list some prefixes were popped that are removed, and one of them stands for the last
pub record Stands (old : List (List ℕ)) (n : ℕ) (b last first : List ℕ) (l : ℕ) : Type 0 where
  pub packed : IsPacked n b last first l
  pub rest : take (length old - 1) (listed n b last false) ≡ take (length old - 1) old
  pub number : length (listed n b last false) ≡ length old

pub stands_some : (old : List (List ℕ)) (n : ℕ) (b last first : List ℕ) (l : ℕ) →
    Stands old n b last first l → 0 < length old → 0 < n
stands_some old n b last first l s some =
    omega (arith, some, s.number, length_listed n b last false)

pub stands_first : (n : ℕ) (b last first : List ℕ) (l : ℕ) (old : List (List ℕ)) →
    IsPacked n b last first l → listed n b last false ≡ old → Stands old n b last first l
stands_first n b last first l old packed e = record {
  packed = packed;
  rest = ap (take (length old - 1)) e;
  number = ap length e;
}

pub stands_on : (old : List (List ℕ)) (n : ℕ) (b last first : List ℕ) (l m : ℕ) →
    Stands old n b last first l → 0 < length old → removed_of b ≡ true → l ≤ m →
    Stands old (n - 1) (below_of b) (before b last) first m
stands_on old n b last first l m s some gone le =
    let more = stands_some old n b last first l s some in
    let c = subst (λ g. CameBack g (listed n b last false)
    (listed (n - 1) (below_of b) (before b last) false)) gone
    (comes_back n b last first l s.packed more) in
    let W = listed (n - 1) (below_of b) (before b last) false in
    let k : length (listed n b last false) - 1 ≡ length old - 1 = omega (arith, s.number) in
    record {
      packed = packed_more (n - 1) (below_of b) (before b last) first l m le
          (packed_pop n b last first l s.packed more);
      rest = (λ i. take (sym k i) W) ∙ (c.rest ∙ ((λ i. take (k i) (listed n b last false)) ∙ s.rest));
      number = c.number ∙ s.number;
    }

pub stands_last : (old : List (List ℕ)) (n : ℕ) (b last first : List ℕ) (l : ℕ) →
    Stands old n b last first l → 0 < length old → removed_of b ≡ false →
    listed (n - 1) (below_of b) (before b last) false ≡ take (length old - 1) old
stands_last old n b last first l s some gone =
    let more = stands_some old n b last first l s some in
    let c = subst (λ g. CameBack g (listed n b last false)
    (listed (n - 1) (below_of b) (before b last) false)) gone
    (comes_back n b last first l s.packed more) in
    let W = listed (n - 1) (below_of b) (before b last) false in
    let k : length (listed n b last false) - 1 ≡ length old - 1 = omega (arith, s.number) in
    sym (take_all (length (listed n b last false) - 1) W (omega (arith, c.number)))
    ∙ (c.rest ∙ ((λ i. take (k i) (listed n b last false)) ∙ s.rest))

-- the numbers of those that are left
pub counts_back : (n r : ℕ) (b last first : List ℕ) (l : ℕ) → IsPacked n b last first l → 0 < n →
    IsCounted n r b last → (s : ℕ) → s ≡ cond (removed_of b) (r - 1) r →
    (removed_of b ≡ true → 0 < r) × IsCounted (n - 1) s (below_of b) (before b last)
counts_back n r b last first l packed more counted s e =
    go (removed_of b) refl e (comes_back n b last first l packed more).number
  where
    go : (g : Bool) → removed_of b ≡ g → s ≡ cond g (r - 1) r →
        length (listed (n - 1) (below_of b) (before b last) false)
        ≡ cond g (length (listed n b last false)) (length (listed n b last false) - 1) →
        (g ≡ true → 0 < r) × IsCounted (n - 1) s (below_of b) (before b last)
    go true f e c =
        let two = one_stays n b last first l packed more f in
        let less : length (listed n b last false) < n =
        omega (
          arith,
          ap length (listed_more n b last false more
              ∙ ap (λ g. listed (n - 1) (below_of b) (before b last) g ++ last ∷ []) f),
          length_push (listed (n - 1) (below_of b) (before b last) true) last,
          fewer_listed (n - 1) (below_of b) (before b last) (omega (arith, two)),
        ) in (
          λ g. omega (arith, counted, less),
          omega (arith, counted, less, e, c, more),
        )
    go false f e c = (
      λ g. cc,
      omega (
        arith,
        counted,
        e,
        c,
        more,
        ap length (listed_more n b last false more),
        length_push (listed (n - 1) (below_of b) (before b last) (removed_of b)) last,
      ),
    )

-- an equation that holds where a call went well
pub on_ok : {T E X : Type 0} (r : Result T E) (x y z w : X) → x ≡ cond (is_ok r) y z → y ≡ w
    → OnOk r (x ≡ w)
on_ok (Ok v) x y z w e f = e ∙ f
on_ok (Err v) x y z w e f = tt

pub went_well : {T E X : Type 0} (r : Result T E) (x y : X) → IsOk r → OnOk r (x ≡ y) → x ≡ y
went_well (Ok v) x y ok e = e
went_well (Err v) x y ok e = absurd (cc)

pub if_ok : {T E X : Type 0} (r : Result T E) (x y z : X) → IsOk r → x ≡ cond (is_ok r) y z → x ≡ y
if_ok (Ok v) x y z ok e = e
if_ok (Err v) x y z ok e = absurd (cc)

pub listed_none : (n : ℕ) (b last : List ℕ) (g : Bool) → n ≡ 0 → listed n b last g ≡ []
unfolding listed
listed_none n b last g e = rw e refl

slice_get_at : {X : Type 0} (xs : List X) (y : X) (n : ℕ) → n ≡ length xs
    → slice_get (xs ++ y ∷ []) n ≡ Some y
slice_get_at [] y n e = rw e refl
slice_get_at (x ∷ xs) y n e = rw e (slice_get_at xs y (length xs) refl)

pub listed_last : (n : ℕ) (b last : List ℕ) → 0 < n
    → Some last ≡ slice_get (listed n b last false) (length (listed n b last false) - 1)
listed_last n b last more =
    rw (listed_more n b last false more)
    (sym (slice_get_at (listed (n - 1) (below_of b) (before b last) (removed_of b)) last _
    (omega (arith, length_push (listed (n - 1) (below_of b) (before b last) (removed_of b)) last))))

leads_back : (last rest t : List ℕ) (k : ℕ) → k ≤ length last → t ≡ drop k last
    → back (length rest, t, false) (take k last ++ rest) ≡ last
leads_back last rest t k le e =
    let j : length (take k last ++ rest) - length rest ≡ k
    = omega (arith, length-append (take k last) rest, length-take k last) in
    let cut : take k (take k last ++ rest) ≡ take k last
    = take_at (take k last) rest k (omega (arith, length-take k last)) in
    rw (j, cut, e) (take-append-drop k last)

-- a schedule goes on top
pub record Grown (n : ℕ) (b last first : List ℕ) (m : ℕ) (all : List (List ℕ)) : Type 0 where
  pub stack : IsStack n b last first m
  pub view : listed n b last false ≡ all

pub pushed : (n : ℕ) (b last first : List ℕ) (l : ℕ) (rest c top t : List ℕ) (k m : ℕ)
    → IsStack n b last first l → k ≤ length last → length rest < 2 ^ 64 → length t < 2 ^ 64
    → t ≡ drop k last → c ≡ b ++ way_bytes (length rest) t false → top ≡ take k last ++ rest
    → l ≤ m → length top ≤ m
    → Grown (n + 1) c top first m (listed n b last false ++ (take k last ++ rest) ∷ [])
pushed n b last first l rest c top t k m stack le fits fit e f g room short =
    let s = take k last ++ rest in
    let long : length s ≡ k + length rest
    = omega (arith, length-append (take k last) rest, length-take k last) in
    let leads : back (length rest, t, false) s ≡ last = leads_back last rest t k le e in
    rw (f, g) (record {
      stack = stack_push n b last first l m t s (length rest) stack room
          (omega (arith, ap length g, short)) fits fit leads;
      view = listed_push n b t (length rest) false last s false fits fit leads;
    })

-- a stack goes on top
pub appended : (n k : ℕ) (b c last first end start : List ℕ) (l j : ℕ) (mid both top t : List ℕ)
    (i m : ℕ) → IsStack n b last first l → IsStack k c end start j → i ≤ length last
    → i ≤ length start → length start < 2 ^ 64 → length t < 2 ^ 64 → take i last ≡ take i start
    → t ≡ drop i last → mid ≡ b ++ way_bytes (length start - i) t false → both ≡ mid ++ c → top ≡ end
    → l ≤ m → j ≤ m → Grown (n + k) both top first m (listed n b last false ++ listed k c end false)
appended n k b c last first end start l j mid both top t i m stack other low le fits fit alike e f
    g h room above =
    let made : take i last ++ drop i start ≡ start = rw alike (take-append-drop i start) in
    let count : length (drop i start) ≡ length start - i = length-drop i start in
    let leads : back (length start - i, t, false) start ≡ last
    = ap (back (length start - i, t, false)) (sym made)
    ∙ ap (λ n. back (n, t, false) (take i last ++ drop i start)) (sym count)
    ∙ leads_back last (drop i start) t i low e in
    rw (g, f, h) (record {
      stack = stack_append n k b c last first end start l j m t (length start - i) stack other room
          above (omega arith) fit leads;
      view = listed_append n k b c last end start j t (length start - i) other (omega arith) fit
          leads;
    })

pub last_of_listed : (n : ℕ) (b last : List ℕ) → 0 < n → last_of (listed n b last false) ≡ last
last_of_listed n b last more =
    rw (listed_more n b last false more)
    (get_or_push (listed (n - 1) (below_of b) (before b last) (removed_of b)) last [] _
    (omega (arith, length_push (listed (n - 1) (below_of b) (before b last) (removed_of b)) last)))

-- a prefix is what it shares with the last one, and what comes after
pub taken_after : (p : List (List ℕ)) (last prefix : List ℕ) (k : ℕ) → last_of p ≡ last
    → take k last ≡ take k prefix
    → p ++ (take k (last_of p) ++ take (length prefix - k) (drop k prefix)) ∷ [] ≡ p ++ prefix ∷ []
taken_after p last prefix k e alike =
    rw (e, alike, take_rest prefix k, take-append-drop k prefix) refl

take_none : {X : Type 0} (k : ℕ) → take {A = X} k [] ≡ []
take_none zero = refl
take_none (suc k) = refl

pub take_within : {X : Type 0} (k : ℕ) (xs : List X) → take (min k (length xs)) xs ≡ take k xs
take_within k [] = take_none (min k 0) ∙ sym (take_none k)
take_within zero (x ∷ xs) =
    let e : min 0 (length (x ∷ xs)) ≡ 0 = omega arith in
    ap (λ n. take n (x ∷ xs)) e
take_within (suc k) (x ∷ xs) =
    let e : min (suc k) (suc (length xs)) ≡ suc (min k (length xs)) = omega arith in
    rw e (ap (λ r. x ∷ r) (take_within k xs))

-- after none, what comes after is all
pub after_none : (p : List (List ℕ)) (rest : List ℕ) (k : ℕ) → p ≡ []
    → p ++ (take k (last_of p) ++ rest) ∷ [] ≡ rest ∷ []
after_none p rest k none = rw (none, take_none {X = ℕ} k) refl

-- A search from the last prefix on. It stands at one of the prefixes, of which it knows how many
-- steps it has, how many it shares with the wanted one, and whether it is removed; those after it
-- are not the wanted one.
pub record Seeks (list : List (List ℕ)) (wanted : List ℕ) (count place : ℕ) (bytes : List ℕ)
    (steps shared : ℕ) (removed : Bool) : Type 0 where
  pub last : List ℕ
  pub first : List ℕ
  pub longest : ℕ
  pub small : longest < 2 ^ 63
  pub long : steps ≡ length last
  pub alike : shared ≡ common_length last wanted
  pub few : shared ≤ length wanted
  pub packed : IsPacked count bytes last first longest
  pub left : listed count bytes last removed ≡ take place list
  pub within : place ≤ length list
  pub none : (j : ℕ) (d : List ℕ) → place ≤ j → j < length list →
      slice_index_or list j d ≡ wanted → ⊥

pub got_take : {X : Type 0} (n k : ℕ) (xs : List X) → k < n →
    slice_get (take n xs) k ≡ slice_get xs k
got_take zero k xs h = absurd (omega arith)
got_take (suc n) k [] h = refl
got_take (suc n) zero (x ∷ xs) h = refl
got_take (suc n) (suc k) (x ∷ xs) h = got_take n k xs (omega arith)

got_at : {X : Type 0} (xs : List X) (k : ℕ) (x d : X) → slice_get xs k ≡ Some x →
    slice_index_or xs k d ≡ x
got_at [] k x d e = cc
got_at (y ∷ ys) zero x d e = cc
got_at (y ∷ ys) (suc k) x d e = got_at ys k x d e

-- where the prefix isn't removed, there is one more place
pub stands_within : (list : List (List ℕ)) (wanted : List ℕ) (count place : ℕ) (bytes : List ℕ)
    (steps shared : ℕ) → 0 < count → Seeks list wanted count place bytes steps shared false →
    0 < place
stands_within list wanted count place bytes steps shared some s =
    let below = listed (count - 1) (below_of bytes) (before bytes s.last) (removed_of bytes) in
    omega (
      arith,
      ap length (sym (listed_more count bytes s.last false some) ∙ s.left),
      length_push below s.last,
      length-take place list,
    )

-- those before it are those before it in the list
below_it : (list : List (List ℕ)) (wanted : List ℕ) (count place : ℕ) (bytes : List ℕ)
    (steps shared : ℕ) → 0 < count →
    (s : Seeks list wanted count place bytes steps shared false) →
    (listed (count - 1) (below_of bytes) (before bytes s.last) (removed_of bytes)
    ≡ take (place - 1) list) × (slice_get list (place - 1) ≡ Some s.last)
below_it list wanted count place bytes steps shared some s =
    let below = listed (count - 1) (below_of bytes) (before bytes s.last) (removed_of bytes) in
    let whole : below ++ s.last ∷ [] ≡ take place list =
    sym (listed_more count bytes s.last false some) ∙ s.left in
    let k : length below ≡ place - 1 =
    omega (
      arith,
      ap length whole,
      length_push below s.last,
      length-take place list,
      s.within,
      stands_within list wanted count place bytes steps shared some s,
    ) in (
      sym (take_at below (s.last ∷ []) (length below) refl)
          ∙ ((λ i. take (k i) (whole i)) ∙ take-take (place - 1) place list (omega arith)),
      sym (got_take place (place - 1) list
          (omega (arith, stands_within list wanted count place bytes steps shared some s)))
          ∙ (ap (λ l. slice_get l (place - 1)) (sym whole)
          ∙ slice_get_at below s.last (place - 1) (sym k)),
    )

-- it is found
pub seek_found : (list : List (List ℕ)) (wanted : List ℕ) (count place : ℕ)
    (bytes : List ℕ) (steps shared : ℕ) → 0 < count →
    Seeks list wanted count place bytes steps shared false →
    shared ≡ steps → steps ≡ length wanted → slice_get list (place - 1) ≡ Some wanted
seek_found list wanted count place bytes steps shared some s e f =
    let is : s.last ≡ wanted =
    same_where s.last wanted (sym s.alike ∙ (e ∙ s.long)) (sym s.long ∙ f) in
    (below_it list wanted count place bytes steps shared some s).1 ∙ ap (λ w. Some w) is

-- what a step of a search says of the prefix before
pub record StepsBack (last wanted bytes : List ℕ) (gone : Bool) (steps shared : ℕ) : Type 0 where
  pub long : steps ≡ length (before bytes last)
  pub alike : shared ≡ common_length (before bytes last) wanted
  pub few : shared ≤ length wanted
  pub removed : gone ≡ removed_of bytes

-- the search goes on, where the prefix is removed
pub seek_past : (list : List (List ℕ)) (wanted : List ℕ) (count place : ℕ)
    (bytes : List ℕ) (steps shared steps' shared' : ℕ) (removed : Bool) → 0 < count →
    (s : Seeks list wanted count place bytes steps shared true) →
    StepsBack s.last wanted bytes removed steps' shared' →
    Seeks list wanted (count - 1) place (below_of bytes) steps' shared' removed
seek_past list wanted count place bytes steps shared steps' shared' removed some s b = record {
  last = before bytes s.last;
  first = s.first;
  longest = s.longest;
  small = s.small;
  long = b.long;
  alike = b.alike;
  few = b.few;
  packed = packed_pop count bytes s.last s.first s.longest s.packed some;
  left = ap (listed (count - 1) (below_of bytes) (before bytes s.last)) b.removed
      ∙ (sym (append-nil _) ∙ (sym (listed_more count bytes s.last true some) ∙ s.left));
  within = s.within;
  none = s.none;
}

-- and where it isn't the wanted one
pub seek_before : (list : List (List ℕ)) (wanted : List ℕ) (count place : ℕ)
    (bytes : List ℕ) (steps shared steps' shared' : ℕ) (removed : Bool) → 0 < count →
    (s : Seeks list wanted count place bytes steps shared false) →
    ((shared ≡ steps) × (steps ≡ length wanted) → ⊥) →
    StepsBack s.last wanted bytes removed steps' shared' →
    Seeks list wanted (count - 1) (place - 1) (below_of bytes) steps' shared' removed
seek_before list wanted count place bytes steps shared steps' shared' removed some s other b =
    record {
      last = before bytes s.last;
      first = s.first;
      longest = s.longest;
      small = s.small;
      long = b.long;
      alike = b.alike;
      few = b.few;
      packed = packed_pop count bytes s.last s.first s.longest s.packed some;
      left = ap (listed (count - 1) (below_of bytes) (before bytes s.last)) b.removed
          ∙ (below_it list wanted count place bytes steps shared some s).0;
      within = omega (arith, s.within);
      none = λ j d lo hi is. none-at j d lo hi is;
    }
  where
    here : (d : List ℕ) → slice_index_or list (place - 1) d ≡ wanted → ⊥
    here d is =
        let at : slice_index_or list (place - 1) d ≡ s.last =
        got_at list (place - 1) s.last d
        (below_it list wanted count place bytes steps shared some s).1 in
        let same : s.last ≡ wanted = sym at ∙ is in
        other (
          s.alike ∙ (ap (λ w. common_length s.last w) (sym same) ∙
              (where_same s.last ∙ sym s.long)),
          s.long ∙ ap length same,
        )

    none-at : (j : ℕ) (d : List ℕ) → place - 1 ≤ j → j < length list →
        slice_index_or list j d ≡ wanted → ⊥
    none-at j d lo hi is = ⊎_elim (λ (l : place - 1 < j). s.none j d (omega arith) hi is)
        (λ (g : j ≤ place - 1).
        let e : j ≡ place - 1 = omega arith in
        here d (ap (λ k. slice_index_or list k d) (sym e) ∙ is))
        (cases_lt (place - 1) j)

pub start_within : (b : List ℕ) → start_of b ≤ length b
unfolding start_of end_of
start_within b = elim (is_short b) as
    (λ t. cond t
    (cond t (length b - 1) (length b - 17) - head_of b % 16)
    (cond t (length b - 1) (length b - 17)
    - cond (nat_lt (length b) 17) 0 (number_at (length b - 9) b)) ≤ length b)
    [ true ↦ omega arith | false ↦ omega arith ]

-- the search goes on in either case
pub seek_on : (list : List (List ℕ)) (wanted : List ℕ) (count place place' : ℕ) (D : List ℕ)
    (end end' steps shared steps' shared' : ℕ) (removed removed' : Bool) → 0 < count →
    end ≤ length D →
    (s : Seeks list wanted count place (take end D) steps shared removed) →
    end' ≡ start_of (take end D) →
    StepsBack s.last wanted (take end D) removed' steps' shared' →
    ((removed ≡ true) × (place' ≡ place))
    ⊎ ((removed ≡ false) × (place' ≡ place - 1)
    × ((shared ≡ steps) × (steps ≡ length wanted) → ⊥)) →
    (end' ≤ length D) × Seeks list wanted (count - 1) place' (take end' D) steps' shared' removed'
seek_on list wanted count place place' D end end' steps shared steps' shared' removed removed' some
    low s e b h =
    let at : end' ≤ end = omega (arith, e, start_within (take end D), length-take end D) in
    let cut : below_of (take end D) ≡ take end' D =
    (λ i. take (sym e i) (take end D)) ∙ take-take end' end D at in (
      omega (arith, at, low),
      subst (λ x. Seeks list wanted (count - 1) place' x steps' shared' removed') cut (go removed s b h),
    )
  where
    go : (g : Bool) → (s : Seeks list wanted count place (take end D) steps shared g) →
        StepsBack s.last wanted (take end D) removed' steps' shared' →
        ((g ≡ true) × (place' ≡ place)) ⊎ ((g ≡ false) × (place' ≡ place - 1)
        × ((shared ≡ steps) × (steps ≡ length wanted) → ⊥)) →
        Seeks list wanted (count - 1) place' (below_of (take end D)) steps' shared' removed'
    go true s b (inl h) = subst
        (λ p. Seeks list wanted (count - 1) p (below_of (take end D)) steps' shared' removed')
        (sym h.1) (seek_past list wanted count place (take end D) steps shared steps' shared' removed'
        some s b)
    go true s b (inr h) = absurd (let e : true ≡ false = h.0 in cc)
    go false s b (inl h) = absurd (let e : false ≡ true = h.0 in cc)
    go false s b (inr h) = subst
        (λ p. Seeks list wanted (count - 1) p (below_of (take end D)) steps' shared' removed')
        (sym h.1) (seek_before list wanted count place (take end D) steps shared steps' shared'
        removed' some s h.2 b)

-- none is left
pub seek_end : (list : List (List ℕ)) (wanted : List ℕ) (count place : ℕ) (bytes : List ℕ)
    (steps shared : ℕ) (removed : Bool) → count ≡ 0 →
    Seeks list wanted count place bytes steps shared removed → place ≡ 0
seek_end list wanted count place bytes steps shared removed e s =
    omega (
      arith,
      ap length (sym (listed_none count bytes s.last removed e) ∙ s.left),
      length-take place list,
      s.within,
    )

end_within : (b : List ℕ) → end_of b ≤ length b
unfolding end_of
end_within b = elim (is_short b) as
    (λ t. cond t (length b - 1) (length b - 17) ≤ length b)
    [ true ↦ omega arith | false ↦ omega arith ]

pub length-before : (b last : List ℕ) →
    length (before b last) ≡ length last - dropped_of b + (end_of b - start_of b)
length-before b last =
    omega (
      arith,
      length-append (take (length last - dropped_of b) last) (tail_of b),
      length-take (length last - dropped_of b) last,
      length-take (end_of b - start_of b) (drop (start_of b) b),
      length-drop (start_of b) b,
      end_within b,
    )

-- the prefix before fits
pub before_fits : (list : List (List ℕ)) (wanted : List ℕ) (count place : ℕ)
    (bytes : List ℕ) (steps shared : ℕ) (removed : Bool) → 0 < count →
    Seeks list wanted count place bytes steps shared removed →
    steps - dropped_of bytes + (end_of bytes - start_of bytes) < 2 ^ 63
before_fits list wanted count place bytes steps shared removed some s =
    omega (
      arith,
      s.long,
      length-before bytes s.last,
      s.small,
      packed_before count bytes s.last s.first s.longest s.packed some,
    )

-- a search begins at the last prefix
pub seek_start : (list : List (List ℕ)) (first wanted : List ℕ) (longest count : ℕ)
    (bytes last : List ℕ) (steps shared : ℕ) → longest < 2 ^ 63
    → IsPacked count bytes last first longest → listed count bytes last false ≡ list →
    steps ≡ length last → shared ≡ common_length last wanted → shared ≤ length wanted →
    Seeks list wanted count (length list) bytes steps shared false
seek_start list first wanted longest count bytes last steps shared small packed view f g h =
    record {
      last = last;
      first = first;
      longest = longest;
      small = small;
      long = f;
      alike = g;
      few = h;
      packed = packed;
      left = view ∙ sym (take_all (length list) list (omega arith));
      within = omega arith;
      none = λ j d lo hi is. absurd (omega (arith, lo, hi));
    }

pub packed_few : (n : ℕ) (b last first : List ℕ) (l : ℕ) → IsPacked n b last first l →
    n ≤ length b + 1
packed_few n b last first l (inl e) = omega (arith, e)
packed_few n b last first l (inr s) = stack_count n b last first l s

-- the list that bytes hold, of which those at the front are the first prefix, with the last prefix
pub record Holds (n front : ℕ) (bytes last : List ℕ) (l : ℕ) (all : List (List ℕ)) : Type 0 where
  pub within : front ≤ length bytes
  pub packed : IsPacked n (drop front bytes) last (take front bytes) l
  pub view : listed n (drop front bytes) last false ≡ all

-- and it holds the same where longer ones are allowed
pub held_more : (n front : ℕ) (b last : List ℕ) (l m : ℕ) (all : List (List ℕ)) → l ≤ m →
    Holds n front b last l all → Holds n front b last m all
held_more n front b last l m all le h = record {
  within = h.within;
  packed = packed_more n (drop front b) last (take front b) l m le h.packed;
  view = h.view;
}

-- bytes after the others leave the first prefix as it is
pub grown_after : (n front : ℕ) (b w c top : List ℕ) (m : ℕ) (all : List (List ℕ)) →
    front ≤ length b → c ≡ b ++ w →
    ((d : List ℕ) → d ≡ drop front b ++ w → Grown n d top (take front b) m all) →
    Holds n front c top m all
grown_after n front b w c top m all le wrote grown =
    let more : drop front c ≡ drop front b ++ w =
    ap (drop front) wrote ∙ drop-append-le front b w le in
    let same : take front c ≡ take front b =
    ap (take front) wrote ∙ take-append-le front b w le in
    let g = grown (drop front c) more in
    record {
      within = omega (arith, ap length wrote, length-append b w);
      packed = inr (subst (λ (f : List ℕ). IsStack n (drop front c) top f m) (sym same) g.stack);
      view = g.view;
    }

-- the first prefix
pub started_with : (front : ℕ) (b p last : List ℕ) (l : ℕ) → front ≡ length p → b ≡ p → last ≡ p →
    length p ≤ l → Holds 1 front b last l (p ∷ [])
started_with front b p last l e f g short =
    let none : drop front b ≡ [] = ap (drop front) f ∙ drop_all front p (omega arith) in
    let whole : take front b ≡ p = ap (take front) f ∙ take_all front p (omega arith) in
    record {
      within = omega (arith, ap length f);
      packed = inr (rw (none, whole, g) (stack_one p l short));
      view = rw (none, g) (listed_one [] p false);
    }

-- and it counts as many
pub held_count : (n r front : ℕ) (bytes last : List ℕ) (l : ℕ) (all : List (List ℕ)) →
    Holds n front bytes last l all → n ≡ length all + r → IsCounted n r (drop front bytes) last
held_count n r front bytes last l all h e = omega (arith, ap length h.view, e)

-- the last prefix comes off
pub record CameOff (front : ℕ) (b last c top : List ℕ) : Type 0 where
  pub within : front ≤ length c
  pub below : drop front c ≡ below_of (drop front b)
  pub same : take front c ≡ take front b
  pub back : top ≡ before (drop front b) last

pub comes_off : (front : ℕ) (b last c top : List ℕ) → front ≤ length b →
    start_of (drop front b) ≤ length (drop front b) →
    c ≡ take (front + start_of (drop front b)) b → top ≡ before (drop front b) last →
    CameOff front b last c top
comes_off front b last c top le start cut back = record {
  within = omega (
    arith,
    ap length cut,
    length-take (front + start_of (drop front b)) b,
    length-drop front b,
    start,
    le,
  );
  below = ap (drop front) cut ∙ drop-take front (start_of (drop front b)) b;
  same = ap (take front) cut
      ∙ take-take front (front + start_of (drop front b)) b (omega arith);
  back = back;
}
