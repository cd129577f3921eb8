-- Which prefixes of a list are removed in place.
use Rattle.std.proofs.Common.{◌≡◌, ℕ, zero, suc, ◌+◌, ◌-◌, ◌*◌, ◌<◌, ◌≤◌, Bool, true, false, cond, not, ◌||◌, ◌&&◌, ◌⊎◌, inl, inr, nat_lt, List, [], ◌∷◌, ◌++◌, length, take, drop, set, get_or, filter, refl, sym, ◌∙◌, ap, subst, arith, append_assoc, length-append}
use Rattle.std.{specs.Int.{to_le_bytes, w64}, proofs.Math.Seq.set-append_seam}
use Rattle.std.proofs.lemmas.Bool.{and_parts, ltb-true}
use Rattle.std.proofs.lemmas.List.{append-nil, take_at, drop_at, take-append-drop, set-append_right, length-take-le, length_push, get_or_push}
use Rattle.std.proofs.lemmas.List.Elements.{filter-append}
use Rattle.walk_prefixes.specs.PrefixLists.{common_length, is_later, last_of}
use Rattle.walk_prefixes.specs.inner.Packed.{Way, mark, way_bytes, ways_bytes, first_by, AreWays, IsStack, IsCounted, back, before, start_of, end_of, dropped_of, removed_of, unless, listed}
use Rattle.walk_prefixes.proofs.PackedPrefixes.{listed_one, listed_push, first_by-append, ways_bytes-append, length-before, last_short}
use Rattle.walk_prefixes.proofs.WayBytes.{before-way, removed_of-way, length-way, reads}

-- the schedules before the last one, without those that are removed
unfoldable pub earlier : List Way → List ℕ → List (List ℕ)
earlier [] last = []
earlier (w ∷ ws) last = earlier ws (back w last) ++ unless w.2 (back w last)

pub listed_ways : (ws : List Way) (last : List ℕ) (g : Bool) (l : ℕ) → AreWays ws last l →
    listed (length ws + 1) (ways_bytes ws) last g ≡ earlier ws last ++ unless g last
unfolding AreWays ways_bytes earlier
listed_ways [] last g l a = listed_one [] last g
listed_ways (w ∷ ws) last g l a =
    let k : suc (length ws) + 1 ≡ length ws + 1 + 1 = omega arith in
    (λ i. listed (k i) (ways_bytes ws ++ way_bytes w.0 w.1 w.2) last g)
    ∙ (listed_push (length ws + 1) (ways_bytes ws) w.1 w.0 w.2 (back w last) last g a.0 a.1 refl
    ∙ ap (λ xs. xs ++ unless g last) (listed_ways ws (back w last) w.2 l a.3))

-- the ways where what comes after a schedule is removed
unfoldable pub marked : List ℕ → List Way → List ℕ → List Way
marked s [] last = []
marked s (w ∷ ws) last =
    (w.0, w.1, w.2 || is_later s (back w last)) ∷ marked s ws (back w last)

-- how many more are removed then
unfoldable pub newly : List ℕ → List Way → List ℕ → ℕ
newly s [] last = 0
newly s (w ∷ ws) last =
    newly s ws (back w last) + cond (not w.2 && is_later s (back w last)) 1 0

later_gone : (s x : List ℕ) (g : Bool) →
    unless (g || is_later s x) x ≡ filter (λ p. not (is_later s p)) (unless g x)
later_gone s x true = refl
later_gone s x false = elim (is_later s x) as
    (λ b. unless b x ≡ cond (not b) (x ∷ []) []) [ true ↦ refl | false ↦ refl ]

pub earlier_marked : (s : List ℕ) (ws : List Way) (last : List ℕ) →
    earlier (marked s ws last) last ≡ filter (λ p. not (is_later s p)) (earlier ws last)
unfolding earlier marked
earlier_marked s [] last = refl
earlier_marked s (w ∷ ws) last =
    (λ i. earlier_marked s ws (back w last) i ++ later_gone s (back w last) w.2 i)
    ∙ sym (filter-append (λ p. not (is_later s p)) (earlier ws (back w last))
    (unless w.2 (back w last)))

one_gone : (s x : List ℕ) (g : Bool) → length (unless g x)
    ≡ length (unless (g || is_later s x) x) + cond (not g && is_later s x) 1 0
one_gone s x true = refl
one_gone s x false = elim (is_later s x) as
    (λ b. 1 ≡ length (unless b x) + cond b 1 0) [ true ↦ refl | false ↦ refl ]

pub earlier_number : (s : List ℕ) (ws : List Way) (last : List ℕ) →
    length (earlier ws last) ≡ length (earlier (marked s ws last) last) + newly s ws last
unfolding earlier marked newly
earlier_number s [] last = refl
earlier_number s (w ∷ ws) last =
    omega (
      arith,
      length-append (earlier ws (back w last)) (unless w.2 (back w last)),
      length-append (earlier (marked s ws (back w last)) (back w last))
          (unless (w.2 || is_later s (back w last)) (back w last)),
      earlier_number s ws (back w last),
      one_gone s (back w last) w.2,
    )

pub length_marked : (s : List ℕ) (ws : List Way) (last : List ℕ) →
    length (marked s ws last) ≡ length ws
unfolding marked
length_marked s [] last = refl
length_marked s (w ∷ ws) last = ap (λ n. suc n) (length_marked s ws (back w last))

pub first_marked : (s : List ℕ) (ws : List Way) (last : List ℕ) →
    first_by (marked s ws last) last ≡ first_by ws last
unfolding marked first_by
first_marked s [] last = refl
first_marked s (w ∷ ws) last = first_marked s ws (back w last)

pub sound_marked : (s : List ℕ) (ws : List Way) (last : List ℕ) (l : ℕ) → AreWays ws last l →
    AreWays (marked s ws last) last l
unfolding marked AreWays
sound_marked s [] last l a = a
sound_marked s (w ∷ ws) last l a = (a.0, a.1, a.2, sound_marked s ws (back w last) l a.3)

pub marked_more : (s : List ℕ) (us : List Way) (w : Way) (last : List ℕ) →
    marked s (us ++ w ∷ []) last ≡ marked s us last
    ++ (w.0, w.1, w.2 || is_later s (back w (first_by us last))) ∷ []
unfolding marked first_by
marked_more s [] w last = refl
marked_more s (u ∷ us) w last = ap
    (λ ms. (u.0, u.1, u.2 || is_later s (back u last)) ∷ ms)
    (marked_more s us w (back u last))

pub newly_more : (s : List ℕ) (us : List Way) (w : Way) (last : List ℕ) →
    newly s (us ++ w ∷ []) last ≡ newly s us last
    + cond (not w.2 && is_later s (back w (first_by us last))) 1 0
unfolding newly first_by
newly_more s [] w last = refl
newly_more s (u ∷ us) w last = omega (arith, newly_more s us w (back u last))

-- a way's bytes, of which the mark is a part of the last one
pub record Formed (d : ℕ) (t : List ℕ) : Type 0 where
  pub body : List ℕ
  pub head : ℕ
  pub small : head < 128
  pub is : (g : Bool) → way_bytes d t g ≡ body ++ (mark g + head) ∷ []

pub formed : (d : ℕ) (t : List ℕ) → Formed d t
unfolding way_bytes
formed d t = go (nat_lt d 8 && nat_lt (length t) 15) refl
  where
    go : (b : Bool) → (nat_lt d 8 && nat_lt (length t) 15) ≡ b → Formed d t
    go true e =
        let p = and_parts (nat_lt d 8) (nat_lt (length t) 15) e in
        record {
          body = t;
          head = d * 16 + length t;
          small = omega (arith, ltb-true _ _ p.0, ltb-true _ _ p.1);
          is = λ g. rw e refl;
        }
    go false e = record {
      body = t ++ to_le_bytes w64 d ++ to_le_bytes w64 (length t);
      head = 15;
      small = omega arith;
      is = λ g. rw e refl;
    }

-- what the byte before a place is, and what setting it does
pub flipped : (d : ℕ) (t x m : List ℕ) (at v : ℕ) → at ≡ length (x ++ way_bytes d t false) - 1 →
    v ≡ get_or ((x ++ way_bytes d t false) ++ m) at 0 + 128 →
    (get_or ((x ++ way_bytes d t false) ++ m) at 0 < 128)
    × (set ((x ++ way_bytes d t false) ++ m) at v ≡ (x ++ way_bytes d t true) ++ m)
flipped d t x m at v e f =
    let w = formed d t in
    let no : mark false + w.head ≡ w.head = omega arith in
    let shape : (x ++ way_bytes d t false) ++ m ≡ (x ++ w.body) ++ w.head ∷ m =
    ap (λ b. (x ++ b) ++ m) (w.is false ∙ (λ i. w.body ++ no i ∷ []))
    ∙ (ap (λ b. b ++ m) (sym (append_assoc x w.body (w.head ∷ [])))
    ∙ append_assoc (x ++ w.body) (w.head ∷ []) m) in
    let place : at ≡ length (x ++ w.body) =
    omega (
      arith,
      e,
      length-append x (way_bytes d t false),
      ap length (w.is false),
      length-append w.body ((mark false + w.head) ∷ []),
      length-append x w.body,
    ) in
    let got : get_or ((x ++ way_bytes d t false) ++ m) at 0 ≡ w.head =
    (λ i. get_or (shape i) (place i) 0) ∙ at_seam (x ++ w.body) w.head m in
    let new : v ≡ 128 + w.head = omega (arith, f, got) in (
      omega (arith, got, w.small),
      (λ i. set (shape i) (place i) (new i))
          ∙ (set-append_seam (x ++ w.body) w.head m (128 + w.head)
          ∙ sym (ap (λ b. (x ++ b) ++ m) (w.is true)
          ∙ (ap (λ b. b ++ m) (sym (append_assoc x w.body ((128 + w.head) ∷ [])))
          ∙ append_assoc (x ++ w.body) ((128 + w.head) ∷ []) m))),
    )
  where
    at_seam : (xs : List ℕ) (h : ℕ) (ys : List ℕ) → get_or (xs ++ h ∷ ys) (length xs) 0 ≡ h
    at_seam [] h ys = refl
    at_seam (y ∷ xs) h ys = at_seam xs h ys

-- A pass from the last prefix on that removes what comes after a schedule: of the ways back some are
-- marked as they have to be, and the others are as before.
pub record Marks (count : ℕ) (s b0 last first : List ℕ) (longest r0 : ℕ) (b : List ℕ)
    (r left end steps shared step : ℕ) : Type 0 where
  pub taken : List Way
  pub others : List Way
  pub counted : count ≡ length taken + length others + 1
  pub all : b0 ≡ ways_bytes (taken ++ others)
  pub leads : first ≡ first_by (taken ++ others) last
  pub sound : AreWays (taken ++ others) last longest
  pub spelt : b ≡ ways_bytes others ++ ways_bytes (marked s taken last)
  pub ends : end ≡ length (ways_bytes others)
  pub rest : left ≡ length others
  pub long : steps ≡ length (first_by taken last)
  pub alike : shared ≡ common_length (first_by taken last) s
  pub few : shared ≤ length s
  pub next : step ≡ get_or (first_by taken last) shared 0
  pub number : r ≡ r0 + newly s taken last

pub marks_start : (count : ℕ) (s b0 last first : List ℕ) (longest r0 left end steps shared step : ℕ) →
    IsStack count b0 last first longest → left ≡ count - 1 → end ≡ length b0 →
    steps ≡ length last → shared ≡ common_length last s → shared ≤ length s →
    step ≡ get_or last shared 0 →
    Marks count s b0 last first longest r0 b0 r0 left end steps shared step
unfolding first_by marked newly ways_bytes
marks_start count s b0 last first longest r0 left end steps shared step st e f g h i j = record {
  taken = [];
  others = st.ways;
  counted = omega (arith, st.counted);
  all = st.spelt;
  leads = st.leads;
  sound = st.sound;
  spelt = st.spelt ∙ sym (append-nil (ways_bytes st.ways));
  ends = f ∙ ap length st.spelt;
  rest = omega (arith, e, st.counted);
  long = g;
  alike = h;
  few = i;
  next = j;
  number = omega arith;
}

-- the ways of which the first is gone next
pub record Ahead (count : ℕ) (s b0 last first : List ℕ) (longest r0 : ℕ) (b : List ℕ)
    (r left end steps shared step : ℕ)
    (m : Marks count s b0 last first longest r0 b r left end steps shared step) : Type 0 where
  pub way : Way
  pub ways : List Way
  pub others : m.others ≡ way ∷ ways
  pub bytes : take end b ≡ ways_bytes ways ++ way_bytes way.0 way.1 way.2
  pub whole : b ≡ (ways_bytes ways ++ way_bytes way.0 way.1 way.2)
      ++ ways_bytes (marked s m.taken last)
  pub sound : AreWays (way ∷ ways) (first_by m.taken last) longest

sound_after : (us ws : List Way) (last : List ℕ) (l : ℕ) → AreWays (us ++ ws) last l →
    AreWays ws (first_by us last) l
unfolding AreWays first_by
sound_after [] ws last l a = a
sound_after (u ∷ us) ws last l a = sound_after us ws (back u last) l a.3

pub ahead : (count : ℕ) (s b0 last first : List ℕ) (longest r0 : ℕ) (b : List ℕ)
    (r left end steps shared step : ℕ)
    (m : Marks count s b0 last first longest r0 b r left end steps shared step) → 0 < left →
    Ahead count s b0 last first longest r0 b r left end steps shared step m
unfolding ways_bytes
ahead count s b0 last first longest r0 b r left end steps shared step m more =
    go m.others refl
  where
    go : (os : List Way) → m.others ≡ os →
        Ahead count s b0 last first longest r0 b r left end steps shared step m
    go [] e = absurd (omega (arith, more, m.rest, ap length e))
    go (w ∷ ws) e = record {
      way = w;
      ways = ws;
      others = e;
      bytes = ap (take end) (m.spelt ∙ ap (λ os. ways_bytes os ++ ways_bytes (marked s m.taken last)) e)
          ∙ take_at (ways_bytes (w ∷ ws)) (ways_bytes (marked s m.taken last)) end
          (sym (m.ends ∙ ap (λ os. length (ways_bytes os)) e));
      whole = m.spelt ∙ ap (λ os. ways_bytes os ++ ways_bytes (marked s m.taken last)) e;
      sound = sound_after m.taken (w ∷ ws) last longest
          (subst (λ os. AreWays (m.taken ++ os) last longest) e m.sound);
    }

-- once more
pub marks_on : (count : ℕ) (s b0 last first : List ℕ) (longest r0 : ℕ) (b : List ℕ)
    (r left end steps shared step : ℕ)
    (m : Marks count s b0 last first longest r0 b r left end steps shared step)
    (a : Ahead count s b0 last first longest r0 b r left end steps shared step m) →
    (c : List ℕ) (q left' end' steps' shared' step' : ℕ) →
    left' ≡ left - 1 →
    end' ≡ start_of (take end b) → steps' ≡ length (before (take end b) (first_by m.taken last)) →
    shared' ≡ common_length (before (take end b) (first_by m.taken last)) s → shared' ≤ length s →
    step' ≡ get_or (before (take end b) (first_by m.taken last)) shared' 0 →
    q ≡ r + cond (not a.way.2 && is_later s (back a.way (first_by m.taken last))) 1 0 →
    c ≡ (ways_bytes a.ways ++ way_bytes a.way.0 a.way.1
    (a.way.2 || is_later s (back a.way (first_by m.taken last))))
    ++ ways_bytes (marked s m.taken last) →
    Marks count s b0 last first longest r0 c q left' end' steps' shared' step'
unfolding ways_bytes first_by AreWays
marks_on count s b0 last first longest r0 b r left end steps shared step m a c q left' end' steps'
    shared' step' el ee es eh ef en eq ec =
    let w = a.way in
    let L = first_by m.taken last in
    let fit = a.sound.0 in
    let short = a.sound.1 in
    let was : before (take end b) L ≡ back w L =
    ap (λ x. before x L) a.bytes ∙ before-way (ways_bytes a.ways) w.1 w.0 w.2 L fit short in
    let goes : first_by (m.taken ++ w ∷ []) last ≡ back w L = first_by-append m.taken (w ∷ []) last in
    let joined : (m.taken ++ w ∷ []) ++ a.ways ≡ m.taken ++ m.others =
    append_assoc m.taken (w ∷ []) a.ways ∙ ap (λ os. m.taken ++ os) (sym a.others) in
    record {
      taken = m.taken ++ w ∷ [];
      others = a.ways;
      counted = omega (arith, m.counted, ap length a.others, length_push m.taken w);
      all = m.all ∙ ap ways_bytes (sym joined);
      leads = m.leads ∙ ap (λ os. first_by os last) (sym joined);
      sound = subst (λ os. AreWays os last longest) (sym joined) m.sound;
      spelt = ec ∙ (append_assoc (ways_bytes a.ways) _ (ways_bytes (marked s m.taken last))
          ∙ ap (λ x. ways_bytes a.ways ++ x)
          (sym (ap ways_bytes (marked_more s m.taken w last)
          ∙ ways_bytes-append (marked s m.taken last)
          ((w.0, w.1, w.2 || is_later s (back w L)) ∷ []))));
      ends = ee ∙ (ap start_of a.bytes ∙ (reads (ways_bytes a.ways) w.1 w.0 w.2 fit short).start);
      rest = omega (arith, el, m.rest, ap length a.others);
      long = es ∙ ap length (was ∙ sym goes);
      alike = eh ∙ ap (λ x. common_length x s) (was ∙ sym goes);
      few = ef;
      next = en ∙ ap (λ x. get_or x shared' 0) (was ∙ sym goes);
      number = omega (arith, eq, m.number, newly_more s m.taken w last);
    }

-- all are marked
pub record Marked (count : ℕ) (s b0 last first : List ℕ) (longest r0 : ℕ) (b : List ℕ) (r : ℕ)
    : Type 0 where
  pub stack : IsStack count b last first longest
  pub number : IsCounted count r0 b0 last → IsCounted count r b last
  pub view : listed count b last false ≡ filter (λ p. not (is_later s p))
      (take (length (listed count b0 last false) - 1) (listed count b0 last false))
      ++ last_of (listed count b0 last false) ∷ []

pub marks_end : (count : ℕ) (s b0 last first : List ℕ) (longest r0 : ℕ) (b : List ℕ)
    (r left end steps shared step : ℕ) →
    Marks count s b0 last first longest r0 b r left end steps shared step → left ≡ 0 →
    Marked count s b0 last first longest r0 b r
unfolding ways_bytes
marks_end count s b0 last first longest r0 b r left end steps shared step m none =
    let ws = m.taken in
    let nil : m.others ≡ [] = no_more m.others (omega (arith, none, m.rest)) in
    let all : ws ++ m.others ≡ ws = ap (λ os. ws ++ os) nil ∙ append-nil ws in
    let sound : AreWays ws last longest = subst (λ os. AreWays os last longest) all m.sound in
    let k : count ≡ length ws + 1 = omega (arith, m.counted, ap length nil) in
    let old : listed count b0 last false ≡ earlier ws last ++ last ∷ [] =
    (λ i. listed (k i) ((m.all ∙ ap ways_bytes all) i) last false)
    ∙ listed_ways ws last false longest sound in
    let spelt : b ≡ ways_bytes (marked s ws last) =
    m.spelt ∙ ap (λ os. ways_bytes os ++ ways_bytes (marked s ws last)) nil in
    let k' : count ≡ length (marked s ws last) + 1 = omega (arith, k, length_marked s ws last) in
    let new : listed count b last false ≡ earlier (marked s ws last) last ++ last ∷ [] =
    (λ i. listed (k' i) (spelt i) last false)
    ∙ listed_ways (marked s ws last) last false longest (sound_marked s ws last longest sound) in
    let n : length (listed count b0 last false) - 1 ≡ length (earlier ws last) =
    omega (arith, ap length old, length_push (earlier ws last) last) in
    record {
      stack = record {
        ways = marked s ws last;
        counted = k';
        spelt = spelt;
        leads = m.leads ∙ (ap (λ os. first_by os last) all ∙ sym (first_marked s ws last));
        sound = sound_marked s ws last longest sound;
      };
      number = λ h. omega (
        arith,
        h,
        ap length old,
        ap length new,
        length_push (earlier ws last) last,
        length_push (earlier (marked s ws last) last) last,
        earlier_number s ws last,
        m.number,
      );
      view = new
          ∙ (λ i. (earlier_marked s ws last
          ∙ ap (filter (λ p. not (is_later s p)))
          (sym ((λ j. take (n j) (old j)) ∙ take_at (earlier ws last) (last ∷ [])
          (length (earlier ws last)) refl))) i
          ++ (sym (ap last_of old
          ∙ get_or_push (earlier ws last) last [] _
          (omega (arith, length_push (earlier ws last) last)))) i ∷ []);
    }
  where
    no_more : (os : List Way) → length os ≡ 0 → os ≡ []
    no_more [] e = refl
    no_more (o ∷ os) e = absurd (omega (arith, e))

-- what is left of the bytes is within them
pub marks_within : (count : ℕ) (s b0 last first : List ℕ) (longest r0 : ℕ) (b : List ℕ)
    (r left end steps shared step : ℕ) →
    Marks count s b0 last first longest r0 b r left end steps shared step → end ≤ length b
marks_within count s b0 last first longest r0 b r left end steps shared step m =
    omega (
      arith,
      m.ends,
      ap length m.spelt,
      length-append (ways_bytes m.others) (ways_bytes (marked s m.taken last)),
    )

-- there is a byte, where ways are left
pub marks_some : (count : ℕ) (s b0 last first : List ℕ) (longest r0 : ℕ) (b : List ℕ)
    (r left end steps shared step : ℕ) →
    Marks count s b0 last first longest r0 b r left end steps shared step → 0 < left → 1 ≤ end
unfolding ways_bytes
marks_some count s b0 last first longest r0 b r left end steps shared step m more =
    let a = ahead count s b0 last first longest r0 b r left end steps shared step m more in
    omega (
      arith,
      m.ends,
      ap (λ os. length (ways_bytes os)) a.others,
      length-append (ways_bytes a.ways) (way_bytes a.way.0 a.way.1 a.way.2),
      length-way a.way.0 a.way.1 a.way.2,
    )

-- the prefix before fits
pub marks_fit : (count : ℕ) (s b0 last first : List ℕ) (longest r0 : ℕ) (b : List ℕ)
    (r left end steps shared step : ℕ) →
    Marks count s b0 last first longest r0 b r left end steps shared step → 0 < left →
    steps - dropped_of (take end b) + (end_of (take end b) - start_of (take end b)) ≤ longest
unfolding AreWays
marks_fit count s b0 last first longest r0 b r left end steps shared step m more =
    let a = ahead count s b0 last first longest r0 b r left end steps shared step m more in
    let L = first_by m.taken last in
    let w = a.way in
    let was : before (take end b) L ≡ back w L =
    ap (λ x. before x L) a.bytes
    ∙ before-way (ways_bytes a.ways) w.1 w.0 w.2 L a.sound.0 a.sound.1 in
    omega (
      arith,
      m.long,
      length-before (take end b) L,
      ap length was,
      last_short a.ways (back w L) longest a.sound.3,
    )

newly_few : (s : List ℕ) (ws : List Way) (last : List ℕ) → newly s ws last ≤ length ws
unfolding newly
newly_few s [] last = omega arith
newly_few s (w ∷ ws) last =
    omega (arith, newly_few s ws (back w last), one (not w.2 && is_later s (back w last)))
  where
    one : (b : Bool) → cond b 1 0 ≤ 1
    one true = omega arith
    one false = omega arith

-- few are removed
pub marks_few : (count : ℕ) (s b0 last first : List ℕ) (longest r0 : ℕ) (b : List ℕ)
    (r left end steps shared step : ℕ) →
    Marks count s b0 last first longest r0 b r left end steps shared step →
    r + left < r0 + count
marks_few count s b0 last first longest r0 b r left end steps shared step m =
    omega (arith, m.number, m.counted, m.rest, newly_few s m.taken last)

-- of the way that is gone next nothing changes, where it leads to what was removed before, or to what
-- doesn't come after the schedule
pub marks_past : (count : ℕ) (s b0 last first : List ℕ) (longest r0 : ℕ) (b : List ℕ)
    (r left end steps shared step : ℕ)
    (m : Marks count s b0 last first longest r0 b r left end steps shared step) → 0 < left →
    (left' end' steps' shared' step' : ℕ) → left' ≡ left - 1 →
    end' ≡ start_of (take end b) → steps' ≡ length (before (take end b) (first_by m.taken last)) →
    shared' ≡ common_length (before (take end b) (first_by m.taken last)) s → shared' ≤ length s →
    step' ≡ get_or (before (take end b) (first_by m.taken last)) shared' 0 →
    (removed_of (take end b) ≡ true)
    ⊎ ((removed_of (take end b) ≡ false)
    × (is_later s (before (take end b) (first_by m.taken last)) ≡ false)) →
    Marks count s b0 last first longest r0 b r left' end' steps' shared' step'
unfolding AreWays
marks_past count s b0 last first longest r0 b r left end steps shared step m more left' end' steps'
    shared' step' el ee es eh ef en h =
    let a = ahead count s b0 last first longest r0 b r left end steps shared step m more in
    let w = a.way in
    let L = first_by m.taken last in
    let flag : removed_of (take end b) ≡ w.2 =
    ap removed_of a.bytes ∙ removed_of-way (ways_bytes a.ways) w.1 w.0 w.2 a.sound.0 a.sound.1 in
    let was : before (take end b) L ≡ back w L =
    ap (λ x. before x L) a.bytes
    ∙ before-way (ways_bytes a.ways) w.1 w.0 w.2 L a.sound.0 a.sound.1 in
    let same = stays w.2 (is_later s (back w L)) (elim h [
      | inl g ↦ inl (sym flag ∙ g)
      | inr g ↦ inr (sym flag ∙ g.0, ap (is_later s) (sym was) ∙ g.1)
    ]) in
    marks_on count s b0 last first longest r0 b r left end steps shared step m a b r left' end' steps'
    shared' step' el ee es eh ef en
    (omega (arith, ap {B = ℕ} (λ x. cond x 1 0) same.1))
    (a.whole ∙ ap (λ g. (ways_bytes a.ways ++ way_bytes w.0 w.1 g) ++ ways_bytes (marked s m.taken last))
    (sym same.0))
  where
    stays : (g x : Bool) → (g ≡ true) ⊎ ((g ≡ false) × (x ≡ false)) →
        ((g || x) ≡ g) × ((not g && x) ≡ false)
    stays true x h = (refl, refl)
    stays false x (inl e) = absurd (let f : false ≡ true = e in cc)
    stays false x (inr e) = (e.1, e.1)

-- and its byte is set, where it leads to what comes after it
pub marks_flip : (count : ℕ) (s b0 last first : List ℕ) (longest r0 : ℕ) (b : List ℕ)
    (r left end steps shared step : ℕ)
    (m : Marks count s b0 last first longest r0 b r left end steps shared step) → 0 < left →
    (v left' end' steps' shared' step' : ℕ) → left' ≡ left - 1 →
    end' ≡ start_of (take end b) → steps' ≡ length (before (take end b) (first_by m.taken last)) →
    shared' ≡ common_length (before (take end b) (first_by m.taken last)) s → shared' ≤ length s →
    step' ≡ get_or (before (take end b) (first_by m.taken last)) shared' 0 →
    removed_of (take end b) ≡ false →
    is_later s (before (take end b) (first_by m.taken last)) ≡ true →
    v ≡ get_or b (end - 1) 0 + 128 →
    (get_or b (end - 1) 0 < 128)
    × Marks count s b0 last first longest r0 (set b (end - 1) v) (r + 1) left' end' steps' shared' step'
unfolding AreWays ways_bytes
marks_flip count s b0 last first longest r0 b r left end steps shared step m more v left' end' steps'
    shared' step' el ee es eh ef en flag later ev =
    let a = ahead count s b0 last first longest r0 b r left end steps shared step m more in
    let w = a.way in
    let L = first_by m.taken last in
    let M = ways_bytes (marked s m.taken last) in
    let none : w.2 ≡ false =
    sym (ap removed_of a.bytes ∙ removed_of-way (ways_bytes a.ways) w.1 w.0 w.2 a.sound.0 a.sound.1)
    ∙ flag in
    let was : before (take end b) L ≡ back w L =
    ap (λ x. before x L) a.bytes
    ∙ before-way (ways_bytes a.ways) w.1 w.0 w.2 L a.sound.0 a.sound.1 in
    let is : is_later s (back w L) ≡ true = ap (is_later s) (sym was) ∙ later in
    let whole : b ≡ (ways_bytes a.ways ++ way_bytes w.0 w.1 false) ++ M =
    a.whole ∙ ap (λ g. (ways_bytes a.ways ++ way_bytes w.0 w.1 g) ++ M) none in
    let place : end - 1 ≡ length (ways_bytes a.ways ++ way_bytes w.0 w.1 false) - 1 =
    omega (
      arith,
      m.ends,
      ap (λ os. length (ways_bytes os)) a.others,
      ap (λ g. length (ways_bytes a.ways ++ way_bytes w.0 w.1 g)) none,
    ) in
    let f = flipped w.0 w.1 (ways_bytes a.ways) M (end - 1) v place
    (ev ∙ ap (λ x. get_or x (end - 1) 0 + 128) whole) in
    let both : (w.2 || is_later s (back w L)) ≡ true = (λ i. none i || is i) in
    let one : (not w.2 && is_later s (back w L)) ≡ true = (λ i. not (none i) && is i) in (
      omega (arith, ap (λ x. get_or x (end - 1) 0) whole, f.0),
      marks_on count s b0 last first longest r0 b r left end steps shared step m a
          (set b (end - 1) v) (r + 1) left' end' steps' shared' step' el ee es eh ef en
          (omega (arith, ap {B = ℕ} (λ x. cond x 1 0) one))
          (ap (λ x. set x (end - 1) v) whole ∙ (f.1
          ∙ ap (λ g. (ways_bytes a.ways ++ way_bytes w.0 w.1 g) ++ M) (sym both))),
    )

-- a byte of those after the first ones is set
pub set_above : (n : ℕ) (bytes : List ℕ) (k i v : ℕ) → n ≤ length bytes → i ≡ n + k →
    (take n (set bytes i v) ≡ take n bytes) × (drop n (set bytes i v) ≡ set (drop n bytes) k v)
set_above n bytes k i v le e =
    let long : length (take n bytes) ≡ n = length-take-le n bytes le in
    let at : i - n ≡ k = omega (arith, e) in
    let whole : set bytes i v ≡ take n bytes ++ set (drop n bytes) k v =
    ap (λ x. set x i v) (sym (take-append-drop n bytes))
    ∙ (set-append_right (take n bytes) (drop n bytes) n i v long (omega (arith, e))
    ∙ ap (λ m. take n bytes ++ set (drop n bytes) m v) at) in (
      ap (take n) whole ∙ take_at (take n bytes) (set (drop n bytes) k v) n long,
      ap (drop n) whole ∙ drop_at (take n bytes) (set (drop n bytes) k v) n long,
    )

-- of an element that is there it doesn't matter what would stand for it
pub get_or_any : (xs : List ℕ) (k d e : ℕ) → k < length xs → get_or xs k d ≡ get_or xs k e
get_or_any [] k d e l = absurd (omega (arith, l))
get_or_any (x ∷ xs) zero d e l = refl
get_or_any (x ∷ xs) (suc k) d e l = get_or_any xs k d e (omega (arith, l))
