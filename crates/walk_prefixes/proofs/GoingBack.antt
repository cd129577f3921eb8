-- How the ways back are gone, one after the other.
use Rattle.std.proofs.Common.{◌≡◌, ℕ, ◌+◌, ◌-◌, ◌<◌, ◌≤◌, Bool, true, false, List, [], ◌∷◌, ◌++◌, length, take, drop, refl, sym, ◌∙◌, ap, subst, arith, append_assoc, length-append, length-take, length-drop, inr}
use Rattle.std.proofs.lemmas.List.{take_at, drop-take, drop_at, take-append-drop, take-take, take_all, drop_all}
use Rattle.walk_prefixes.specs.inner.Packed.{Way, way_bytes, ways_bytes, first_by, AreWays, IsStack, back, listed, before, below_of, removed_of, start_of, AreWaysOn, WentBack}
use Rattle.walk_prefixes.proofs.WayBytes.{below_of-way, before-way}
use Rattle.walk_prefixes.proofs.PackedPrefixes.{ways_bytes-append, first_by-append, AreWays-append, last_short, more_room, listed_over, length_listed, fewer_listed, Holds, packed_more}

pub goes_none : (bytes : List ℕ) (count : ℕ) (last : List ℕ) (longest at : ℕ) →
    (w : AreWaysOn bytes count last longest) → at ≡ length bytes →
    WentBack w.ways bytes 0 last at last longest
unfolding ways_bytes first_by AreWays
goes_none bytes count last longest at w e = record {
  taken = [];
  others = w.ways;
  all = refl;
  counted = refl;
  within = omega (arith, e);
  below = take_all at bytes (omega (arith, e)) ∙ w.spelt;
  above = drop_all at bytes (omega (arith, e));
  leads = refl;
  sound = last_short w.ways last longest w.sound;
  rest = w.sound;
}

-- the bytes above a place, where those below it are known
above : (bytes low mid high : List ℕ) (at end : ℕ) → take end bytes ≡ low ++ mid →
    drop end bytes ≡ high → length low ≡ at → drop at bytes ≡ mid ++ high
above bytes low mid high at end e f g =
    let whole : bytes ≡ low ++ (mid ++ high) =
    sym (take-append-drop end bytes) ∙ ((λ k. e k ++ f k) ∙ append_assoc low mid high) in
    ap (drop at) whole ∙ drop_at low (mid ++ high) at g

-- there is a way where more are left
next_way : (ws : List Way) (n : ℕ) → n < length ws → (w : Way) × ((us : List Way) × (ws ≡ w ∷ us))
next_way [] n h = absurd (omega arith)
next_way (w ∷ us) n h = (w, (us, refl))

one_more : (ways : List Way) (bytes last : List ℕ) (longest k at : ℕ) (left : List ℕ)
    (b : WentBack ways bytes k last at left longest) (w : Way) (ws : List Way) →
    b.others ≡ w ∷ ws → (end : ℕ) (next : List ℕ) → end ≡ start_of (take at bytes) →
    next ≡ before (take at bytes) left → end ≤ at →
    WentBack ways bytes (k + 1) last end next longest
unfolding ways_bytes first_by AreWays
one_more ways bytes last longest k at left b w ws e end next f h low =
    let r : AreWays (w ∷ ws) left longest = subst (λ os. AreWays os left longest) e b.rest in
    let was : take at bytes ≡ ways_bytes ws ++ way_bytes w.0 w.1 w.2 = b.below ∙ ap ways_bytes e in
    let under : take end (take at bytes) ≡ ways_bytes ws =
    (λ j. take (f j) (take at bytes)) ∙ (ap below_of was ∙ below_of-way (ways_bytes ws) w.1 w.0 w.2 r.0 r.1) in
    let cut : take end bytes ≡ ways_bytes ws = sym (take-take end at bytes low) ∙ under in
    let long : length (ways_bytes ws) ≡ end = omega (
      arith,
      ap length cut,
      length-take end bytes,
      b.within,
      low,
    ) in
    let to : next ≡ back w left =
    h ∙ (ap (λ x. before x left) was ∙ before-way (ways_bytes ws) w.1 w.0 w.2 left r.0 r.1) in
    record {
      taken = b.taken ++ w ∷ [];
      others = ws;
      all = b.all ∙ (ap (λ os. b.taken ++ os) e ∙ sym (append_assoc b.taken (w ∷ []) ws));
      counted = omega (arith, length-append b.taken (w ∷ []), b.counted);
      within = omega (arith, b.within, low);
      below = cut;
      above = above bytes (ways_bytes ws) (way_bytes w.0 w.1 w.2) (ways_bytes b.taken) end at was b.above
          long ∙ sym (ways_bytes-append b.taken (w ∷ []));
      leads = to ∙ (ap (back w) b.leads ∙ sym (first_by-append b.taken (w ∷ []) last));
      sound = AreWays-append b.taken (w ∷ []) last longest b.sound
          (subst (λ x. AreWays (w ∷ []) x longest) b.leads
          (r.0, r.1, r.2, last_short ws (back w left) longest r.3));
      rest = subst (λ x. AreWays ws x longest) (sym to) r.3;
    }

next_of : (ways : List Way) (bytes last : List ℕ) (longest k at : ℕ) (left : List ℕ)
    (b : WentBack ways bytes k last at left longest) → k < length ways →
    (w : Way) × ((us : List Way) × (b.others ≡ w ∷ us))
next_of ways bytes last longest k at left b h =
    next_way b.others 0 (omega (
      arith,
      h,
      b.counted,
      ap length b.all,
      length-append b.taken b.others,
    ))

-- one way at least is left, where more were
abbrev pub one_left : (ways : List Way) (bytes last : List ℕ) (longest more k at : ℕ) (left : List ℕ)
    (b : WentBack ways bytes k last at left longest) → k < length ways → longest ≤ more →
    AreWaysOn (take at bytes) 1 left more
one_left ways bytes last longest more k at left b h le = record {
  ways = b.others;
  more = omega (arith, h, b.counted, ap length b.all, length-append b.taken b.others);
  spelt = b.below;
  sound = more_room b.others left longest more b.rest le;
}

-- once more
pub goes_on : (ways : List Way) (bytes last : List ℕ) (longest k at : ℕ) (left : List ℕ) →
    WentBack ways bytes k last at left longest → k < length ways → (end : ℕ) (next : List ℕ) →
    end ≡ start_of (take at bytes) → next ≡ before (take at bytes) left → end ≤ at →
    WentBack ways bytes (k + 1) last end next longest
goes_on ways bytes last longest k at left b h end next e f low =
    let w = next_of ways bytes last longest k at left b h in
    one_more ways bytes last longest k at left b w.0 w.1.0 w.1.1 end next e f low

-- the schedule before fits
pub next_short : (ways : List Way) (bytes last : List ℕ) (longest k at : ℕ) (left : List ℕ) →
    WentBack ways bytes k last at left longest → k < length ways →
    length (before (take at bytes) left) ≤ longest
unfolding ways_bytes AreWays
next_short ways bytes last longest k at left b h =
    let w = next_of ways bytes last longest k at left b h in
    let r : AreWays (w.0 ∷ w.1.0) left longest =
    subst (λ os. AreWays os left longest) w.1.1 b.rest in
    let was : take at bytes ≡ ways_bytes w.1.0 ++ way_bytes w.0.0 w.0.1 w.0.2 =
    b.below ∙ ap ways_bytes w.1.1 in
    subst (λ x. length x ≤ longest)
    (sym (ap (λ x. before x left) was ∙ before-way (ways_bytes w.1.0) w.0.1 w.0.0 w.0.2 left r.0 r.1))
    (last_short w.1.0 (back w.0 left) longest r.3)

-- The two lists that a list is split into: the ways of one lead from the last schedule back to the
-- first of its own, and those of the other on from the one before it.
pub record SplitAt (bytes last first : List ℕ) (longest room n count at : ℕ) (mid : List ℕ)
    (end : ℕ) (low : List ℕ) : Type 0 where
  pub upper : IsStack count (drop at bytes) last mid longest
  pub lower : IsStack (n - count) (take end bytes) low first room
  pub few : end ≤ length bytes
  pub removed : Bool
  pub parts : listed n bytes last false
      ≡ listed (n - count) (take end bytes) low removed ++ listed count (drop at bytes) last false

-- the only way of a list of one
only : (ws : List Way) → length ws ≡ 1 → (w : Way) × (ws ≡ w ∷ [])
only [] h = absurd (omega (arith, h))
only (w ∷ []) h = (w, refl)
only (w ∷ v ∷ ws) h = absurd (omega (arith, h))

-- where one way leads
one_way : (ways : List Way) (bytes mid : List ℕ) (longest end : ℕ) (low : List ℕ) →
    bytes ≡ ways_bytes ways → WentBack ways bytes 1 mid end low longest →
    (below_of bytes ≡ take end bytes) × (before bytes mid ≡ low)
unfolding ways_bytes first_by AreWays
one_way ways bytes mid longest end low e g =
    let w = only g.taken g.counted in
    let r : AreWays (w.0 ∷ []) mid longest = subst (λ os. AreWays os mid longest) w.1 g.sound in
    let was : bytes ≡ ways_bytes g.others ++ way_bytes w.0.0 w.0.1 w.0.2 =
    e ∙ (ap ways_bytes g.all ∙ (λ k. ways_bytes (w.1 k ++ g.others))) in (
      ap below_of was ∙ (below_of-way (ways_bytes g.others) w.0.1 w.0.0 w.0.2 r.0 r.1 ∙ sym g.below),
      ap (λ x. before x mid) was ∙ (before-way (ways_bytes g.others) w.0.1 w.0.0 w.0.2 mid r.0 r.1
          ∙ sym (g.leads ∙ ap (λ os. first_by os mid) w.1)),
    )

pub split_at : (bytes last first : List ℕ) (longest room n count at : ℕ) (mid : List ℕ)
    (end : ℕ) (low : List ℕ) → (s : IsStack n bytes last first longest) → 0 < count → count < n →
    (b : WentBack s.ways bytes (count - 1) last at mid longest) →
    WentBack b.others (take at bytes) 1 mid end low room →
    SplitAt bytes last first longest room n count at mid end low
split_at bytes last first longest room n count at mid end low s some few b g =
    let way = one_way b.others (take at bytes) mid room end low b.below g in
    let total : n ≡ n - count + length b.taken + 1 = omega (arith, b.counted, some, few) in
    let own : count ≡ length b.taken + 1 = omega (arith, b.counted, some) in
    let below : end ≤ at = omega (arith, g.within, length-take at bytes) in
    let whole : bytes ≡ take at bytes ++ ways_bytes b.taken =
    sym (take-append-drop at bytes) ∙ ap (λ x. take at bytes ++ x) b.above in
    let cut : take end (take at bytes) ≡ take end bytes = take-take end at bytes below in
    let gone : Bool = removed_of (take at bytes) in
    record {
      upper = record {
        ways = b.taken;
        counted = own;
        spelt = b.above;
        leads = b.leads;
        sound = b.sound;
      };
      lower = record {
        ways = g.others;
        counted = omega (
          arith,
          s.counted,
          own,
          g.counted,
          ap length b.all,
          ap length g.all,
          length-append b.taken b.others,
          length-append g.taken g.others,
        );
        spelt = sym cut ∙ g.below;
        leads = s.leads ∙ (ap (λ ws. first_by ws last) b.all
            ∙ (first_by-append b.taken b.others last
            ∙ ((λ k. first_by (g.all k) (sym b.leads k))
            ∙ (first_by-append g.taken g.others mid ∙ ap (first_by g.others) (sym g.leads)))));
        sound = g.rest;
      };
      few = omega (arith, below, b.within);
      removed = gone;
      parts = (λ k. listed (total k) (whole k) last false)
          ∙ (listed_over b.taken (n - count) (take at bytes) last false longest
          (listed (n - count) (take end bytes) low gone) b.sound
          ((λ k. listed (n - count) (below_of (take at bytes)) (before (take at bytes) (sym b.leads k))
          gone)
          ∙ (λ k. listed (n - count) ((way.0 ∙ cut) k) (way.1 k) gone))
          ∙ (λ k. listed (n - count) (take end bytes) low gone
          ++ listed (sym own k) (sym b.above k) last false));
    }

-- where none is removed, none is at either part
pub record AllStay (n count : ℕ) (lower upper whole : List (List ℕ)) : Type 0 where
  pub parts : whole ≡ lower ++ upper
  pub kept : length lower ≡ n - count
  pub moved : length upper ≡ count

pub all_stay : (bytes last first : List ℕ) (longest room n count at : ℕ) (mid : List ℕ)
    (end : ℕ) (low : List ℕ) → SplitAt bytes last first longest room n count at mid end low →
    0 < count → count < n → length (listed n bytes last false) ≡ n →
    AllStay n count (listed (n - count) (take end bytes) low false)
    (listed count (drop at bytes) last false) (listed n bytes last false)
all_stay bytes last first longest room n count at mid end low s some few all =
    go s.removed s.parts
  where
    go : (g : Bool) → listed n bytes last false
        ≡ listed (n - count) (take end bytes) low g ++ listed count (drop at bytes) last false →
        AllStay n count (listed (n - count) (take end bytes) low false)
        (listed count (drop at bytes) last false) (listed n bytes last false)
    go true e = absurd (omega (
      arith,
      some,
      few,
      all,
      ap length e,
      length-append (listed (n - count) (take end bytes) low true)
          (listed count (drop at bytes) last false),
      fewer_listed (n - count) (take end bytes) low (omega (arith, few)),
      length_listed count (drop at bytes) last false,
    ))
    go false e =
        let sum = length-append (listed (n - count) (take end bytes) low false)
        (listed count (drop at bytes) last false) in
        let a = length_listed (n - count) (take end bytes) low false in
        let b = length_listed count (drop at bytes) last false in
        record {
          parts = e;
          kept = omega (arith, some, few, all, ap length e, sum, a, b);
          moved = omega (arith, some, few, all, ap length e, sum, a, b);
        }

-- what the list keeps
pub kept : (n front : ℕ) (b last : List ℕ) (longest room count at : ℕ) (mid : List ℕ) (end : ℕ)
    (low c : List ℕ) → front ≤ length b →
    SplitAt (drop front b) last (take front b) longest room n count at mid end low →
    AllStay n count (listed (n - count) (take end (drop front b)) low false)
    (listed count (drop at (drop front b)) last false) (listed n (drop front b) last false) →
    c ≡ take (front + end) b →
    Holds (n - count) front c low room
    (take (length (listed n (drop front b) last false) - count) (listed n (drop front b) last false))
kept n front b last longest room count at mid end low c le s stay cut =
    let below : drop front c ≡ take end (drop front b) =
    ap (drop front) cut ∙ drop-take front end b in
    let same : take front c ≡ take front b =
    ap (take front) cut ∙ take-take front (front + end) b (omega arith) in
    let mine = listed (n - count) (take end (drop front b)) low false in
    let theirs = listed count (drop at (drop front b)) last false in
    record {
      within = omega (
        arith,
        ap length cut,
        length-take (front + end) b,
        length-drop front b,
        s.few,
        le,
      );
      packed = inr (rw (below, same) s.lower);
      view = ap (λ x. listed (n - count) x low false) below
          ∙ (sym (take_at mine theirs (length (listed n (drop front b) last false) - count) (omega (
            arith,
            ap length stay.parts,
            length-append mine theirs,
            stay.moved,
          ))) ∙ ap (take (length (listed n (drop front b) last false) - count)) (sym stay.parts));
    }

-- what the other list gets
pub moved : (n : ℕ) (bytes last first : List ℕ) (longest room more count at : ℕ) (mid : List ℕ)
    (end : ℕ) (low c top : List ℕ) → SplitAt bytes last first longest room n count at mid end low →
    AllStay n count (listed (n - count) (take end bytes) low false)
    (listed count (drop at bytes) last false) (listed n bytes last false) →
    c ≡ mid ++ drop at bytes → top ≡ last → longest ≤ more →
    Holds count (length mid) c top more
    (drop (length (listed n bytes last false) - count) (listed n bytes last false))
moved n bytes last first longest room more count at mid end low c top s stay wrote e le =
    let below : drop (length mid) c ≡ drop at bytes =
    ap (drop (length mid)) wrote ∙ drop_at mid (drop at bytes) (length mid) refl in
    let same : take (length mid) c ≡ mid =
    ap (take (length mid)) wrote ∙ take_at mid (drop at bytes) (length mid) refl in
    let mine = listed (n - count) (take end bytes) low false in
    let theirs = listed count (drop at bytes) last false in
    record {
      within = omega (arith, ap length wrote, length-append mid (drop at bytes));
      packed = packed_more count (drop (length mid) c) top (take (length mid) c) longest more le
          (inr (rw (below, same, e) s.upper));
      view = (λ k. listed count (below k) (e k) false)
          ∙ (sym (drop_at mine theirs (length (listed n bytes last false) - count) (omega (
            arith,
            ap length stay.parts,
            length-append mine theirs,
            stay.moved,
          ))) ∙ ap (drop (length (listed n bytes last false) - count)) (sym stay.parts));
    }
