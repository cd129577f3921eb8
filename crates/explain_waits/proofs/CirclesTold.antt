-- The circles of those that are the first of theirs are all circles.
use Rattle.std.specs.Prelude.{◌↔◌, ◌&&◌, not, IsTrue, All, Any, Contains, is_some}
use Rattle.std.proofs.Common.{◌≡◌, ◌∙◌, ℕ, zero, suc, ◌+◌, ◌<◌, ◌⊎◌, inl, inr, Bool, true, false, cond, List, [], ◌∷◌, length, map, arith, sym, subst, ap, refl}
use Rattle.std.{specs.List.filter, proofs.Math.Bool.and-false}
use Rattle.std.proofs.lemmas.Bool.{cases_Bool, and_parts, and_from, not_from_false, cases_eq, false_from_ne_true, both_ways}
use Rattle.std.proofs.lemmas.List.Elements.{All-nil, All-cons, All-head, All-tail}
use Rattle.guest_code.specs.Program.{Program}
use Rattle.semantics.specs.{Mask.has, Waiters.In, Work.up_from, declared.mask.Mask.Mask}
use Rattle.semantics.proofs.ListMembers.{in_up_from}
use Rattle.explain_run.specs.declared.explanation.Explanation.{Explanation}
use Rattle.explain_waits.specs.{Endings.blocked_of, Graph.{WaitsFor, Leads, edge, on, AreInCircle}}
use Rattle.explain_waits.specs.Waiting.{TellsWait, TellsCircles, IsCircle, blocked_threads, circles_in, has_none_below, is_first_of}
use Rattle.explain_waits.specs.declared.{fate.Fate.Fate, wait.Wait.Wait}

-- members of lists

in_filter : (p : ℕ → Bool) (xs : List ℕ) (x : ℕ) → p x ≡ true → In xs x → In (filter p xs) x
in_filter p [] x e h = absurd h
in_filter p (y ∷ ys) x e (inl same) =
    let Q : Bool → Type 0 = λ b. In (cond b (y ∷ filter p ys) (filter p ys)) x in
    subst Q (sym (ap p same ∙ e)) (inl same)
in_filter p (y ∷ ys) x e (inr h) = elim (p y) as (λ b. In (cond b (y ∷ filter p ys) (filter p ys)) x) [
  | true ↦ inr (in_filter p ys x e h)
  | false ↦ in_filter p ys x e h
]

thread_in : (ws : List Wait) (t : ℕ) → In (map (λ (w : Wait). w.thread) ws) t
    → (w : Wait) × In ws w × (w.thread ≡ t)
thread_in [] t h = absurd h
thread_in (w ∷ ws) t (inl e) = (w, inl refl, e)
thread_in (w ∷ ws) t (inr h) = let found = thread_in ws t h in (found.0, inr found.1, found.2)

all_in : (P : Wait → Type 0) (ws : List Wait) (w : Wait) → All P ws → In ws w → P w
all_in P [] w all h = absurd h
all_in P (v ∷ ws) w all (inl e) = subst P e (All-head P v ws all)
all_in P (v ∷ ws) w all (inr h) = all_in P ws w (All-tail P v ws all) h

circle_in : (ws : List Wait) (w : Wait) → is_first_of w.circle w.thread ≡ true → In ws w
    → In (circles_in ws) w.circle
circle_in [] w first h = absurd h
circle_in (v ∷ ws) w first (inl e) =
    let Q : Bool → Type 0 = λ b. In (map (λ (w : Wait). w.circle)
    (cond b (v ∷ filter (λ (w : Wait). is_first_of w.circle w.thread) ws)
    (filter (λ (w : Wait). is_first_of w.circle w.thread) ws))) w.circle in
    subst Q (sym (ap (λ (w : Wait). is_first_of w.circle w.thread) e ∙ first))
    (inl (ap (λ (w : Wait). w.circle) e))
circle_in (v ∷ ws) w first (inr h) =
    elim (is_first_of v.circle v.thread) as (λ b. In (map (λ (w : Wait). w.circle)
    (cond b (v ∷ filter (λ (w : Wait). is_first_of w.circle w.thread) ws)
    (filter (λ (w : Wait). is_first_of w.circle w.thread) ws))) w.circle) [
      | true ↦ inr (circle_in ws w first h)
      | false ↦ circle_in ws w first h
    ]

any_in : (Q : Mask → Type 0) (cs : List Mask) (c : Mask) → In cs c → Q c → Any Q cs
any_in Q [] c h q = absurd h
any_in Q (d ∷ cs) c (inl e) q =
    (0, d, (let l : 0 < length (d ∷ cs) = omega arith in l), refl, subst Q (sym e) q)
any_in Q (d ∷ cs) c (inr h) q = let found = any_in Q cs c h q in (
  suc found.0,
  found.1,
  (let l : suc found.0 < length (d ∷ cs) = omega (arith, found.2) in l),
  found.3,
  found.4,
)

-- the first thread of a set

first_below : (set : Mask) (n : ℕ)
    → (has_none_below set n ≡ true) ⊎ ((u : ℕ) × (is_first_of set u ≡ true))
first_below set zero = inl refl
first_below set (suc n) = elim (first_below set n) [
  | inr found ↦ inr found
  | inl none ↦ elim (cases_Bool (has set n)) [
    | inl there ↦ inr (n, and_from (has set n) (has_none_below set n) there none)
    | inr absent ↦ inl (and_from (has_none_below set n) (not (has set n)) none
        (not_from_false (has set n) absent))
  ]
]

first_in : (set : Mask) (t : ℕ) → IsTrue (has set t) → (u : ℕ) × (is_first_of set u ≡ true)
first_in set t there = elim (first_below set t) [
  | inr found ↦ found
  | inl none ↦ (t, and_from (has set t) (has_none_below set t) there none)
]

-- a set with a thread below this one
pub some_below : (set : Mask) (n u : ℕ) → u < n → has set u ≡ true → has_none_below set n ≡ false
some_below set zero u h there = absurd (omega (arith, h))
some_below set (suc n) u h there = elim (cases_eq u n) [
  | inl same ↦ (let P : ℕ → Type 0 = λ u. has set u ≡ true in
      ap (λ x. has_none_below set n && not x) (subst P same there)
      ∙ and-false (has_none_below set n))
  | inr other ↦ ap (λ x. x && not (has set n))
      (some_below set n u (let l : u < n = omega (arith, h, other) in l) there)
]

same_below : (a b : Mask) (n : ℕ) → ((u : ℕ) → has a u ≡ has b u)
    → has_none_below a n ≡ has_none_below b n
same_below a b zero each = refl
same_below a b (suc n) each =
    ap (λ x. x && not (has a n)) (same_below a b n each)
    ∙ ap (λ x. has_none_below b n && not x) (each n)

same_first : (a b : Mask) (n : ℕ) → ((u : ℕ) → has a u ≡ has b u)
    → is_first_of a n ≡ is_first_of b n
same_first a b n each = ap (λ x. x && has_none_below a n) (each n)
    ∙ ap (λ x. has b n && x) (same_below a b n each)

same_from_ways : (a b : Bool) → (a ≡ true → b ≡ true) → (b ≡ true → a ≡ true) → a ≡ b
same_from_ways true b there back = sym (there refl)
same_from_ways false b there back = sym (false_from_ne_true b (λ e. both_ways false refl (back e)))

-- circles

-- the thread where a way begins is blocked
starts : (p : Program) (told : Explanation) (t u : ℕ) → Leads (WaitsFor p told) t u
    → (t < length p.threads) × (is_some (blocked_of told t) ≡ true)
starts p told t u (edge e) = (e.thread, ap is_some e.is)
starts p told t u (on v a b) = starts p told t v a

-- the members of one's circle have the same circle
through_one : (E : ℕ → ℕ → Type 0) (w t u : ℕ) → AreInCircle E w t
    → AreInCircle E w u ↔ AreInCircle E t u
through_one E w t u joined = (
  λ other. (on w joined.1 other.0, on w other.1 joined.0),
  λ other. (on t joined.0 other.0, on t other.1 joined.1),
)

is_circle : (p : Program) (told : Explanation) (fates : List (List Fate)) (w : Wait)
    → TellsWait p told fates w → is_first_of w.circle w.thread ≡ true
    → IsCircle p told w.circle
is_circle p told fates w tells first = record {
  thread = w.thread;
  some = (and_parts (has w.circle w.thread) (has_none_below w.circle w.thread) first).0;
  whole = λ t u there.
      let both = through_one (WaitsFor p told) w.thread t u ((tells.circle t).0 there) in
      (λ h. both.0 ((tells.circle u).0 h), λ h. (tells.circle u).1 (both.1 h));
}

all_circles : (p : Program) (told : Explanation) (fates : List (List Fate)) (ws : List Wait)
    → All (TellsWait p told fates) ws → All (IsCircle p told) (circles_in ws)
all_circles p told fates [] tells = All-nil (IsCircle p told)
all_circles p told fates (w ∷ ws) tells =
    let rest = all_circles p told fates ws (All-tail (TellsWait p told fates) w ws tells) in
    elim (cases_Bool (is_first_of w.circle w.thread)) [
      | inl first ↦ (let Q : Bool → Type 0 = λ b. All (IsCircle p told)
          (map (λ (w : Wait). w.circle)
          (cond b (w ∷ filter (λ (w : Wait). is_first_of w.circle w.thread) ws)
          (filter (λ (w : Wait). is_first_of w.circle w.thread) ws))) in
          subst Q (sym first) (All-cons (IsCircle p told) w.circle (circles_in ws)
          (is_circle p told fates w (All-head (TellsWait p told fates) w ws tells) first) rest))
      | inr other ↦ (let Q : Bool → Type 0 = λ b. All (IsCircle p told)
          (map (λ (w : Wait). w.circle)
          (cond b (w ∷ filter (λ (w : Wait). is_first_of w.circle w.thread) ws)
          (filter (λ (w : Wait). is_first_of w.circle w.thread) ws))) in
          subst Q (sym other) rest)
    ]

-- the wait of a thread that waits for itself
wait_of : (p : Program) (told : Explanation) (ws : List Wait) (t : ℕ)
    → map (λ (w : Wait). w.thread) ws ≡ blocked_threads p told
    → Leads (WaitsFor p told) t t → (w : Wait) × In ws w × (w.thread ≡ t)
wait_of p told ws t threads leads =
    let begun = starts p told t t leads in
    let Q : List ℕ → Type 0 = λ ts. In ts t in
    thread_in ws t (subst Q (sym threads)
    (in_filter (λ t. is_some (blocked_of told t)) (up_from 0 (length p.threads)) t begun.1
    (in_up_from 0 (length p.threads) t (omega arith)
    (let l : t < 0 + length p.threads = omega (arith, begun.0) in l))))

-- the circles of two that are in one are equal
same_ways : (p : Program) (told : Explanation) (fates : List (List Fate)) (a b : Wait)
    (t v u : ℕ) → TellsWait p told fates a → TellsWait p told fates b → a.thread ≡ t
    → b.thread ≡ v → AreInCircle (WaitsFor p told) t v → has a.circle u ≡ has b.circle u
same_ways p told fates a b t v u one other e f joined =
    let E : ℕ → ℕ → Type 0 = WaitsFor p told in
    let Q : ℕ → Type 0 = λ s. AreInCircle E s u in
    let both = through_one E t v u joined in
    same_from_ways (has a.circle u) (has b.circle u)
    (λ h. (other.circle u).1 (subst Q (sym f) (both.0 (subst Q e ((one.circle u).0 h)))))
    (λ h. (one.circle u).1 (subst Q (sym e) (both.1 (subst Q f ((other.circle u).0 h)))))

-- it is in the circle of the first thread of its own
pub told_where : (p : Program) (told : Explanation) (fates : List (List Fate)) (ws : List Wait)
    (t : ℕ) → map (λ (w : Wait). w.thread) ws ≡ blocked_threads p told
    → All (TellsWait p told fates) ws → Leads (WaitsFor p told) t t
    → Any (λ c. IsTrue (has c t)) (circles_in ws)
told_where p told fates ws t threads tells leads =
    let E : ℕ → ℕ → Type 0 = WaitsFor p told in
    let own = wait_of p told ws t threads leads in
    let P : Wait → Type 0 = TellsWait p told fates in
    let mine = all_in P ws own.0 tells own.1 in
    let Q : ℕ → Type 0 = λ s. AreInCircle E s t in
    let itself = (mine.circle t).1 (subst Q (sym own.2) (leads, leads)) in
    let first = first_in own.0.circle t itself in
    let there = (and_parts (has own.0.circle first.0) (has_none_below own.0.circle first.0)
    first.1).0 in
    let R : ℕ → Type 0 = λ s. AreInCircle E s first.0 in
    let joined : AreInCircle E t first.0 = subst R own.2 ((mine.circle first.0).0 there) in
    let head = wait_of p told ws first.0 threads (on t joined.1 joined.0) in
    let theirs = all_in P ws head.0 tells head.1 in
    let same : (u : ℕ) → has own.0.circle u ≡ has head.0.circle u = λ u.
    same_ways p told fates own.0 head.0 t first.0 u mine theirs own.2 head.2 joined in
    let F : ℕ → Type 0 = λ s. is_first_of head.0.circle s ≡ true in
    any_in (λ c. IsTrue (has c t)) (circles_in ws) head.0.circle
    (circle_in ws head.0 (subst F (sym head.2)
    (sym (same_first own.0.circle head.0.circle first.0 same) ∙ first.1)) head.1)
    (sym (same t) ∙ itself)

pub circles_told : (p : Program) (told : Explanation) (fates : List (List Fate)) (ws : List Wait)
    (cs : List Mask) → map (λ (w : Wait). w.thread) ws ≡ blocked_threads p told
    → All (TellsWait p told fates) ws → cs ≡ circles_in ws → TellsCircles p told ws cs
circles_told p told fates ws cs threads tells list = record {
  each = let Q : List Mask → Type 0 = λ cs. All (IsCircle p told) cs in
      subst Q (sym list) (all_circles p told fates ws tells);
  all = λ t leads. let Q : List Mask → Type 0 = λ cs. Any (λ c. IsTrue (has c t)) cs in
      subst Q (sym list) (told_where p told fates ws t threads tells leads);
  list = list;
}

-- two circles with one thread in common are one
pub same_circle : (p : Program) (told : Explanation) (cs : List Mask) (c d : Mask) (t : ℕ)
    → All (IsCircle p told) cs → Contains cs c → Contains cs d → IsTrue (has c t)
    → IsTrue (has d t) → (u : ℕ) → has c u ≡ has d u
same_circle p told cs c d t all one other in-c in-d u =
    let a = subst (IsCircle p told) one.2 (all one.0 c one.1) in
    let b = subst (IsCircle p told) other.2 (all other.0 d other.1) in
    same_from_ways (has c u) (has d u)
    (λ h. (b.whole t u in-d).1 ((a.whole t u in-c).0 h))
    (λ h. (a.whole t u in-c).1 ((b.whole t u in-d).0 h))
