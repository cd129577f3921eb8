-- What honest parts tell is what there is, and their sum the program's.
use Rattle.std.specs.Prelude.{IfSome, IfNone}
use Rattle.std.proofs.Common.{◌≡◌, ◌⊎◌, inl, inr, ℕ, ◌+◌, ◌<◌, ◌≤◌, Bool, true, false, cond, List}
use Rattle.std.proofs.Common.{[], ◌∷◌, ◌++◌, map, take, ap, refl, ◌∙◌, sym, subst, arith, Option}
use Rattle.std.proofs.Common.{Some, None, get_or, length}
use Rattle.std.{specs.List.{All, AllZip, Contains}, proofs.lemmas.List.take_more}
use Rattle.std.proofs.lemmas.List.Elements.{All-contains, All-head, All-tail}
use Rattle.guest_code.specs.Program.{Program}
use Rattle.semantics.proofs.ListMembers.{in_contains, at_in, in_map}
use Rattle.semantics_schedules.specs.Order.{lesser, precedes}
use Rattle.walk_summary.specs.Summaries.{SummaryView, nothing, join}
use Rattle.walk_summary.proofs.SumsJoin.{join_comm, join_assoc, join_first_bad}
use Rattle.walk_items.specs.Items.{ItemView, root_of, item_sum, item_sums, whole}
use Rattle.walk_items.specs.declared.mode.Mode.{Mode, TheVariants.Bounded}
use Rattle.walk_cover.specs.{CoverBy.IsCoverBy, Covers.{IsCover, plain}, Under.IsUnder}
use Rattle.walk_cover.proofs.{Covers.cover_sum, Lengths.same_cover, Settled.settled_sum}
use Rattle.runner_report.specs.{Promises.IsReport, declared.options.Options.Options}
use Rattle.runner_report.specs.declared.options.Search.{Search, TheVariants.{UpTo, Unbounded}}
use Rattle.runner_report.specs.declared.report.Report.{Report}
use Rattle.runner_parts.specs.declared.part.Part.{Part}
use Rattle.runner.specs.Levels.{IsModeOf, GoesOn, HasPassed, IsOfProgram}
use Rattle.runner_joining.specs.Parts.{options_of, mode_at, last_mode, prefixes_for, IsHonest, AreHonest, IsTrue, IsSettled, Tells, AreTold, GoesOnAt, ComesTo, sum_told}

-- the modes and bounds that the search comes to

pub mode_lower : (search : Search) (a b : ℕ) → a ≤ b → IsModeOf false search (Bounded b) →
    IsModeOf false search (Bounded a)
mode_lower (UpTo last) a b le h = (refl, let l : b ≤ last = h.1 in omega (arith, le, l))
mode_lower Unbounded a b le h = absurd h

comes_lower : (p : Program) (search : Search) (parts : List Part) (a b : ℕ) → a ≤ b →
    ComesTo p search parts (Some b) → ComesTo p search parts (Some a)
comes_lower p search parts a b le h = record {
  of = mode_lower search a b le h.of;
  on = λ c l. h.on c (omega (arith, l, le));
}

cover_at : (search : Search) (bound : Option ℕ) (p : Program) (items : List ItemView) →
    IsModeOf false search (mode_at bound) → IsCover (last_mode search) (root_of p) items →
    IsCover (mode_at bound) (root_of p) items
cover_at (UpTo last) (Some bound) p items of h = same_cover last bound (root_of p) items h
cover_at (UpTo last) None p items of h = absurd of
cover_at Unbounded (Some bound) p items of h = absurd of
cover_at Unbounded None p items of h = h

-- what a part tells of an item at a bound that the search comes to is the item's sum there
told_is : (p : Program) (search : Search) (parts : List Part) (bound : Option ℕ) (i : ItemView)
    (x : Part) → AreHonest p search parts → ComesTo p search parts bound →
    ((b : Option ℕ) → IsModeOf false search (mode_at b) → IsUnder (mode_at b) p i.prefix i) →
    Contains parts x → Tells i.prefix bound x → x.level.summary ≡ item_sum (mode_at bound) i
told_is p search parts bound i x honest comes under m t = go t.bound
  where
    own : (b : Option ℕ) → x.level.bound ≡ b → ComesTo p search parts b →
        x.level.summary ≡ item_sum (mode_at b) i
    own b e c =
        subst (λ o. IsUnder (mode_at o) p x.under.items i →
        x.level.summary ≡ item_sum (mode_at o) i) e
        (All-contains (λ (y : Part). ComesTo p search parts y.level.bound → IsHonest p y) parts x
        honest m (subst (ComesTo p search parts) (sym e) c) t.whole i)
        (subst (λ w. IsUnder (mode_at b) p w i) (sym t.under) (under b c.of))

    go : (x.level.bound ≡ bound) ⊎ IsSettled bound x.level →
        x.level.summary ≡ item_sum (mode_at bound) i
    go (inl e) = own bound e comes
    go (inr s) =
        let at_own : x.level.summary ≡ item_sum (Bounded s.at) i =
        own (Some s.at) s.is (comes_lower p search parts s.at s.later s.least
        (subst (ComesTo p search parts) s.greater comes)) in
        let stays : item_sum (Bounded s.later) i ≡ item_sum (Bounded s.at) i =
        settled_sum i s.at s.later s.least
        (ap (λ (t : SummaryView). t.beyond) (sym at_own) ∙ s.beyond) in
        at_own ∙ (sym stays ∙ ap (λ b. item_sum (mode_at b) i) (sym s.greater))

-- a part that tells what is under an item's prefix
abbrev TellsOf : List Part → Option ℕ → ItemView → Part → Type 0
TellsOf parts bound i x = Contains parts x × Tells i.prefix bound x

told_sums : (mode : Mode) (parts : List Part) (bound : Option ℕ) (items : List ItemView)
    (told : List Part) →
    All (λ i. (x : Part) → TellsOf parts bound i x → x.level.summary ≡ item_sum mode i) items →
    AllZip (TellsOf parts bound) items told → sum_told told ≡ item_sums mode items
told_sums mode parts bound [] [] h z = refl
told_sums mode parts bound [] (x ∷ xs) h z = absurd z
told_sums mode parts bound (i ∷ is) [] h z = absurd z
told_sums mode parts bound (i ∷ is) (x ∷ xs) h z = λ k. join
    (All-head (λ i. (x : Part) → TellsOf parts bound i x → x.level.summary ≡ item_sum mode i) i is h
    x z.0 k)
    (told_sums mode parts bound is xs (All-tail (λ i. (x : Part) → TellsOf parts bound i x →
    x.level.summary ≡ item_sum mode i) i is h) z.1 k)

-- a part is of all threads
plain_at : (bound : Option ℕ) → plain (mode_at bound) ≡ mode_at bound
plain_at (Some b) = refl
plain_at None = refl

told_whole : (p : Program) (search : Search) (parts : List Part) (bound : Option ℕ)
    (items : List ItemView) (sum : SummaryView) → AreHonest p search parts →
    ComesTo p search parts bound →
    IsCoverBy (last_mode search) p (prefixes_for search parts) items →
    AreTold parts bound items sum → sum ≡ whole p (mode_at bound)
told_whole p search parts bound items sum honest comes h t =
    let at : (b : Option ℕ) → IsModeOf false search (mode_at b) →
    IsCover (mode_at b) (root_of p) items =
    λ b of. cover_at search b p items of h.cover in
    t.is
    ∙ (told_sums (mode_at bound) parts bound items t.told
    (λ k d l x tells. told_is p search parts bound (get_or items k d) x honest comes
    (λ b of. record { is = refl; below = (at b of).below k d l; own = (at b of).own k d l })
    tells.0 tells.1) t.each
    ∙ sym (subst (λ m. whole p m ≡ item_sums m items) (plain_at bound)
    (cover_sum (mode_at bound) (root_of p) items (at bound comes.of))))

passed : (p : Program) (search : Search) (parts : List Part) (bound : Option ℕ) →
    AreHonest p search parts → ComesTo p search parts bound →
    HasPassed (root_of p) (mode_at bound)
passed p search parts None honest comes = tt
passed p search parts (Some b) honest comes = λ a l.
    let on = comes.on a l in
    let is = told_whole p search parts (Some a) on.items on.sum honest
    (comes_lower p search parts a b (omega (arith, l)) comes) on.cover on.told in
    record {
      none = ap (λ (t : SummaryView). t.first_bad) (sym is) ∙ on.on.none;
      beyond = ap (λ (t : SummaryView). t.beyond) (sym is) ∙ on.on.beyond;
    }

-- the loop over the items

sum_push : (xs : List Part) (x : Part) →
    sum_told (xs ++ x ∷ []) ≡ join (sum_told xs) x.level.summary
sum_push [] x = join_comm x.level.summary nothing
sum_push (y ∷ ys) x =
    ap (join y.level.summary) (sum_push ys x)
    ∙ sym (join_assoc y.level.summary (sum_told ys) x.level.summary)

pub told_none : (parts : List Part) (bound : Option ℕ) (sum : SummaryView) → sum ≡ nothing →
    AreTold parts bound [] sum
told_none parts bound sum e = record { told = []; each = tt; is = e }

zip_push : {A B : Type 0} (R : A → B → Type 0) (xs : List A) (ys : List B) (x : A) (y : B) →
    AllZip R xs ys → R x y → AllZip R (xs ++ x ∷ []) (ys ++ y ∷ [])
zip_push R [] [] x y h r = (r, tt)
zip_push R [] (v ∷ vs) x y h r = absurd h
zip_push R (u ∷ us) [] x y h r = absurd h
zip_push R (u ∷ us) (v ∷ vs) x y h r = (h.0, zip_push R us vs x y h.1 r)

pub told_more : (parts : List Part) (bound : Option ℕ) (items : List ItemView) (k : ℕ)
    (i : ItemView) (x : Part) (old new : SummaryView) → k < length items → i ≡ get_or items k i →
    AreTold parts bound (take k items) old → Contains parts x → Tells i.prefix bound x →
    new ≡ join old x.level.summary → AreTold parts bound (take (k + 1) items) new
told_more parts bound items k i x old new l is before m tells made = record {
  told = before.told ++ x ∷ [];
  each = subst (λ xs. AllZip (TellsOf parts bound) xs (before.told ++ x ∷ []))
      (ap (λ y. take k items ++ y ∷ []) is ∙ sym (take_more items k i l))
      (zip_push (TellsOf parts bound) (take k items) before.told i x before.each (m, tells));
  is = made ∙ (ap (λ s. join s x.level.summary) before.is ∙ sym (sum_push before.told x));
}

lesser_one : (u v : Option (List ℕ)) (w : List ℕ) → lesser u v ≡ Some w →
    (u ≡ Some w) ⊎ (v ≡ Some w)
lesser_one None v w e = inr e
lesser_one (Some x) None w e = inl e
lesser_one (Some x) (Some y) w e = go (precedes y x) e
  where
    go : (b : Bool) → cond b (Some y) (Some x) ≡ Some w → (Some x ≡ Some w) ⊎ (Some y ≡ Some w)
    go true k = inr k
    go false k = inl k

-- the first bad schedule of what is told is that of a part
told_first : (parts : List Part) (bound : Option ℕ) (items : List ItemView) (told : List Part)
    (w : List ℕ) → AllZip (TellsOf parts bound) items told →
    (sum_told told).first_bad ≡ Some w →
    (x : Part) × Contains parts x × (x.level.summary.first_bad ≡ Some w)
told_first parts bound items [] w z e = (let f : None ≡ Some w = e in absurd (cc))
told_first parts bound [] (x ∷ xs) w z e = absurd z
told_first parts bound (i ∷ is) (x ∷ xs) w z e =
    elim (lesser_one x.level.summary.first_bad (sum_told xs).first_bad w
    (sym (join_first_bad x.level.summary (sum_told xs)) ∙ e)) [
      | inl k ↦ (x, z.0.0, k)
      | inr k ↦ told_first parts bound is xs w z.1 k
    ]

pub first_of_program : (p : Program) (parts : List Part) (bound : Option ℕ)
    (items : List ItemView) (sum : SummaryView) → All (IsTrue p) parts →
    AreTold parts bound items sum → IsOfProgram p sum.first_bad
first_of_program p parts bound items sum all t w e =
    let one = told_first parts bound items t.told w t.each
    (ap (λ (s : SummaryView). s.first_bad) (sym t.is) ∙ e) in
    (All-contains (IsTrue p) parts one.0 all one.1 w one.2).bad.0

-- the report

pub items_listed : (mode : Mode) (p : Program) (prefixes : List (List ℕ))
    (items : List ItemView) → IsCoverBy mode p prefixes items →
    All (λ i. Contains prefixes i.prefix) items
items_listed mode p prefixes items h k d l =
    (h.listed (get_or items k d).prefix).0
    (in_contains (map (λ (i : ItemView). i.prefix) items) (get_or items k d).prefix
    (in_map (λ (i : ItemView). i.prefix) items (get_or items k d) (at_in items k d l)))

pub report_means : (p : Program) (search : Search) (parts : List Part) (bound : Option ℕ)
    (items : List ItemView) (o : Options) (mode : Mode) (sum : SummaryView) (r : Option Report) →
    ComesTo p search parts bound →
    IsCoverBy (last_mode search) p (prefixes_for search parts) items →
    AreTold parts bound items sum → o ≡ options_of search → mode ≡ mode_at bound →
    IfSome r (λ x. HasPassed (root_of p) mode → sum ≡ whole p mode → IsReport false p o x) →
    IfSome r (λ x. AreHonest p search parts → IsReport false p (options_of search) x)
report_means p search parts bound items o mode sum None comes h t same at means = tt
report_means p search parts bound items o mode sum (Some x) comes h t same at means = λ honest.
    subst (λ u. IsReport false p u x) same
    (means (subst (HasPassed (root_of p)) (sym at) (passed p search parts bound honest comes))
    (told_whole p search parts bound items sum honest comes h t
    ∙ ap (λ m. whole p m) (sym at)))

pub none_means : (p : Program) (search : Search) (parts : List Part) (bound : Option ℕ)
    (items : List ItemView) (o : Options) (mode : Mode) (sum : SummaryView) (r : Option Report) →
    IsCoverBy (last_mode search) p (prefixes_for search parts) items →
    AreTold parts bound items sum → o ≡ options_of search → mode ≡ mode_at bound →
    IfNone r (GoesOn o.search mode sum) → IfNone r (GoesOnAt p search parts bound)
none_means p search parts bound items o mode sum None h t same at on = record {
  items = items;
  cover = h;
  sum = sum;
  told = t;
  on = subst (λ m. GoesOn search m sum) at
      (subst (λ (u : Options). GoesOn u.search mode sum) same on);
}
none_means p search parts bound items o mode sum (Some x) h t same at on = tt
