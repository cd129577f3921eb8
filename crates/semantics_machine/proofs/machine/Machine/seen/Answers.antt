use Rattle.std.proofs.Common.{◌≡◌, ◌≢◌, ◌<◌, ◌∙◌, ◌&&◌, ◌⊎◌, ℕ, Bool, length, get_or, true, false, not, refl, ap, sym, arith, inl, inr, rules}
use Rattle.std.proofs.lemmas.Bool.{and_parts, cases_lt, false≢true}
use Rattle.semantics.specs.{Machine.{Snapshot, is_enabled}, Mask.{HasEnabled, no_threads}}
use Rattle.semantics.proofs.WorkFalls.{enabled_below}
use Rattle.semantics_machine.specs.{Refinement.{Shows, HasSameCode}, inner.Alike.IsAbout}
use Rattle.semantics.{specs.Mask.has, proofs.Masks.{has-above, none_left, members-without_first}}
use Rattle.semantics_schedules.specs.EqualThreads.{is_hidden}
use Rattle.semantics_machine.proofs.EqualThreads.{kept_of, gone_of, about, from_others, among, alone, seen, hidden_where}
use Rattle.semantics_machine.proofs.machine.Machine.seen.Goals.{After-common-left, After-common-lower}
use Rattle.semantics_machine.proofs.machine.Machine.seen.Goals as goal

-- one of three is missing
left_out : (o a w : Bool) → ((o && a) && w) ≡ false → (o ≡ false) ⊎ ((a ≡ false) ⊎ (w ≡ false))
left_out false a w h = inl refl
left_out true false w h = inr (inl refl)
left_out true true w h = inr (inr h)

and_true : (b : Bool) → b ≡ (b && true)
and_true true = refl
and_true false = refl

-- who isn't asked for isn't seen, and who is isn't hidden
module _ (asked hidden : Bool) where
  unasked : asked ≡ false → asked ≡ (asked && not hidden)
  unasked e = e ∙ sym (ap (λ b. b && not hidden) e)

  unhidden : false ≡ hidden → asked ≡ (asked && not hidden)
  unhidden e = and_true asked ∙ ap (λ b. asked && not b) e

-- a member is below the limit
near : (c : After-common-left) (t : ℕ) → has c.without-others.result t ≡ true → t < 16
near c t h = elim (cases_lt t 16) [
  | inl l ↦ l
  | inr g ↦ absurd (false≢true (sym (has-above c.without-others.result t (search rules) g) ∙ h))
]

-- the code of a thread that is enabled
codes_of : (c : After-common-left) (s : Snapshot) (shows : Shows c.args.program.now c.args.self.now s)
    → HasEnabled c.args.enabled c.args.program.now s → (t : ℕ)
    → has c.without-others.result t ≡ true
    → HasSameCode c.args.program.now t (get_or c.args.self.now.shape.same_code t no_threads)
codes_of c s shows on t h = shows.same_code t
    (let l = enabled_below c.args.program.now s t (from_others c.args.program.now s c.args.enabled
    c.without-others.result c.args.last on c.without-others.ensures t h).0 in
    omega (arith, l, shows.state.of.threads))

pub loop-thread-init : goal.loop-thread-init
loop-thread-init c =
    let q = (goal.at.loop-thread-init c).After-common-left in
    let p = c.args.program.now in
    let others = c.without-others.result in
    let asked = c.args.asked in
    let some = c.args.self.now.shape.with_equal in
    record {
      fits = search rules;
      asked = λ t h.
          let both = and_parts (has c.common-asked_others.result t) _
          (sym (c.common-left.ensures t) ∙ h) in
          and_parts (has others t) _ (sym (c.common-asked_others.ensures t) ∙ both.0);
      over = λ s shows on t h. elim (left_out (has others t) (has asked t) (has some t)
          (ap (λ b. b && has some t) (sym (c.common-asked_others.ensures t))
          ∙ (sym (c.common-left.ensures t) ∙ h))) [
            | inl e ↦ unhidden (has asked t) _ (seen p s c.args.enabled others c.args.last on
                c.without-others.ensures t e)
            | inr r ↦ elim r [
              | inl e ↦ unasked (has asked t) _ e
              | inr e ↦ lone q s shows on t e
            ]
          ];
    }
  where
    lone : (q : After-common-left) (s : Snapshot) (shows : Shows q.args.program.now q.args.self.now s)
        → HasEnabled q.args.enabled q.args.program.now s → (t : ℕ)
        → has q.args.self.now.shape.with_equal t ≡ false
        → has q.args.asked t
        ≡ (has q.args.asked t && not (is_hidden q.args.program.now s q.args.last t))
    lone q s shows on t e = go (has q.without-others.result t) refl
      where
        go : (b : Bool) → has q.without-others.result t ≡ b → has q.args.asked t
            ≡ (has q.args.asked t && not (is_hidden q.args.program.now s q.args.last t))
        go false h = unhidden (has q.args.asked t) _ (seen q.args.program.now s q.args.enabled
            q.without-others.result q.args.last on q.without-others.ensures t h)
        go true h = unhidden (has q.args.asked t) _ (alone q.args.program.now s q.args.enabled
            q.without-others.result q.args.last on q.without-others.ensures t
            (get_or q.args.self.now.shape.same_code t no_threads) (codes_of q s shows on t h)
            (λ u l. shows.with_equal t u (near q t h) e (let n = near q t h in omega (arith, l, n))))

-- the thread is enabled, and its lower ones of the same code are known
module _ (c : After-common-lower) (s : Snapshot) (shows : Shows c.args.program.now c.args.self.now s)
    (on : HasEnabled c.args.enabled c.args.program.now s) where
  here : has c.without-others.result c.in-Some.thread ≡ true
  here = (c.loop-thread.invariant.asked c.in-Some.thread c.in-Some.ensures.member.0).0

  free : is_enabled c.args.program.now s c.in-Some.thread ≡ true
  free = (from_others c.args.program.now s c.args.enabled c.without-others.result c.args.last on
      c.without-others.ensures c.in-Some.thread here).0

  codes : HasSameCode c.args.program.now c.in-Some.thread
      (get_or c.args.self.now.shape.same_code c.in-Some.thread no_threads)
  codes = shows.same_code c.in-Some.thread
      (let l = enabled_below c.args.program.now s c.in-Some.thread free in
      omega (arith, l, shows.state.of.threads))

  lower : (u : ℕ) → has c.common-lower.result u ≡ true
      → (u ≢ c.in-Some.thread) × IsAbout c.args.program.now s u
  lower = among c.args.program.now s c.args.enabled c.without-others.result c.args.last on
      c.without-others.ensures c.in-Some.thread _ c.common-lower.result codes
      c.common-lower.ensures

pub is_alike_to_one-is_hidden-requires : goal.is_alike_to_one-is_hidden-requires
is_alike_to_one-is_hidden-requires c =
    let q = (goal.at.is_alike_to_one-is_hidden-requires c).After-common-lower in
    let s = c.requires.0 in
    let shows = c.requires.1 in
    let on = c.requires.2 in
    (s, shows, about c.args.program.now s c.in-Some.thread (free q s shows on), lower q s shows on)

pub loop-thread-preserved : goal.loop-thread-preserved
loop-thread-preserved c =
    let q = (goal.at.loop-thread-preserved c).After-common-lower in
    let p = c.args.program.now in
    let t = c.in-Some.thread in
    let known = c.loop-thread.invariant in
    record {
      fits = search rules;
      asked = λ u h. known.asked u (kept_of c.loop-thread.left c.with-left.result t
          c.with-left.ensures.same c.with-left.ensures.others u h);
      over = λ s shows on u h. elim (gone_of c.loop-thread.left c.with-left.result t
          c.with-left.ensures.same c.with-left.ensures.others u h) [
            | inl e ↦ ap (has c.with-seen.result) e ∙ (c.with-seen.ensures.same
                ∙ (ap not (hidden_where p s c.args.enabled c.without-others.result c.args.last on
                c.without-others.ensures t _ c.common-lower.result c.is_alike_to_one-is_hidden.result
                (here q s shows on) (codes q s shows on) c.common-lower.ensures
                (c.is_alike_to_one-is_hidden.ensures s shows (about p s t (free q s shows on))
                (lower q s shows on)))
                ∙ (ap (λ v. not (is_hidden p s c.args.last v)) (sym e)
                ∙ sym (ap (λ b. b && not (is_hidden p s c.args.last u)) (ap (has c.args.asked) e
                ∙ (known.asked t c.in-Some.ensures.member.0).1)))))
            | inr o ↦ c.with-seen.ensures.others u o.0 ∙ known.over s shows on u o.1
          ];
    }

pub loop-thread-smaller : goal.loop-thread-smaller
loop-thread-smaller c =
    let first = ap length c.in-Some.ensures.list in
    let rest = ap length (members-without_first c.loop-thread.left c.with-left.result
    c.in-Some.thread c.in-Some.ensures.member.2 (λ u l. c.in-Some.ensures.none u (omega arith) l)
    c.with-left.ensures.same c.with-left.ensures.others) in
    omega (arith, first, rest)

pub returns : goal.returns
returns c = λ s shows on t. c.loop-thread.invariant.over s shows on t (elim (cases_lt t 16) [
  | inl l ↦ none_left c.loop-thread.left 0 t c.in_default.ensures.list (omega arith) l
  | inr g ↦ has-above c.loop-thread.left t c.loop-thread.invariant.fits g
])
