use Rattle.std.proofs.Common.{rules, ◌≡◌, true, false, subst, refl, arith, inl, inr}
use Rattle.walk_prefixes.proofs.PackedPrefixes.{seek_found, seek_on, seek_end, stands_within, before_fits, Seeks}
use Rattle.walk_prefixes.proofs.prefixes.Prefixes.position.Goals as goal
use Rattle.walk_prefixes.proofs.prefixes.Prefixes.position.Goals.{then-not-seeker+else-has_found, else-not-seeker}

pub overflow_sub-place : goal.overflow_sub-place
overflow_sub-place c =
    let stays : c.loop-left.seeker.removed ≡ false = search rules in
    stands_within c.args.self.now c.args.prefix.now c.loop-left.left c.loop-left.place _ _ _
    (omega arith)
    (subst (Seeks c.args.self.now c.args.prefix.now c.loop-left.left c.loop-left.place _ _ _) stays
    c.loop-left.invariant.1)

pub returns-then-has_found-clause-some : goal.returns-then-has_found-clause-some
returns-then-has_found-clause-some c =
    let stays : c.loop-left.seeker.removed ≡ false = search rules in
    let s = subst (Seeks c.args.self.now c.args.prefix.now c.loop-left.left c.loop-left.place _ _ _)
    stays c.loop-left.invariant.1 in (
      omega (arith, s.within, stands_within _ _ c.loop-left.left c.loop-left.place _ _ _ (omega arith) s),
      seek_found c.args.self.now c.args.prefix.now c.loop-left.left c.loop-left.place _ _ _
          (omega arith) s (c.if-has_found.ensures.0 refl).0 (c.if-has_found.ensures.0 refl).1,
    )

pub at_previous-seeker-requires-clause-end : goal.at_previous-seeker-requires-clause-end
at_previous-seeker-requires-clause-end c = c.loop-left.invariant.0

pub at_previous-seeker-requires-clause-fits : goal.at_previous-seeker-requires-clause-fits
at_previous-seeker-requires-clause-fits c =
    omega (
      arith,
      before_fits c.args.self.now c.args.prefix.now c.loop-left.left c.loop-left.place _ _ _ _
          (omega arith) c.loop-left.invariant.1,
    )

pub loop-left-preserved : goal.loop-left-preserved
loop-left-preserved c =
    let s = c.loop-left.invariant.1 in
    seek_on c.args.self.now c.args.prefix.now c.loop-left.left c.loop-left.place _ _ _ _ _ _ _ _ _ _
    (omega arith) c.loop-left.invariant.0 s c.at_previous-seeker.ensures.end
    (record {
      long = c.at_previous-seeker.ensures.steps s.last s.long;
      alike = c.at_previous-seeker.ensures.shared s.last s.long s.alike;
      few = c.at_previous-seeker.ensures.within;
      removed = c.at_previous-seeker.ensures.removed;
    })
    (elim c.if-not-seeker.branch [
      | then-not-seeker+else-has_found w ↦
          let stays : c.loop-left.seeker.removed ≡ false = search rules in
          inr (stays, w.place-is, λ p. let e : false ≡ true = w.if-has_found.ensures.1 p in cc)
      | else-not-seeker w ↦
          let goes : c.loop-left.seeker.removed ≡ true = search rules in
          inl (goes, w.place-is)
    ])

pub returns-clause-none : goal.returns-clause-none
returns-clause-none c =
    let s = c.loop-left.invariant.1 in
    let none = seek_end c.args.self.now c.args.prefix.now c.loop-left.left c.loop-left.place _ _ _ _
    (omega (arith, c.loop-left-test.false)) s in
    λ k d lt is. s.none k d (omega (arith, none)) lt is
