use Rattle.std.proofs.Common.{◌≡◌, ◌≢◌, ◌<◌, ◌^◌, ◌∙◌, ℕ, length, true, false, refl, ap, sym, subst, arith, rules, inl, inr}
use Rattle.std.proofs.lemmas.Bool.{cases_lt, false≢true}
use Rattle.semantics.{specs.Mask.has, proofs.Masks.{has-above, none_left, members-without_first}}
use Rattle.semantics_schedules.specs.Renaming.{swapped, Renamed}
use Rattle.semantics_machine.proofs.EqualThreads.{kept_of, gone_of}
use Rattle.semantics_machine.proofs.machine.Machine.is_alike_to_one.Goals as goal

pub loop-other-init : goal.loop-other-init
loop-other-init c = record {
  among = λ u h. h;
  none = λ s shows on all u h out r. absurd (false≢true (sym out ∙ h));
}

pub loop-other-smaller : goal.loop-other-smaller
loop-other-smaller c =
    let first = ap length c.in-Some.ensures.list in
    let rest = ap length (members-without_first c.loop-other.left c.with-left.result c.in-Some.other
    c.in-Some.ensures.member.2 (λ u l. c.in-Some.ensures.none u (omega arith) l)
    c.with-left.ensures.same c.with-left.ensures.others) in
    omega (arith, first, rest)

pub are_alike-requires-clause-about : goal.are_alike-requires-clause-about
are_alike-requires-clause-about c =
    let k = c.loop-other.invariant.among c.in-Some.other c.in-Some.ensures.member.0 in
    (c.requires.0, c.requires.1, (c.requires.3 c.in-Some.other k).1, c.requires.2)

pub are_alike-requires-clause-two : goal.are_alike-requires-clause-two
are_alike-requires-clause-two c =
    let k = c.loop-other.invariant.among c.in-Some.other c.in-Some.ensures.member.0 in
    (c.requires.3 c.in-Some.other k).0

pub loop-other-preserved : goal.loop-other-preserved
loop-other-preserved c =
    let known = c.loop-other.invariant in
    let k = known.among c.in-Some.other c.in-Some.ensures.member.0 in
    record {
      among = λ u h. known.among u (kept_of c.loop-other.left c.with-left.result c.in-Some.other
          c.with-left.ensures.same c.with-left.ensures.others u h);
      none = λ s shows on all u h out r. elim (gone_of c.loop-other.left c.with-left.result
          c.in-Some.other c.with-left.ensures.same c.with-left.ensures.others u out) [
            | inl e ↦ absurd (false≢true (sym c.if-are_alike.false
                ∙ (c.are_alike.ensures s shows (all c.in-Some.other k).1 on).1
                (subst (λ v. Renamed (swapped v c.args.thread) s s) e r)))
            | inr o ↦ known.none s shows on all u h o.1 r
          ];
    }

pub returns-then-are_alike : goal.returns-then-are_alike
returns-then-are_alike c = λ s shows on all.
    let k = c.loop-other.invariant.among c.in-Some.other c.in-Some.ensures.member.0 in (
      λ e. (
        c.in-Some.other,
        k,
        (c.are_alike.ensures s shows (all c.in-Some.other k).1 on).0 c.if-are_alike.true,
      ),
      λ h. refl,
    )

pub returns : goal.returns
returns c = λ s shows on all.
    let fits : c.args.among.bits < 2 ^ 16 = search rules in (
      λ e. absurd (false≢true e),
      λ h. absurd (c.loop-other.invariant.none s shows on all h.0 h.1
          (none_left c.loop-other.left 0 h.0 c.in_default.ensures.list (omega arith)
          (elim (cases_lt h.0 16) [
            | inl l ↦ l
            | inr g ↦ absurd (false≢true (sym (has-above c.args.among h.0 fits g) ∙ h.1))
          ])) h.2),
    )
