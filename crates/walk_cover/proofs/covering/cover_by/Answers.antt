use Rattle.std.specs.Prelude.{Result, Ok, MatchResult, IfSome, IfNone}
use Rattle.std.proofs.Common.{◌≡◌, List, ℕ, sym, subst, ap, map, All, Contains}
use Rattle.std.specs.{Arc.arc_value, declared.alloc.Global.Global, declared.vec.Vec.Vec}
use denote.Ref.{Bor}
use Rattle.walk_items.specs.{Items.ItemView, declared.mode.Mode.Mode}
use Rattle.guest_code.specs.Program.{Program}
use Rattle.semantics.{specs.Waiters.In, proofs.ListMembers.{contains_in, from_map}}
use Rattle.walk_cover.specs.{CoverBy.CoverErrorMeans, inner.Reached.{IsReached, IsBare}}
use Rattle.walk_cover.proofs.{Covered.reached_cover, Listed.all_in}
use Rattle.walk_cover.proofs.covering.cover_by.Goals as goal

-- what was reached, of the program itself
reached : (mode : Mode) (p q : Program) (prefixes : List (List ℕ))
    (r : Result (Vec ItemView Global) ItemView) (v : Vec ItemView Global) → q ≡ p → r ≡ Ok v →
    MatchResult r (λ v. IsReached mode q prefixes v.items) (IsBare mode q prefixes) →
    IsReached mode p prefixes v.items
reached mode p q prefixes r v same is h =
    subst (λ (x : Program). IsReached mode x prefixes v.items) same
    (subst (λ x. MatchResult x (λ v. IsReached mode q prefixes v.items)
    (IsBare mode q prefixes)) is h)

pub returns-in-Some-clause-error : goal.returns-in-Some-clause-error
returns-in-Some-clause-error c =
    subst (λ o. IfSome o (CoverErrorMeans c.args.mode (arc_value c.args.program)
    (map (λ x. x.now) c.args.prefixes.now))) c.in-Some.is
    (c.in_ok-error-in-Ok.ensures.some (arc_value c.args.program) c.args.mode
    (subst (IsReached c.args.mode (arc_value c.args.program)
    (map (λ x. x.now) c.args.prefixes.now)) (sym c.as_slice.ensures.value) (reached c.args.mode (arc_value c.args.program) _
    (map (λ x. x.now) c.args.prefixes.now) c.in_ok-items.field-0 c.in-Ok.items
    (ap (λ (i : ItemView). i.program) c.in_ok-root.ensures) c.in-Ok.is c.in_ok-items.ensures)))

pub returns-in-None-clause-value : goal.returns-in-None-clause-value
returns-in-None-clause-value c =
    let all : All (λ (x : Bor (List ℕ)). Contains (map (λ (i : ItemView). i.prefix)
    c.as_slice.result.now) x.now) c.args.prefixes.now =
    subst (λ o. IfNone o (All (λ (x : Bor (List ℕ)). Contains (map (λ (i : ItemView). i.prefix)
    c.as_slice.result.now) x.now) c.args.prefixes.now)) c.in-None.is
    c.in_ok-error-in-Ok.ensures.none in
    reached_cover c.args.mode (arc_value c.args.program) (map (λ x. x.now) c.args.prefixes.now)
    c.in-Ok.items.items (reached c.args.mode (arc_value c.args.program) _
    (map (λ x. x.now) c.args.prefixes.now) c.in_ok-items.field-0 c.in-Ok.items
    (ap (λ (i : ItemView). i.program) c.in_ok-root.ensures) c.in-Ok.is c.in_ok-items.ensures)
    (λ w m. let from = from_map (λ (x : Bor (List ℕ)). x.now) c.args.prefixes.now w m in
    subst (In (map (λ (i : ItemView). i.prefix) c.in-Ok.items.items)) from.2
    (subst (λ (is : List ItemView). In (map (λ (i : ItemView). i.prefix) is) from.0.now)
    c.as_slice.ensures.value
    (contains_in _ from.0.now (all_in (λ (x : Bor (List ℕ)). Contains (map (λ (i : ItemView).
    i.prefix) c.as_slice.result.now) x.now) c.args.prefixes.now from.0 all from.1))))
