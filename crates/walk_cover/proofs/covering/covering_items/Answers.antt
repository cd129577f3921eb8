use Rattle.std.proofs.Common.{◌∙◌, sym, subst, map}
use Rattle.semantics.specs.Waiters.{In}
use Rattle.walk_cover.proofs.Listed.{set_keys, key_listed, key_off}
use Rattle.walk_cover.proofs.Covered.{way_start, way_listed, way_further, way_bare, way_less, listed_less}
use Rattle.walk_cover.proofs.covering.covering_items.Goals as goal

pub loop-item-init : goal.loop-item-init
loop-item-init c =
    way_start c.args.mode c.args.root.program (map (λ x. x.now) c.args.prefixes.now)
    c.new-items.result.items c.new-left.result.items _ c.args.root c.new-items.ensures.items
    c.new-left.ensures.items c.in_ok-push.ensures.items c.requires.root

pub loop-item-smaller-in-Continue-branch-3 : goal.loop-item-smaller-in-Continue-branch-3
loop-item-smaller-in-Continue-branch-3 c =
    listed_less c.loop-item.left.items c.pop.new.self.items c.in-Some.item c.in-Some.ensures.items

pub loop-item-preserved-in-Continue-branch-3 : goal.loop-item-preserved-in-Continue-branch-3
loop-item-preserved-in-Continue-branch-3 c =
    way_listed c.args.mode c.args.root.program (map (λ x. x.now) c.args.prefixes.now)
    c.loop-item.items.items c.loop-item.left.items c.pop.new.self.items _ c.in-Some.item
    c.loop-item.invariant c.in-Some.ensures.items c.in_ok-push-2.ensures.items
    (subst (In (map (λ x. x.now) c.args.prefixes.now)) c.prefix.ensures.prefix
    (key_listed c.prefix.result c.args.prefixes.now
    (sym (set_keys c.prefix.result c.args.prefixes.now c.in_ok-listed.listed _
    c.in_ok-listed.ensures c.contains.ensures) ∙ c.if-contains.true)))

pub returns-then-branch : goal.returns-then-branch
returns-then-branch c =
    way_bare c.args.mode c.args.root.program (map (λ x. x.now) c.args.prefixes.now)
    c.loop-item.items.items c.loop-item.left.items c.pop.new.self.items c.in-Some.item
    c.loop-item.invariant c.in-Some.ensures.items
    (λ m. key_off c.prefix.result c.args.prefixes.now
    (sym (set_keys c.prefix.result c.args.prefixes.now c.in_ok-listed.listed _
    c.in_ok-listed.ensures c.contains.ensures) ∙ c.if-contains.false)
    (subst (In (map (λ x. x.now) c.args.prefixes.now)) (sym c.prefix.ensures.prefix) m))
    (sym c.in_ok-push_children_or_self.ensures.complete ∙ c.if-branch.true)

pub loop-item-smaller : goal.loop-item-smaller
loop-item-smaller c =
    way_less c.args.mode c.args.root.program (map (λ x. x.now) c.args.prefixes.now)
    c.loop-item.items.items c.loop-item.left.items c.pop.new.self.items _ c.in-Some.item
    c.requires.fine c.loop-item.invariant c.in-Some.ensures.items
    (sym c.in_ok-push_children_or_self.ensures.complete ∙ c.if-branch.false)
    c.in_ok-push_children_or_self.ensures.items

pub loop-item-preserved : goal.loop-item-preserved
loop-item-preserved c =
    way_further c.args.mode c.args.root.program (map (λ x. x.now) c.args.prefixes.now)
    c.loop-item.items.items c.loop-item.left.items c.pop.new.self.items _ c.in-Some.item
    c.requires.fine c.loop-item.invariant c.in-Some.ensures.items
    (λ m. key_off c.prefix.result c.args.prefixes.now
    (sym (set_keys c.prefix.result c.args.prefixes.now c.in_ok-listed.listed _
    c.in_ok-listed.ensures c.contains.ensures) ∙ c.if-contains.false)
    (subst (In (map (λ x. x.now) c.args.prefixes.now)) (sym c.prefix.ensures.prefix) m))
    (sym c.in_ok-push_children_or_self.ensures.complete ∙ c.if-branch.false)
    c.in_ok-push_children_or_self.ensures.items

pub loop-item-smaller-else-branch : goal.loop-item-smaller-else-branch
loop-item-smaller-else-branch c =
    way_less c.args.mode c.args.root.program (map (λ x. x.now) c.args.prefixes.now)
    c.loop-item.items.items c.loop-item.left.items c.pop.new.self.items _ c.in-Some.item
    c.requires.fine c.loop-item.invariant c.in-Some.ensures.items
    (sym c.in_ok-push_children_or_self.ensures.complete ∙ c.if-branch.false)
    c.in_ok-push_children_or_self.ensures.items

pub loop-item-preserved-else-branch : goal.loop-item-preserved-else-branch
loop-item-preserved-else-branch c =
    way_further c.args.mode c.args.root.program (map (λ x. x.now) c.args.prefixes.now)
    c.loop-item.items.items c.loop-item.left.items c.pop.new.self.items _ c.in-Some.item
    c.requires.fine c.loop-item.invariant c.in-Some.ensures.items
    (λ m. key_off c.prefix.result c.args.prefixes.now
    (sym (set_keys c.prefix.result c.args.prefixes.now c.in_ok-listed.listed _
    c.in_ok-listed.ensures c.contains.ensures) ∙ c.if-contains.false)
    (subst (In (map (λ x. x.now) c.args.prefixes.now)) (sym c.prefix.ensures.prefix) m))
    (sym c.in_ok-push_children_or_self.ensures.complete ∙ c.if-branch.false)
    c.in_ok-push_children_or_self.ensures.items
