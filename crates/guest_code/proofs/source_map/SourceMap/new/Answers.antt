use Rattle.std.proofs.Common.{List, map, sym, ap, subst, ◌∙◌}
use Rattle.std.proofs.lemmas.List.{take_all}
use Rattle.guest_syntax.specs.{Tree.{thread_view, tree_view}, declared.tree.Thread.Thread}
use Rattle.guest_code.specs.{Code.code, SourceMap.{SourceMap, thread_places, IsMapOf}}
use Rattle.guest_code.proofs.SourcePlaces.{map_is, map_fits}
use Rattle.guest_code.proofs.source_map.SourceMap.new.Goals as goal

pub returns-clause-fits : goal.returns-clause-fits
returns-clause-fits c =
    let t = tree_view c.args.tree.now in
    let all = take_all c.loop-thread.thread-index c.threads-thread-items.result.now
    c.loop-thread-test.false in
    let places = c.loop-thread.invariant
    ∙ ap (λ (ts : List Thread). map thread_places (map thread_view ts)) all in
    let is = map_is t _ _ _ c.threads-thread-items.ensures places c.in_ok-locals.ensures.locals in
    subst (λ (m : SourceMap). IsMapOf m (code t)) (sym is) (map_fits t)
