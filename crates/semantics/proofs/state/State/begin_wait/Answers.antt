use Rattle.std.proofs.Common.{arith, ◌≡◌, ◌<◌, length, [], List, ℕ, ap, ◌∙◌, sym, subst}
use Rattle.std.proofs.lemmas.List.{get_or_read}
use Rattle.guest_code.specs.declared.limits.TheConstants.{THREADS}
use Rattle.semantics.{specs.Machine.{Snapshot, queue_of}, proofs.StepsKeepStates.room_to_wait}
use Rattle.semantics.proofs.state.State.begin_wait.Goals as goal

pub push-requires : goal.push-requires
push-requires c =
    let room = room_to_wait c.args.program.now c.args.self.now c.args.thread c.args.c c.args.m
    c.requires in
    let queue = c.index_mut-then-owns in
    let as_many : length c.self.inside.queues.items ≡ length c.args.self.now.queues =
    ap (λ (s : Snapshot). length s.queues) c.self.view_is in
    let there : c.args.c < length c.self.inside.queues.items =
    omega (arith, c.requires.fine.0, c.requires.of.queues, as_many) in
    let read : queue.result.now ≡ queue_of c.args.self.now c.args.c =
    get_or_read c.self.inside.queues.items c.args.c queue.result.now there queue.ensures.value
    [] ∙ ap (λ (s : Snapshot). queue_of s c.args.c) c.self.view_is in
    record { room = subst (λ (q : List ℕ). length q < THREADS) (sym read) room }
