use Rattle.std.proofs.Common.{rules, ◌≡◌, ℕ, [], vec_len, ap, sym, ◌∙◌, arith, if◌then◌else◌}
use Rattle.board.specs.{Board.{SeatView, BoardView, BoardId}, Claims.times, inner.Rule.Mine}
use Rattle.board.proofs.Gathered.{all_of, count_is, each_drawn, least_told, each_answered}
use Rattle.board.proofs.Steps.{joining, counting, closing}
use Rattle.board.proofs.Sums.{sum_by-popped, All-popped, times-append}
use Rattle.board.proofs.board.Board.gather.Goals as goal

abbrev mark_of : SeatView → ℕ
mark_of s = if s.marked then 1 else 0

pub join_seat-requires : goal.join_seat-requires
join_seat-requires c =
    let l = c.loop-seat.invariant in let seat = c.seat.view_is in
    let table = sym (ap (λ (b : BoardView). b.id.table) c.self.view_is) in
    let same = All-popped (λ (s : SeatView). s.board ≡ c.args.self.id) _ _ _
    c.in-Some-pop.ensures.items l.board in (
      l.table ∙ table,
      ap (λ (s : SeatView). s.board.table) seat ∙ (ap (λ (b : BoardId). b.table) same.1 ∙ table),
      search rules,
      search rules,
      joining c.self.inside.table.shared.key c.loop-seat.first.id c.loop-seat.first.me.0
          c.seat.inside.inner.id c.seat.inside.inner.me.0 l.some_seat,
    )

pub loop-seat-preserved : goal.loop-seat-preserved
loop-seat-preserved c =
    let j = c.join_seat.ensures in let l = c.loop-seat.invariant in
    let first = c.loop-seat.first.me.0 in let other = c.seat.inside.inner.me.0 in
    let popped = c.in-Some-pop.ensures.items in
    let same = All-popped (λ (s : SeatView). s.board ≡ c.args.self.id) _ _ _ popped l.board in
    record {
      table = j.0 ∙ l.table;
      limit = ap (λ (m : Mine). m.0.limit) j.2 ∙ l.limit;
      bare = ap (λ (m : Mine). m.1) j.2 ∙ l.bare;
      some_seat = let a = ap (λ (m : Mine). m.0.seats) j.2 in let b = l.some_seat in omega arith;
      seats = let a = ap (λ (m : Mine). m.0.seats) j.2 in let i = c.seat.invariant in
          let n = c.in-Some-pop.ensures.len in omega arith;
      marks = let a = ap (λ (m : Mine). m.0.marks) j.2 in let i = c.seat.invariant in
          let t = sum_by-popped mark_of _ _ _ popped in
          let d = ap mark_of c.seat.view_is in omega arith;
      drawn = λ x. let a = ap (λ (m : Mine). times x m.0.drawn) j.2 in
          let b = times-append x first.drawn other.drawn in
          let t = sum_by-popped (λ (s : SeatView). times x s.drawn) _ _ _ popped in
          let d = ap (λ (s : SeatView). times x s.drawn) c.seat.view_is in
          let k = l.drawn x in omega arith;
      told = λ x. let a = ap (λ (m : Mine). times x m.0.told) j.2 in
          let b = times-append x first.told other.told in
          let t = sum_by-popped (λ (s : SeatView). times x s.told) _ _ _ popped in
          let d = ap (λ (s : SeatView). times x s.told) c.seat.view_is in
          let k = l.told x in omega arith;
      answered = λ x. let a = ap (λ (m : Mine). times x m.0.answered) j.2 in
          let b = times-append x first.answered other.answered in
          let t = sum_by-popped (λ (s : SeatView). times x s.answered) _ _ _ popped in
          let d = ap (λ (s : SeatView). times x s.answered) c.seat.view_is in
          let k = l.answered x in omega arith;
      board = same.0;
    }

pub load-found-requires : goal.load-found-requires
load-found-requires c =
    let l = c.loop-seat.invariant in let i = c.self.invariant in
    let seats = ap (λ (b : BoardView). b.seats) c.self.view_is in
    let none : vec_len c.loop-seat.seats ≡ 0 = search rules in (
      l.table ∙ sym (ap (λ (b : BoardView). b.id.table) c.self.view_is),
      search rules,
      counting c.self.inside.table.shared.key c.self.inside.table.shared.table_id.slots
          c.loop-seat.first.id c.loop-seat.first.me (let n = l.seats in omega arith)
          (l.limit ∙ (sym (ap (λ (b : BoardView). b.id.limit) c.self.view_is) ∙ sym i.1)),
    )

pub load-least-requires : goal.load-least-requires
load-least-requires c =
    let l = c.loop-seat.invariant in let i = c.self.invariant in let e = c.load-found.ensures in
    let seats = ap (λ (b : BoardView). b.seats) c.self.view_is in
    let none : vec_len c.loop-seat.seats ≡ 0 = search rules in
    let same = ap (λ (m : Mine). m.0.seats) e.2.same in (
      e.0 ∙ (l.table ∙ sym (ap (λ (b : BoardView). b.id.table) c.self.view_is)),
      search rules,
      closing c.self.inside.table.shared.key c.self.inside.table.shared.table_id.slots
          c.load-found.new.seat.id c.load-found.new.seat.me (let n = l.seats in omega arith),
    )

pub returns-clause-drawn : goal.returns-clause-drawn
returns-clause-drawn c =
    let none : c.loop-seat.seats.items ≡ [] = search rules in
    let counted = c.load-found.ensures.2 in
    let limit = ap (λ (b : BoardView). b.id.limit) c.self.view_is in
    each_drawn c.loop-seat.first.me.0 c.args.seats.items counted.once
    (all_of (λ s. s.drawn) c.loop-seat.first.me.0.drawn c.loop-seat.seats.items
    c.args.seats.items none c.loop-seat.invariant.drawn)
    c.min.result (count_is counted c.min.result (search rules))

pub returns-clause-least : goal.returns-clause-least
returns-clause-least c =
    let none : c.loop-seat.seats.items ≡ [] = search rules in
    let first = c.load-found.new.seat.me.0 in
    let same = c.load-found.ensures.2.same in
    least_told first c.args.seats.items c.load-least.result c.load-least.ensures.2
    (λ x. all_of (λ s. s.told) c.loop-seat.first.me.0.told c.loop-seat.seats.items
    c.args.seats.items none c.loop-seat.invariant.told x
    ∙ sym (ap (λ (m : Mine). times x m.0.told) same))

pub returns-clause-answered : goal.returns-clause-answered
returns-clause-answered c =
    let none : c.loop-seat.seats.items ≡ [] = search rules in
    let first = c.load-found.new.seat.me.0 in let before = c.loop-seat.first.me.0 in
    let same = c.load-found.ensures.2.same in
    each_answered first c.args.seats.items c.load-least.result c.load-least.ensures.2
    (λ x. all_of (λ s. s.told) before.told c.loop-seat.seats.items c.args.seats.items none
    c.loop-seat.invariant.told x
    ∙ sym (ap (λ (m : Mine). times x m.0.told) same))
    (λ x. all_of (λ s. s.answered) before.answered c.loop-seat.seats.items c.args.seats.items
    none c.loop-seat.invariant.answered x
    ∙ sym (ap (λ (m : Mine). times x m.0.answered) same))
