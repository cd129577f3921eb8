-- What is kept is what the events from a place on need, from one place to the one before it.
use Rattle.std.specs.Prelude.{Bool, true, false, cond, not, ◌||◌, ◌&&◌, IfSome, nat_eq, nat_lt, slice_index_or, if◌then◌else◌}
use Rattle.std.proofs.Common.{◌≡◌, ℕ, zero, suc, ◌+◌, ◌-◌, ◌<◌, List, [], ◌∷◌, ◌++◌, Option, Some, None, refl, ap, ◌∙◌, arith}
use Rattle.std.{specs.List.{list_any, count_by}, proofs.lemmas.List.Sums.sum_by-append}
use Rattle.guest_code.specs.Program.{Program, IsWellFormed}
use Rattle.guest_code.specs.declared.limits.TheConstants.{LOCALS, THREADS, VARIABLES}
use Rattle.explain_cause.specs.Asked.{asks_for}
use Rattle.explain_cause.specs.Causes.{Marked, any_below, decides, flows_on, is_missed, is_missed_by, is_needed, is_next, is_read, is_read_from, least_with, ends_with, passes_by_read}
use Rattle.explain_cause.specs.Events.{written_by, is_end, reads, writes, is_use, sets_local, uses_local}
use Rattle.explain_cause.specs.Tests.{passes_write}
use Rattle.explain_cause.specs.declared.backward_slice.BackwardSlice.{BackwardSlice}
use Rattle.explain_cause.specs.declared.event.Event.{Event}
use Rattle.explain_cause.specs.inner.Keeping.{IsMovedBefore, count, decides_by, entry, found, is_missed_by_in, is_missed_in, needs, passes_in, passes_read_in}
use Rattle.explain_cause.specs.inner.Wanting.{IsValidEvent, IsWanted}
use Rattle.explain_cause.proofs.Valid.{sets_few, writes_few}
use Rattle.check_lint.specs.Uses.{local_set}

-- each part of a need is alike, so the need is
both : (a b c d : Bool) → a ≡ b → c ≡ d → (a || c) ≡ (b || d)
both a b c d e f = cc

any_alike : (f g : ℕ → Bool) (n : ℕ) → ((u : ℕ) → u < n → f u ≡ g u) →
    any_below f n ≡ any_below g n
any_alike f g zero h = refl
any_alike f g (suc n) h = both (any_below f n) (any_below g n) (f n) (g n)
    (any_alike f g n (λ u l. h u (omega (arith, l)))) (h n (omega arith))

read_alike : (before : List Event) (ms : List Marked) (w : BackwardSlice) (o : Option ℕ) →
    IsWanted before ms w → IfSome o (λ x. x < VARIABLES) → found w.read o ≡ is_read_from ms o
read_alike before ms w None k l = refl
read_alike before ms w (Some x) k l = k.read x l

used_alike : (before : List Event) (ms : List Marked) (w : BackwardSlice) (t : ℕ) (o : Option ℕ) →
    IsWanted before ms w → t < THREADS → IfSome o (λ r. r < LOCALS) →
    found (slice_index_or w.used t []) o ≡ flows_on ms t o
used_alike before ms w t None k m l = refl
used_alike before ms w t (Some r) k m l = k.used t r m l

missed_alike : (before : List Event) (ms : List Marked) (w : BackwardSlice) (t : ℕ) (o : Option ℕ) →
    IsWanted before ms w → IfSome o (λ x. x < VARIABLES) →
    is_missed_in w t o ≡ is_missed before ms t o
missed_alike before ms w t None k l = refl
missed_alike before ms w t (Some x) k l =
    any_alike (is_missed_by_in w t x) (is_missed_by before ms t x) THREADS
    (λ u m. ap (λ b. not (nat_eq u t) && (b && nat_lt 0 (count w.uses u x))) (k.next u x m l)
    ∙ ap (λ n. not (nat_eq u t) && (is_next ms u x && nat_lt 0 n)) (k.uses u x m l))

pub needs_alike : (p : Program) (before : List Event) (ms : List Marked) (w : BackwardSlice)
    (e : Event) →
    IsWellFormed p → IsValidEvent p e → IsWanted before ms w →
    needs p w e ≡ is_needed p before ms e
needs_alike p before ms w e f v k =
    let few : e.thread < THREADS = let a = v.thread in let b = f.threads in omega (arith, a, b) in
    ap (λ b. is_end e || b) (both (found w.read (written_by e.statement e.deed))
    (is_read_from ms (written_by e.statement e.deed)) _ _
    (read_alike before ms w _ k (writes_few p e.statement e.deed f v.statement))
    (both (found (slice_index_or w.used e.thread []) (local_set e.statement))
    (flows_on ms e.thread (local_set e.statement)) _ _
    (used_alike before ms w e.thread _ k few (sets_few p e.statement v.statement))
    (both (decides_by p e (entry w.least e.thread)) (decides p ms e) _ _
    (ap (λ least. decides_by p e least) (k.least e.thread few))
    (both (is_missed_in w e.thread (written_by e.statement e.deed))
    (is_missed before ms e.thread (written_by e.statement e.deed)) _ _
    (missed_alike before ms w e.thread _ k (writes_few p e.statement e.deed f v.statement))
    (both (passes_read_in p w e) (passes_by_read p ms e) _ _
    (any_alike (passes_in p w e) (λ x. is_read ms x && passes_write p x e) VARIABLES
    (λ x l. ap (λ b. b && passes_write p x e) (k.read x l)))
    (ap (λ ends. list_any (λ end. asks_for p end e) ends) k.ends))))))

-- one event more
choice : (u mark rest : Bool) →
    (if u then mark else rest) ≡ ((mark && u) || (not u && rest))
choice true true rest = refl
choice true false rest = refl
choice false true rest = refl
choice false false rest = refl

pub one_more : (f : Event → Bool) (before : List Event) (e : Event) →
    count_by f (before ++ e ∷ []) ≡ count_by f before + cond (f e) 1 0
one_more f before e = let h : count_by f (before ++ e ∷ [])
    ≡ count_by f before + (0 + cond {A = ℕ} (f e) 1 0)
    = sum_by-append (λ x. cond (f x) 1 0) before (e ∷ []) in omega (arith, h)

one_off : (u : Bool) (n m : ℕ) → m ≡ n + cond u 1 0 → (if u then m - 1 else m) ≡ n
one_off true n m h = let g : m ≡ n + 1 = h in omega (arith, g)
one_off false n m h = let g : m ≡ n + 0 = h in omega (arith, g)

pub taken_on : (before : List Event) (ms : List Marked) (e : Event) (mark : Bool)
    (old new : BackwardSlice) → IsMovedBefore e mark old new → IsWanted (before ++ e ∷ []) ms old →
    IsWanted before (record { event = e; mark = mark } ∷ ms) new
taken_on before ms e mark old new h k = record {
  read = λ x l. h.read x l ∙ ap (λ b. (mark && reads x e) || (not (writes x e) && b)) (k.read x l);
  used = λ t r m l. h.used t r m l
      ∙ ap (λ b. (mark && uses_local t r e) || (not (sets_local t r e) && b)) (k.used t r m l);
  next = λ t x m l. h.next t x m l
      ∙ (ap (λ b. if is_use t x e then mark else b) (k.next t x m l)
      ∙ choice (is_use t x e) mark (is_next ms t x));
  uses = λ t x m l. h.uses t x m l
      ∙ one_off (is_use t x e) (count_by (is_use t x) before) (count old.uses t x)
      (k.uses t x m l ∙ one_more (is_use t x) before e);
  least = λ t m. h.least t m
      ∙ ap (λ o. least_with o e.instruction (mark && nat_eq e.thread t)) (k.least t m);
  ends = h.ends ∙ ap (λ ends. ends_with ends e) k.ends;
}
