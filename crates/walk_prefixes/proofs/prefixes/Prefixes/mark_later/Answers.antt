use Rattle.std.proofs.Common.{◌≡◌, ◌<◌, ◌-◌, ◌+◌, ℕ, true, false, List, [], ◌∷◌, ◌++◌, filter, not, length, take, drop, set, get_or, refl, sym, ◌∙◌, ap, subst, arith, length-drop, vec_capacity, inl, inr}
use Rattle.std.proofs.lemmas.List.{take_rest, get_or-drop, length-set}
use Rattle.walk_prefixes.specs.inner.Packed.{first_by, before, removed_of, listed, dropped_of, start_of, end_of}
use Rattle.walk_prefixes.specs.PrefixLists.{common_length, is_later, last_of}
use Rattle.walk_prefixes.proofs.ListFields.{stack_of, some_in, counted_few}
use Rattle.walk_prefixes.proofs.Marking.{Marks, marks_start, marks_end, marks_within, marks_some, marks_fit, marks_few, marks_past, marks_flip, set_above, get_or_any}
use Rattle.walk_prefixes.specs.declared.prefixes.Prefixes.TheInside.{Inside}
use Rattle.walk_prefixes.proofs.prefixes.Prefixes.mark_later.Goals as goal
use Rattle.walk_prefixes.proofs.prefixes.Prefixes.mark_later.Goals.{then-not-seeker+then-is_later, else-not-seeker, else-not-seeker-via-then-not-seeker+else-is_later, else-not-seeker-via-else-not-seeker}

pub loop-left-init : goal.loop-left-init
loop-left-init c =
    let i = c.self.inside in
    let k = c.at_last-seeker.ensures in
    let same = c.as_slice.ensures.value in (
      refl,
      refl,
      refl,
      refl,
      refl,
      marks_start i.count c.args.schedule.now (drop i.front i.bytes.items) i.last.items
          (take i.front i.bytes.items) (vec_capacity i.last) i.removed _ _ _ _ _
          (stack_of i c.self.invariant (some_in i c.args.self.now c.self.view_is c.requires)) refl
          (omega (arith, k.end, length-drop i.front i.bytes.items, c.len.ensures, i.bytes.ok.0))
          (k.steps ∙ ap length same) (k.shared ∙ ap (λ w. common_length w c.args.schedule.now) same)
          k.within (k.next ∙ ap (λ w. get_or w c.at_last-seeker.result.shared 0) same),
    )

pub invariant_of-self : goal.invariant_of-self
invariant_of-self c =
    let v = c.loop-left.invariant in
    let m = marks_end _ _ _ _ _ _ _ _ _ _ _ _ _ _ v.5 (omega (arith, c.loop-left-test.false)) in
    rw (v.0, v.1, v.2, v.3) (
      omega (arith, v.4, c.self.invariant.0),
      inr m.stack,
      m.number c.self.invariant.2,
    )

pub returns : goal.returns
returns c =
    let v = c.loop-left.invariant in
    let m = marks_end _ _ _ _ _ _ _ _ _ _ _ _ _ _ v.5 (omega (arith, c.loop-left-test.false)) in
    (λ k. listed (v.1 k) (drop (v.0 k) c.loop-left.self-inside.bytes.items) (v.2 k).items false)
    ∙ (m.view ∙ (λ k. filter (λ p. not (is_later c.args.schedule.now p))
    (take (length (c.self.view_is k) - 1) (c.self.view_is k)) ++ last_of (c.self.view_is k) ∷ []))

pub overflow_add-end : goal.overflow_add-end
overflow_add-end c =
    let v = c.loop-left.invariant in
    let i = c.self.inside in
    omega (
      arith,
      v.0,
      v.4,
      marks_within _ _ _ _ _ _ _ _ _ _ _ _ _ _ v.5,
      length-drop i.front c.loop-left.self-inside.bytes.items,
      c.self.invariant.0,
      i.bytes.ok.0,
      i.bytes.ok.1,
      i.bytes.small,
    )

pub at_previous-seeker-requires-clause-fits : goal.at_previous-seeker-requires-clause-fits
at_previous-seeker-requires-clause-fits c =
    let v = c.loop-left.invariant in
    let j = c.loop-left.self-inside in
    let D = c.deref.result.now in
    let same : take (length D - j.front) (drop j.front D) ≡ drop c.self.inside.front j.bytes.items =
    take_rest D j.front ∙ (ap (drop j.front) c.deref.ensures.value
    ∙ ap (λ n. drop n j.bytes.items) v.0) in
    let k = c.loop-left.seeker in
    subst (λ x. k.steps - dropped_of (take k.end x)
    + (end_of (take k.end x) - start_of (take k.end x)) < 18446744073709551616) (sym same)
    (omega (
      arith,
      marks_fit _ _ _ _ _ _ _ _ _ _ _ _ _ _ v.5 c.loop-left-test.true,
      c.self.inside.last.small,
    ))

pub overflow_sub-end : goal.overflow_sub-end
overflow_sub-end c =
    omega (arith, marks_some _ _ _ _ _ _ _ _ _ _ _ _ _ _ c.loop-left.invariant.5 c.loop-left-test.true)

pub index_mut-requires : goal.index_mut-requires
index_mut-requires c =
    let v = c.loop-left.invariant in
    omega (
      arith,
      v.0,
      v.4,
      marks_some _ _ _ _ _ _ _ _ _ _ _ _ _ _ v.5 c.loop-left-test.true,
      marks_within _ _ _ _ _ _ _ _ _ _ _ _ _ _ v.5,
      length-drop c.self.inside.front c.loop-left.self-inside.bytes.items,
      c.self.invariant.0,
      c.loop-left.self-inside.bytes.ok.0,
    )

pub overflow_add-self : goal.overflow_add-self
overflow_add-self c =
    let v = c.loop-left.invariant in
    let i = c.self.inside in
    omega (
      arith,
      marks_few _ _ _ _ _ _ _ _ _ _ _ _ _ _ v.5,
      c.loop-left-test.true,
      counted_few i c.self.invariant,
      c.self.invariant.2,
      ap length c.self.view_is,
      c.requires,
      i.bytes.ok.0,
      i.bytes.ok.1,
      i.bytes.small,
    )

-- the bytes that are left, as the search reads them
read : (j : Inside) (D : List ℕ) (front : ℕ) → D ≡ j.bytes.items → j.front ≡ front →
    take (length D - j.front) (drop j.front D) ≡ drop front j.bytes.items
read j D front same e =
    take_rest D j.front ∙ (ap (drop j.front) same ∙ ap (λ n. drop n j.bytes.items) e)

pub overflow_add-index_mut : goal.overflow_add-index_mut
overflow_add-index_mut c =
    let v = c.loop-left.invariant in
    let m = v.5 in
    let j = c.loop-left.self-inside in
    let front = c.self.inside.front in
    let s = c.args.schedule.now in
    let b = drop front j.bytes.items in
    let end = c.loop-left.seeker.end in
    let L = first_by m.taken c.self.inside.last.items in
    let same = read j c.deref.result.now front c.deref.ensures.value v.0 in
    let at = c.at_previous-seeker.ensures in
    let es = at.steps L m.long ∙ ap (λ x. length (before (take end x) L)) same in
    let eh = at.shared L m.long m.alike ∙ ap (λ x. common_length (before (take end x) L) s) same in
    let en = at.next L m.long m.alike m.next
    ∙ ap (λ x. get_or (before (take end x) L) c.at_previous-seeker.result.shared 0) same in
    let f = marks_flip _ _ _ _ _ _ _ _ _ _ _ _ _ _ m c.loop-left-test.true
    (get_or b (end - 1) 0 + 128) _ _ _ _ _ refl (at.end ∙ ap (λ x. start_of (take end x)) same) es eh
    at.within en (sym (at.removed ∙ ap (λ x. removed_of (take end x)) same) ∙ c.if-not-seeker.true)
    (sym (c.is_later.ensures (before (take end b) L) es eh en) ∙ c.if-is_later.true) refl in
    let some = marks_some _ _ _ _ _ _ _ _ _ _ _ _ _ _ m c.loop-left-test.true in
    let place : front + (end - 1) ≡ j.front + end - 1 = omega (arith, v.0, some) in
    let got : get_or b (end - 1) 0 ≡ get_or j.bytes.items (j.front + end - 1) 0 =
    get_or-drop front j.bytes.items (end - 1) 0 ∙ ap (λ n. get_or j.bytes.items n 0) place in
    let within = marks_within _ _ _ _ _ _ _ _ _ _ _ _ _ _ m in
    let there : j.front + end - 1 < length j.bytes.items =
    omega (arith, v.0, v.4, some, within, length-drop front j.bytes.items, c.self.invariant.0) in
    omega (
      arith,
      f.0,
      got,
      c.index_mut.ensures.value,
      get_or_any j.bytes.items (j.front + end - 1) c.index_mut.result.now 0 there,
    )

-- what the loop keeps
abbrev Keeps : (j : Inside) (s : List ℕ) (left end steps shared step : ℕ) (i : Inside) → Type 0
Keeps j s left end steps shared step i =
    (i.front ≡ j.front) × (i.count ≡ j.count) × (i.last ≡ j.last)
    × (take j.front i.bytes.items ≡ take j.front j.bytes.items)
    × (length i.bytes.items ≡ length j.bytes.items)
    × Marks j.count s (drop j.front j.bytes.items) j.last.items
    (take j.front j.bytes.items) (vec_capacity j.last) j.removed (drop j.front i.bytes.items)
    i.removed left end steps shared step

pub loop-left-preserved : goal.loop-left-preserved
loop-left-preserved c =
    let v = c.loop-left.invariant in
    let m = v.5 in
    let j = c.loop-left.self-inside in
    let front = c.self.inside.front in
    let s = c.args.schedule.now in
    let b = drop front j.bytes.items in
    let end = c.loop-left.seeker.end in
    let L = first_by m.taken c.self.inside.last.items in
    let same = read j c.deref.result.now front c.deref.ensures.value v.0 in
    let at = c.at_previous-seeker.ensures in
    let k = c.at_previous-seeker.result in
    let ee = at.end ∙ ap (λ x. start_of (take end x)) same in
    let es = at.steps L m.long ∙ ap (λ x. length (before (take end x) L)) same in
    let eh = at.shared L m.long m.alike ∙ ap (λ x. common_length (before (take end x) L) s) same in
    let en = at.next L m.long m.alike m.next
    ∙ ap (λ x. get_or (before (take end x) L) k.shared 0) same in
    let flag = at.removed ∙ ap (λ x. removed_of (take end x)) same in
    let some = marks_some _ _ _ _ _ _ _ _ _ _ _ _ _ _ m c.loop-left-test.true in
    let place : j.front + end - 1 ≡ front + (end - 1) = omega (arith, v.0, some) in
    let within = marks_within _ _ _ _ _ _ _ _ _ _ _ _ _ _ m in
    let there : j.front + end - 1 < length j.bytes.items =
    omega (arith, v.0, v.4, some, within, length-drop front j.bytes.items, c.self.invariant.0) in
    elim c.if-not-seeker.branch [
      | then-not-seeker+then-is_later w ↦
          let byte = w.index_mut.result.now in
          let got : get_or b (end - 1) 0 ≡ byte =
          get_or-drop front j.bytes.items (end - 1) 0
          ∙ (ap (λ n. get_or j.bytes.items n 0) (sym place)
          ∙ (get_or_any j.bytes.items (j.front + end - 1) 0 byte there
          ∙ sym w.index_mut.ensures.value)) in
          let f = marks_flip _ _ _ _ _ _ _ _ _ _ _ _ _ _ m c.loop-left-test.true
          (byte + 128) _ _ _ _ _ refl ee es eh at.within en (sym flag ∙ w.if-not-seeker.true)
          (sym (w.is_later.ensures (before (take end b) L) es eh en) ∙ w.if-is_later.true)
          (ap (λ n. n + 128) (sym got)) in
          let set = set_above front j.bytes.items (end - 1) (j.front + end - 1) (byte + 128)
          (omega (arith, v.4, c.self.invariant.0)) place in
          subst (Keeps c.self.inside s _ _ _ _ _) (sym w.self-inside-is) (
            v.0,
            v.1,
            v.2,
            set.0 ∙ v.3,
            length-set j.bytes.items (j.front + end - 1) (byte + 128) ∙ v.4,
            subst (λ x. Marks c.self.inside.count s (drop front c.self.inside.bytes.items)
                c.self.inside.last.items (take front c.self.inside.bytes.items)
                (vec_capacity c.self.inside.last) c.self.inside.removed x (j.removed + 1)
                (c.loop-left.left - 1) k.end k.steps k.shared k.next) (sym set.1) f.1,
          )
      | else-not-seeker w ↦
          subst (Keeps c.self.inside s _ _ _ _ _) (sym w.self-inside-is) (
            v.0,
            v.1,
            v.2,
            v.3,
            v.4,
            marks_past _ _ _ _ _ _ _ _ _ _ _ _ _ _ m c.loop-left-test.true _ _ _ _ _ refl ee es eh
                at.within en
                (elim w.else-not-seeker.branch [
                  | else-not-seeker-via-then-not-seeker+else-is_later u ↦ inr (
                    sym flag ∙ u.if-not-seeker.true,
                    sym (u.is_later.ensures (before (take end b) L) es eh en) ∙ u.if-is_later.false,
                  )
                  | else-not-seeker-via-else-not-seeker u ↦ inl (sym flag ∙ u.if-not-seeker.false)
                ]),
          )
    ]
