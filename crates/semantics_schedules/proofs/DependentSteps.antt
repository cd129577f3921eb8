-- Dependent steps have an object that both access and one of them writes.
use Rattle.std.proofs.Common.{◌≡◌, ◌≢◌, ◌↔◌, ◌⊎◌, inl, inr, ℕ, Bool, true, false, not, ◌&&◌, nat_eq, List, [], ◌∷◌, None, refl, ap, ◌∙◌, sym, subst, arith}
use Rattle.std.{specs.List.Contains, proofs.lemmas.Bool.{or_cases, or_left, or_right}}
use Rattle.std.proofs.lemmas.Bool.Decides.{nat_tests}
use Rattle.guest_code.specs.Program.{Program}
use Rattle.semantics.specs.Accesses.{Access, accesses, Object, write_of, Writes}
use Rattle.semantics.specs.Accesses.Access.{reads_var, writes_var, writes_mutex, writes_condition, writes_semaphore}
use Rattle.semantics.specs.Accesses.Object.{variable, mutex, condition, semaphore}
use Rattle.semantics.specs.{Effects.IsAboutTo, Machine.{Snapshot, next_of}, Waiters.In}
use Rattle.semantics.specs.declared.state.Action.{Action, TheVariants.OnVariable}
use Rattle.semantics.specs.declared.state.VariableAction.TheVariants.{Load as Loads}
use Rattle.semantics.proofs.ListMembers.{in_contains, contains_in}
use Rattle.semantics_schedules.specs.Dependence.{object_of, Accesses, ConflictOn}
use Rattle.semantics_schedules.specs.Sleep.{conflict, conflicts_with_any, some_conflict, apart, independent}

eq_of : (t u : ℕ) → nat_eq t u ≡ true → t ≡ u
eq_of t u h = grind (arith, nat_tests, h)

eq_to : (t u : ℕ) → t ≡ u → nat_eq t u ≡ true
eq_to t u h = grind (arith, nat_tests, h)

-- what a conflict of two accesses is

abbrev IsWrite : Access → Type 0
IsWrite a = a ≡ write_of (object_of a)

conflict_means : (a b : Access)
    → conflict a b ≡ true → (object_of a ≡ object_of b) × (IsWrite a ⊎ IsWrite b)
conflict_means (reads_var x) (writes_var y) h = (ap variable (eq_of x y h), inr refl)
conflict_means (writes_var x) (reads_var y) h = (ap variable (eq_of x y h), inl refl)
conflict_means (writes_var x) (writes_var y) h = (ap variable (eq_of x y h), inl refl)
conflict_means (writes_mutex m) (writes_mutex n) h = (ap mutex (eq_of m n h), inl refl)
conflict_means (writes_condition c) (writes_condition d) h =
    (ap condition (eq_of c d h), inl refl)
conflict_means (writes_semaphore k) (writes_semaphore l) h =
    (ap semaphore (eq_of k l h), inl refl)
conflict_means a b h = cc

conflict_from : (a b : Access)
    → object_of a ≡ object_of b → IsWrite a ⊎ IsWrite b → conflict a b ≡ true
conflict_from (reads_var x) (reads_var y) e (inl w) = cc
conflict_from (reads_var x) (reads_var y) e (inr w) = cc
conflict_from (reads_var x) (writes_var y) e w = eq_to x y cc
conflict_from (writes_var x) (reads_var y) e w = eq_to x y cc
conflict_from (writes_var x) (writes_var y) e w = eq_to x y cc
conflict_from (writes_mutex m) (writes_mutex n) e w = eq_to m n cc
conflict_from (writes_condition c) (writes_condition d) e w = eq_to c d cc
conflict_from (writes_semaphore k) (writes_semaphore l) e w = eq_to k l cc
conflict_from a b e w = cc

-- a conflict of two lists is one of two members

abbrev ConflictIn : List Access → List Access → Type 0
ConflictIn as_ bs = (a : Access) × (b : Access) × In as_ a × In bs b × (conflict a b ≡ true)

one_conflicts : (a : Access) (bs : List Access)
    → conflicts_with_any a bs ≡ true → (b : Access) × In bs b × (conflict a b ≡ true)
one_conflicts a [] h = cc
one_conflicts a (b ∷ bs) h = elim (or_cases (conflict a b) (conflicts_with_any a bs) h) [
  | inl k ↦ (b, inl refl, k)
  | inr k ↦ (let r = one_conflicts a bs k in (r.0, inr r.1, r.2))
]

conflicts_one : (a : Access) (bs : List Access) (b : Access)
    → In bs b → conflict a b ≡ true → conflicts_with_any a bs ≡ true
conflicts_one a [] b i h = absurd i
conflicts_one a (c ∷ bs) b (inl e) h =
    or_left (conflict a c) (conflicts_with_any a bs) (ap (conflict a) e ∙ h)
conflicts_one a (c ∷ bs) b (inr i) h =
    or_right (conflict a c) (conflicts_with_any a bs) (conflicts_one a bs b i h)

two_conflict : (as_ bs : List Access) → some_conflict as_ bs ≡ true → ConflictIn as_ bs
two_conflict [] bs h = cc
two_conflict (a ∷ as_) bs h = elim (or_cases (conflicts_with_any a bs) (some_conflict as_ bs) h) [
  | inl k ↦ (let r = one_conflicts a bs k in (a, r.0, inl refl, r.1, r.2))
  | inr k ↦ (let r = two_conflict as_ bs k in (r.0, r.1, inr r.2, r.3, r.4))
]

conflict_two : (as_ bs : List Access) (a b : Access)
    → In as_ a → In bs b → conflict a b ≡ true → some_conflict as_ bs ≡ true
conflict_two [] bs a b i j h = absurd i
conflict_two (c ∷ as_) bs a b (inl e) j h =
    or_left (conflicts_with_any c bs) (some_conflict as_ bs)
    (conflicts_one c bs b j (ap (λ x. conflict x b) e ∙ h))
conflict_two (c ∷ as_) bs a b (inr i) j h =
    or_right (conflicts_with_any c bs) (some_conflict as_ bs) (conflict_two as_ bs a b i j h)

-- so a conflict of two actions is one on an object

object_of-write : (o : Object) → object_of (write_of o) ≡ o
object_of-write (variable x) = refl
object_of-write (mutex m) = refl
object_of-write (condition c) = refl
object_of-write (semaphore k) = refl

write_is_write : (o : Object) → IsWrite (write_of o)
write_is_write o = ap write_of (sym (object_of-write o))

write_conflicts : (o : Object) (b : Access) → object_of b ≡ o → conflict (write_of o) b ≡ true
write_conflicts o b e =
    conflict_from (write_of o) b (object_of-write o ∙ sym e) (inl (write_is_write o))

conflicts_write : (o : Object) (a : Access) → object_of a ≡ o → conflict a (write_of o) ≡ true
conflicts_write o a e =
    conflict_from a (write_of o) (e ∙ sym (object_of-write o)) (inr (write_is_write o))

module _ (a b : Action) where
  on_object : some_conflict (accesses a) (accesses b) ≡ true → (o : Object) × ConflictOn a b o
  on_object h =
      let r : ConflictIn (accesses a) (accesses b) = two_conflict (accesses a) (accesses b) h in
      let m = conflict_means r.0 r.1 r.4 in
      let i : Contains (accesses a) r.0 = in_contains (accesses a) r.0 r.2 in
      let j : Contains (accesses b) r.1 = in_contains (accesses b) r.1 r.3 in (
        object_of r.0,
        (
          (i.0, r.0, i.1, i.2, refl),
          (j.0, r.1, j.1, j.2, sym m.0),
          elim m.1 [
            | inl w ↦ inl (subst (Contains (accesses a)) w i)
            | inr w ↦ inr (subst (Contains (accesses b)) (w ∙ ap write_of (sym m.0)) j)
          ],
        ),
      )

  from_object : (o : Object) → ConflictOn a b o → some_conflict (accesses a) (accesses b) ≡ true
  from_object o c = go c.0 c.1 c.2
    where
      both : (x y : Access) → Contains (accesses a) x → Contains (accesses b) y
          → conflict x y ≡ true → some_conflict (accesses a) (accesses b) ≡ true
      both x y i j h = conflict_two (accesses a) (accesses b) x y
          (contains_in (accesses a) x i) (contains_in (accesses b) y j) h

      go : Accesses a o → Accesses b o → Writes a o ⊎ Writes b o
          → some_conflict (accesses a) (accesses b) ≡ true
      go x y (inl w) = both (write_of o) y.1 w (y.0, y.2, y.3) (write_conflicts o y.1 y.4)
      go x y (inr w) = both x.1 (write_of o) (x.0, x.2, x.3) w (conflicts_write o x.1 x.4)

-- steps of different threads

nat_eq-differ : (t v : ℕ) → t ≢ v → nat_eq t v ≡ false
nat_eq-differ t v ne = grind (arith, nat_tests, ne)

module _ (p : Program) (s : Snapshot) (t v : ℕ) where
  independent-at : (a b : Action) → t ≢ v → IsAboutTo p s t a → IsAboutTo p s v b
      → independent p s t v ≡ not (some_conflict (accesses a) (accesses b))
  unfolding independent
  independent-at a b ne e f = λ i. not (nat_eq-differ t v ne i) && apart (e i) (f i)

  pub dependent_means : (a b : Action) → t ≢ v → IsAboutTo p s t a → IsAboutTo p s v b
      → (independent p s t v ≡ false) ↔ ((o : Object) × ConflictOn a b o)
  dependent_means a b ne e f =
      (λ h. on_object a b (turned _ (sym same ∙ h)), λ c. same ∙ ap not (from_object a b c.0 c.1))
    where
      same : independent p s t v ≡ not (some_conflict (accesses a) (accesses b))
      same = independent-at a b ne e f

      turned : (x : Bool) → not x ≡ false → x ≡ true
      turned true h = refl
      turned false h = cc

  pub loads_are_independent : (x y r q : ℕ) → t ≢ v → IsAboutTo p s t (OnVariable x (Loads r))
      → IsAboutTo p s v (OnVariable y (Loads q)) → independent p s t v ≡ true
  loads_are_independent x y r q ne e f = independent-at _ _ ne e f

  pub independent-none : next_of p s t ≡ None → independent p s t v ≡ false
  unfolding independent
  independent-none e = ap (λ i. not (nat_eq t v) && apart i (next_of p s v)) e
      ∙ right_false (not (nat_eq t v))
    where
      right_false : (b : Bool) → (b && false) ≡ false
      right_false true = refl
      right_false false = refl

pub independent-itself : (p : Program) (s : Snapshot) (t : ℕ) → independent p s t t ≡ false
unfolding independent
independent-itself p s t =
    ap (λ b. not b && apart (next_of p s t) (next_of p s t)) (eq_to t t refl)
