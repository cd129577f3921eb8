-- The objects of a kind, one declaration after the other.
use Rattle.std.proofs.Common.{◌≡◌, ℕ, ℤ, ◌+◌, ◌<◌, ◌≤◌, List, [], ◌∷◌, ◌++◌, length, get_or, drop, map, Option, Some, None, refl, sym, ap, subst, ◌∙◌, add-one, drop-cons, append_assoc}
use Rattle.std.{specs.List.All, proofs.lemmas.List.map-append}
use Rattle.std.proofs.lemmas.List.Elements.{All-append, All-cons, All-nil}
use Rattle.guest_syntax.specs.{Tree.declaration_view, declared.tree.Declaration.Declaration}
use Rattle.guest_syntax.specs.declared.tree.Object.{Object}
use Rattle.guest_syntax.specs.declared.tree.Object.TheVariants as objects
use Rattle.guest_code.specs.Code.{objects_by, variable_of, semaphore_of}
use Rattle.guest_code.specs.Program.{Variable, Semaphore, semaphore_view}
use Rattle.guest_code.specs.declared.limits.TheConstants.{COUNT}
use Rattle.guest_code.specs.declared.program.Semaphore as code-semaphore

-- a declaration of the kind
pub objects_more : {X Y : Type 0} (of : List ℕ → Object → Option X) (view : Y → X)
    (ds : List Declaration) (i : ℕ) (x : Declaration) (old new : List Y) (y : Y) (whole : List X)
    → i < length ds → x ≡ get_or ds i x
    → new ≡ old ++ y ∷ [] → of x.name.text.items x.object ≡ Some (view y)
    → map view old ++ objects_by of (map declaration_view (drop i ds)) ≡ whole
    → map view new ++ objects_by of (map declaration_view (drop (i + 1) ds)) ≡ whole
objects_more of view ds i x old new y whole lt is pushed e h =
    let here : objects_by of (map declaration_view (drop i ds)) ≡ view y ∷ objects_by of
    (map declaration_view (drop (i + 1) ds)) = rw (add-one, drop-cons ds i x, ← is, e) refl in
    rw (
      pushed,
      map-append view old (y ∷ []),
      append_assoc (map view old) (view y ∷ [])
          (objects_by of (map declaration_view (drop (i + 1) ds))),
    )
    (ap (λ (l : List _). map view old ++ l) (sym here) ∙ h)

-- a declaration of another kind
pub objects_same : {X Y : Type 0} (of : List ℕ → Object → Option X) (view : Y → X)
    (ds : List Declaration) (i : ℕ) (x : Declaration) (old new : List Y) (whole : List X)
    → i < length ds → x ≡ get_or ds i x
    → new ≡ old → of x.name.text.items x.object ≡ None
    → map view old ++ objects_by of (map declaration_view (drop i ds)) ≡ whole
    → map view new ++ objects_by of (map declaration_view (drop (i + 1) ds)) ≡ whole
objects_same of view ds i x old new whole lt is kept e h =
    let here : objects_by of (map declaration_view (drop i ds)) ≡ objects_by of
    (map declaration_view (drop (i + 1) ds)) = rw (add-one, drop-cons ds i x, ← is, e) refl in
    rw kept (ap (λ (l : List _). map view old ++ l) (sym here) ∙ h)

pub not_variable : (name : List ℕ) (o : Object) → ((z : ℤ) → o ≡ objects.Variable z → ⊥)
    → variable_of name o ≡ None
not_variable name (objects.Variable z) h = absurd (h z refl)
not_variable name objects.Mutex h = refl
not_variable name objects.Condition h = refl
not_variable name (objects.Semaphore n) h = refl

pub not_semaphore : (name : List ℕ) (o : Object) → ((n : ℕ) → o ≡ objects.Semaphore n → ⊥)
    → semaphore_of name o ≡ None
not_semaphore name (objects.Variable z) h = refl
not_semaphore name objects.Mutex h = refl
not_semaphore name objects.Condition h = refl
not_semaphore name (objects.Semaphore n) h = absurd (h n refl)

pub is_variable : (name : List ℕ) (o : Object) (z : ℤ) (y : Variable) → o ≡ objects.Variable z
    → y ≡ record { name = name; opening = z } → variable_of name o ≡ Some y
is_variable name o z y e same = rw (e, same) refl

pub is_semaphore : (name : List ℕ) (o : Object) (k : ℕ) (y : Semaphore) → o ≡ objects.Semaphore k
    → y ≡ record { name = name; count = k } → semaphore_of name o ≡ Some y
is_semaphore name o k y e same = rw (e, same) refl

-- one semaphore more, whose count is not too great
pub counts_more : (old : List code-semaphore.Semaphore) (new : List code-semaphore.Semaphore)
    (y : code-semaphore.Semaphore) (name : List ℕ) (k : ℕ) → new ≡ old ++ y ∷ []
    → semaphore_view y ≡ record { name = name; count = k } → k ≤ COUNT
    → All (λ s. s.count ≤ COUNT) (map semaphore_view old) → All (λ s. s.count ≤ COUNT)
    (map semaphore_view new)
counts_more old new y name k pushed same le h =
    let P : Semaphore → Type 0 = λ s. s.count ≤ COUNT in
    rw (pushed, map-append semaphore_view old (y ∷ []))
    (All-append P (map semaphore_view old) (semaphore_view y ∷ []) h
    (All-cons P (semaphore_view y) []
    (subst (λ (v : Semaphore). v.count ≤ COUNT) (sym same) le) (All-nil P)))
