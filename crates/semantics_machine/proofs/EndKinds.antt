-- How a schedule ends, and who sleeps, from sets.
use Rattle.std.proofs.Common.{◌≡◌, ℕ, zero, suc, Bool, true, false, cond, not, ◌&&◌, ◌||◌, List, [], ◌∷◌, get_or, refl, ap, ◌∙◌, sym}
use Rattle.std.specs.List.{list_any, list_all}
use Rattle.guest_code.specs.Program.{Program}
use Rattle.semantics.specs.Ends.{is_stopped, is_ended, final_kind}
use Rattle.semantics.specs.{Machine.{Snapshot, thread_at, missing_thread}, Mask.has}
use Rattle.semantics.specs.declared.state.Thread.{Thread}
use Rattle.semantics.specs.declared.view.Kind.TheVariants.{Done, Failed, Stuck}
use Rattle.semantics_machine.specs.{Refinement.IsControl, declared.control.Control.Control}

or_true : (b : Bool) → (b || true) ≡ true
or_true true = refl
or_true false = refl

and_false : (b : Bool) → (b && false) ≡ false
and_false true = refl
and_false false = refl

-- a test of all elements, that the default fails or passes

any_at : {A : Type 0} (f : A → Bool) (d : A) (xs : List A) (t : ℕ) → f d ≡ false
    → f (get_or xs t d) ≡ true → list_any f xs ≡ true
any_at f d [] t h e = cc
any_at f d (x ∷ xs) zero h e = ap (λ b. b || list_any f xs) e
any_at f d (x ∷ xs) (suc t) h e = ap (λ b. f x || b) (any_at f d xs t h e) ∙ or_true (f x)

none_any : {A : Type 0} (f : A → Bool) (d : A) (xs : List A)
    → ((t : ℕ) → f (get_or xs t d) ≡ false) → list_any f xs ≡ false
none_any f d [] h = refl
none_any f d (x ∷ xs) h = λ i. h 0 i || none_any f d xs (λ t. h (suc t)) i

all_each : {A : Type 0} (f : A → Bool) (d : A) (xs : List A)
    → ((t : ℕ) → f (get_or xs t d) ≡ true) → list_all f xs ≡ true
all_each f d [] h = refl
all_each f d (x ∷ xs) h = λ i. h 0 i && all_each f d xs (λ t. h (suc t)) i

all_but : {A : Type 0} (f : A → Bool) (d : A) (xs : List A) (t : ℕ) → f d ≡ true
    → f (get_or xs t d) ≡ false → list_all f xs ≡ false
all_but f d [] t h e = cc
all_but f d (x ∷ xs) zero h e = ap (λ b. b && list_all f xs) e
all_but f d (x ∷ xs) (suc t) h e = ap (λ b. f x && b) (all_but f d xs t h e) ∙ and_false (f x)

not_not : (b c : Bool) → c ≡ not b → b ≡ not c
not_not true true e = cc
not_not true false e = refl
not_not false true e = refl
not_not false false e = cc

module _ (p : Program) (c : Control) (s : Snapshot) (shows : IsControl p c s) where
  abbrev stops : Thread → Bool
  stops th = is_stopped th.status

  abbrev ends : Thread → Bool
  ends th = is_ended th.status

  pub fails : (t : ℕ) → has c.stopped t ≡ true → Failed ≡ final_kind s.threads
  fails t h = ap (λ b. cond b Failed (cond (list_all ends s.threads) Done Stuck))
      (sym (any_at stops missing_thread s.threads t refl (sym (shows.threads t).stopped ∙ h)))

  none_stops : ((t : ℕ) → has c.stopped t ≡ false) → list_any stops s.threads ≡ false
  none_stops h = none_any stops missing_thread s.threads (λ t. sym (shows.threads t).stopped ∙ h t)

  pub is_done : ((t : ℕ) → has c.stopped t ≡ false) → ((t : ℕ) → has c.unended t ≡ false)
      → Done ≡ final_kind s.threads
  is_done h e = λ i. cond (sym (none_stops h) i) Failed (cond (sym (all_each ends missing_thread
      s.threads (λ t. not_not (is_ended (thread_at s t).status) (has c.unended t)
      (shows.threads t).unended ∙ ap not (e t))) i) Done Stuck)

  pub gets_stuck : (t : ℕ) → ((t : ℕ) → has c.stopped t ≡ false) → has c.unended t ≡ true
      → Stuck ≡ final_kind s.threads
  gets_stuck t h e = λ i. cond (sym (none_stops h) i) Failed (cond (sym (all_but ends missing_thread
      s.threads t refl (not_not (is_ended (thread_at s t).status) (has c.unended t)
      (shows.threads t).unended ∙ ap not e)) i) Done Stuck)
