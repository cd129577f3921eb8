-- What steps on variables do.
use Rattle.std.proofs.Common.{◌≡◌, ◌≢◌, ◌<◌, ℕ, ℤ, pos, Bool, true, false, cond, length, set, refl, ap, ◌∙◌, get_or-set_same, get_or-set_other}
use Rattle.std.{specs.Ordering.int_eq, proofs.lemmas.Bool.Decides.Decides-int_eq}
use Rattle.std.proofs.lemmas.List.{set-get_or}
use Rattle.guest_syntax.specs.declared.tree.Op.TheVariants.{Add as Plus}
use Rattle.guest_code.specs.{Program.{Program, code_of}, declared.program.Value.Value}
use Rattle.semantics.specs.Effects.{operand_of, IsAboutTo, RunsOn, RunsOnAs, PutsInto}
use Rattle.semantics.specs.Machine.{Snapshot, step, thread_at, value_of, of_both, one_or_zero, with_local, resumed, var_after, reader_after, is_expected}
use Rattle.semantics.specs.declared.state.Action.TheVariants.{OnVariable}
use Rattle.semantics.specs.declared.state.VariableAction.{VariableAction}
use Rattle.semantics.specs.declared.state.VariableAction.TheVariants.{Load as Loads, Store as Stores, Add as Adds, Cas as Swaps}
use Rattle.semantics.proofs.StepFrame.{step_is, set_thread}

module _ (p : Program) (s : Snapshot) (t x : ℕ) where
  -- the value of the variable before the step
  abbrev old : ℤ
  old = value_of s x

  -- every step on a variable

  thread_after : (d : VariableAction) → IsAboutTo p s t (OnVariable x d)
      → RunsOnAs p s t (reader_after d (thread_at s t) old)
  thread_after d e = ap (λ (z : Snapshot). thread_at z t) (step_is p s t _ e)
      ∙ set_thread p s t _ _ e

  variables_after : (d : VariableAction) → IsAboutTo p s t (OnVariable x d)
      → (step p s t).vars ≡ set s.vars x (var_after d (thread_at s t).locals old)
  variables_after d e = ap (λ (z : Snapshot). z.vars) (step_is p s t _ e)

  value_after : (d : VariableAction) → IsAboutTo p s t (OnVariable x d) → x < length s.vars
      → value_of (step p s t) x ≡ var_after d (thread_at s t).locals old
  value_after d e l = ap (λ (z : Snapshot). value_of z x) (step_is p s t _ e)
      ∙ get_or-set_same s.vars x _ (pos 0) l

  puts : (r : ℕ) (v : ℤ) → RunsOnAs p s t (with_local (thread_at s t) r v) → PutsInto p s t r v
  puts r v runs = record {
    thread = with_local (thread_at s t) r v;
    runs_on = runs;
    local = λ l. get_or-set_same (thread_at s t).locals r v (pos 0) l;
    others = λ q ne. get_or-set_other (thread_at s t).locals r q v (pos 0) ne;
    pc = refl;
  }

  -- loads

  pub load_local : (r : ℕ) → IsAboutTo p s t (OnVariable x (Loads r)) → PutsInto p s t r old
  load_local r e = puts r old (thread_after (Loads r) e)

  pub load_variables : (r : ℕ)
      → IsAboutTo p s t (OnVariable x (Loads r)) → (step p s t).vars ≡ s.vars
  load_variables r e = variables_after (Loads r) e ∙ set-get_or s.vars x (pos 0)

  -- stores

  pub store_value : (a : Value) → IsAboutTo p s t (OnVariable x (Stores a))
      → x < length s.vars → value_of (step p s t) x ≡ operand_of s t a
  store_value a e l = value_after (Stores a) e l

  pub store_others : (a : Value) → IsAboutTo p s t (OnVariable x (Stores a))
      → (y : ℕ) → y ≢ x → value_of (step p s t) y ≡ value_of s y
  store_others a e y ne = ap (λ (z : Snapshot). value_of z y) (step_is p s t _ e)
      ∙ get_or-set_other s.vars x y _ (pos 0) ne

  pub store_thread : (a : Value) → IsAboutTo p s t (OnVariable x (Stores a)) → RunsOn p s t
  store_thread a e = thread_after (Stores a) e

  -- atomic additions

  pub add_local : (r : ℕ) (a : Value)
      → IsAboutTo p s t (OnVariable x (Adds r a)) → PutsInto p s t r old
  add_local r a e = puts r old (thread_after (Adds r a) e)

  pub add_value : (r : ℕ) (a : Value) → IsAboutTo p s t (OnVariable x (Adds r a))
      → x < length s.vars → value_of (step p s t) x ≡ of_both Plus old (operand_of s t a)
  add_value r a e l = value_after (Adds r a) e l

  -- compare-and-swap

  hits : (a : Value) → old ≡ operand_of s t a → is_expected (thread_at s t).locals a old ≡ true
  hits a h = (Decides-int_eq old (operand_of s t a)).1 h

  misses : (a : Value) → old ≢ operand_of s t a → is_expected (thread_at s t).locals a old ≡ false
  misses a h = go (int_eq old (operand_of s t a)) refl
    where
      go : (b : Bool) → int_eq old (operand_of s t a) ≡ b → int_eq old (operand_of s t a) ≡ false
      go true e = absurd (h ((Decides-int_eq old (operand_of s t a)).0 e))
      go false e = e

  -- the thread after a swap that hits, or misses
  swap_local : (r : ℕ) (a b : Value) (hit : Bool)
      → IsAboutTo p s t (OnVariable x (Swaps r a b))
      → is_expected (thread_at s t).locals a old ≡ hit → PutsInto p s t r (one_or_zero hit)
  swap_local r a b hit e h = puts r (one_or_zero hit) (thread_after (Swaps r a b) e
      ∙ ap (λ z. resumed (code_of p t) (with_local (thread_at s t) r (one_or_zero z))) h)

  pub hit_local : (r : ℕ) (a b : Value) → IsAboutTo p s t (OnVariable x (Swaps r a b))
      → old ≡ operand_of s t a → PutsInto p s t r (pos 1)
  hit_local r a b e h = swap_local r a b true e (hits a h)

  pub miss_local : (r : ℕ) (a b : Value) → IsAboutTo p s t (OnVariable x (Swaps r a b))
      → old ≢ operand_of s t a → PutsInto p s t r (pos 0)
  miss_local r a b e h = swap_local r a b false e (misses a h)

  pub hit_value : (r : ℕ) (a b : Value) → IsAboutTo p s t (OnVariable x (Swaps r a b))
      → x < length s.vars → old ≡ operand_of s t a → value_of (step p s t) x ≡ operand_of s t b
  hit_value r a b e l h = value_after (Swaps r a b) e l
      ∙ ap (λ z. cond z (operand_of s t b) old) (hits a h)

  pub miss_variables : (r : ℕ) (a b : Value) → IsAboutTo p s t (OnVariable x (Swaps r a b))
      → old ≢ operand_of s t a → (step p s t).vars ≡ s.vars
  miss_variables r a b e h = variables_after (Swaps r a b) e
      ∙ (ap (λ z. set s.vars x (cond z (operand_of s t b) old)) (misses a h)
      ∙ set-get_or s.vars x (pos 0))
