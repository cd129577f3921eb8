-- What the kind of a schedule's end says of its threads.
use Rattle.std.proofs.Common.{◌≡◌, ◌≢◌, ◌↔◌, ◌<◌, ℕ, zero, suc, Bool, true, false, cond, ◌&&◌, List, [], ◌∷◌, length, get_or, refl, ap, ◌∙◌, sym, arith}
use Rattle.std.{specs.List.{list_any, list_all, Any}, proofs.lemmas.Bool.and_parts}
use Rattle.std.proofs.lemmas.List.Elements.{All-contains}
use Rattle.std.proofs.lemmas.List.Folds.{Any-from_list_any, list_any-from_Any}
use Rattle.semantics.specs.Ends.{is_stopped, is_ended, final_kind}
use Rattle.semantics.specs.FinalKinds.{SomeStopped, SomeUnended, AllEnded}
use Rattle.semantics.specs.declared.state.Status.{Status, TheVariants.{Ended, Stopped}}
use Rattle.semantics.specs.declared.state.{Stop.Stop, Thread.Thread}
use Rattle.semantics.specs.declared.view.Kind.TheVariants.{Done, Failed, Stuck}

-- one thread's status

why_stopped : (status : Status) → is_stopped status ≡ true → (why : Stop) × (status ≡ Stopped why)
why_stopped (Stopped why) h = (why, refl)
why_stopped status h = cc

has_ended : (status : Status) → is_ended status ≡ true → status ≡ Ended
has_ended Ended h = refl
has_ended status h = cc

not_ended : (status : Status) → is_ended status ≡ false → status ≢ Ended
not_ended status h e = let k : is_ended status ≡ true = ap is_ended e in cc

-- the tests of all threads

abbrev stopped_test : Thread → Bool
stopped_test th = is_stopped th.status

abbrev ended_test : Thread → Bool
ended_test th = is_ended th.status

stopped_some : (threads : List Thread) → list_any stopped_test threads ≡ true → SomeStopped threads
stopped_some threads h =
    let a : Any (λ (th : Thread). is_stopped th.status ≡ true) threads =
    Any-from_list_any stopped_test threads h in
    (a.0, a.1, a.2, a.3, why_stopped a.1.status a.4)

some_stopped : (threads : List Thread) → SomeStopped threads → list_any stopped_test threads ≡ true
some_stopped threads a =
    list_any-from_Any stopped_test threads (a.0, a.1, a.2, a.3, ap is_stopped a.4.1)

pub ended_all : (threads : List Thread) → list_all ended_test threads ≡ true → AllEnded threads
ended_all [] h k d l = absurd (omega arith)
ended_all (th ∷ threads) h zero d l = has_ended th.status (and_parts (is_ended th.status) _ h).0
ended_all (th ∷ threads) h (suc k) d l =
    ended_all threads (and_parts (is_ended th.status) _ h).1 k d (omega arith)

unended_some : (threads : List Thread) → list_all ended_test threads ≡ false → SomeUnended threads
unended_some [] h = cc
unended_some (th ∷ threads) h = go (is_ended th.status) refl (unended_some threads)
  where
    rest : is_ended th.status ≡ true → list_all ended_test threads ≡ false
    rest e = ap (λ b. b && list_all ended_test threads) (sym e) ∙ h

    go : (b : Bool) → is_ended th.status ≡ b
        → (list_all ended_test threads ≡ false → SomeUnended threads) → SomeUnended (th ∷ threads)
    go true e f =
        let a : SomeUnended threads = f (rest e) in
        (suc a.0, a.1, omega (arith, a.2), a.3, a.4)
    go false e f = (0, th, omega arith, refl, not_ended th.status e)

-- not all ended, where one stopped or has not ended

ended_at : (threads : List Thread) (k : ℕ) (th : Thread)
    → k < length threads → get_or threads k th ≡ th → AllEnded threads → th.status ≡ Ended
ended_at threads k th l e all =
    All-contains (λ (u : Thread). u.status ≡ Ended) threads th all (k, l, e)

stopped_not_all : (threads : List Thread) → SomeStopped threads → AllEnded threads → ⊥
stopped_not_all threads a all =
    let e : a.1.status ≡ Ended = ended_at threads a.0 a.1 a.2 a.3 all in
    let f : a.1.status ≡ Stopped a.4.0 = a.4.1 in
    cc

unended_not_all : (threads : List Thread) → SomeUnended threads → AllEnded threads → ⊥
unended_not_all threads a all = a.4 (ended_at threads a.0 a.1 a.2 a.3 all)

-- the three ways in which the tests may come out

data Outcome (threads : List Thread) : Type 0 where
  failed : SomeStopped threads → final_kind threads ≡ Failed → Outcome threads
  done : (SomeStopped threads → ⊥) → AllEnded threads → final_kind threads ≡ Done → Outcome threads
  stuck : (SomeStopped threads → ⊥) → SomeUnended threads → final_kind threads ≡ Stuck
      → Outcome threads

outcome : (threads : List Thread) → Outcome threads
outcome threads = go (list_any stopped_test threads) (list_all ended_test threads) refl refl
  where
    by_tests : (a b : Bool) → list_any stopped_test threads ≡ a → list_all ended_test threads ≡ b
        → final_kind threads ≡ cond a Failed (cond b Done Stuck)
    by_tests a b h k = λ i. cond (h i) Failed (cond (k i) Done Stuck)

    none : list_any stopped_test threads ≡ false → SomeStopped threads → ⊥
    none h a = let k : list_any stopped_test threads ≡ true = some_stopped threads a in cc

    go : (a b : Bool) → list_any stopped_test threads ≡ a → list_all ended_test threads ≡ b
        → Outcome threads
    go true b h k = failed (stopped_some threads h) (by_tests true b h k)
    go false true h k = done (none h) (ended_all threads k) (by_tests false true h k)
    go false false h k = stuck (none h) (unended_some threads k) (by_tests false false h k)

pub failed_means : (threads : List Thread) → (final_kind threads ≡ Failed) ↔ SomeStopped threads
failed_means threads = go (outcome threads)
  where
    go : Outcome threads → (final_kind threads ≡ Failed) ↔ SomeStopped threads
    go (failed a e) = (λ h. a, λ h. e)
    go (done n all e) = (λ h. cc, λ a. absurd (n a))
    go (stuck n u e) = (λ h. cc, λ a. absurd (n a))

pub done_means : (threads : List Thread) → (final_kind threads ≡ Done) ↔ AllEnded threads
done_means threads = go (outcome threads)
  where
    go : Outcome threads → (final_kind threads ≡ Done) ↔ AllEnded threads
    go (failed a e) = (λ h. cc, λ all. absurd (stopped_not_all threads a all))
    go (done n all e) = (λ h. all, λ h. e)
    go (stuck n u e) = (λ h. cc, λ all. absurd (unended_not_all threads u all))

abbrev IsDeadlock : List Thread → Type 0
IsDeadlock threads = (SomeStopped threads → ⊥) × SomeUnended threads

pub stuck_means : (threads : List Thread) → (final_kind threads ≡ Stuck) ↔ IsDeadlock threads
stuck_means threads = go (outcome threads)
  where
    go : Outcome threads → (final_kind threads ≡ Stuck) ↔ IsDeadlock threads
    go (failed a e) = (λ h. cc, λ both. absurd (both.0 a))
    go (done n all e) = (λ h. cc, λ both. absurd (unended_not_all threads both.1 all))
    go (stuck n u e) = (λ h. (n, u), λ h. e)
