-- Lists of warnings, one more at a time.
use Rattle.std.proofs.Common.{◌≡◌, ℕ, suc, ◌+◌, ◌<◌, List, [], ◌∷◌, ◌++◌, length, take, get_or, subst, sym, add-one}
use Rattle.std.proofs.lemmas.List.{take_more}
use Rattle.guest_code.specs.Program.{Program}
use Rattle.check_lint.specs.Warnings.{IsSo, Chosen, none, taken, passed, Listed, nothing, more, subject_of, count_of}
use Rattle.check_lint.specs.declared.warning.{Warning.Warning, WarningKind.WarningKind}

pub chosen_none : (p : Program) (kind : WarningKind) (ws : List Warning) → ws ≡ [] → Chosen p kind 0 ws
chosen_none p kind ws e = let P : List Warning → Type 0 = λ vs. Chosen p kind 0 vs in
    subst P (sym e) none

counted : (p : Program) (kind : WarningKind) (n : ℕ) (ws : List Warning) → Chosen p kind (suc n) ws
    → Chosen p kind (n + 1) ws
counted p kind n ws c = let P : ℕ → Type 0 = λ k. Chosen p kind k ws in subst P (sym (add-one n)) c

pub chosen_more : (p : Program) (kind : WarningKind) (n : ℕ) (ws vs : List Warning)
    → Chosen p kind n ws → IsSo p kind n
    → vs ≡ ws ++ record { kind = kind; number = n } ∷ [] → Chosen p kind (n + 1) vs
chosen_more p kind n ws vs chosen so e =
    let P : List Warning → Type 0 = λ us. Chosen p kind (n + 1) us in
    subst P (sym e) (counted p kind n (ws ++ record { kind = kind; number = n } ∷ [])
    (taken chosen so))

pub chosen_passed : (p : Program) (kind : WarningKind) (n : ℕ) (ws vs : List Warning)
    → Chosen p kind n ws → ¬ IsSo p kind n → vs ≡ ws → Chosen p kind (n + 1) vs
chosen_passed p kind n ws vs chosen not_so e =
    let P : List Warning → Type 0 = λ us. Chosen p kind (n + 1) us in
    subst P (sym e) (counted p kind n ws (passed chosen not_so))

pub listed_none : (p : Program) (ks : List WarningKind) (ws : List Warning) → ws ≡ []
    → Listed p (take 0 ks) ws
listed_none p ks ws e = let P : List Warning → Type 0 = λ vs. Listed p [] vs in
    subst P (sym e) nothing

pub listed_more : (p : Program) (ks : List WarningKind) (i : ℕ) (d : WarningKind) (ws vs all : List Warning)
    → i < length ks → Listed p (take i ks) ws
    → Chosen p (get_or ks i d) (count_of p (subject_of (get_or ks i d))) vs → all ≡ ws ++ vs
    → Listed p (take (i + 1) ks) all
listed_more p ks i d ws vs all lt listed chosen e =
    let P : List Warning → Type 0 = λ us. Listed p (take (i + 1) ks) us in
    let Q : List WarningKind → Type 0 = λ js. Listed p js (ws ++ vs) in
    subst P (sym e) (subst Q (sym (take_more ks i d lt)) (more listed chosen))
