-- What the walks of a loan's items find, one after another.
use Rattle.std.proofs.Common.{◌≡◌, ℕ, ◌+◌, ◌-◌, ◌*◌, ◌^◌, ◌<◌, ◌≤◌, false, List, [], Some, length, slice_get, ap, sym, subst, arith}
use Rattle.guest_code.specs.Program.{Program}
use Rattle.walk_summary.specs.Summaries.{SummaryView, nothing}
use Rattle.walk_items.specs.{Items.ItemView, declared.mode.Mode.Mode}
use Rattle.walk.specs.{Founds.HasAdded, declared.found.Found.Found}
use Rattle.book.specs.Books.{BookView, opening}
use Rattle.book.proofs.Rounds.{IsFoundFrom, round_begins, round_goes_on, added_tried}

-- a book of which just these items are open
abbrev pub book_of_items : Program → Mode → List ItemView → BookView
book_of_items p mode items = record (opening p mode false) { open_items = items }

-- walks of the first n of these items, each up to a quota, found this
pub record HaveWalked (p : Program) (mode : Mode) (items : List ItemView) (quota n : ℕ) (f : Found)
    : Type 0 where
  pub found : IsFoundFrom (book_of_items p mode items) 0 n quota f
  pub few : f.part.tried ≤ n * 2 ^ 32

pub none_walked : (p : Program) (mode : Mode) (items : List ItemView) (quota n : ℕ) (f : Found) →
    n ≡ 0 → f.part ≡ nothing → f.rest.items ≡ [] → f.deferred ≡ [] →
    HaveWalked p mode items quota n f
none_walked p mode items quota n f none part rest deferred =
    let tried : f.part.tried ≡ 0 = ap (λ (s : SummaryView). s.tried) part in
    record {
      found = round_begins (book_of_items p mode items) 0 n quota f none part rest deferred;
      few = omega (arith, tried);
    }

pub one_more_walked : (p : Program) (mode : Mode) (items : List ItemView) (quota place : ℕ)
    (i : ItemView) (f g : Found) → place < length items → slice_get items place ≡ Some i →
    i.program ≡ p → quota < 2 ^ 32 → HasAdded mode i quota f g →
    HaveWalked p mode items quota place f → HaveWalked p mode items quota (place + 1) g
one_more_walked p mode items quota place i f g lt at of fits added h =
    let b : BookView = book_of_items p mode items in
    let before : place ≡ place - 0 = omega arith in
    let after : place + 1 - 0 ≡ place + 1 = omega arith in
    let more = added_tried mode i quota f g added in
    let few = h.few in
    record {
      found = subst (λ n. IsFoundFrom b 0 n quota g) after
          (round_goes_on b i 0 place quota f g (omega arith) (lt, at) (sym of) added
          (subst (λ n. IsFoundFrom b 0 n quota f) before h.found));
      few = omega (arith, more, few, fits);
    }
