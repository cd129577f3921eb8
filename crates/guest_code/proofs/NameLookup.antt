-- Looking through declarations, threads and names, one after the other.
use Rattle.std.proofs.Common.{◌≡◌, ℕ, ◌+◌, ◌<◌, cond, Bool, true, false, List, [], ◌∷◌, ◌++◌, length, get_or, drop, map, Option, Some, None, refl, add-one, drop-cons, if◌then◌else◌}
use Rattle.std.specs.Str.{bytes_eq}
use Rattle.guest_syntax.specs.{Tree.{thread_view, block_view}, declared.tree.Thread.Thread}
use Rattle.guest_code.specs.Uses.{Use, declares, object, local, outside, block_uses, threads_uses, kind_in}
use Rattle.guest_code.specs.declared.kinds.NameKind.{NameKind}
use Rattle.guest_code.proofs.BodiesDeclareNothing.{block_declares_nothing, kind_skips}
use Rattle.guest_code.specs.declared.kinds.NameKind.TheVariants as kinds

pub thread_at : (ts : List Thread) (i : ℕ) (name : List ℕ) (x : Thread) → i < length ts
    → x ≡ get_or ts i x → (b : Bool) → bytes_eq x.name.text.items name ≡ b
    → kind_in (threads_uses (map thread_view (drop i ts))) name ≡ cond b (Some kinds.Thread)
    (kind_in (threads_uses (map thread_view (drop (i + 1) ts))) name)
thread_at ts i name x lt is b e =
    let skip = kind_skips (block_uses false (block_view x.body.items))
    (threads_uses (map thread_view (drop (i + 1) ts))) name
    (block_declares_nothing false (block_view x.body.items)) in
    rw (← e, ← skip, add-one, drop-cons ts i x, ← is) refl

-- a name that is declared is declared as the same with more uses after them
stays : (b : Bool) (j k : NameKind) (o p : Option NameKind) → (o ≡ Some k → p ≡ Some k)
    → (if b then Some j else o) ≡ Some k → (if b then Some j else p) ≡ Some k
stays true j k o p f e = e
stays false j k o p f e = f e

pub kind_stays : (us vs : List Use) (name : List ℕ) (k : NameKind) → kind_in us name ≡ Some k
    → kind_in (us ++ vs) name ≡ Some k
kind_stays [] vs name k e = absurd cc
kind_stays (declares j n ∷ us) vs name k e = stays (bytes_eq n.text name) j k (kind_in us name)
    (kind_in (us ++ vs) name) (kind_stays us vs name k) e
kind_stays (object j n ∷ us) vs name k e = kind_stays us vs name k e
kind_stays (local n ∷ us) vs name k e = kind_stays us vs name k e
kind_stays (outside at ∷ us) vs name k e = kind_stays us vs name k e

-- a name that is not declared is declared as the uses after them say
later : (b : Bool) (j : NameKind) (o p q : Option NameKind) → (o ≡ None → p ≡ q)
    → (if b then Some j else o) ≡ None → (if b then Some j else p) ≡ q
later true j o p q f e = absurd cc
later false j o p q f e = f e

pub kind_after : (us vs : List Use) (name : List ℕ) → kind_in us name ≡ None
    → kind_in (us ++ vs) name ≡ kind_in vs name
kind_after [] vs name e = refl
kind_after (declares j n ∷ us) vs name e = later (bytes_eq n.text name) j (kind_in us name)
    (kind_in (us ++ vs) name) (kind_in vs name) (kind_after us vs name) e
kind_after (object j n ∷ us) vs name e = kind_after us vs name e
kind_after (local n ∷ us) vs name e = kind_after us vs name e
kind_after (outside at ∷ us) vs name e = kind_after us vs name e
