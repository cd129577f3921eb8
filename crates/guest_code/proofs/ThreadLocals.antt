-- The threads of a tree without a fault, one after the other.
use Rattle.std.proofs.Common.{◌≡◌, ℕ, zero, suc, ◌<◌, List, [], ◌∷◌, length, get_or, map, Vec, Global, arith}
use Rattle.guest_syntax.specs.{Tree.thread_view, declared.tree.Thread.Thread}
use Rattle.guest_code.specs.{Program.locals_view, Uses.thread_locals}

pub locals_at : (ls : List (Vec (Vec ℕ Global) Global)) (ts : List Thread) (i : ℕ)
    (y : Vec (Vec ℕ Global) Global) (x : Thread) → map locals_view ls ≡ map thread_locals
    (map thread_view ts) → i < length ts → y ≡ get_or ls i y → x ≡ get_or ts i x
    → locals_view y ≡ thread_locals (thread_view x)
locals_at [] [] i y x e lt iy ix = absurd (omega arith)
locals_at [] (t ∷ ts) i y x e lt iy ix = absurd cc
locals_at (l ∷ ls) [] i y x e lt iy ix = absurd cc
locals_at (l ∷ ls) (t ∷ ts) zero y x e lt iy ix = rw (iy, ix) cc
locals_at (l ∷ ls) (t ∷ ts) (suc i) y x e lt iy ix =
    let tail : map locals_view ls ≡ map thread_locals (map thread_view ts) = cc in
    locals_at ls ts i y x tail (omega arith) iy ix
