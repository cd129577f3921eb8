-- A thread in memory, and what is seen of it.
use Rattle.std.proofs.Common.{arith, ◌≡◌, ◌<◌, ℕ, suc, zero, List, [], ◌∷◌, length, map, ap, slice_index_or}
use Rattle.std.proofs.lemmas.List.{length-map}
use Rattle.guest_code.specs.Program as program
use Rattle.guest_code.specs.Program.{Program, thread_view, no_thread}
use Rattle.guest_code.specs.declared.program.Thread.{Thread}

thread_seen : (threads : List Thread) (t : ℕ) (thread : Thread) → t < length threads
    → thread ≡ slice_index_or threads t thread → thread_view thread ≡ slice_index_or
    (map thread_view threads) t no_thread
thread_seen [] t thread h e = absurd (omega arith)
thread_seen (c ∷ threads) zero thread h e = ap thread_view e
thread_seen (c ∷ threads) (suc t) thread h e = thread_seen threads t thread (omega arith) e

-- a thread of a program, by the threads in memory
pub thread_read : (threads : List Thread) (p : Program) (t : ℕ) (thread : Thread)
    → map thread_view threads ≡ p.threads → t < length p.threads
    → thread ≡ slice_index_or threads t thread
    → (t < length (map thread_view threads))
    × (thread_view thread ≡ slice_index_or (map thread_view threads) t no_thread)
thread_read threads p t thread same lt is =
    let inside : t < length (map thread_view threads) =
    omega (arith, lt, ap (λ (ts : List program.Thread). length ts) same) in
    let there : t < length threads = omega (arith, inside, length-map threads thread_view) in
    (inside, thread_seen threads t thread there is)
