-- Sets of thread numbers.
use Rattle.std.specs.Prelude.{◌≡◌, ℕ, zero, suc, ◌+◌, ◌-◌, ◌*◌, ◌^◌, Bool, nat_eq, List, filter, true, false}
use Rattle.std.specs.Int.{bit_at}
use Rattle.guest_code.specs.{Program.Program, declared.limits.TheConstants.THREADS}
use Rattle.semantics.specs.{Machine.{Snapshot, is_enabled}, Work.up_from, declared.mask.Mask.Mask}

-- the thread is in the set
abbrev pub has : Mask → ℕ → Bool
has m t = nat_eq (bit_at m.bits t) 1

-- the empty set
abbrev pub no_threads : Mask
no_threads = record { bits = 0 }

-- its members from a number on, rising
unfoldable pub members_from : Mask → ℕ → List ℕ
members_from m n = filter (has m) (up_from n (THREADS - n))

-- 1 where it holds, else 0
abbrev pub one_if : Bool → ℕ
one_if true = 1
one_if false = 0

-- the number whose bits are set at those of the first n places that are picked
abbrev pub bits_of : (ℕ → Bool) → ℕ → ℕ
bits_of picked zero = 0
bits_of picked (suc n) = one_if (picked n) * 2 ^ n + bits_of picked n

-- the set of the threads that are picked
unfoldable pub mask_of : (ℕ → Bool) → Mask
mask_of picked = record { bits = bits_of picked THREADS }

-- the set has the threads that are enabled, and no others
abbrev pub HasEnabled : Mask → Program → Snapshot → Type 0
HasEnabled m p s = (t : ℕ) → has m t ≡ is_enabled p s t
