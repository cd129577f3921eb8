-- The digits of a digest are read as the digest.
use Rattle.std.proofs.Common.{◌≡◌, ℕ, List, length, Ok, arith}
use Rattle.hex.specs.Hex.{IsBytes, encode_lower, decode_sized, lower_digits}
use Rattle.hex.proofs.HexLemmas.{length-encode_with, decode_pairs-encode_with, IsDigits-lower_digits}

pub digest_read : (bytes : List ℕ) (n : ℕ) → length bytes ≡ n → IsBytes bytes
    → decode_sized (encode_lower bytes) n ≡ Ok bytes
digest_read bytes n long fit =
    let digits = length-encode_with lower_digits bytes in
    let pairs = decode_pairs-encode_with lower_digits IsDigits-lower_digits 0 bytes fit in
    grind arith
