-- What the library reads of bytes, low byte first, is the number of the bytes.
use Rattle.std.proofs.Common.{◌≡◌, ℕ, ◌+◌, ◌*◌, List, [], ◌∷◌, length, arith, w16, w64}
use Rattle.std.specs.Int.{from_le_bytes}
use Rattle.file.specs.File.{number_of}

pub eight_read : (bytes : List ℕ) → length bytes ≡ 8 → from_le_bytes w64 bytes ≡ number_of bytes
unfolding number_of
eight_read [] e = absurd (omega arith)
eight_read (a ∷ []) e = absurd (omega arith)
eight_read (a ∷ b ∷ []) e = absurd (omega arith)
eight_read (a ∷ b ∷ c ∷ []) e = absurd (omega arith)
eight_read (a ∷ b ∷ c ∷ d ∷ []) e = absurd (omega arith)
eight_read (a ∷ b ∷ c ∷ d ∷ f ∷ []) e = absurd (omega arith)
eight_read (a ∷ b ∷ c ∷ d ∷ f ∷ g ∷ []) e = absurd (omega arith)
eight_read (a ∷ b ∷ c ∷ d ∷ f ∷ g ∷ h ∷ []) e = absurd (omega arith)
eight_read (a ∷ b ∷ c ∷ d ∷ f ∷ g ∷ h ∷ i ∷ []) e = omega arith
eight_read (a ∷ b ∷ c ∷ d ∷ f ∷ g ∷ h ∷ i ∷ j ∷ more) e = absurd (omega arith)

pub two_read : (low high : ℕ) → from_le_bytes w16 (low ∷ high ∷ []) ≡ low + 256 * high
two_read low high = omega arith
