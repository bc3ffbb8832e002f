-- Numbers as bytes, low byte first: the bytes of a number give the number, and the number of some bytes gives the bytes.
use mathlib.Core.Path.{◌≡◌, refl, ap, ◌∙◌}
use mathlib.Core.List.{List, [], ◌∷◌}
use Prim.Native.Nat.{ℕ, zero, suc, ◌+◌, ◌*◌, ◌/◌, ◌%◌, ◌^◌, ◌<◌}
use native.Mathlib.Nat.{pow-suc}
use native.Mathlib.Omega.{arith}
use lib.ListN.{length, get_or}
use Rattle.file.specs.File.{Bytes, low_first, number_of}

-- ---- bytes one by one
pub no_byte : Bytes []
no_byte = record { below = λ at. omega arith }

pub one_byte : {byte : ℕ} {bytes : List ℕ} → byte < 256 → Bytes bytes → Bytes (byte ∷ bytes)
one_byte {byte} {bytes} h more = record { below = each }
  where
    each : (at : ℕ) → get_or (byte ∷ bytes) at 0 < 256
    each zero = h
    each (suc at) = more.below at

pub bytes_behind : {byte : ℕ} {bytes : List ℕ} → Bytes (byte ∷ bytes) → Bytes bytes
bytes_behind h = record { below = λ at. h.below (suc at) }

-- ---- the number of some bytes
pub number_below : (bytes : List ℕ) → Bytes bytes → number_of bytes < 256 ^ length bytes
unfolding number_of
number_below [] h = omega arith
number_below (byte ∷ bytes) h = omega (arith, h.below 0, number_below bytes (bytes_behind h), pow-suc 256 (length bytes))

-- ---- and back
pub length_low : (k x : ℕ) → length (low_first k x) ≡ k
unfolding low_first
length_low zero x = refl
length_low (suc k) x = ap suc (length_low k (x / 256))

pub low_bytes : (k x : ℕ) → Bytes (low_first k x)
unfolding low_first
low_bytes zero x = no_byte
low_bytes (suc k) x = one_byte (omega arith) (low_bytes k (x / 256))

pub number_of_low : (k x : ℕ) → x < 256 ^ k → number_of (low_first k x) ≡ x
unfolding number_of low_first
number_of_low zero x h = omega arith
number_of_low (suc k) x h = omega (arith, number_of_low k (x / 256) (omega (arith, pow-suc 256 k)))

pub low_of_number : (bytes : List ℕ) → Bytes bytes → low_first (length bytes) (number_of bytes) ≡ bytes
unfolding number_of low_first
low_of_number [] h = refl
low_of_number (byte ∷ bytes) h =
    let m = number_of bytes in
    let low : (byte + 256 * m) % 256 ≡ byte = omega (arith, h.below 0) in
    let high : (byte + 256 * m) / 256 ≡ m = omega (arith, h.below 0) in
    ap (λ (x : ℕ). x ∷ low_first (length bytes) ((byte + 256 * m) / 256)) low
    ∙ ap (λ (x : ℕ). byte ∷ low_first (length bytes) x) high
    ∙ ap (λ (l : List ℕ). byte ∷ l) (low_of_number bytes (bytes_behind h))
