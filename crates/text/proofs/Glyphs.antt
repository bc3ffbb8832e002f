-- The digits and marks of a line are ASCII, and four hexadecimal digits are those of their places.
use Rattle.std.proofs.Common.{◌≡◌, ℕ, zero, suc, ◌/◌, ◌%◌, ◌<◌, ◌≤◌, ◌≢◌, List, [], ◌∷◌, get_or, refl, ap, arith, length}
use lib.Utf8.{encode}
use Rattle.std.proofs.lemmas.Str.Ascii.{encode_ascii}
use native.Mathlib.Decide.{dec_lt}
use Rattle.std.specs.Char.{digit_char}
use borrow.Author.Tests.{lt-ltb, le-ltb}
use Rattle.text.specs.Text.{digit, mark_byte, hex4}

-- the library's digits
pub library_digit : (d : ℕ) → digit_char d ≡ digit d
unfolding digit
library_digit d = by_size (dec_lt d 10)
  where
    by_size : Dec (d < 10) → digit_char d ≡ digit d
    by_size (yes h) = simp (lt-ltb d 10 h)
    by_size (no h) = let big : 10 ≤ d = omega arith in simp (le-ltb d 10 big) (omega arith)

pub digit_ascii : (d : ℕ) → d < 16 → digit d < 128
unfolding digit
digit_ascii d h = by_size (dec_lt d 10)
  where
    by_size : Dec (d < 10) → digit d < 128
    by_size (yes l) = simp (lt-ltb d 10 l) (omega arith)
    by_size (no l) = let big : 10 ≤ d = omega arith in simp (le-ltb d 10 big) (omega arith)

pub mark_ascii : (mark : ℕ) → mark_byte mark < 128
unfolding mark_byte
mark_ascii zero = omega arith
mark_ascii (suc u) = omega arith

pub closed_mark : (mark : ℕ) → mark ≡ 0 → 99 ≡ mark_byte mark
unfolding mark_byte
closed_mark zero e = refl
closed_mark (suc u) e = absurd (omega arith)

pub open_mark : (mark : ℕ) → mark ≢ 0 → 111 ≡ mark_byte mark
unfolding mark_byte
open_mark zero d = absurd (d refl)
open_mark (suc u) d = refl

-- what the four places of a hexadecimal number are worth
abbrev pub worths : List ℕ
worths = 4096 ∷ 256 ∷ 16 ∷ 1 ∷ []

pub hex_digit_at : (p k : ℕ) → k < 4 → digit (p / get_or worths k 0 % 16) ≡ get_or (hex4 p) k 0
hex_digit_at p zero h = refl
hex_digit_at p (suc zero) h = refl
hex_digit_at p (suc (suc zero)) h = refl
hex_digit_at p (suc (suc (suc zero))) h = let whole : p / 1 ≡ p = omega arith in ap (λ (q : ℕ). digit (q % 16)) whole
hex_digit_at p (suc (suc (suc (suc k)))) h = absurd (omega arith)

-- an ASCII letter takes one byte
pub one_byte : (c : ℕ) → c < 128 → length (encode c) ≡ 1
one_byte c h = ap length (encode_ascii c h)
