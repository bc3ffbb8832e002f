-- Decimal digits: the library writes those of the definition, and a smaller number has no more of them.
use mathlib.Core.Path.{◌≡◌, refl, sym, ap, ◌∙◌}
use mathlib.Core.List.{List, [], ◌∷◌, ◌++◌}
use Prim.Native.Nat.{ℕ, zero, suc, ◌+◌, ◌/◌, ◌%◌, ◌^◌, ◌≤◌, ◌<◌}
use native.Mathlib.Nat.{pow-suc}
use native.Mathlib.Omega.{arith}
use native.Mathlib.Decide.{dec_lt}
use lib.ListN.{length, length-append}
use borrow.Author.Tests.{lt-ltb, le-ltb}
use Rattle.std.specs.Fmt as std
use Rattle.std.proofs.lemmas.Fmt.{decimal_by_steps}
use Rattle.text.specs.Text.{digit, decimal_within, decimal}

-- ---- one more digit where the number is 10 or more
low_digit : (bound x : ℕ) → x < 10 → decimal_within bound x ≡ digit x ∷ []
unfolding decimal_within
low_digit zero x h = refl
low_digit (suc bound) x h = simp (lt-ltb x 10 h)

more_digits : (bound x : ℕ) → 10 ≤ x → decimal_within (suc bound) x ≡ decimal_within bound (x / 10) ++ digit (x % 10) ∷ []
unfolding decimal_within
more_digits bound x h = simp (le-ltb x 10 h)

glyph : (d : ℕ) → d < 10 → digit d ≡ 48 + d
unfolding digit
glyph d h = simp (lt-ltb d 10 h)

-- ---- the library's text of a number
pub library_digits : (x : ℕ) → x < 2 ^ 64 → std.decimal x ≡ decimal x
unfolding decimal
library_digits x h = decimal_by_steps (λ n ds. (bound : ℕ) → n ≤ bound → ds ≡ decimal_within bound n) one more x h x (omega arith)
  where
    one : (n : ℕ) → n < 10 → (bound : ℕ) → n ≤ bound → (48 + n) ∷ [] ≡ decimal_within bound n
    one n l bound b = ap (λ (d : ℕ). d ∷ []) (sym (glyph n l)) ∙ sym (low_digit bound n l)

    more : (n : ℕ) (ds : List ℕ) → 10 ≤ n → ((bound : ℕ) → n / 10 ≤ bound → ds ≡ decimal_within bound (n / 10)) → (bound : ℕ) → n ≤ bound
        → ds ++ ((48 + n % 10) ∷ []) ≡ decimal_within bound n
    more n ds big before zero b = absurd (omega arith)
    more n ds big before (suc bound) b =
        ap (λ (l : List ℕ). l ++ (48 + n % 10) ∷ []) (before bound (omega arith))
        ∙ ap (λ (d : ℕ). decimal_within bound (n / 10) ++ d ∷ []) (sym (glyph (n % 10) (omega arith)))
        ∙ sym (more_digits bound n big)

tenth_below : (k x : ℕ) → x < 10 ^ suc k → x / 10 < 10 ^ k
tenth_below k x h = omega (arith, pow-suc 10 k)

-- ---- how many there are
within_length : (bound k x : ℕ) → x < 10 ^ suc k → length (decimal_within bound x) ≤ suc k
unfolding decimal_within
within_length zero k x h = omega arith
within_length (suc bound) k x h = by_size k h (dec_lt x 10) (λ j l. within_length bound j (x / 10) l)
  where
    by_size : (k : ℕ) → x < 10 ^ suc k → Dec (x < 10) → ((j : ℕ) → x / 10 < 10 ^ suc j → length (decimal_within bound (x / 10)) ≤ suc j)
        → length (decimal_within (suc bound) x) ≤ suc k
    by_size k h (yes l) before = omega (arith, ap length (low_digit (suc bound) x l))
    by_size zero h (no l) before = absurd (l h)
    by_size (suc j) h (no l) before =
        omega (arith, before j (tenth_below (suc j) x h), simp length-append at (ap length (more_digits bound x (omega arith))))

pub decimal_length : (k x : ℕ) → x < 10 ^ suc k → length (decimal x) ≤ suc k
unfolding decimal
decimal_length k x h = within_length x k x h

-- a row's number, and any number of 32 bits
pub row_digits : (x : ℕ) → x < 100 → length (decimal x) ≤ 2
row_digits x h = decimal_length 1 x h

pub number_digits : (x : ℕ) → x < 2 ^ 32 → length (decimal x) ≤ 10
number_digits x h = decimal_length 9 x (omega arith)
