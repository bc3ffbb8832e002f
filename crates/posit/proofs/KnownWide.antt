-- A magnitude that is known to a word: of z = N / 2^u the number N · 2^j is cut to g · 2^s, and whether anything was cut off is marked.
use Rattle.std.proofs.Common.{◌≡◌, ℕ, suc, ◌+◌, ◌*◌, ◌/◌, ◌%◌, ◌^◌, ◌<◌, ◌≤◌, Bool, true, false, not, eqb, pos, sym, ap, ◌∙◌, mul-le-mul_right, mod-lt, mod-eq_of_lt, pos_of_ne-zero, mul-lt-mul_of_pos_right, div-add-mod', arith, pow_pos, pow-add, eqb-true}
use borrow.Author.Tests.{eqb-false, not-true, not-false}
use Rattle.std.specs.Int.Count.{count_leading_zeros}
use Rattle.std.proofs.lemmas.Nat.{leading_top}
use Rattle.exact.specs.Fraction.{over_power}
use Rattle.exact.proofs.OverPower.{over_power_pos_≤ᶠ, over_power_pos_<ᶠ, over_power_pos_≈}
use Rattle.posit.specs.Magnitudes.{Within}

-- ---- a number cut
module _ (N u j g s t : ℕ) (parts : N * 2 ^ j ≡ g * 2 ^ s + t) (rest : t < 2 ^ s) where
  scaled_up : N * 2 ^ (u + j) ≡ (g * 2 ^ s + t) * 2 ^ u
  scaled_up = rw (pow-add 2 u j) (omega (arith, ap (λ (x : ℕ). x * 2 ^ u) parts))

  pub cut_within : (lost : Bool) → (lost ≡ false → t ≡ 0) → (lost ≡ true → 0 < t) → Within (over_power (pos N) u) g s (u + j) lost
  cut_within lost none some =
      record {
        at_least = (over_power_pos_≤ᶠ (u + j) u).1 (rw scaled_up (mul-le-mul_right (2 ^ u) (omega arith)));
        less = (over_power_pos_<ᶠ u (u + j)).1 (rw scaled_up (mul-lt-mul_of_pos_right (omega arith) (pow_pos u)));
        whole_of_it = λ h. (over_power_pos_≈ u (u + j)).1 (scaled_up ∙ ap (λ (x : ℕ). x * 2 ^ u) (omega (arith, none h)));
        more_than_it = λ h. (over_power_pos_<ᶠ (u + j) u).1 (rw scaled_up (mul-lt-mul_of_pos_right (omega (arith, some h)) (pow_pos u)));
      }

pub nothing_lost : (t : ℕ) → not (eqb t 0) ≡ false → t ≡ 0
nothing_lost t e = eqb-true t 0 (not-false (eqb t 0) e)

pub something_lost : (t : ℕ) → not (eqb t 0) ≡ true → 0 < t
something_lost t e = pos_of_ne-zero (eqb-false t 0 (not-true (eqb t 0) e))

-- ---- a number of 128 bits over 2^56, moved up until its first bit is set and cut to 62 bits
module _ (x : ℕ) (some : 0 < x) (fits : x < 2 ^ 128) where
  first_set : (j : ℕ) → count_leading_zeros 128 x + suc j ≡ 128 → 2 ^ j ≤ x → 2 ^ 127 ≤ x * 2 ^ count_leading_zeros 128 x
  first_set j e h =
      let z = count_leading_zeros 128 x in
      let d : j + z ≡ 127 = omega (arith, e) in
      let s : 2 ^ j * 2 ^ z ≡ 2 ^ 127 = sym (pow-add 2 j z) ∙ ap (λ (k : ℕ). 2 ^ k) d in
      omega (arith, s, mul-le-mul_right (2 ^ z) h)

  none_out : (j : ℕ) → count_leading_zeros 128 x + suc j ≡ 128 → x < 2 ^ suc j → x * 2 ^ count_leading_zeros 128 x < 2 ^ 128
  none_out j e h =
      let z = count_leading_zeros 128 x in
      let d : suc j + z ≡ 128 = omega (arith, e) in
      let s : 2 ^ suc j * 2 ^ z ≡ 2 ^ 128 = sym (pow-add 2 (suc j) z) ∙ ap (λ (k : ℕ). 2 ^ k) d in
      omega (arith, s, mul-lt-mul_of_pos_right h (pow_pos z))

  moved_up : x * 2 ^ count_leading_zeros 128 x % 2 ^ 128 ≡ x * 2 ^ count_leading_zeros 128 x
  moved_up = let (j, e, at_least, less) = leading_top 128 x some fits in mod-eq_of_lt (none_out j e less)

  pub cut_enough : 2 ^ 16 ≤ x * 2 ^ count_leading_zeros 128 x % 2 ^ 128 / 2 ^ 66
  cut_enough = let (j, e, at_least, less) = leading_top 128 x some fits in rw moved_up (omega (arith, first_set j e at_least))

  pub cut_known : Within (over_power (pos x) 56) (x * 2 ^ count_leading_zeros 128 x % 2 ^ 128 / 2 ^ 66) 66 (56 + count_leading_zeros 128 x)
      (not (eqb (x * 2 ^ count_leading_zeros 128 x % 2 ^ 128 % 2 ^ 66) 0))
  cut_known =
      let y = x * 2 ^ count_leading_zeros 128 x in
      rw moved_up
      (cut_within x 56 (count_leading_zeros 128 x) (y / 2 ^ 66) 66 (y % 2 ^ 66) (sym (div-add-mod' y (2 ^ 66))) (mod-lt y (pow_pos 66))
      (not (eqb (y % 2 ^ 66) 0)) (nothing_lost (y % 2 ^ 66)) (something_lost (y % 2 ^ 66)))
