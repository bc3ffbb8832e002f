-- The scale of a small form, counted from 2^-56, is a natural number of at most 112, so that the machine's sum and its cast are just that number.
use Rattle.std.proofs.Common.{◌≡◌, ℕ, ◌*◌, ◌^◌, ◌<◌, ◌≤◌, T, ℤ, pos, negsuc, ◌+ℤ◌, nat_abs, sym, ◌∙◌, lt_irrefl, le-mul_of_pos_right, arith, w32, w64, Fits, SFits, to_z, of_z}
use native.Mathlib.Decide.{dec_lt}
use lib.Signed.{mag, non_neg, yes_non_neg, pos-nat_abs}
use lib.Pow.{pow-lt}
use mir.ValLaws.{to_z-of_z}
use Rattle.exact.proofs.Linear.{given, spread, parts}
use Rattle.posit.specs.SmallForm.{unit_bits, SmallForm}

-- 2^e is at most 2^k
exponent_most : (e k g : ℕ) → 0 < g → g * 2 ^ e ≤ 2 ^ k → e ≤ k
exponent_most e k g h l = by (dec_lt k e)
  where
    by : Dec (k < e) → e ≤ k
    by (yes m) = absurd (lt_irrefl 0 (omega (arith, pow-lt m, le-mul_of_pos_right (2 ^ e) h)))
    by (no m) = omega arith

-- a number whose sum with 56 is at most 112 is small
mag_less : (s : ℤ) (e : ℕ) → s +ℤ pos unit_bits ≡ pos e → e ≤ 112 → mag s < 2 ^ 31
mag_less (pos a) e q l = given q (simp spread (simp parts (omega arith)))
mag_less (negsuc a) e q l = given q (simp spread (simp parts (omega arith)))

-- the scale counted from 2^-56
abbrev pub lifted : ℤ → ℕ
lifted s = nat_abs (s +ℤ pos unit_bits)

module _ {s : ℤ} {g : ℕ} (x : SmallForm s g) where
  pub lifted_is : s +ℤ pos unit_bits ≡ pos (lifted s)
  lifted_is = sym (pos-nat_abs (s +ℤ pos unit_bits) (yes_non_neg x.above))

  pub lifted_most : lifted s ≤ 112
  lifted_most = exponent_most (lifted s) 112 g x.some x.fits

  pub kept : to_z w32 (of_z w32 s) ≡ s
  kept = to_z-of_z w32 s (record { sfits = mag_less s (lifted s) lifted_is lifted_most })

  pub sum_fits : SFits w32 (to_z w32 (of_z w32 s) +ℤ pos unit_bits)
  sum_fits = rw (kept, lifted_is) (record { sfits = omega (arith, lifted_most) })

  pub sum_is : to_z w32 (of_z w32 (to_z w32 (of_z w32 s) +ℤ pos unit_bits)) ≡ pos (lifted s)
  sum_is = to_z-of_z w32 (to_z w32 (of_z w32 s) +ℤ pos unit_bits) sum_fits ∙ rw (kept, lifted_is)

  pub cast_fits :
      T (non_neg (to_z w32 (of_z w32 (to_z w32 (of_z w32 s) +ℤ pos unit_bits)))) × Fits w64 (nat_abs (to_z w32 (of_z w32 (to_z w32 (of_z w32 s) +ℤ pos unit_bits))))
  cast_fits = rw sum_is (tt, record { fits = omega (arith, lifted_most) })

  pub cast_is : nat_abs (to_z w32 (of_z w32 (to_z w32 (of_z w32 s) +ℤ pos unit_bits))) ≡ lifted s
  cast_is = rw sum_is
