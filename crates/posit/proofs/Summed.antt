-- Sums and differences of numbers in units of 2^-56, with signs: equal signs add the sizes, and other signs leave their difference with the sign of the larger.
use Rattle.std.proofs.Common.{◌≡◌, ℕ, ◌+◌, ◌-◌, ◌*◌, ◌^◌, ◌<◌, ◌≤◌, Bool, true, false, not, pos, ◌+ℤ◌, ◌-ℤ◌, nat_abs, sym, refl, mul-pos, arith, pow_pos, w32, to_z, of_z}
use mathlib.Core.Bool.{beq}
use Rattle.std.specs.Prelude.{Option, Some, None}
use Rattle.exact.specs.Fraction.{Fraction, ◌≈◌, whole, over_power, negᶠ, ◌+ᶠ◌, ◌-ᶠ◌}
use Rattle.exact.proofs.Linear.{spread, parts}
use Rattle.exact.proofs.Order.{≈_refl, ≈_sym, ≈_trans, ◌⨾◌}
use Rattle.exact.proofs.Sign.{≈0}
use Rattle.exact.proofs.Sum.{negᶠ_negᶠ, negᶠ_cong, negᶠ_+ᶠ, negᶠ_difference, +ᶠ_comm, +ᶠ_cong, -ᶠ_is}
use Rattle.exact.proofs.OverPower.{over_power_+ᶠ, over_power_difference}
use Rattle.exact.proofs.Scaled.{scaled_negᶠ}
use Rattle.posit.specs.declared.inner.finite.Finite.{Finite}
use Rattle.posit.specs.declared.inner.magnitude.Magnitude.{Magnitude}
use Rattle.posit.specs.declared.inner.signed.Signed.{Signed}
use Rattle.posit.specs.Decoding.{finite_value}
use Rattle.posit.specs.SmallForm.{unit_bits}
use Rattle.posit.specs.Magnitudes.{with_signᶠ, Knows, IsSum, meant}
use Rattle.posit.proofs.SmallScale.{lifted, cast_is}
use Rattle.posit.proofs.Exactly.{never, within_respects, in_units}

-- ---- signs
pub sign_twice : (b : Bool) (z : Fraction) → with_signᶠ b (with_signᶠ b z) ≈ z
sign_twice true z = negᶠ_negᶠ z
sign_twice false z = ≈_refl z

pub sign_other : (b : Bool) (z : Fraction) → with_signᶠ (not b) (with_signᶠ b z) ≈ negᶠ z
sign_other true z = ≈_refl (negᶠ z)
sign_other false z = ≈_refl (negᶠ z)

sign_not : (b : Bool) (z : Fraction) → with_signᶠ (not b) z ≈ negᶠ (with_signᶠ b z)
sign_not true z = ≈_sym (negᶠ_negᶠ z)
sign_not false z = ≈_refl (negᶠ z)

pub sign_cong : (b : Bool) {y z : Fraction} → y ≈ z → with_signᶠ b y ≈ with_signᶠ b z
sign_cong true e = negᶠ_cong e
sign_cong false e = e

pub sign_sum : (b : Bool) (x y : Fraction) → with_signᶠ b (x +ᶠ y) ≈ (with_signᶠ b x +ᶠ with_signᶠ b y)
sign_sum true x y = negᶠ_+ᶠ x y
sign_sum false x y = ≈_refl (x +ᶠ y)

pub sign_difference : (b : Bool) (x y : Fraction) → (with_signᶠ b x +ᶠ with_signᶠ (not b) y) ≈ with_signᶠ b (x -ᶠ y)
sign_difference true x y = ≈_sym (negᶠ_difference x y ⨾ -ᶠ_is y x ⨾ +ᶠ_comm y (negᶠ x))
sign_difference false x y = ≈_sym (-ᶠ_is x y)

same_sign : (b c : Bool) → beq b c ≡ true → b ≡ c
same_sign true true e = refl
same_sign true false e = never e
same_sign false true e = never e
same_sign false false e = refl

other_sign : (b c : Bool) → beq b c ≡ false → c ≡ not b
other_sign true true e = never (sym e)
other_sign true false e = refl
other_sign false true e = refl
other_sign false false e = never (sym e)

-- ---- sizes in units
module _ (M N D : ℕ) where
  units_sum : D ≡ M + N → (over_power (pos M) unit_bits +ᶠ over_power (pos N) unit_bits) ≈ over_power (pos D) unit_bits
  units_sum e = rw e (over_power_+ᶠ unit_bits (pos M) (pos N))

  units_difference : N ≤ M → D ≡ M - N → (over_power (pos M) unit_bits -ᶠ over_power (pos N) unit_bits) ≈ over_power (pos D) unit_bits
  units_difference h e =
      let d : pos M -ℤ pos N ≡ pos D = simp spread (simp parts (omega arith)) in
      rw d at (over_power_difference unit_bits (pos M) (pos N))

sign_zero : (b : Bool) → with_signᶠ b (over_power (pos 0) unit_bits) ≈ whole (pos 0)
sign_zero true = ≈0.1 refl
sign_zero false = ≈0.1 refl

pub none_left : (b : Bool) (M N : ℕ) → M ≡ N → with_signᶠ b (over_power (pos M) unit_bits -ᶠ over_power (pos N) unit_bits) ≈ whole (pos 0)
none_left b M N e = ≈_trans (sign_cong b (units_difference M N 0 (omega arith) (omega arith))) (sign_zero b)

module _ (b : Bool) (M N D : ℕ) (m : Magnitude) where
  pub first_smaller : M ≤ N → D ≡ N - M → Knows (over_power (pos D) unit_bits) m
      → Knows (with_signᶠ (not b) (with_signᶠ b (over_power (pos M) unit_bits -ᶠ over_power (pos N) unit_bits))) m
  first_smaller h e k =
      within_respects
      (≈_sym (sign_other b (over_power (pos M) unit_bits -ᶠ over_power (pos N) unit_bits)
      ⨾ negᶠ_difference (over_power (pos M) unit_bits) (over_power (pos N) unit_bits)
      ⨾ units_difference N M D h e))
      k

  pub first_larger : N ≤ M → D ≡ M - N → Knows (over_power (pos D) unit_bits) m
      → Knows (with_signᶠ b (with_signᶠ b (over_power (pos M) unit_bits -ᶠ over_power (pos N) unit_bits))) m
  first_larger h e k =
      within_respects (≈_sym (sign_twice b (over_power (pos M) unit_bits -ᶠ over_power (pos N) unit_bits) ⨾ units_difference M N D h e)) k

-- ---- a number in units, as the machine counts them
abbrev Units : Finite → ℕ → Type 0
Units x M = M ≡ x.fraction * 2 ^ nat_abs (to_z w32 (of_z w32 (to_z w32 (of_z w32 x.scale) +ℤ pos unit_bits)))

module _ (x : Finite) {M : ℕ} (is : Units x M) where
  units : M ≡ x.fraction * 2 ^ lifted x.scale
  units = rw (cast_is x.small) at is

  finite_units : (b : Bool) → finite_value b x.scale x.fraction ≈ with_signᶠ b (over_power (pos M) unit_bits)
  finite_units true = rw units (≈_sym (scaled_negᶠ x.scale (pos x.fraction)) ⨾ negᶠ_cong (in_units x.small))
  finite_units false = rw units (in_units x.small)

  size_most : M ≤ 2 ^ 112
  size_most = rw units x.small.fits

  pub size_less : M < 2 ^ 120
  size_less = omega (arith, size_most)

  pub size_some : 0 < M
  size_some = rw units (mul-pos x.small.some (pow_pos (lifted x.scale)))

-- ---- the sum of two finite numbers
sum_respects : {y z : Fraction} (r : Option (Signed Magnitude)) → y ≈ z → IsSum y r → IsSum z r
sum_respects None e k = ≈_trans (≈_sym e) k
sum_respects (Some x) e k = within_respects (sign_cong x.negative e) k

module _ (x y : Finite) {M N : ℕ} (left : Units x M) (right : Units y N) where
  pub same_signs : (D : ℕ) (m : Magnitude) → beq x.negative y.negative ≡ true → D ≡ M + N → Knows (over_power (pos D) unit_bits) m
      → Knows (with_signᶠ x.negative (meant x +ᶠ meant y)) m
  same_signs D m same e k =
      let b = x.negative in
      rw (← (same_sign x.negative y.negative same))
      (within_respects
      (≈_sym (sign_cong b (+ᶠ_cong (finite_units x left b) (finite_units y right b) ⨾ ≈_sym (sign_sum b (over_power (pos M) unit_bits) (over_power (pos N) unit_bits)))
      ⨾ sign_twice b (over_power (pos M) unit_bits +ᶠ over_power (pos N) unit_bits)
      ⨾ units_sum M N D e))
      k)

  pub other_signs : (r : Option (Signed Magnitude)) → beq x.negative y.negative ≡ false
      → IsSum (with_signᶠ x.negative (over_power (pos M) unit_bits -ᶠ over_power (pos N) unit_bits)) r → IsSum (meant x +ᶠ meant y) r
  other_signs r differ k =
      let b = x.negative in
      rw (other_sign x.negative y.negative differ)
      (sum_respects r
      (≈_sym (+ᶠ_cong (finite_units x left b) (finite_units y right (not b)) ⨾ sign_difference b (over_power (pos M) unit_bits) (over_power (pos N) unit_bits)))
      k)
