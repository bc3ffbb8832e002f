-- The sum of two numbers over one power of two with signs: equal signs add the sizes, and other signs leave their difference with the sign of the greater one.
use Rattle.std.proofs.Common.{◌≡◌, ℕ, ◌+◌, ◌-◌, ◌≤◌, Bool, true, false, not, pos, ◌-ℤ◌, refl, arith}
use Rattle.exact.specs.Fraction.{◌≈◌, whole, over_power, ◌+ᶠ◌, ◌-ᶠ◌}
use Rattle.exact.proofs.Linear.{spread, parts}
use Rattle.exact.proofs.Order.{≈_sym, ◌⨾◌}
use Rattle.exact.proofs.Sign.{≈0}
use Rattle.exact.proofs.Sum.{negᶠ_difference}
use Rattle.exact.proofs.OverPower.{over_power_+ᶠ, over_power_difference}
use Rattle.posit.specs.Magnitudes.{with_signᶠ}
use Rattle.posit.proofs.Summed.{sign_twice, sign_other, sign_cong, sign_sum, sign_difference}

-- ---- two numbers over one power of two
module _ (u M N : ℕ) where
  pub over_both : (over_power (pos M) u +ᶠ over_power (pos N) u) ≈ over_power (pos (M + N)) u
  over_both = over_power_+ᶠ u (pos M) (pos N)

  over_difference : N ≤ M → (over_power (pos M) u -ᶠ over_power (pos N) u) ≈ over_power (pos (M - N)) u
  over_difference h =
      let d : pos M -ℤ pos N ≡ pos (M - N) = simp spread (simp parts (omega arith)) in
      rw d at (over_power_difference u (pos M) (pos N))

-- ---- two of them with signs
pub sign_none : (b : Bool) (u : ℕ) → with_signᶠ b (over_power (pos 0) u) ≈ whole (pos 0)
sign_none true u = ≈0.1 refl
sign_none false u = ≈0.1 refl

module _ (u M N : ℕ) (b : Bool) where
  -- one sign: the sizes add
  pub alike_over : with_signᶠ b (with_signᶠ b (over_power (pos M) u) +ᶠ with_signᶠ b (over_power (pos N) u)) ≈ over_power (pos (M + N)) u
  alike_over =
      sign_cong b (≈_sym (sign_sum b (over_power (pos M) u) (over_power (pos N) u)))
      ⨾ sign_twice b (over_power (pos M) u +ᶠ over_power (pos N) u)
      ⨾ over_both u M N

  -- two signs: the difference has the sign of the greater one
  pub more_over : N ≤ M → with_signᶠ b (with_signᶠ b (over_power (pos M) u) +ᶠ with_signᶠ (not b) (over_power (pos N) u)) ≈ over_power (pos (M - N)) u
  more_over h =
      sign_cong b (sign_difference b (over_power (pos M) u) (over_power (pos N) u))
      ⨾ sign_twice b (over_power (pos M) u -ᶠ over_power (pos N) u)
      ⨾ over_difference u M N h

  pub less_over : M ≤ N → with_signᶠ (not b) (with_signᶠ b (over_power (pos M) u) +ᶠ with_signᶠ (not b) (over_power (pos N) u)) ≈ over_power (pos (N - M)) u
  less_over h =
      sign_cong (not b) (sign_difference b (over_power (pos M) u) (over_power (pos N) u))
      ⨾ sign_other b (over_power (pos M) u -ᶠ over_power (pos N) u)
      ⨾ negᶠ_difference (over_power (pos M) u) (over_power (pos N) u)
      ⨾ over_difference u N M h

  pub none_over : M ≡ N → (with_signᶠ b (over_power (pos M) u) +ᶠ with_signᶠ (not b) (over_power (pos N) u)) ≈ whole (pos 0)
  none_over same =
      let none : M - N ≡ 0 = omega (arith, same) in
      sign_difference b (over_power (pos M) u) (over_power (pos N) u)
      ⨾ sign_cong b (rw none at (over_difference u M N (omega (arith, same))))
      ⨾ sign_none b u
