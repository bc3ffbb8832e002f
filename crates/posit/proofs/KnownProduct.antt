-- The product of g · 2^e / 2^k and h · 2^d / 2^k is g · h · 2^(e + d) / 2^(2k), and as many zero bits as one likes may stand below it.
use Rattle.std.proofs.Common.{◌≡◌, ℕ, ◌+◌, ◌*◌, ◌^◌, ◌<◌, ◌≤◌, false, pos, mul-le-mul, arith, pow-add}
use Rattle.exact.specs.Fraction.{◌≈◌, over_power, ◌*ᶠ◌}
use Rattle.exact.proofs.Order.{≈_trans}
use Rattle.exact.proofs.Product.{*ᶠ_cong}
use Rattle.exact.proofs.OverPower.{over_power_*ᶠ, over_power_pos_≈}
use Rattle.posit.specs.Locating.{given}
use Rattle.posit.specs.declared.inner.finite.Finite.{Finite}
use Rattle.posit.specs.Magnitudes.{Within, meant_size}
use Rattle.posit.proofs.SmallScale.{lifted}
use Rattle.posit.proofs.Exactly.{known_exactly, in_units}

cross : (g h E D K J : ℕ) → g * E * (h * D) * (K * J) ≡ g * h * J * (E * D) * K
cross g h E D K J = omega arith

product_is : (g h e d k j : ℕ) → (over_power (pos (g * 2 ^ e)) k *ᶠ over_power (pos (h * 2 ^ d)) k) ≈ given (g * h * 2 ^ j) (e + d) (k + k + j)
product_is g h e d k j =
    ≈_trans (over_power_*ᶠ k k (pos (g * 2 ^ e)) (pos (h * 2 ^ d)))
    ((over_power_pos_≈ (k + k) (k + k + j)).1 (rw (pow-add 2 e d, pow-add 2 (k + k) j) (cross g h (2 ^ e) (2 ^ d) (2 ^ (k + k)) (2 ^ j))))

-- ---- the product of two numbers' sizes
module _ (x y : Finite) where
  pub some_product : 1 ≤ x.fraction * y.fraction
  some_product = mul-le-mul {n₁ = 1} {m₁ = 1} x.small.some y.small.some

  pub small_product : x.fraction * y.fraction < 2 ^ 28
  small_product = omega (arith, mul-le-mul {n₁ = x.fraction} {m₁ = y.fraction} {n₂ = 16383} {m₂ = 16383} (omega (arith, x.small.few)) (omega (arith, y.small.few)))

  pub product_known : Within (meant_size x *ᶠ meant_size y) (x.fraction * y.fraction * 2 ^ 32) (lifted x.scale + lifted y.scale) 144 false
  product_known =
      known_exactly (x.fraction * y.fraction * 2 ^ 32) (lifted x.scale + lifted y.scale) 144
      (≈_trans (*ᶠ_cong (in_units x.small) (in_units y.small)) (product_is x.fraction y.fraction (lifted x.scale) (lifted y.scale) 56 32))
