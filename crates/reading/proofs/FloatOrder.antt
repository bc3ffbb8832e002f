-- Floats compared: a finite float that is not above another has at most its value, by the sizes and the signs.
use mathlib.Core.Path.{◌≡◌, refl, sym}
use mathlib.Core.Bool.{Bool, true, false}
use Prim.Native.Nat.{ℕ, zero, suc, ◌+◌, ◌*◌, ◌≤◌, ◌<◌}
use native.Mathlib.Nat.{mul-one, mul-pos}
use native.Mathlib.Omega.{arith}
use lib.IntN.{ℤ, pos, negsuc}
use lib.Pow.{pow_pos}
use lib.Ieee.{fin, up, down, lt}
use borrow.Author.Tests.{ltb-false}
use Rattle.exact.specs.Fraction.{◌≤ᶠ◌, ◌≈◌, whole}
use Rattle.exact.proofs.Order.{≤ᶠ_trans, ≤ᶠ_≈, ≈_≤ᶠ, ≈_sym, ≤ᶠ_of_≈}
use Rattle.exact.proofs.Sum.{negᶠ_≤ᶠ}
use Rattle.exact.proofs.Scaled.{scaled_≤ᶠ, scaled_negᶠ, scaled_zero}
use Rattle.exact.proofs.WholeOrder.{pos_≤ℤ, pos_≥0}
use Rattle.posit.specs.Decoding.{finite_value}

-- sizes by cross products
sizes : (m : ℕ) (e : ℤ) (k : ℕ) (d : ℤ) → m * up e * down d ≤ k * up d * down e → finite_value false e m ≤ᶠ finite_value false d k
sizes m (pos i) k (pos j) h = record { cross = pos_≤ℤ.1 h }
sizes m (pos i) k (negsuc j) h = record { cross = pos_≤ℤ.1 (omega (arith, mul-one k)) }
sizes m (negsuc i) k (pos j) h = record { cross = pos_≤ℤ.1 (omega (arith, mul-one m)) }
sizes m (negsuc i) k (negsuc j) h = record { cross = pos_≤ℤ.1 (rw (sym (mul-one m), sym (mul-one k)) h) }

not_negative : (e : ℤ) (m : ℕ) → whole (pos 0) ≤ᶠ finite_value false e m
not_negative e m = ≈_≤ᶠ (≈_sym (scaled_zero e)) ((scaled_≤ᶠ e).1 (pos_≥0 m))

negatives : (e : ℤ) (m : ℕ) (d : ℤ) (k : ℕ) → finite_value false d k ≤ᶠ finite_value false e m → finite_value true e m ≤ᶠ finite_value true d k
negatives e m d k h = ≈_≤ᶠ (≈_sym (scaled_negᶠ e (pos m))) (≤ᶠ_≈ (negᶠ_≤ᶠ h) (scaled_negᶠ d (pos k)))

not_positive : (e : ℤ) (m : ℕ) → finite_value true e m ≤ᶠ whole (pos 0)
not_positive e m = ≤ᶠ_≈ (negatives e m (pos 0) 0 (≈_≤ᶠ (scaled_zero (pos 0)) (not_negative e m))) (scaled_zero (pos 0))

-- a product with powers of two is 0 only where the number is
up_positive : (e : ℤ) → 0 < up e
up_positive (pos k) = pow_pos k
up_positive (negsuc k) = omega arith

down_positive : (e : ℤ) → 0 < down e
down_positive (pos k) = omega arith
down_positive (negsuc k) = pow_pos (suc k)

nothing : (m : ℕ) (e d : ℤ) → m * up e * down d ≤ 0 → m ≡ 0
nothing zero e d h = refl
nothing (suc m) e d h = absurd (omega (arith, mul-pos {m = suc m * up e} {n = down d} (mul-pos {m = suc m} {n = up e} (omega arith) (up_positive e)) (down_positive d)))

zero_value : (s : Bool) (e : ℤ) {m : ℕ} → m ≡ 0 → finite_value s e m ≈ whole (pos 0)
zero_value true e z = rw z (scaled_zero e)
zero_value false e z = rw z (scaled_zero e)

-- ---- what is not above
pub at_most : (s : Bool) (m : ℕ) (e : ℤ) (t : Bool) (k : ℕ) (d : ℤ) → lt (fin t k d) (fin s m e) ≡ false → finite_value s e m ≤ᶠ finite_value t d k
unfolding lt
at_most true m e true k d h = negatives e m d k (sizes k d m e (ltb-false (m * up e * down d) (k * up d * down e) h))
at_most true m e false k d h = ≤ᶠ_trans (not_positive e m) (not_negative d k)
at_most false m e true k d h =
    let l = ltb-false 0 (k * up d * down e + m * up e * down d) h in
    ≈_≤ᶠ (zero_value false e (nothing m e d (omega arith))) (≤ᶠ_of_≈ (≈_sym (zero_value true d (nothing k d e (omega arith)))))
at_most false m e false k d h = sizes m e k d (ltb-false (k * up d * down e) (m * up e * down d) h)
