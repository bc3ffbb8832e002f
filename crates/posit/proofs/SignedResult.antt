-- Product and quotient of signed numbers: the sign is one where the operands' signs differ, as each minus goes in front of the result; so what the
-- magnitudes' result is rounded to, with that sign, is the posits' result rounded.
use Rattle.std.proofs.Common.{ℕ, Bool, true, false, not, ℤ, pos}
use mathlib.Core.Bool.{beq}
use Rattle.exact.specs.Fraction.{Fraction, ◌≈◌, negᶠ, ◌*ᶠ◌, ◌/ᶠ◌}
use Rattle.exact.proofs.Order.{◌⨾◌, ≈_refl, ≈_sym, ≈_trans}
use Rattle.exact.proofs.Sum.{negᶠ_cong, negᶠ_negᶠ}
use Rattle.exact.proofs.Product.{negᶠ_*ᶠ, *ᶠ_negᶠ, *ᶠ_cong}
use Rattle.exact.proofs.Quotient.{negᶠ_/ᶠ, /ᶠ_negᶠ, /ᶠ_cong}
use Rattle.exact.proofs.Scaled.{scaled_negᶠ}
use Rattle.posit.specs.declared.inner.magnitude.Magnitude.{Magnitude}
use Rattle.posit.specs.Format.{Format}
use Rattle.posit.specs.Value.{value}
use Rattle.posit.specs.Rounding.{Rounds}
use Rattle.posit.specs.Decoding.{OddForm, finite_value}
use Rattle.posit.specs.Magnitudes.{with_signᶠ, Knows, RoundsEach}
use Rattle.posit.proofs.OneAnswer.{rounds_respects}

sign_apart : (negative : Bool) (s : ℤ) (g : ℕ) → with_signᶠ negative (finite_value false s g) ≈ finite_value negative s g
sign_apart true s g = scaled_negᶠ s (pos g)
sign_apart false s g = ≈_refl (finite_value false s g)

-- an operation that a minus passes through, in either operand
pub record SignsPass (op : Fraction → Fraction → Fraction) : Type 0 where
  pub left : (x y : Fraction) → op (negᶠ x) y ≈ negᶠ (op x y)
  pub right : (x y : Fraction) → op x (negᶠ y) ≈ negᶠ (op x y)
  pub cong : {x y u v : Fraction} → x ≈ y → u ≈ v → op x u ≈ op y v

pub product_signs : SignsPass ◌*ᶠ◌
product_signs = record { left = negᶠ_*ᶠ; right = *ᶠ_negᶠ; cong = *ᶠ_cong }

pub quotient_signs : SignsPass ◌/ᶠ◌
quotient_signs = record { left = negᶠ_/ᶠ; right = /ᶠ_negᶠ; cong = /ᶠ_cong }

module _ {op : Fraction → Fraction → Fraction} (pass : SignsPass op) where
  signs_through : (a b : Bool) (x y : Fraction) → with_signᶠ (not (beq a b)) (op x y) ≈ op (with_signᶠ a x) (with_signᶠ b y)
  signs_through true true x y = ≈_sym (negᶠ_negᶠ (op x y)) ⨾ negᶠ_cong (≈_sym (pass.right x y)) ⨾ ≈_sym (pass.left x (negᶠ y))
  signs_through true false x y = ≈_sym (pass.left x y)
  signs_through false true x y = ≈_sym (pass.right x y)
  signs_through false false x y = ≈_refl (op x y)

  pub rounds_signed : {n es p q : ℕ} {a b : Bool} {s t : ℤ} {g h : ℕ} (x : Magnitude) {r : ℕ} → Format n es → OddForm n es p a s g → OddForm n es q b t h
      → Knows (op (finite_value false s g) (finite_value false t h)) x → RoundsEach n es (not (beq a b)) x r → Rounds n es (op (value n es p) (value n es q)) r
  rounds_signed {n} {es} {p} {q} {a} {b} {s} {t} {g} {h} x f u v k each =
      rounds_respects n es f.wide_enough
      (signs_through a b (finite_value false s g) (finite_value false t h)
      ⨾ pass.cong (≈_trans (sign_apart a s g) u.means) (≈_trans (sign_apart b t h) v.means))
      (each (op (finite_value false s g) (finite_value false t h)) k)
