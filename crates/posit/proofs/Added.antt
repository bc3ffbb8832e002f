-- The sum of two posits, by what they are: NaR with NaR, the other operand with 0, and of two other numbers the rounded sum of their values;
-- the difference is the sum with the negated posit, since that has the negated value and is NaR where the posit is.
use Rattle.std.proofs.Common.{◌≡◌, ℕ, ◌^◌, ◌<◌, ◌≤◌, Bool, eqb, ℤ, sym, refl, ap, ◌∙◌, subst, arith, w32, to_z, of_z, eq-eqb, ne_eqb}
use native.Mathlib.Decide.{ℕ_discrete}
use Rattle.exact.specs.Fraction.{Fraction, ◌+ᶠ◌}
use Rattle.exact.proofs.Order.{≈_refl, ≈_sym, ◌⨾◌}
use Rattle.exact.proofs.Sum.{+ᶠ_cong, +ᶠ_idl, +ᶠ_idr, -ᶠ_is}
use Rattle.posit.specs.declared.decoded.Decoded.TheVariants.{Finite}
use Rattle.posit.specs.declared.inner.magnitude.Magnitude.{Magnitude}
use Rattle.posit.specs.Format as Spec
use Rattle.posit.specs.Format.{Format, nar, negated}
use Rattle.posit.specs.Value.{value}
use Rattle.posit.specs.Rounding.{Rounds, posit_gives_itself}
use Rattle.posit.specs.Decoding.{finite_value}
use Rattle.posit.specs.SmallForm.{Unpacks}
use Rattle.posit.specs.Magnitudes.{with_signᶠ, Knows, RoundsEach}
use Rattle.posit.specs.Arithmetic.{has_no_number}
use Rattle.call.specs.Operation.{plus, minus}
use Rattle.posit.specs.Operation.{Operates}
use Rattle.posit.proofs.Mirror.{negated_negated, negated_nar, value_negated}
use Rattle.posit.proofs.OneAnswer.{rounds_respects}
use Rattle.posit.proofs.SmallScale.{kept}
use Rattle.posit.proofs.Operated.{no_number, a_number, nar_right, both_numbers, zero_not_nar, zero_value}
use Rattle.posit.proofs.Summed.{sign_twice}

-- ---- an exact sum, rounded
pub some_rounds : (z : Fraction) (b : Bool) (x : Magnitude) {n es p : ℕ} → Format n es → Knows (with_signᶠ b z) x → RoundsEach n es b x p → Rounds n es z p
some_rounds z b x {n} {es} f k each = rounds_respects n es f.wide_enough (sign_twice b z) (each (with_signᶠ b z) k)

-- ---- the sum
module _ (n es p q : ℕ) where
  plus_nar_right : {r : ℕ} → q ≡ nar n → r ≡ nar n → Operates n es plus p q r
  plus_nar_right e h = no_number (nar_right n plus p q e) h

  pub zero_plus : q < 2 ^ n → p ≡ 0 → Operates n es plus p q q
  zero_plus fits e = by (ℕ_discrete q (nar n))
    where
      by : Dec (q ≡ nar n) → Operates n es plus p q q
      by (yes h) = plus_nar_right h h
      by (no h) =
          a_number (both_numbers n plus p q (zero_not_nar n e) h refl)
          (posit_gives_itself (record { fits = fits; not_nar = h }) (+ᶠ_cong (zero_value n es e) (≈_refl (value n es q)) ⨾ +ᶠ_idl (value n es q)))

  pub plus_zero : Spec.Finite n p → q ≡ 0 → Operates n es plus p q p
  plus_zero f e =
      a_number (both_numbers n plus p q f.not_nar (zero_not_nar n e) refl)
      (posit_gives_itself f (+ᶠ_cong (≈_refl (value n es p)) (zero_value n es e) ⨾ +ᶠ_idr (value n es p)))

-- two numbers, their scales as the machine holds them
pub numbers_plus :
    {n es p q r : ℕ} {a b : Bool} {s t : ℤ} {g h : ℕ} → Format n es → Unpacks n es p (Finite a s g) → Unpacks n es q (Finite b t h)
    → Rounds n es (finite_value a (to_z w32 (of_z w32 s)) g +ᶠ finite_value b (to_z w32 (of_z w32 t)) h) r → Operates n es plus p q r
numbers_plus {n} {es} {p} {q} f u v k =
    a_number (both_numbers n plus p q u.decodes.finite.not_nar v.decodes.finite.not_nar refl)
    (rounds_respects n es f.wide_enough (+ᶠ_cong u.decodes.means v.decodes.means) (rw (kept u.small, kept v.small) at k))

-- ---- the difference
module _ (n q : ℕ) (some : 1 ≤ n) (fits : q < 2 ^ n) where
  same_test : Dec (q ≡ nar n) → eqb q (nar n) ≡ eqb (negated n q) (nar n)
  same_test (yes h) = eq-eqb q (nar n) h ∙ sym (eq-eqb (negated n q) (nar n) (ap (negated n) h ∙ negated_nar n some))
  same_test (no h) =
      ne_eqb q (nar n) h ∙ sym (ne_eqb (negated n q) (nar n) (λ e. h (sym (negated_negated n fits) ∙ ap (negated n) e ∙ negated_nar n some)))

  same_tests : (p : ℕ) → has_no_number n minus p q ≡ has_no_number n plus p (negated n q)
  same_tests p = rw (same_test (ℕ_discrete q (nar n)))

pub negated_plus : {n es p q r : ℕ} → Format n es → q < 2 ^ n → Operates n es plus p (negated n q) r → Operates n es minus p q r
negated_plus {n} {es} {p} {q} {r} f fits o = by (ℕ_discrete q (nar n))
  where
    some : 1 ≤ n
    some = omega (arith, f.wide_enough)

    by : Dec (q ≡ nar n) → Operates n es minus p q r
    by (yes h) = no_number (nar_right n minus p q h) (o.no_number (sym (same_tests n q some fits p) ∙ nar_right n minus p q h))
    by (no h) =
        record {
          no_number = λ e. o.no_number (sym (same_tests n q some fits p) ∙ e);
          number =
              λ e.
              rounds_respects n es f.wide_enough (≈_sym (-ᶠ_is (value n es p) (value n es q)))
              (subst (λ (x : Fraction). Rounds n es (value n es p +ᶠ x) r) (value_negated n es some (record { fits = fits; not_nar = h }))
              (o.number (sym (same_tests n q some fits p) ∙ e)));
        }
