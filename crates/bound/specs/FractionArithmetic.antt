-- The four operations on fractions, with what the theory of exact bounds asks of each: they increase, cancel and can be solved.
use Rattle.std.specs.Prelude.{pos}
use Rattle.exact.specs.Fraction.{Fraction, ◌≤ᶠ◌, ◌<ᶠ◌, ◌≈◌, whole, ◌+ᶠ◌, ◌-ᶠ◌, ◌*ᶠ◌, ◌/ᶠ◌}
use Rattle.exact.proofs.Order.{≤ᶠ_trans, ≤ᶠ_of_<ᶠ, ≤ᶠ_of_not_<ᶠ, ≈_sym, ≈_trans, ≈_refl, ≤ᶠ_≈, ≈_≤ᶠ, <ᶠ_of_not_≤ᶠ, clashᶠ}
use Rattle.exact.proofs.Sum.{+ᶠ_comm, +ᶠ_mono, +ᶠ_cong, +ᶠ_cancel, -ᶠ_is, add_then_sub, sub_then_add, negᶠ_difference, -ᶠ_mono, difference_≤ᶠ, ≤ᶠ_negᶠ}
use Rattle.exact.proofs.Sign.{not_≈0_of_>0}
use Rattle.exact.proofs.Product.{*ᶠ_comm, *ᶠ_zero, zero_*ᶠ, *ᶠ_cong, negᶠ_*ᶠ, *ᶠ_negᶠ, *ᶠ_mono₂, *ᶠ_cancel, product_above_above}
use Rattle.exact.proofs.Quotient.{/ᶠ_*ᶠ, *ᶠ_/ᶠ, /ᶠ_unique, *ᶠ_/ᶠ_cancel, negᶠ_/ᶠ, /ᶠ_negᶠ, /ᶠ_≤ᶠ, /ᶠ_mono, /ᶠ_anti, /ᶠ_anti_<, quotient_above_above}
use Rattle.bound.specs.Order.{Same, dual}
use Rattle.bound.specs.Operation.{Increasing}
use Rattle.bound.specs.Sign.{Positive, positive, SignedOperation, on_positive}
use Rattle.bound.specs.Arithmetic.{Arithmetic}
use Rattle.bound.specs.Fractions.{fractions, signed_fractions, same_of_≈, ≈_of_same, less_of_<ᶠ}

-- ---- sum and difference
pub add_cancel_left : (x : Fraction) {y z : Fraction} → (x +ᶠ y) ≤ᶠ (x +ᶠ z) → y ≤ᶠ z
add_cancel_left x {y} {z} h = +ᶠ_cancel x (≈_≤ᶠ (+ᶠ_comm y x) (≤ᶠ_≈ h (+ᶠ_comm x z)))

pub add_increasing : Increasing fractions fractions fractions ◌+ᶠ◌
add_increasing =
    record {
      increases = +ᶠ_mono;
      cancel_right = λ y h. +ᶠ_cancel y h;
      cancel_left = λ x h. add_cancel_left x h;
      solve_left = λ y z. (z -ᶠ y, same_of_≈ (sub_then_add z y));
      solve_right = λ x z. (z -ᶠ x, same_of_≈ (≈_trans (+ᶠ_comm x (z -ᶠ x)) (sub_then_add z x)));
    }

pub subtract_increasing : Increasing fractions (dual fractions) fractions ◌-ᶠ◌
subtract_increasing =
    record {
      increases = λ h k. -ᶠ_mono h k;
      cancel_right = λ {x} {x'} y h. ≤ᶠ_≈ ((difference_≤ᶠ y).0 h) (sub_then_add x' y);
      cancel_left = λ x {y} {y'} h. ≤ᶠ_negᶠ (add_cancel_left x (≈_≤ᶠ (≈_sym (-ᶠ_is x y)) (≤ᶠ_≈ h (-ᶠ_is x y'))));
      solve_left = λ y z. (z +ᶠ y, same_of_≈ (add_then_sub z y));
      solve_right = λ x z. (
        x -ᶠ z,
        same_of_≈ (≈_trans (-ᶠ_is x (x -ᶠ z)) (≈_trans (+ᶠ_cong (≈_refl x) (negᶠ_difference x z)) (≈_trans (+ᶠ_comm x (z -ᶠ x)) (sub_then_add z x)))),
      );
    }

-- ---- product
pub over_zero : {x : Fraction} → Positive signed_fractions x → whole (pos 0) <ᶠ x
over_zero h = <ᶠ_of_not_≤ᶠ h

pub other_than_zero : {x : Fraction} → Positive signed_fractions x → ¬ (x ≈ whole (pos 0))
other_than_zero h = not_≈0_of_>0 (over_zero h)

same_positive : {p q : (positive signed_fractions).Number} → p.0 ≈ q.0 → Same (positive signed_fractions) p q
same_positive e = (record { fact = (same_of_≈ e).0 }, record { fact = (same_of_≈ e).1 })

pub multiply_signed : SignedOperation signed_fractions ◌*ᶠ◌
multiply_signed =
    record {
      keeps_positive = λ h k. less_of_<ᶠ (product_above_above (over_zero h) (over_zero k));
      odd_left = λ x y h. same_of_≈ (negᶠ_*ᶠ x y);
      odd_right = λ x y h. same_of_≈ (*ᶠ_negᶠ x y);
      zero_left = λ x y z h. same_of_≈ (≈_trans (*ᶠ_cong (≈_of_same z) (≈_refl y)) (zero_*ᶠ y));
    }

pub multiply_increasing : Increasing (positive signed_fractions) (positive signed_fractions) (positive signed_fractions) (on_positive signed_fractions multiply_signed)
multiply_increasing =
    record {
      increases = λ {x} {x'} {y} {y'} h k. record { fact = *ᶠ_mono₂ (≤ᶠ_of_<ᶠ (over_zero x.1)) h.fact (≤ᶠ_of_<ᶠ (over_zero y.1)) k.fact };
      cancel_right = λ {x} {x'} y h.
          record { fact = *ᶠ_cancel (over_zero y.1) (≈_≤ᶠ (*ᶠ_comm y.0 x.0) (≤ᶠ_≈ h.fact (*ᶠ_comm x'.0 y.0))) };
      cancel_left = λ x h. record { fact = *ᶠ_cancel (over_zero x.1) h.fact };
      solve_left = λ y z. (
        (z.0 /ᶠ y.0, less_of_<ᶠ (quotient_above_above (over_zero y.1) (over_zero z.1))),
        same_positive (/ᶠ_*ᶠ z.0 (other_than_zero y.1)),
      );
      solve_right = λ x z. (
        (z.0 /ᶠ x.0, less_of_<ᶠ (quotient_above_above (over_zero x.1) (over_zero z.1))),
        same_positive (*ᶠ_/ᶠ z.0 (other_than_zero x.1)),
      );
    }

-- ---- quotient
pub divide_signed : SignedOperation signed_fractions ◌/ᶠ◌
divide_signed =
    record {
      keeps_positive = λ h k. less_of_<ᶠ (quotient_above_above (over_zero k) (over_zero h));
      odd_left = λ x y h. same_of_≈ (negᶠ_/ᶠ x y);
      odd_right = λ x y h. same_of_≈ (/ᶠ_negᶠ x y);
      zero_left = λ x y z h. same_of_≈ (≈_sym (/ᶠ_unique (λ e. h (same_of_≈ e)) (≈_trans (zero_*ᶠ y) (≈_sym (≈_of_same z)))));
    }

pub divide_increasing : Increasing (positive signed_fractions) (dual (positive signed_fractions)) (positive signed_fractions) (on_positive signed_fractions divide_signed)
divide_increasing =
    record {
      increases = λ {x} {x'} {y} {y'} h k.
          record { fact = ≤ᶠ_trans (/ᶠ_mono (over_zero y.1) h.fact) (/ᶠ_anti (≤ᶠ_of_<ᶠ (over_zero x'.1)) (over_zero y'.1) k.fact) };
      cancel_right = λ {x} {x'} y h. record { fact = ≤ᶠ_≈ ((/ᶠ_≤ᶠ (over_zero y.1)).0 h.fact) (/ᶠ_*ᶠ x'.0 (other_than_zero y.1)) };
      cancel_left = λ x {y} {y'} h. record { fact = ≤ᶠ_of_not_<ᶠ (λ l. clashᶠ (/ᶠ_anti_< (over_zero x.1) (over_zero y.1) l) h.fact) };
      solve_left = λ y z.
          ((z.0 *ᶠ y.0, less_of_<ᶠ (product_above_above (over_zero z.1) (over_zero y.1))), same_positive (*ᶠ_/ᶠ_cancel z.0 (other_than_zero y.1)));
      solve_right = λ x z.
          let w : (positive signed_fractions).Number = (x.0 /ᶠ z.0, less_of_<ᶠ (quotient_above_above (over_zero z.1) (over_zero x.1))) in
          (w, same_positive (≈_sym (/ᶠ_unique (other_than_zero w.1) (*ᶠ_/ᶠ x.0 (other_than_zero z.1)))));
    }

-- ---- all four
abbrev pub fraction_arithmetic : Arithmetic
fraction_arithmetic =
    record {
      numbers = signed_fractions;
      add = ◌+ᶠ◌;
      subtract = ◌-ᶠ◌;
      multiply = ◌*ᶠ◌;
      divide = ◌/ᶠ◌;
      add_increasing = add_increasing;
      subtract_increasing = subtract_increasing;
      multiply_signed = multiply_signed;
      multiply_increasing = multiply_increasing;
      multiply_zero = λ x y z. same_of_≈ (≈_trans (*ᶠ_cong (≈_refl x) (≈_of_same z)) (*ᶠ_zero x));
      divide_signed = divide_signed;
      divide_increasing = divide_increasing;
    }
