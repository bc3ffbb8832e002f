-- What an operation answers, by what its operands are: NaR where an operand is NaR or the divisor is 0, else the rounded exact result.
use Rattle.std.proofs.Common.{◌≡◌, ℕ, ◌-◌, Bool, true, false, ◌&&◌, ◌||◌, eqb, ◌≢◌, pos, sym, refl, ◌∙◌, arith, pow_pos, eq-eqb, ne_eqb}
use Rattle.exact.specs.Fraction.{◌≈◌, whole}
use Rattle.posit.specs.Format.{nar}
use Rattle.posit.specs.Value.{value}
use Rattle.posit.specs.Rounding.{Rounds}
use Rattle.posit.specs.Arithmetic.{exact_result, has_no_number}
use Rattle.call.specs.Operation.{over}
use Rattle.posit.specs.Operation.{Operates}
use Rattle.posit.proofs.Ends.{value_zero}
use Rattle.posit.proofs.Exactly.{never}

-- ---- an answer
pub no_number : {n es op p q r : ℕ} → has_no_number n op p q ≡ true → r ≡ nar n → Operates n es op p q r
no_number h e = record { no_number = λ k. e; number = λ k. never (sym k ∙ h) }

pub a_number : {n es op p q r : ℕ} → has_no_number n op p q ≡ false → Rounds n es (exact_result op (value n es p) (value n es q)) r → Operates n es op p q r
a_number h e = record { no_number = λ k. never (sym h ∙ k); number = λ k. e }

-- ---- the test
second : (a b c : Bool) → b ≡ true → (a || b || c) ≡ true
second true b c e = refl
second false b c e = rw e

module _ (n op p q : ℕ) where
  pub nar_right : q ≡ nar n → has_no_number n op p q ≡ true
  nar_right e = second (eqb p (nar n)) (eqb q (nar n)) (eqb op over && eqb q 0) (eq-eqb q (nar n) e)

  pub both_numbers : p ≢ nar n → q ≢ nar n → (eqb op over && eqb q 0) ≡ false → has_no_number n op p q ≡ false
  both_numbers h k l = rw (ne_eqb p (nar n) h, ne_eqb q (nar n) k) l

-- ---- an operand
pub zero_not_nar : (n : ℕ) {p : ℕ} → p ≡ 0 → p ≢ nar n
zero_not_nar n e k = omega (arith, pow_pos (n - 1))

pub zero_value : (n es : ℕ) {p : ℕ} → p ≡ 0 → value n es p ≈ whole (pos 0)
zero_value n es e = rw e (value_zero n es)
