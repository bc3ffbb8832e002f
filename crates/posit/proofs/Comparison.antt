-- Posits compare as their values do, NaR equals itself and is below all else, and no two of less, equal and greater are right at once:
-- it is right because the value increases with the signed pattern, and NaR's is the least.
use Rattle.std.proofs.Common.{◌≡◌, ℕ, ◌≤◌, ◌↔◌, ◌<ℤ◌, sym, refl, ap}
use mathlib.Core.Logic.Iff
use lib.Signed.{clash_ℤ}
use Rattle.exact.specs.Fraction.{◌<ᶠ◌, ◌≈◌}
use Rattle.exact.proofs.WholeOrder.{≤ℤ_of_<ℤ, ≤ℤ_of_≡}
use Rattle.exact.proofs.Order.{≈_refl}
use Rattle.std.specs.declared.cmp.Ordering.{Ordering}
use Rattle.std.specs.declared.cmp.Ordering.TheVariants.{Less, Equal, Greater}
use Rattle.posit.specs.Format.{Finite, nar}
use Rattle.posit.specs.Value.{value, signed}
use Rattle.posit.specs.Comparing.{Compares}
use Rattle.posit.proofs.Patterns.{some_bit}
use Rattle.posit.proofs.Increasing.{value_lt, value_injective}
use Rattle.posit.proofs.Turned.{nar_least}

-- ---- the order of patterns is the order of values
module _ (n es : ℕ) (wide : 3 ≤ n) {p q : ℕ} (f : Finite n p) (g : Finite n q) where
  pub less_is_less : Compares n p q Less ↔ (value n es p <ᶠ value n es q)
  less_is_less = Iff.symm (value_lt n es (some_bit n wide) f g)

  pub equal_is_equal : Compares n p q Equal ↔ (value n es p ≈ value n es q)
  equal_is_equal = (λ e. rw e (≈_refl (value n es q)), λ e. value_injective n es (some_bit n wide) f g e)

  pub greater_is_greater : Compares n p q Greater ↔ (value n es q <ᶠ value n es p)
  greater_is_greater = Iff.symm (value_lt n es (some_bit n wide) g f)

-- ---- NaR
module _ (n : ℕ) (wide : 3 ≤ n) where
  pub nar_equals_itself : Compares n (nar n) (nar n) Equal
  nar_equals_itself = refl

  pub nar_is_below : {p : ℕ} → Finite n p → Compares n (nar n) p Less
  nar_is_below f = nar_least n (some_bit n wide) f

  pub all_else_is_above_nar : {p : ℕ} → Finite n p → Compares n p (nar n) Greater
  all_else_is_above_nar f = nar_is_below f

-- ---- one answer
not_less : (n : ℕ) {p q : ℕ} {A : Type 0} → p ≡ q → signed n p <ℤ signed n q → A
not_less n e h = clash_ℤ h (≤ℤ_of_≡ (ap (signed n) (sym e)))

pub one_order : (n p q : ℕ) (o o' : Ordering) → Compares n p q o → Compares n p q o' → o ≡ o'
one_order n p q Less Less h k = refl
one_order n p q Less Equal h k = not_less n k h
one_order n p q Less Greater h k = clash_ℤ h (≤ℤ_of_<ℤ k)
one_order n p q Equal Less h k = not_less n h k
one_order n p q Equal Equal h k = refl
one_order n p q Equal Greater h k = not_less n (sym h) k
one_order n p q Greater Less h k = clash_ℤ h (≤ℤ_of_<ℤ k)
one_order n p q Greater Equal h k = not_less n (sym k) h
one_order n p q Greater Greater h k = refl
