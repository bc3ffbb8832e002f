-- Codes compare as their posits do: a greater posit has a greater value, and a code that is no more has a value that is no more.
use Rattle.std.proofs.Common.{◌≡◌, ℕ, ◌<◌, ◌≤◌, ltb, ◌≢◌, sym, ◌∙◌, lt_irrefl, arith, le-ltb, lt-ltb}
use native.Mathlib.Decide.{dec_lt}
use Rattle.exact.specs.Fraction.{◌≤ᶠ◌}
use Rattle.exact.proofs.Order.{≈_sym, ≈_<ᶠ, <ᶠ_≈, clashᶠ}
use Rattle.exact.proofs.WholeOrder.{pos_≤ℤ}
use Rattle.exact.proofs.OverPower.{over_power_≤ᶠ}
use Rattle.posit.specs.Format.{Format, nar}
use Rattle.posit.proofs.Patterns.{increasing, nar_large}
use Rattle.code.specs.Code.{CodeOf, code_value}
use Rattle.code.proofs.Higher.{units_most}

value_most : (x y : ℕ) → x ≤ y → code_value 52 x ≤ᶠ code_value 52 y
value_most x y h = (over_power_≤ᶠ 1075).1 (pos_≤ℤ.1 (units_most x y h))

less : {n es p q x y : ℕ} → Format n es → CodeOf n es p x → CodeOf n es q y → p < nar n → q < p → y < x
less {n} {es} {x = x} {y = y} f a b u h = elim (dec_lt y x) [
  | yes k ↦ k
  | no k ↦ absurd (clashᶠ (≈_<ᶠ b.says (<ᶠ_≈ (increasing n es f.wide_enough h (omega (arith, nar_large n f.wide_enough))) (≈_sym a.says))) (value_most x y (omega arith)))
]

module _ {n es p q x y : ℕ} (f : Format n es) (a : CodeOf n es p x) (b : CodeOf n es q y) (u : p < nar n) (v : q < nar n) where
  pub codes_differ : p ≢ q → x ≢ y
  codes_differ d e = elim (dec_lt q p) [
    | yes h ↦ absurd (lt_irrefl y (rw e at (less f a b u h)))
    | no h ↦ absurd (lt_irrefl y (rw e at (less f b a v (omega (arith, d)))))
  ]

  pub codes_ordered : p ≢ q → ltb y x ≡ ltb q p
  codes_ordered d = elim (dec_lt q p) [
    | yes h ↦ lt-ltb y x (less f a b u h) ∙ sym (lt-ltb q p h)
    | no h ↦
        let k : x < y = less f b a v (omega (arith, d)) in
        le-ltb y x (omega arith) ∙ sym (le-ltb q p (omega arith))
  ]
