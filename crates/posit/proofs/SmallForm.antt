-- Every finite posit of every format has a small form: a fraction below 2^14 and, counted in units of 2^-56, at most 2^112 of them. An odd fraction
-- leaves no power of two below minPos, which is at least 2^-56, and no multiple of minPos exceeds maxPos's.
use Rattle.std.proofs.Common.{◌≡◌, ℕ, zero, suc, ◌+◌, ◌-◌, ◌*◌, ◌%◌, ◌^◌, ◌<◌, ◌≤◌, pos, ◌+ℤ◌, ◌-ℤ◌, ap, ◌∙◌, le_trans, lt_irrefl, mul-le-mul_right, mul-le-mul, arith, pow_pos, pow_mono, pow-add}
use native.Mathlib.Nat.{pow-succ', eq_of_mul-eq-mul_right}
use Rattle.exact.proofs.Linear.{spread, parts}
use Rattle.exact.proofs.WholeOrder.{pos_≥0}
use Rattle.posit.specs.Format.{Format, nar, m}
use Rattle.posit.specs.Value.{multiple}
use Rattle.posit.specs.SmallForm.{unit_bits, SmallForm}
use Rattle.posit.proofs.Order.{multiple_le, multiple_top}

-- ---- an odd number has no power of two in it
power_divides : (b c g M : ℕ) → g % 2 ≡ 1 → M * 2 ^ b ≡ g * 2 ^ c → b ≤ c
power_divides zero c g M o e = omega arith
power_divides (suc b) zero g M o e = absurd (lt_irrefl 0 (omega (arith, ap (λ (x : ℕ). M * x) (pow-succ' 2 b))))
power_divides (suc b) (suc c) g M o e =
    let less : b ≤ c = power_divides b c g M o (omega (arith, ap (λ (x : ℕ). M * x) (pow-succ' 2 b), ap (λ (x : ℕ). g * x) (pow-succ' 2 c))) in
    omega arith

-- ---- the ends of a format
module _ {n es : ℕ} (f : Format n es) where
  pub ends_within : m n es ≤ unit_bits
  ends_within = mul-le-mul {n₁ = n - 2} {m₁ = 2 ^ es} {n₂ = 14} {m₂ = 4} (omega (arith, f.not_too_wide)) (pow_mono {i = es} {j = 2} f.exponent_fits)

  top_multiple : multiple (n - 1) es (2 ^ (n - 1) - 1) ≡ 2 ^ (2 * m n es)
  top_multiple =
      multiple_top (n - 1) es (omega (arith, f.wide_enough)) ∙ ap (λ (i : ℕ). 2 ^ (2 * m i es)) {x = suc (n - 1)} {y = n} (omega (arith, f.wide_enough))

  pub multiple_most : {p : ℕ} → p < nar n → multiple (n - 1) es p ≤ 2 ^ (2 * m n es)
  multiple_most {p} u =
      omega (arith, top_multiple, (multiple_le (n - 1) es {p = p} {q = 2 ^ (n - 1) - 1} u (omega (arith, pow_pos (n - 1)))).0 (omega arith))

-- ---- the form
shifted : (a b k c : ℕ) → a + k ≡ b + c → pos a -ℤ pos b +ℤ pos k ≡ pos c
shifted a b k c e = simp spread (simp parts (omega arith))

-- g · 2^c is M units of 2^-k; in units of 2^-56 there are 2^d times as many
at_most : (g c d k M : ℕ) → g * 2 ^ c ≡ M → M ≤ 2 ^ (2 * k) → k + d ≡ unit_bits → g * 2 ^ (c + d) ≤ 2 ^ 112
at_most g c d k M e h l =
    le_trans (omega (arith, ap (λ (x : ℕ). g * x) (pow-add 2 c d), ap (λ (x : ℕ). x * 2 ^ d) e, mul-le-mul_right (2 ^ d) h, pow-add 2 (2 * k) d))
    (pow_mono {i = 2 * k + d} {j = 112} (omega arith))

cancelled : (g c b M : ℕ) → M * 2 ^ b ≡ g * 2 ^ (c + b) → g * 2 ^ c * 2 ^ b ≡ M * 2 ^ b
cancelled g c b M e = omega (arith, ap (λ (x : ℕ). g * x) (pow-add 2 c b))

pub small_form : (g z scale bits k M : ℕ) → g % 2 ≡ 1 → g < 2 ^ 14 → M * 2 ^ bits ≡ 2 ^ scale * (g * 2 ^ z) → M ≤ 2 ^ (2 * k) → k ≤ unit_bits
    → SmallForm (pos (scale + z) -ℤ pos (bits + k)) g
small_form g z scale bits k M o few e h l =
    let whole : M * 2 ^ bits ≡ g * 2 ^ (scale + z) = rw (pow-add 2 scale z) (omega arith) in
    let room : bits ≤ scale + z = power_divides bits (scale + z) g M o whole in
    let c = scale + z - bits in
    let d = unit_bits - k in
    let units : g * 2 ^ c ≡ M = eq_of_mul-eq-mul_right (2 ^ bits) (pow_pos bits) (g * 2 ^ c) M (cancelled g c bits M (whole ∙ ap (λ (x : ℕ). g * 2 ^ x) (omega arith))) in
    let s : pos (scale + z) -ℤ pos (bits + k) +ℤ pos unit_bits ≡ pos (c + d) = shifted (scale + z) (bits + k) unit_bits (c + d) (omega arith) in
    record {
      some = omega arith;
      few = few;
      above = rw s (pos_≥0 (c + d));
      fits = rw s (at_most g c d k M units h (omega arith));
    }
