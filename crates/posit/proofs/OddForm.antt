-- A magnitude 2^scale · significand / 2^bits of minPos, its significand divided down to an odd number and its scale counted from 1: what
-- stands so is the posit's value, and with the sign it is the posit decoded. All numbers on the way are far below the limits of 32 bits.
use Rattle.std.proofs.Common.{◌≡◌, ℕ, zero, suc, ◌+◌, ◌-◌, ◌*◌, ◌/◌, ◌^◌, ◌<◌, ◌≤◌, Bool, true, false, cond, ltb, ◌≢◌, pos, negsuc, ◌-ℤ◌, sym, refl, ap, ◌∙◌, subst₂, lt_of_lt_of_le, le-mul_of_pos_right, arith, pow_pos, pow_mono, pow-add, w32, SFits, to_z, of_z, le-ltb, lt-ltb}
use lib.IntN.{ -ℤ-+ℤ_cancel}
use lib.Signed.{mag}
use lib.Count.{count_trailing_zeros}
use mir.ValLaws.{to_z_pos, to_z-of_z}
use Rattle.exact.specs.Fraction.{◌≈◌, over_power, scaled}
use Rattle.exact.proofs.Order.{≈_trans, ≈_sym}
use Rattle.exact.proofs.Sum.{negᶠ_cong}
use Rattle.exact.proofs.Scaled.{scaled_over, scaled_negᶠ}
use Rattle.posit.specs.declared.inner.unpack.Parts.{Parts}
use Rattle.posit.specs.declared.decoded.Decoded.{Decoded}
use Rattle.posit.specs.declared.decoded.Decoded.TheVariants.{Zero, Nar, Finite}
use Rattle.posit.specs.Format.{Format, nar, m, negated}
use Rattle.posit.specs.Value.{multiple}
use Rattle.posit.specs.Decoding.{Decodes}
use Rattle.posit.specs.Parts.{chosen_by, PartsOf, OddOf, Odd}
use Rattle.posit.specs.SmallForm.{Small, Unpacks}
use Rattle.posit.proofs.Chosen.{first_of_two, second_of}
use Rattle.posit.proofs.Apart.{FirstBit, clear, set, times_power}
use Rattle.posit.proofs.Mirror.{nar_is_half, negated_positive, units_below, value_above}
use Rattle.posit.proofs.SetBits.{OddTimes, trailing, odd_quotient}
use Rattle.posit.proofs.SmallForm.{ends_within, multiple_most, small_form}

-- ---- sizes
pub record SmallParts (n es : ℕ) (r : Parts) : Type 0 where
  pub scale : r.scale < 2 ^ 7
  pub bits : r.bits < 14
  pub positive : 0 < r.significand
  pub significand : r.significand < 2 ^ 14
  pub lift : (n - 2) * 2 ^ es < 2 ^ 6

pub small : {n es p : ℕ} {r : Parts} → Format n es → PartsOf (n - 1) es p r → SmallParts n es r
small {n} {es} {p} {r} f x =
    let es_small : es ≤ 2 = f.exponent_fits in
    let n_small : n ≤ 16 = f.not_too_wide in
    let few : r.bits < 14 = omega (arith, x.few_bits) in
    record {
      scale = omega (arith, x.scale_fits, times_power 4 {es = es} {x = n - 1 - 1} es_small (omega arith));
      bits = few;
      positive = lt_of_lt_of_le (pow_pos r.bits) x.at_least;
      significand = omega (arith, x.less, pow_mono {i = r.bits} {j = 13} (omega arith));
      lift = times_power 4 {es = es} {x = n - 2} es_small (omega arith);
    }

-- ---- a difference of two numbers that fit
either_less : (c : Bool) (x y H : ℕ) → x < H → y < H → mag (cond c (negsuc x) (pos y)) < H
either_less true x y H h k = h
either_less false x y H h k = k

mag_difference : (a b H : ℕ) → a < H → b < H → mag (pos a -ℤ pos b) < H
mag_difference a zero H h k = omega arith
mag_difference a (suc b) H h k = either_less (ltb a (suc b)) (suc b - suc a) (a - suc b) H (omega arith) (omega arith)

pub difference_fits : (a b : ℕ) → a < 2 ^ 31 → b < 2 ^ 31 → SFits w32 (to_z w32 a -ℤ to_z w32 b)
difference_fits a b h k = rw (to_z_pos w32 a h, to_z_pos w32 b k) (record { sfits = mag_difference a b (2 ^ 31) h k })

difference_kept : (a b : ℕ) → a < 2 ^ 31 → b < 2 ^ 31 → to_z w32 (of_z w32 (to_z w32 a -ℤ to_z w32 b)) ≡ pos a -ℤ pos b
difference_kept a b h k = to_z-of_z w32 (to_z w32 a -ℤ to_z w32 b) (difference_fits a b h k) ∙ rw (to_z_pos w32 a h, to_z_pos w32 b k)

-- ---- the value
odd_value : (g z scale bits k M : ℕ) → M * 2 ^ bits ≡ 2 ^ scale * (g * 2 ^ z) → scaled (pos g) (pos (scale + z) -ℤ pos (bits + k)) ≈ over_power (pos M) k
odd_value g z scale bits k M e =
    ≈_trans (scaled_over (pos g) (pos (scale + z) -ℤ pos (bits + k)) (bits + k) (scale + z) (-ℤ-+ℤ_cancel (pos (scale + z)) (pos (bits + k))))
    (record { cross = ap pos (rw (pow-add 2 scale z, pow-add 2 bits k) (omega (arith, ap (λ (x : ℕ). x * 2 ^ k) e))) })

-- ---- the odd part is no larger
odd_less : {x t g k : ℕ} → OddTimes x t g → x < k → g < k
odd_less {x} {t} {g} o h = omega (arith, o.product, le-mul_of_pos_right g (pow_pos t))

-- ---- what the machine computes
module _ {n es p : ℕ} {r : Parts} (f : Format n es) (x : PartsOf (n - 1) es p r) where
  pub zeros_few : count_trailing_zeros 32 r.significand < 32
  zeros_few = (trailing 32 r.significand (small f x).positive (omega (arith, (small f x).significand))).0

  pub up_less : r.scale + count_trailing_zeros 32 r.significand < 2 ^ 31
  up_less = let s = small f x in omega (arith, zeros_few)

  pub down_less : r.bits + (n - 2) * 2 ^ es < 2 ^ 31
  down_less = let s = small f x in omega arith

  pub odd_form : (negative : Bool) → p < nar n → OddOf n es negative p negative
      (to_z w32 (of_z w32 (to_z w32 (r.scale + count_trailing_zeros 32 r.significand) -ℤ to_z w32 (r.bits + (n - 2) * 2 ^ es))))
      (r.significand / 2 ^ count_trailing_zeros 32 r.significand)
  odd_form negative u =
      let s = small f x in
      let (few, (g, o)) = trailing 32 r.significand s.positive (omega (arith, s.significand)) in
      let says = x.says ∙ ap (λ (y : ℕ). 2 ^ r.scale * y) o.product in
      rw (difference_kept (r.scale + count_trailing_zeros 32 r.significand) (r.bits + (n - 2) * 2 ^ es) up_less down_less, odd_quotient o)
      (record {
        sign_is = refl;
        odd = o.odd;
        means =
            rw (units_below n es u)
            (odd_value g (count_trailing_zeros 32 r.significand) r.scale r.bits (m n es) (multiple (n - 1) es p) says);
        small =
            small_form g (count_trailing_zeros 32 r.significand) r.scale r.bits (m n es) (multiple (n - 1) es p) o.odd (odd_less o s.significand)
            says (multiple_most f u) (ends_within f);
      })

-- ---- with its sign
decodes_below : {n p : ℕ} (es : ℕ) (d : Decoded) → 1 ≤ n → p ≢ 0 → p < nar n → Odd n es false p d → Decodes n es p d
decodes_below es Zero k h u o = absurd o
decodes_below es Nar k h u o = absurd o
decodes_below {n} {p} es (Finite sign s g) k h u o =
    record {
      finite = record { fits = omega (arith, nar_is_half n k); not_nar = omega arith };
      not_zero = h;
      odd = o.odd;
      means = rw o.sign_is o.means;
    }

decodes_above : {n p : ℕ} (es : ℕ) (d : Decoded) → 1 ≤ n → nar n < p → p < 2 ^ n → Odd n es true (negated n p) d → Decodes n es p d
decodes_above es Zero k h u o = absurd o
decodes_above es Nar k h u o = absurd o
decodes_above {n} {p} es (Finite sign s g) k h u o =
    record {
      finite = record { fits = u; not_nar = omega arith };
      not_zero = omega arith;
      odd = o.odd;
      means = rw (o.sign_is, value_above n es k h u) (≈_trans (≈_sym (scaled_negᶠ s (pos g))) (negᶠ_cong o.means));
    }

small_of : (n es : ℕ) (negative : Bool) (p : ℕ) (d : Decoded) → Odd n es negative p d → Small d
small_of n es negative p Zero o = absurd o
small_of n es negative p Nar o = absurd o
small_of n es negative p (Finite sign s g) o = o.small

pub unpacks_below : {n p : ℕ} (es : ℕ) (d : Decoded) → 1 ≤ n → p ≢ 0 → p < nar n → Odd n es false p d → Unpacks n es p d
unpacks_below {n} {p} es d k h u o = record { decodes = decodes_below es d k h u o; small = small_of n es false p d o }

pub unpacks_above : {n p : ℕ} (es : ℕ) (d : Decoded) → 1 ≤ n → nar n < p → p < 2 ^ n → Odd n es true (negated n p) d → Unpacks n es p d
unpacks_above {n} {p} es d k h u o = record { decodes = decodes_above es d k h u o; small = small_of n es true (negated n p) d o }

-- ---- by the first bit: the size is the pattern or its negative, and the bit is the sign
module _ {n p m P size : ℕ} (es : ℕ) (wide : 2 ≤ n) (u : p < 2 ^ n) (f : FirstBit n p m) (some : p ≢ 0) (half : P ≡ nar n) (finite : p ≢ P) (e : size ≡ chosen_by m p (negated n p)) where
  one : 1 ≤ n
  one = omega (arith, wide)

  not_nar : p ≢ nar n
  not_nar z = finite (z ∙ sym half)

  above_nar : nar n ≤ p → nar n < p
  above_nar h = omega (arith, h, not_nar)

  pub size_is_positive : (0 < size) × (size < nar n)
  size_is_positive = go f
    where
      go : FirstBit n p m → (0 < size) × (size < nar n)
      go (clear z h) = rw (first_of_two m (negated n p) e z) (omega (arith, some), h)
      go (set z h) =
          rw (second_of m p e z ∙ negated_positive n (omega (arith, some)) u)
          (omega (arith, u), omega (arith, above_nar h, nar_is_half n one))

  pub unpacks_by_bit : (d : Decoded) → Odd n es (ltb P p) size d → Unpacks n es p d
  unpacks_by_bit d o = go f
    where
      placed : {negative : Bool} {x : ℕ} → ltb (nar n) p ≡ negative → size ≡ x → Odd n es negative x d
      placed a b = subst₂ (λ (negative : Bool) (x : ℕ). Odd n es negative x d) (ap (λ (y : ℕ). ltb y p) half ∙ a) b o

      go : FirstBit n p m → Unpacks n es p d
      go (clear z h) = unpacks_below es d one some h (placed (le-ltb (nar n) p (omega (arith, h))) (first_of_two m (negated n p) e z))
      go (set z h) = unpacks_above es d one (above_nar h) u (placed (lt-ltb (nar n) p (above_nar h)) (second_of m p e z))
