-- The value equations of a shape hold at the next pattern with the next tail, carry included; the growth of the tail increases, so the multiple does.
use Rattle.std.proofs.Common.{◌≡◌, ℕ, zero, suc, ◌+◌, ◌-◌, ◌*◌, ◌^◌, ◌<◌, ◌≤◌, ◌⊎◌, ◌↔◌, refl, ap, ◌∙◌, inl, inr, lt_irrefl, mul_assoc, suc-mul, mul_comm, lt_of_mul-lt-mul_right, eq-or-lt_of_le, mul-lt-mul_of_pos_right, zero-mul, arith, pow_pos, pow-add}
use native.Mathlib.Nat.{eq_of_mul-eq-mul_right, le_dest}
use native.Mathlib.Nat.{mul-lt-mul_of_pos_left}
use native.Mathlib.Decide.{dec_lt}
use Rattle.posit.specs.Format.{m}
use Rattle.posit.specs.Value.{multiple}
use Rattle.posit.proofs.Growth.{G, g_at_zero, g_at_multiple, g_increases}
use Rattle.posit.proofs.Shapes.{Shape, zeros, ones, all_ones, shape, zeros_value, ones_value, all_ones_value}

pub multiple_zero : (b es : ℕ) → multiple b es 0 ≡ 0
unfolding multiple
multiple_zero b es = refl

-- ---- where a run starts, the multiple is a power of two
empty_tail : (es k w M : ℕ) → M * 2 ^ w ≡ 2 ^ (k * 2 ^ es) * G w (0 * 2 ^ es) → M ≡ 2 ^ (k * 2 ^ es)
empty_tail es k w M e = eq_of_mul-eq-mul_right (2 ^ w) (pow_pos w) M (2 ^ (k * 2 ^ es)) (e ∙ rw (zero-mul (2 ^ es), g_at_zero w))

pub start_of_ones : (b es p r w : ℕ) → r + 1 + w ≡ b → p + 2 ^ w ≡ 2 ^ b → multiple b es p ≡ 2 ^ ((2 * r + w) * 2 ^ es)
start_of_ones b es p r zero l e =
    let s : b ≡ suc r = omega arith in
    rw s (all_ones_value r p (rw s at e) es ∙ ap (λ (n : ℕ). 2 ^ n) (omega arith))
start_of_ones b es p r (suc w) l e =
    empty_tail es (2 * r + w + 1) w (multiple b es p) (ones_value b p r w 0 (pow_pos w) (omega arith) (omega arith) es)
    ∙ ap (λ (n : ℕ). 2 ^ (n * 2 ^ es)) (omega arith)

pub start_of_zeros : (b es w : ℕ) → w < b → multiple b es (2 ^ w) ≡ 2 ^ (w * 2 ^ es)
start_of_zeros b es w l = by_room (eq-or-lt_of_le l)
  where
    by_room : (suc w ≡ b) ⊎ (suc w < b) → multiple b es (2 ^ w) ≡ 2 ^ (w * 2 ^ es)
    by_room (inl e) =
        start_of_ones b es (2 ^ w) 0 w (omega arith) (rw (← e) (omega arith)) ∙ ap (λ (n : ℕ). 2 ^ (n * 2 ^ es)) (omega arith)
    by_room (inr h) = empty_tail es w w (multiple b es (2 ^ w)) (zeros_value b (2 ^ w) w 0 (pow_pos w) (omega arith) (omega arith) es)

pub multiple_one : (b es : ℕ) → 0 < b → multiple b es 1 ≡ 1
multiple_one b es l = start_of_zeros b es 0 l ∙ ap (λ (n : ℕ). 2 ^ n) {y = 0} (omega arith)

pub multiple_top : (b es : ℕ) → 0 < b → multiple b es (2 ^ b - 1) ≡ 2 ^ (2 * m (suc b) es)
multiple_top b es l =
    start_of_ones b es (2 ^ b - 1) (b - 1) 0 (omega arith) (omega (arith, pow_pos b))
    ∙ ap (λ (n : ℕ). 2 ^ n) (let s : suc b - 2 ≡ b - 1 = omega arith in rw s (omega arith))

-- ---- the successor law
carried : (es k w t M : ℕ) → suc t ≡ 2 ^ w → M ≡ 2 ^ (suc k * 2 ^ es) → M * 2 ^ w ≡ 2 ^ (k * 2 ^ es) * G w (suc t * 2 ^ es)
carried es k w t M h e =
    rw (h, e, suc-mul k (2 ^ es), pow-add 2 (k * 2 ^ es) (2 ^ es), mul_comm (2 ^ w) (2 ^ es), g_at_multiple w (2 ^ es))
    (mul_assoc (2 ^ (k * 2 ^ es)) (2 ^ 2 ^ es) (2 ^ w))

pub after_zeros :
    (b p w t : ℕ) → t < 2 ^ w → w + 1 < b → p ≡ 2 ^ w + t → (es : ℕ)
    → multiple b es (suc p) * 2 ^ w ≡ 2 ^ (w * 2 ^ es) * G w (suc t * 2 ^ es)
after_zeros b p w t h l e es = by_carry (eq-or-lt_of_le h)
  where
    by_carry : (suc t ≡ 2 ^ w) ⊎ (suc t < 2 ^ w) → multiple b es (suc p) * 2 ^ w ≡ 2 ^ (w * 2 ^ es) * G w (suc t * 2 ^ es)
    by_carry (inl c) =
        let s : suc p ≡ 2 ^ suc w = omega arith in
        carried es w w t (multiple b es (suc p)) c (rw s (start_of_zeros b es (suc w) (omega arith)))
    by_carry (inr c) = zeros_value b (suc p) w (suc t) c l (omega arith) es

pub after_ones :
    (b p r w t : ℕ) → t < 2 ^ w → r + 2 + w ≡ b → p + 2 * 2 ^ w ≡ 2 ^ b + t → (es : ℕ)
    → multiple b es (suc p) * 2 ^ w ≡ 2 ^ ((2 * r + w + 1) * 2 ^ es) * G w (suc t * 2 ^ es)
after_ones b p r w t h l e es = by_carry (eq-or-lt_of_le h)
  where
    by_carry : (suc t ≡ 2 ^ w) ⊎ (suc t < 2 ^ w) → multiple b es (suc p) * 2 ^ w ≡ 2 ^ ((2 * r + w + 1) * 2 ^ es) * G w (suc t * 2 ^ es)
    by_carry (inl c) =
        carried es (2 * r + w + 1) w t (multiple b es (suc p)) c
        (start_of_ones b es (suc p) (suc r) w (omega arith) (omega arith) ∙ ap (λ (n : ℕ). 2 ^ (n * 2 ^ es)) (omega arith))
    by_carry (inr c) = ones_value b (suc p) r w (suc t) c l (omega arith) es

-- ---- strictly increasing
grown :
    (es k w t M N : ℕ) → M * 2 ^ w ≡ 2 ^ (k * 2 ^ es) * G w (t * 2 ^ es) → N * 2 ^ w ≡ 2 ^ (k * 2 ^ es) * G w (suc t * 2 ^ es) → M < N
grown es k w t M N e f =
    let h : t * 2 ^ es < suc t * 2 ^ es = mul-lt-mul_of_pos_right (omega arith) (pow_pos es) in
    lt_of_mul-lt-mul_right (2 ^ w) (rw (e, f) (mul-lt-mul_of_pos_left (g_increases w h) (pow_pos (k * 2 ^ es))))

by_shape : (b es p : ℕ) → suc p < 2 ^ b → Shape b p → multiple b es p < multiple b es (suc p)
by_shape b es p u (zeros w t h l e) =
    grown es w w t (multiple b es p) (multiple b es (suc p)) (zeros_value b p w t h l e es) (after_zeros b p w t h l e es)
by_shape b es p u (ones r w t h l e) =
    grown es (2 * r + w + 1) w t (multiple b es p) (multiple b es (suc p)) (ones_value b p r w t h l e es) (after_ones b p r w t h l e es)
by_shape b es p u (all_ones e) = absurd (lt_irrefl (suc p) (omega arith))

pub some_bits : (b : ℕ) → 1 < 2 ^ b → 0 < b
some_bits zero h = absurd (lt_irrefl 1 h)
some_bits (suc b) h = omega arith

one_more : (b es p : ℕ) → suc p < 2 ^ b → multiple b es p < multiple b es (suc p)
one_more b es zero u = omega (arith, multiple_zero b es, multiple_one b es (some_bits b u))
one_more b es (suc p) u = by_shape b es (suc p) u (shape b (suc p) (omega arith) (omega arith))

d_more : (b es p d : ℕ) → suc (p + d) < 2 ^ b → multiple b es p < multiple b es (suc (p + d))
d_more b es p zero u = let s : p + 0 ≡ p = omega arith in rw s (one_more b es p (omega arith))
d_more b es p (suc d) u =
    let s : p + suc d ≡ suc (p + d) = omega arith in
    rw s (omega (arith, d_more b es p d (omega arith), one_more b es (suc (p + d)) (omega arith)))

pub multiple_increases : (b es : ℕ) {p q : ℕ} → p < q → q < 2 ^ b → multiple b es p < multiple b es q
multiple_increases b es {p} {q} h u =
    let s : suc (p + (le_dest h).0) ≡ q = omega (arith, (le_dest h).1) in
    rw s at (d_more b es p (le_dest h).0 (rw s u))

-- ---- and so the order of the multiples is that of the patterns
module _ (b es : ℕ) {p q : ℕ} (u : p < 2 ^ b) (v : q < 2 ^ b) where
  same : p ≡ q → multiple b es p ≡ multiple b es q
  same e = ap (multiple b es) e

  pub multiple_le : (p ≤ q) ↔ (multiple b es p ≤ multiple b es q)
  multiple_le = (λ h. forth h (eq-or-lt_of_le h), λ h. back h (dec_lt q p))
    where
      forth : p ≤ q → (p ≡ q) ⊎ (p < q) → multiple b es p ≤ multiple b es q
      forth h (inl e) = omega (arith, same e)
      forth h (inr l) = omega (arith, multiple_increases b es l v)

      back : multiple b es p ≤ multiple b es q → Dec (q < p) → p ≤ q
      back h (yes l) = absurd (lt_irrefl 0 (omega (arith, multiple_increases b es l u)))
      back h (no l) = omega arith

  pub multiple_injective : multiple b es p ≡ multiple b es q → p ≡ q
  multiple_injective e = by_order (dec_lt p q) (dec_lt q p)
    where
      by_order : Dec (p < q) → Dec (q < p) → p ≡ q
      by_order (yes l) d = absurd (lt_irrefl 0 (omega (arith, multiple_increases b es l v)))
      by_order (no h) (yes l) = absurd (lt_irrefl 0 (omega (arith, multiple_increases b es l u)))
      by_order (no h) (no k) = omega arith

pub multiple_lt : (b es : ℕ) {p q : ℕ} → p < 2 ^ b → q < 2 ^ b → (p < q) ↔ (multiple b es p < multiple b es q)
multiple_lt b es {p} {q} u v = (λ h. multiple_increases b es h v, λ h. back h (dec_lt p q))
  where
    back : multiple b es p < multiple b es q → Dec (p < q) → p < q
    back h (yes l) = l
    back h (no l) = absurd (lt_irrefl 0 (omega (arith, (multiple_le b es v u).0 (omega arith))))

pub multiple_positive : (b es : ℕ) {p : ℕ} → 0 < p → p < 2 ^ b → 0 < multiple b es p
multiple_positive b es h u = omega (arith, multiple_increases b es h u)
